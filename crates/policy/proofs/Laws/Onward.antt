-- What a text is, from a place on at which something is owed.
--   entering            a text that is whole has members where they are owed
--   judged_wrong        an unfit member of a statement there makes no policy
use mathlib.Core.Path.{◌≡◌, sym, subst}
use mathlib.Core.List.{List, [], ◌∷◌, ◌++◌}
use Prim.Native.Nat.{ℕ, ◌≤◌}
use native.Mathlib.Omega.{arith}
use lib.ListN.{length}
use Rattle.text.specs.Json.{levels}
use Rattle.text.specs.Contents.{Entering}
use Rattle.text.specs.Machine.{Item, ws, before, inner, from, verdict_at, verdict}
use Rattle.text.specs.declared.scan.Shape.TheVariants.{Object}
use Rattle.std.specs.Prelude.{Ok}
use Rattle.text.specs.Verdicts.{Verdict}
use Rattle.text.proofs.Laws.Sound.{all_at}
use Rattle.objects.specs.declared.leaving.Owed.{Owed}
use Rattle.objects.specs.declared.leaving.Place.{Place}
use Rattle.objects.specs.declared.leaving.Place.TheVariants as P
use Rattle.objects.specs.Leaving.{within, outside, owing, place_in, BlameAt, Leaves}
use Rattle.policy.specs.Reading.{policy_rules, Says, refused}
use Rattle.policy.specs.declared.refusals.Refusal.TheVariants.{PolicyLayout}
use Rattle.policy.proofs.Laws.Reading.{verdict_text, policy_wrong}

-- from the beginning, the whole text is owed
pub whole_owed : (s : List ℕ) {x : Place} {v : Verdict} → x ≡ P.Text → v ≡ verdict s → v ≡ from (owing x) s (place_in x)
unfolding verdict_at
whole_owed s {v = v} e h = subst (λ (z : Place). v ≡ from (owing z) s (place_in z)) (sym e) h

-- what is owed in a text that is whole
pub owed_whole : (s : List ℕ) (i : ℕ) {o q : Owed} → o ≡ q → from ((within o ++ outside) ++ (ws ∷ [])) s i ≡ Ok tt
    → from ((within q ++ outside) ++ (ws ∷ [])) s i ≡ Ok tt
owed_whole s i e h = subst (λ (x : Owed). from ((within x ++ outside) ++ (ws ∷ [])) s i ≡ Ok tt) e h

-- ---- members

pub entering : (s : List ℕ) (i n : ℕ) (ys : List Item) → i ≤ length s → n ≤ levels
    → from ((before Object ++ inner Object n) ++ ys) s i ≡ Ok tt → Entering s i
entering s i n ys h l e =
    let f = (all_at s i h).members_at n ys (record { high = h; lives = e }) in
    record {
      what = f.what;
      stop = f.stop;
      is = record { reads = f.reads; shallow = let d = f.shallow in omega arith };
    }

-- ---- the policy

pub judged_wrong : {s : List ℕ} {x : Place} → length s ≤ 16384 → Leaves s x → verdict s ≡ Ok tt → BlameAt x s
    → Says policy_rules s (refused PolicyLayout)
judged_wrong {s} {x} h l e b =
    let t = verdict_text e in policy_wrong h t (l.blames e t.tree t.says b)
