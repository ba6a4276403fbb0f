-- A policy given up: what the reader of the text layer owes at the place, and that a wrong Statement makes no policy.
--   version_reached, statement_reached   the value of Statement, behind the edition or at once
--   gets_inside                          given up inside the value of Statement
--   gets_behind, gets_ended              given up behind it, or the object's end
--   leaves_text, finds_left              the whole text
use mathlib.Core.Path.{◌≡◌, refl, sym, ap, ◌∙◌, subst}
use Rattle.std.specs.Prelude.{Result, Ok, Err}
use mathlib.Core.Bool.{true}
use mathlib.Core.List.{List, [], ◌∷◌, ◌++◌, map}
use Prim.Native.Nat.{ℕ}
use native.Mathlib.Omega.{arith}
use lib.ListN.{drop}
use Rattle.chars.specs.Decoding.{text_of, same_text, meaning, units_behind, read_of, sequence_of, equal}
use Rattle.text.specs.Json.{Json, null, bool, number, string, list, object, Members, named, depth, levels, Quoted}
use Rattle.text.specs.Json.{a_value, more, Reads, a_string}
use Rattle.text.specs.Contents.{Stands}
use Rattle.text.specs.Machine.{Item, ws, byte, value, next, inner, from, verdict, verdict_at}
use Rattle.text.specs.Reading.{Leads, Done}
use Rattle.text.specs.declared.scan.Shape.TheVariants.{Object}
use Rattle.text.proofs.Laws.Reading.{seq, frame}
use Rattle.text.proofs.Laws.Ends.{ends_more}
use Rattle.text.proofs.Laws.Complete.{Shut, shut_text, shut_list, shut_object}
use Rattle.text.proofs.Laws.Sound.{all_at}
use Rattle.text.proofs.Laws.Contents.{root_is}
use Rattle.text.proofs.Laws.Resuming.{alive_on, tree_is}
use Rattle.syntax.specs.Policy.{Statement}
use Rattle.syntax.specs.Forms.{wrong, read}
use Rattle.syntax.specs.Words.{version_word, statement_word, edition_word}
use Rattle.syntax.specs.Members.{then, Slot, is_word, only, slot, known, required, one_or_more, differing}
use Rattle.syntax.specs.PolicyLayout.{statement_of, same_sid, policy_in, policy_of}
use Rattle.held.specs.Held.{held}
use Rattle.parts.proofs.Laws.Fits.{wrong_read}
use Rattle.straight.specs.Marks.{Closed, First, Next}
use Rattle.straight.specs.Taking.{Taken}
use Rattle.straight.proofs.Laws.Reads.{first_reads, next_reads}
use Rattle.straight.proofs.Laws.Leading.{opened_inner, named_inner, shut_behind, parted_inner}
use Rattle.objects.specs.Leaving.{within, outside, Blame, Stuck, Wants, Ceases, policy_from, Walks, StuckAt, StuckIn}
use Rattle.objects.specs.Leaving.{Gets, Leaves, Finds}
use Rattle.objects.specs.Leaving as Lv
use Rattle.parts.specs.declared.holding.Ended.{Ended}
use Rattle.objects.specs.declared.leaving.Owed.{Owed}
use Rattle.objects.specs.declared.leaving.Place.{Place}
use Rattle.objects.specs.declared.leaving.Place.TheVariants as P
use Rattle.objects.proofs.Laws.Leaving.{wants_named, wants_first, then_wrong, pick_either}

-- ---- what a policy is made of

-- a Statement of which nothing is read
slot_wrong : {x : Slot} {u : Json} → Wants u x → policy_from u ≡ wrong
    → then (required (one_or_more statement_of) x) (differing same_sid) ≡ wrong
slot_wrong (Lv.only z) e = ap (λ (y : Slot). then (required (one_or_more statement_of) y) (differing same_sid)) z ∙ e
slot_wrong (Lv.several z) e = ap (λ (y : Slot). then (required (one_or_more statement_of) y) (differing same_sid)) z

policy_wrong : (ms : Members) (u : Json) → Wants u (slot statement_word ms) → policy_from u ≡ wrong
    → policy_of (object ms) ≡ wrong
unfolding policy_of policy_in
policy_wrong ms u w e =
    pick_either (known (version_word ∷ statement_word ∷ []) ms)
    (then_wrong (required (λ t. only (is_word edition_word t) t) (slot version_word ms)) _ (λ v. slot_wrong w e))

-- statements are read of a list or an object only
policy_shut : (t : Json) (xs : List Statement) → policy_from t ≡ read xs → Shut t
unfolding statement_of one_or_more
policy_shut null xs e = wrong_read e
policy_shut (bool b) xs e = wrong_read e
policy_shut (number w) xs e = wrong_read e
policy_shut (string w) xs e = shut_text
policy_shut (list ts) xs e = shut_list
policy_shut (object ms) xs e = shut_object

-- ---- the value of Statement is reached

-- members may have been passed before it
pub record Reached (s : List ℕ) (v b : ℕ) : Type 0 where
  pub leads : Leads s (value levels ∷ []) v (inner Object 15) b
  pub put : Members → Members
  pub reads : (t : Json) (ms : Members) (j e : ℕ) → Reads s (a_value t) b j → Reads s (more ms) j e
      → Reads s (a_value (object (put (named statement_word t ms)))) v e
  pub wants : (t : Json) (ms : Members) → Wants t (slot statement_word (put (named statement_word t ms)))

own_word : same_text (text_of statement_word) statement_word ≡ true
unfolding text_of same_text meaning units_behind read_of sequence_of equal
own_word = refl

module _ {s : List ℕ} where
  first_leads : {w : List ℕ} {v a : ℕ} → First s w v a → Leads s (value levels ∷ []) v (inner Object 15) a
  first_leads f =
      let q = f.named.name.opens.is in
      seq (opened_inner Object 15 f.opened f.named.name.opens (λ e. absurd (omega arith)))
      (named_inner 15 f.named)

  pub statement_reached : {v b : ℕ} → First s statement_word v b → Reached s v b
  statement_reached f =
      record {
        leads = first_leads f;
        put = λ ms. ms;
        reads = λ t ms j e r m. first_reads f r m;
        wants = λ t ms. wants_first statement_word statement_word t ms own_word;
      }

  pub version_reached : {v a i b : ℕ} → First s version_word v a → Quoted s edition_word a i → Next s statement_word i b
      → Reached s v b
  unfolding depth
  version_reached f q n =
      record {
        leads = seq (first_leads f)
            (seq (shut_behind Object 15 shut_text (a_string q) (omega arith))
            (seq (parted_inner n.comma Object 15) (named_inner 15 n.named)));
        put = named version_word (string edition_word);
        reads = λ t ms j e r m. first_reads f (a_string q) (next_reads n r m);
        wants = λ t ms.
            wants_named statement_word version_word t (string edition_word) (named statement_word t ms)
            (wants_first statement_word statement_word t ms own_word);
      }

-- ---- given up inside it, or behind it

module _ {s : List ℕ} {v b : ℕ} (r : Reached s v b) where
  inside_blames : {xs : List Item} {d : Type 0} {i : ℕ} → Stuck policy_from 15 xs d s b i → (t : Json) (e : ℕ)
      → Stands s t v e → d → policy_of t ≡ wrong
  inside_blames k t e p bad =
      let owed = map byte (drop e s) in
      let f = (all_at s b r.leads.high).a_value_at 15 (ws ∷ next Object 15 ∷ owed) (alive_on p r.leads) in
      let g = (all_at s f.stop f.next.high).more_at 15 owed f.next in
      let z = tree_is p.reads p.ends shut_object
      (r.reads f.what g.what f.stop g.stop f.reads g.reads) in
      let c : Stands s f.what b f.stop =
      record { reads = f.reads; ends = ends_more g.reads; shallow = omega (arith, f.shallow) } in
      ap policy_of z
      ∙ policy_wrong (r.put (named statement_word f.what g.what)) f.what (r.wants f.what g.what)
      (k.blames f.what f.stop c bad)

  inside_stuck : (i : ℕ) (o : Owed) → Stuck policy_from 15 (within o) (Blame o s i) s b i
      → Stuck policy_of levels (within o ++ outside) (Blame o s i) s v i
  inside_stuck i o k = record { leads = seq r.leads (frame outside k.leads); blames = inside_blames k }

  behind_stuck : {run run' : List ℕ} {p j : ℕ} → Taken held policy_from 5 s run run' b 0 p j
      → Stuck policy_of levels outside ⊥ s v j
  behind_stuck t =
      record {
        leads = seq r.leads
            (shut_behind Object 15 (policy_shut t.tree t.laid.thing t.laid.said) t.reads
            (omega (arith, t.shallow)));
        blames = λ u e p z. absurd z;
      }

  module _ (run run' : List ℕ) where
    stuck_in : (x : Place) → StuckAt s b x → StuckIn s v x
    stuck_in P.Text k = tt
    stuck_in (P.Behind i) k = absurd k
    stuck_in (P.Inside i o) k = inside_stuck i o k

    pub gets_inside : (x : Place) → Walks s run run' b (Err x) → Gets s run run' v (Err x)
    gets_inside x w = (w.0, stuck_in x w.1)

    module _ {p j : ℕ} (t : Taken held policy_from 5 s run run' b 0 p j) where
      pub gets_behind : Gets s run run' v (Err (P.Behind j))
      gets_behind = (t.laid.extends.size, behind_stuck t)

      pub gets_ended : (i : ℕ) (g : Result Ended Place)
          → ((e : ℕ) → Closed s 125 i e → Taken held policy_of 6 s run run' v 0 p e)
          → Ceases s j i p g → Gets s run run' v g
      gets_ended i (Ok r) f c =
          subst (λ (z : ℕ). Taken held policy_of 6 s run run' v 0 z r.end) (sym c.0) (f r.end c.1)
      gets_ended i (Err x) f c = subst (λ (y : Place). Gets s run run' v (Err y)) (sym c) gets_behind

-- ---- the whole text

pub leaves_text : (s : List ℕ) → Leaves s P.Text
unfolding verdict_at
leaves_text s = record { inside = omega arith; judged = refl; blames = λ w t p z. absurd z }

module _ {s : List ℕ} {v : ℕ} (d : Done s (ws ∷ []) 0 v) where
  module _ {xs : List Item} {b : Type 0} {i : ℕ} (k : Stuck policy_of levels xs b s v i) where
    stuck_judged : verdict s ≡ from (xs ++ (ws ∷ [])) s i
    unfolding verdict_at
    stuck_judged = d.goes (value levels ∷ ws ∷ []) ∙ k.leads.goes (ws ∷ [])

  leaves_stuck : (x : Place) → StuckIn s v x → Leaves s x
  leaves_stuck P.Text k = leaves_text s
  leaves_stuck (P.Behind i) k =
      record { inside = k.leads.high; judged = stuck_judged k; blames = λ w t p z. absurd z }
  leaves_stuck (P.Inside i o) k =
      record {
        inside = k.leads.high;
        judged = stuck_judged k;
        blames = λ w t p z. let c = root_is s v w d in k.blames t c.stop (c.stands t p) z;
      }

  pub finds_left : (run run' : List ℕ) (x : Place) → Gets s run run' v (Err x) → Finds s run run' (Err x)
  finds_left run run' x g = (g.0, leaves_stuck x g.1)
