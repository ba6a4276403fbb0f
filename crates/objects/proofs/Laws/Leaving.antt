-- Members passed before a place at which they are given up: they stand before whatever may follow, and an unfit member
-- there makes no statement of them all.
--   came_start, came_more      none passed, and one more
--   statement_stuck            the object's statement is given up there
use mathlib.Core.Path.{◌≡◌, refl, sym, ap, ◌∙◌, subst}
use mathlib.Core.Bool.{Bool, true, false}
use mathlib.Core.List.{List, [], ◌∷◌, map}
use Prim.Native.Nat.{ℕ, suc, ◌≤◌, ◌<◌}
use native.Mathlib.Omega.{arith}
use lib.ListN.{length, drop}
use Rattle.chars.specs.Base.{pick}
use Rattle.chars.specs.Decoding.{text_of, same_text}
use Rattle.text.specs.Json.{Json, Members, no_members, named, object, depth, a_value, Reads}
use Rattle.text.specs.Contents.{Stands}
use Rattle.text.specs.Machine.{byte, value}
use Rattle.text.specs.Reading.{Leads}
use Rattle.text.specs.declared.scan.Shape.TheVariants.{Object}
use Rattle.text.proofs.Laws.Reading.{stay, seq}
use Rattle.text.proofs.Laws.Complete.{shut_object}
use Rattle.text.proofs.Laws.Sound.{all_at}
use Rattle.text.proofs.Laws.Resuming.{alive_on, tree_is}
use Rattle.syntax.specs.Words.{sid_word, effect_word, action_word, resource_word, condition_word}
use Rattle.syntax.specs.Forms.{Reading, wrong, read, both}
use Rattle.syntax.specs.Members.{then, Slot, none, many, one, again, slot, is_among, known, required, optional}
use Rattle.syntax.specs.Members.{one_or_more}
use Rattle.syntax.specs.PolicyLayout.{sid_of, effect_of, action_of, resource_of, condition_of, statement_in, statement_of}
use Rattle.parts.specs.Slots.{words_of, word_at}
use Rattle.parts.specs.Unfit.{turn_of, UnfitAs, unknown, sid, effect, action, resource, condition, UnfitFirst, Bad}
use Rattle.parts.specs.declared.members.Layout.TheVariants as L
use Rattle.parts.proofs.Laws.Slots.{which_unknown, which_is}
use Rattle.parts.proofs.Laws.Formed.{then_wrong as wrong_then}
use Rattle.straight.specs.Marks.{Named, Parted}
use Rattle.straight.proofs.Laws.Reads.{object_some, object_next, member_is}
use Rattle.straight.proofs.Laws.Leading.{opened_inner, member_leads}
use Rattle.objects.specs.Leaving.{Wants, only, several, Came, Begins, Stuck}
use Rattle.objects.specs.Leaving as Lv

-- ---- one member in front of others

strange_named : (ns : List (List ℕ)) (w : List ℕ) (t : Json) (us : Members) → known ns us ≡ false
    → known ns (named w t us) ≡ false
unfolding known
strange_named ns w t us e = by (is_among ns w)
  where
    by : (b : Bool) → both b (known ns us) ≡ false
    by true = e
    by false = refl

wants_again : (t u : Json) (x : Slot) → Wants t x → Wants t (again u x)
wants_again t u x (only e) = several (ap (again u) e)
wants_again t u x (several e) = several (ap (again u) e)

pub wants_named : (n w : List ℕ) (t u : Json) (us : Members) → Wants t (slot n us) → Wants t (slot n (named w u us))
unfolding slot
wants_named n w t u us h = by (same_text (text_of w) n)
  where
    by : (b : Bool) → Wants t (pick b (again u (slot n us)) (slot n us))
    by true = wants_again t u (slot n us) h
    by false = h

-- ---- members passed

pub came_start : {s : List ℕ} {i : ℕ} (d : ℕ) → i ≤ length s → Came d s i i
came_start {s} {i} d h =
    record {
      put = λ us. us;
      reads = λ us e r. r;
      strange = λ ns us e. e;
      wants = λ n us t w. w;
      leads = λ n l. stay s (Lv.named n) i h;
    }

pub came_more : {s w : List ℕ} {t : Json} {d first i v e c : ℕ} → Came d s first i → Named s w i v
    → Reads s (a_value t) v e → depth t ≤ d → Parted s 44 e c → Came d s first c
came_more {w = w} {t} g n r h p =
    record {
      put = λ us. g.put (named w t us);
      reads = λ us z m. g.reads (named w t us) z (member_is n r (object_next p m));
      strange = λ ns us z. g.strange ns (named w t us) (strange_named ns w t us z);
      wants = λ m us u z. g.wants m (named w t us) u (wants_named m w u t us z);
      leads = λ m l. seq (g.leads m l) (member_leads p m n r (omega arith));
    }

-- ---- a statement with an unfit member

pub then_wrong : {A B : Type 0} (x : Reading A) (f : A → Reading B) → ((a : A) → f a ≡ wrong) → then x f ≡ wrong
then_wrong wrong f h = refl
then_wrong (read a) f h = h a

pub pick_either : {A : Type 0} (b : Bool) {x : Reading A} → x ≡ wrong → pick b x wrong ≡ wrong
pick_either true e = e
pick_either false e = refl

module _ (ms : Members) where
  abbrev sids : Reading (List ℕ)
  sids = optional [] sid_of (slot sid_word ms)

  sid_wrong : sids ≡ wrong → statement_in ms ≡ wrong
  unfolding statement_in
  sid_wrong e = wrong_then _ e

  effect_wrong : required effect_of (slot effect_word ms) ≡ wrong → statement_in ms ≡ wrong
  unfolding statement_in
  effect_wrong e = then_wrong sids _ (λ i. wrong_then _ e)

  action_wrong : required (one_or_more action_of) (slot action_word ms) ≡ wrong → statement_in ms ≡ wrong
  unfolding statement_in
  action_wrong e =
      then_wrong sids _ (λ i. then_wrong (required effect_of (slot effect_word ms)) _ (λ f. wrong_then _ e))

  resource_wrong : required (one_or_more resource_of) (slot resource_word ms) ≡ wrong → statement_in ms ≡ wrong
  unfolding statement_in
  resource_wrong e =
      then_wrong sids _ (λ i.
      then_wrong (required effect_of (slot effect_word ms)) _ (λ f.
      then_wrong (required (one_or_more action_of) (slot action_word ms)) _ (λ xs. wrong_then _ e)))

  condition_wrong : optional [] condition_of (slot condition_word ms) ≡ wrong → statement_in ms ≡ wrong
  unfolding statement_in
  condition_wrong e =
      then_wrong sids _ (λ i.
      then_wrong (required effect_of (slot effect_word ms)) _ (λ f.
      then_wrong (required (one_or_more action_of) (slot action_word ms)) _ (λ xs.
      then_wrong (required (one_or_more resource_of) (slot resource_word ms)) _ (λ rs. wrong_then _ e))))

required_wrong : {A : Type 0} {t : Json} {x : Slot} (f : Json → Reading A) → Wants t x → f t ≡ wrong
    → required f x ≡ wrong
required_wrong f (only e) h = ap (required f) e ∙ h
required_wrong f (several e) h = ap (required f) e

optional_wrong : {A : Type 0} {t : Json} {x : Slot} (d : A) (f : Json → Reading A) → Wants t x → f t ≡ wrong
    → optional d f x ≡ wrong
optional_wrong d f (only e) h = ap (optional d f) e ∙ h
optional_wrong d f (several e) h = ap (optional d f) e

-- the slot of a member's own word
pub wants_first : (n w : List ℕ) (t : Json) (us : Members) → same_text (text_of w) n ≡ true → Wants t (slot n (named w t us))
unfolding slot
wants_first n w t us e =
    subst (λ (b : Bool). Wants t (pick b (again t (slot n us)) (slot n us))) (sym e) (by (slot n us))
  where
    by : (x : Slot) → Wants t (again t x)
    by none = only refl
    by many = several refl
    by (one u) = several refl

abbrev words : List (List ℕ)
words = words_of L.Statement

turn_word : (w : List ℕ) (k : ℕ) → 0 < k → turn_of w ≡ k → same_text (text_of w) (word_at words k) ≡ true
turn_word w k o e =
    ap (λ (j : ℕ). same_text (text_of w) (word_at words j)) (sym e) ∙ which_is words w (λ z. absurd (omega arith))

module _ {s : List ℕ} {d first i : ℕ} (g : Came d s first i) where
  module _ (w : List ℕ) (t : Json) (us : Members) where
    abbrev all : Members
    all = g.put (named w t us)

    wanted : (k : ℕ) → 0 < k → turn_of w ≡ k → Wants t (slot (word_at words k) all)
    wanted k o e = g.wants (word_at words k) (named w t us) t (wants_first (word_at words k) w t us (turn_word w k o e))

    unknown_named : turn_of w ≡ 0 → known words (named w t us) ≡ false
    unfolding known
    unknown_named e = ap (λ (b : Bool). both b (known words us)) (which_unknown words w e)

    first_unfit : UnfitAs (turn_of w) t → statement_of (object all) ≡ wrong
    unfolding statement_of
    first_unfit (unknown e) =
        ap (λ (b : Bool). pick b (statement_in all) wrong) (g.strange words (named w t us) (unknown_named e))
    first_unfit (sid e h) = pick_either (known words all) (sid_wrong all (optional_wrong [] sid_of (wanted 1 (omega arith) e) h))
    first_unfit (effect e h) = pick_either (known words all) (effect_wrong all (required_wrong effect_of (wanted 2 (omega arith) e) h))
    first_unfit (action e h) =
        pick_either (known words all) (action_wrong all (required_wrong (one_or_more action_of) (wanted 3 (omega arith) e) h))
    first_unfit (resource e h) =
        pick_either (known words all) (resource_wrong all (required_wrong (one_or_more resource_of) (wanted 4 (omega arith) e) h))
    first_unfit (condition e h) =
        pick_either (known words all) (condition_wrong all (optional_wrong [] condition_of (wanted 5 (omega arith) e) h))

  members_unfit : (us : Members) → UnfitFirst us → statement_of (object (g.put us)) ≡ wrong
  members_unfit no_members h = absurd h
  members_unfit (named w t us) h = first_unfit w t us h

-- ---- the statement

module _ {s : List ℕ} {v first i : ℕ} (b : Begins s v first) (g : Came 3 s first i) where
  statement_leads : (n : ℕ) → 3 ≤ n → Leads s (value (suc n) ∷ []) v (Lv.named n) i
  statement_leads n h =
      let q = b.quote.is in
      seq (opened_inner Object n b.opened b.quote (λ e. absurd (omega arith))) (g.leads n h)

  statement_blames : (t : Json) (e : ℕ) → Stands s t v e → Bad s i → statement_of t ≡ wrong
  statement_blames t e p bad =
      let l = statement_leads 15 (omega arith) in
      let f = (all_at s i l.high).members_at 15 (map byte (drop e s)) (alive_on p l) in
      let z = tree_is p.reads p.ends shut_object
      (object_some b.opened (g.reads f.what f.stop f.reads)) in
      ap statement_of z ∙ members_unfit g f.what (bad.bad f.what f.stop f.reads)

  pub statement_stuck : (n : ℕ) → 3 ≤ n → Stuck statement_of (suc n) (Lv.named n) (Bad s i) s v i
  statement_stuck n h = record { leads = statement_leads n h; blames = statement_blames }
