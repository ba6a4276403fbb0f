-- Entries judged where they lie: texts with a form of their own and numbers, held as values, one or a list of them.
use mathlib.Core.Path.{◌≡◌, refl, sym, ap, ◌∙◌, subst}
use mathlib.Core.Bool.{true, false}
use mathlib.Core.List.{List, [], ◌∷◌, ◌++◌, map}
use Prim.Native.Nat.{ℕ, ◌+◌, ◌-◌, ◌≤◌, ◌<◌}
use native.Mathlib.Omega.{arith}
use lib.ListN.{length, set}
use borrow.Rule.Slice.PartMut.{mid_of}
use Rattle.text.specs.Json.{Json, null, bool, number, string, list, object, Values}
use Rattle.text.specs.Contents.{kind_of}
use Rattle.syntax.specs.Limits.{greatest}
use Rattle.syntax.specs.Policy.{Value}
use Rattle.syntax.specs.Forms.{Reading, wrong, read, is_sid, is_action, wildcard, is_resource, symbols_of, number_in}
use Rattle.syntax.specs.Members.{then, characters_of, one_or_more}
use Rattle.syntax.specs.PolicyLayout.{sid_of, action_of, resource_of, number_of_json, value_of}
use Rattle.syntax.specs.Told.{told_number}
use Rattle.std.specs.Prelude.{Option, Some, None}
use Rattle.syntax.proofs.Laws.Numbers.{number_small}
use Rattle.held.specs.Held.{held_text, held_number, held_value, held_list}
use Rattle.parts.specs.Room.{Roomy}
use Rattle.parts.specs.Holding.{is_list, Extends, entry_of}
use Rattle.parts.specs.declared.holding.Ended.{Ended}
use Rattle.parts.specs.declared.words.Operator.TheVariants as O
use Rattle.parts.specs.declared.entries.Entry.{Entry}
use Rattle.parts.specs.declared.entries.Entry.TheVariants as E
use Rattle.parts.proofs.Laws.Extends.{extends_kept, extends_after}
use Rattle.parts.proofs.Laws.Fits.{wrong_read}
use Rattle.parts.proofs.Laws.Formed.{part_is, formed, resource_formed}
use Rattle.parts.proofs.Laws.Halves.{number_told}
use Rattle.parts.proofs.Laws.Several.{one_laid}
use Rattle.straight.specs.Marks.{Opened, Closed, Parted}
use Rattle.straight.specs.Taking.{Taken, Takes, TakenSeveral}
use Rattle.straight.proofs.Laws.Taking.{retaken}
use Rattle.straight.proofs.Laws.Going.{Going, Passed, going_start, going_more, going_several}
use Rattle.straight.proofs.Laws.Lists.{elements_of, more_are}

-- ---- texts

pub sid_is : (t : Json) → sid_of t ≡ formed is_sid (λ cs. cs) (characters_of t)
unfolding sid_of
sid_is t = refl

pub action_is : (t : Json) → action_of t ≡ formed is_action (map wildcard) (characters_of t)
unfolding action_of
action_is t = refl

pub resource_is : (t : Json) → resource_of t ≡ formed is_resource (λ cs. cs) (then (characters_of t) (symbols_of true))
unfolding resource_of
resource_is t = resource_formed (characters_of t)

-- ---- numbers

string_number : (t : Json) {cs : List ℕ} → characters_of t ≡ read cs → number_of_json t ≡ number_in cs
unfolding number_of_json
string_number null e = wrong_read e
string_number (bool b) e = wrong_read e
string_number (number w) e = wrong_read e
string_number (string w) e = ap (λ x. then x number_in) e
string_number (list ts) e = wrong_read e
string_number (object ms) e = wrong_read e

module _ {s run run' : List ℕ} {v at p e n : ℕ} {r : Option ℕ} (room : Roomy run at 0)
    (t : Taken held_text characters_of 0 s run run' v at p e)
    (told : told_number r ≡ number_in (mid_of (at + 1) (p - (at + 1)) run')) (is : r ≡ Some n) where
  pub number_bound : n ≤ greatest
  number_bound = number_small (mid_of (at + 1) (p - (at + 1)) run') (number_told told is)

  pub number_taken : {run'' : List ℕ} {p' : ℕ} → Extends run' run'' at (held_number n) p'
      → Taken held_number number_of_json 0 s run run'' v at p' e
  number_taken x =
      let b : at ≤ length run = omega (arith, room.room) in
      retaken t
      (record {
        thing = n;
        said = string_number t.tree t.laid.said ∙ ap number_in (sym (part_is b t.laid)) ∙ number_told told is;
        extends = extends_after (extends_kept t.laid.extends b) x;
      })

-- ---- values

-- what is held alike and read alike
pub takes_as :
    {A B : Type 0} (h : A → List ℕ) (k : B → List ℕ) (f : Json → Reading A) (g : Json → Reading B) (i : A → B)
    → ((x : A) → k (i x) ≡ h x) → ((t : Json) (x : A) → f t ≡ read x → g t ≡ read (i x))
    → (s run run' : List ℕ) (v at : ℕ) (r : Option Ended)
    → Takes h f 0 s run run' v at r → Takes k g 0 s run run' v at r
takes_as h k f g i held said s run run' v at (Some r) t =
    retaken t
    (record {
      thing = i t.laid.thing;
      said = said t.tree t.laid.thing t.laid.said;
      extends = subst (λ (l : List ℕ). Extends run run' at l r.past) (sym (held t.laid.thing)) t.laid.extends;
    })
takes_as h k f g i held said s run run' v at None l = l

-- ---- one

list_wrong : (k : Entry) (ts : Values) → entry_of k (list ts) ≡ wrong
unfolding action_of resource_of value_of number_of_json
list_wrong E.Action ts = refl
list_wrong E.Resource ts = refl
list_wrong (E.Value O.StringEquals) ts = refl
list_wrong (E.Value O.StringLike) ts = refl
list_wrong (E.Value O.NumericLessThanEquals) ts = refl

-- no list is an entry
entry_lone : (k : Entry) (t : Json) {x : Value} → entry_of k t ≡ read x → is_list (kind_of t) ≡ false
entry_lone k null e = refl
entry_lone k (bool true) e = refl
entry_lone k (bool false) e = refl
entry_lone k (number w) e = refl
entry_lone k (string w) e = refl
entry_lone k (list ts) e = wrong_read (sym (list_wrong k ts) ∙ e)
entry_lone k (object ms) e = refl

pub lone_taken :
    {s run run' : List ℕ} {v at p e : ℕ} (k : Entry) → at < length run
    → Taken held_value (entry_of k) 0 s run run' v (at + 1) p e
    → Taken (held_list held_value) (one_or_more (entry_of k)) 1 s run (set run' at 1) v at p e
lone_taken k low t =
    record {
      tree = t.tree;
      reads = t.reads;
      shallow = omega (arith, t.shallow);
      laid = one_laid held_value (entry_of k) t.tree (entry_lone k t.tree t.laid.said) low t.laid;
    }

-- ---- several

module _ {A : Type 0} (h : A → List ℕ) (f : Json → Reading A) (d : ℕ) where
  -- the elements up to i, and their things in the run
  pub record Listing (s : List ℕ) (v : ℕ) (run₀ : List ℕ) (at i : ℕ) (run : List ℕ) (p n : ℕ) : Type 0 where
    pub things : List A
    pub going : Going (elements_of h f d) s v run₀ at i run p n things

  pub listing_start : {s : List ℕ} {v at i : ℕ} {run : List ℕ} → Opened s 91 v i → Listing s v run at i run at 0
  listing_start {s} o = record { things = []; going = going_start (elements_of h f d) s o }

  module _ {s run₀ run run' : List ℕ} {v at i p p' n e : ℕ} (g : Listing s v run₀ at i run p n)
      (t : Passed (elements_of h f d) s run run' i p p' e) where
    pub listing_more : {c : ℕ} → Parted s 44 e c → Listing s v run₀ at c run' p' (n + 1)
    listing_more m =
        record { things = g.things ++ (t.thing ∷ []); going = going_more (elements_of h f d) s g.going t m }

    pub listing_end : {z : ℕ} → Closed s 93 e z → TakenSeveral h (one_or_more f) (d + 1) s run₀ run' v at p' z (n + 1)
    listing_end m =
        going_several (elements_of h f d) s g.going t m (one_or_more f) (λ us n q. more_are h f d us n ∙ q)
