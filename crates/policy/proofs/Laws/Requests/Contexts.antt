-- The context entries of a record: a list of them, none of a key given twice, not too many, behind their number.
use mathlib.Core.Path.{◌≡◌, refl, sym, ap, ◌∙◌, subst}
use mathlib.Core.Bool.{Bool, true, false}
use mathlib.Core.List.{List, ◌∷◌}
use Prim.Native.Nat.{ℕ, ◌+◌, ◌≤◌, ◌<◌}
use native.Mathlib.Omega.{arith}
use lib.Dec.{leb}
use lib.ListN.{length, set}
use borrow.Author.Tests.{le-leb, lt-leb}
use Rattle.text.specs.Json.{Json, null, bool, number, string, list, object}
use Rattle.text.specs.Contents.{kind_of, Stands}
use Rattle.syntax.specs.Limits.{most_context}
use Rattle.syntax.specs.Policy.{Context}
use Rattle.syntax.specs.Forms.{Reading, wrong, read, both}
use Rattle.syntax.specs.Members.{then, only, each, differ, differing}
use Rattle.syntax.specs.RecordLayout.{context_of, same_context, contexts_of}
use Rattle.held.specs.Held.{held_each, held_list, held_context}
use Rattle.parts.specs.Room.{cost, costs, Roomy, HoldableList}
use Rattle.parts.specs.Holding.{is_list, Extends, Laid, Gathered}
use Rattle.parts.proofs.Laws.Holding.{never}
use Rattle.parts.proofs.Laws.Room.{cost_list}
use Rattle.parts.proofs.Laws.Extends.{extends_front}
use Rattle.parts.proofs.Laws.Fits.{wrong_read}
use Rattle.parts.proofs.Laws.Requests.Sole.{AList, is_list_lem, list_stands}

-- ---- what a list says

pub not_list : (t : Json) → is_list (kind_of t) ≡ false → contexts_of t ≡ wrong
unfolding contexts_of
not_list null e = refl
not_list (bool true) e = refl
not_list (bool false) e = refl
not_list (number w) e = refl
not_list (string w) e = refl
not_list (list ts) e = never (sym e)
not_list (object ms) e = refl

-- no two of one key; and not too many
abbrev pub apartly : Reading (List Context) → Reading (List Context)
apartly y = then y (differing same_context)

abbrev limited : Reading (List Context) → Reading (List Context)
limited y = then y (λ cs. only (both (leb (length cs) most_context) (differ same_context cs)) cs)

only_wrong : (a b : Bool) (cs : List Context) → only b cs ≡ wrong → only (both a b) cs ≡ wrong
only_wrong true b cs e = e
only_wrong false b cs e = refl

only_read : (b : Bool) (cs ds : List Context) → only b cs ≡ read ds → (b ≡ true) × (cs ≡ ds)
only_read true cs ds e = (refl, cc)
only_read false cs ds e = wrong_read e

limited_wrong : (y : Reading (List Context)) → apartly y ≡ wrong → limited y ≡ wrong
limited_wrong wrong e = refl
limited_wrong (read cs) e = only_wrong (leb (length cs) most_context) (differ same_context cs) cs e

limited_is : (y : Reading (List Context)) (ds : List Context) → apartly y ≡ read ds
    → limited y ≡ only (leb (length ds) most_context) ds
limited_is wrong ds e = wrong_read e
limited_is (read cs) ds e =
    let p = only_read (differ same_context cs) cs ds e in
    ap (λ (b : Bool). only (both (leb (length cs) most_context) b) cs) p.0 ∙ by (leb (length cs) most_context)
    ∙ ap (λ (l : List Context). only (leb (length l) most_context) l) p.1
  where
    by : (a : Bool) → only (both a true) cs ≡ only a cs
    by true = refl
    by false = refl

-- ---- of a value

module _ (t : Json) (l : is_list (kind_of t) ≡ true) where
  pub listed : AList t
  listed = is_list_lem t l

  abbrev entries : Reading (List Context)
  entries = each context_of listed.elements

  contexts_said : contexts_of t ≡ limited entries
  unfolding contexts_of
  contexts_said = ap contexts_of listed.is

  pub contexts_wrong : apartly entries ≡ wrong → contexts_of t ≡ wrong
  contexts_wrong e = contexts_said ∙ limited_wrong entries e

  module _ (cs : List Context) (e : apartly entries ≡ read cs) where
    pub contexts_many : most_context < length cs → contexts_of t ≡ wrong
    contexts_many m =
        contexts_said ∙ limited_is entries cs e
        ∙ ap (λ (b : Bool). only b cs) (lt-leb (length cs) most_context m)

    pub contexts_few : length cs ≤ most_context → contexts_of t ≡ read cs
    contexts_few m =
        contexts_said ∙ limited_is entries cs e
        ∙ ap (λ (b : Bool). only b cs) (le-leb (length cs) most_context m)

  module _ {s : List ℕ} {v e : ℕ} (p : Stands s t v e) where
    pub listed_stands : Stands s (list listed.elements) v e
    listed_stands = list_stands p listed

    pub contexts_room : {run : List ℕ} {at : ℕ} → Roomy run at (1 + cost t) → HoldableList s v run (at + 1)
    contexts_room {run} {at} r =
        let c : cost t ≡ 2 + costs listed.elements = ap cost listed.is ∙ cost_list listed.elements in
        record {
          what = listed.elements;
          stop = e;
          is = listed_stands;
          roomy = record { room = omega (arith, c, r.room); bounded = r.bounded };
        }

-- behind their number
pub contexts_held :
    {run run₁ : List ℕ} {at p n : ℕ} {x : Reading (List Context)} (y : Reading (List Context)) → at < length run
    → (g : Gathered held_context run run₁ (at + 1) x p n) → y ≡ read g.things
    → Laid (held_list held_context) run (set run₁ at n) at y p
contexts_held {run} {run₁} {at} {p} {n} y low g e =
    record {
      thing = g.things;
      said = e;
      extends = subst (λ (k : ℕ). Extends run (set run₁ at n) at (k ∷ held_each held_context g.things) p) g.count
          (extends_front n low g.extends);
    }
