-- The quick way: where it answers, what it passed is read byte by byte to the same place.
use mathlib.Core.Path.{◌≡◌, refl, sym, ◌∙◌, subst}
use mathlib.Core.List.{List, [], ◌∷◌, ◌++◌}
use Prim.Native.Nat.{ℕ, ◌+◌, ◌-◌, ◌≤◌}
use native.Mathlib.Omega.{arith}
use lib.ListN.{length}
use Rattle.std.specs.Prelude.{Option, Some, None, IfSome, Result, Ok, Err}
use Rattle.std.specs.Result.{result_ok}
use Rattle.std.proofs.lemmas.Option.{none-some}
use Rattle.chars.specs.Base.{At}
use Rattle.text.specs.Machine.{Item, ws, text, value, first, next, before, inner, close, opener}
use Rattle.text.specs.Reading.{Leads, Done, Goes, Gathered, Fronts, FrontsTo, ahead, shape_of}
use Rattle.text.specs.declared.fault.Fault.{Fault}
use Rattle.text.specs.declared.quick.Reach.{Reach}
use Rattle.text.specs.declared.quick.Reach.TheVariants as R
use Rattle.text.specs.declared.scan.Shape.{Shape}
use Rattle.text.specs.declared.scan.Shape.TheVariants.{List as list, Object as object}
use Rattle.text.proofs.Laws.Reading.{seq, frame, takes_at}
use Rattle.text.proofs.Laws.Moves.Values.{value_text, next_close}
use Rattle.text.proofs.Laws.Values.{to_inner, to_opened, next_goes}

-- what is told only if it was read
pub ok_done : {s : List ℕ} {xs : List Item} {a e : ℕ} (r : Result ℕ Fault) → Goes s xs a r → result_ok r ≡ Some e
    → Done s xs a e
ok_done {s} {xs} {a} (Ok n) g z = let same : n ≡ _ = cc in subst (Done s xs a) same g
ok_done (Err f) g z = absurd (none-some _ z)

-- ---- strings of a list, members of an object: at a quote another of them is owed, be it the first or one behind a
-- comma

-- `read` is what is answered, if none that is passed stands at `i`
pub record Strung (s : List ℕ) (sh : Shape) (n a i : ℕ) (read : Option Reach) : Type 0 where
  pub high : i ≤ length s
  pub told : IfSome read (Gathered s sh n a)
  pub due : At s i 34 → Leads s (ws ∷ first sh n ∷ []) a (before sh ++ inner sh n) i

-- a quote closes nothing
quote_opens : (sh : Shape) {b : ℕ} → b ≡ 34 → b ≡ close sh → ⊥
quote_opens list e c = omega arith
quote_opens object e c = omega arith

pub strung_first : {s : List ℕ} {sh : Shape} {n a i : ℕ} → Done s (ws ∷ []) a i → Strung s sh n a i None
strung_first {sh = sh} {n = n} w =
    record { high = w.high; told = tt; due = λ q. to_inner w q.inside (quote_opens sh q.is) n }

pub string_value : {s : List ℕ} {i b e : ℕ} (n : ℕ) → At s i b → b ≡ 34 → Done s (text ∷ []) (i + 1) e
    → Done s (value n ∷ []) i e
string_value n p q t = seq (takes_at (value n) [] p (text ∷ []) (value_text _ n q)) t

-- the byte before the place behind a comma
comma_at : {s : List ℕ} {c b : ℕ} → At s c b → b ≡ 44 → At s (c + 1 - 1) 44
comma_at {s} {c} g z = let e : c ≡ c + 1 - 1 = omega arith in subst (λ x. At s x 44) e (record { inside = g.inside; is = g.is ∙ z })

module _ {s : List ℕ} {sh : Shape} {n a i v e c b : ℕ} {read : Option Reach} (w : Strung s sh n a i read) (q : At s i 34)
    (p : Done s (before sh) i v) (d : Done s (value n ∷ []) v e) (x : Done s (ws ∷ []) e c) (g : At s c b) where
  behind : Leads s (ws ∷ first sh n ∷ []) a (next sh n ∷ []) c
  behind =
      seq (w.due q)
      (seq (frame (inner sh n) p) (seq (frame (ws ∷ next sh n ∷ []) d) (frame (next sh n ∷ []) x)))

  pub strung_close : b ≡ close sh → Done s (ws ∷ first sh n ∷ []) a (c + 1)
  strung_close z = seq behind (takes_at (next sh n) [] g [] (next_close _ sh n z))

  comma : b ≡ 44 → Leads s (ws ∷ first sh n ∷ []) a (ahead sh n) (c + 1)
  comma z = seq behind (next_goes sh n g.inside (g.is ∙ z))

  pub strung_more : {j : ℕ} → b ≡ 44 → Done s (ws ∷ []) (c + 1) j → Strung s sh n a j (Some (R.More (c + 1) sh))
  strung_more z y =
      record {
        high = y.high;
        told = (refl, comma_at g z, comma z);
        due = λ u. seq (comma z) (frame (before sh ++ inner sh n) y);
      }

-- ---- the front of a value

-- the byte that opens tells the shape
shape_opened : (sh : Shape) {b : ℕ} → b ≡ opener sh → sh ≡ shape_of b
shape_opened list e = subst (λ x. list ≡ shape_of x) (sym e) refl
shape_opened object e = subst (λ x. object ≡ shape_of x) (sym e) refl

module _ {s : List ℕ} {n i b : ℕ} (p : At s i b) where
  pub front_string : {e : ℕ} → Done s (value n ∷ []) i e → Fronts s n i (R.Ends e)
  front_string d = record { inside = p.inside; told = d }

  opened_to : (sh : Shape) (r : Reach) → b ≡ opener sh → (n ≡ 0 → ⊥) → Gathered s sh (n - 1) (i + 1) r → FrontsTo s n i r
  opened_to sh (R.Ends k) e m q = seq (to_opened sh p.inside (p.is ∙ e) m) q
  opened_to sh (R.More k sh') e m q =
      record {
        left = omega arith;
        shape = q.0 ∙ shape_opened sh (p.is ∙ e);
        comma = q.1;
        leads = subst (λ (x : Shape). Leads s (value n ∷ []) i (ahead x (n - 1)) k) (sym q.0)
            (seq (to_opened sh p.inside (p.is ∙ e) m) q.2);
      }

  pub front_opened : (sh : Shape) (r : Option Reach) → b ≡ opener sh → (n ≡ 0 → ⊥)
      → IfSome r (Gathered s sh (n - 1) (i + 1)) → IfSome r (Fronts s n i)
  front_opened sh None e m q = tt
  front_opened sh (Some r) e m q = record { inside = p.inside; told = opened_to sh r e m q }
