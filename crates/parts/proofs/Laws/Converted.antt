-- A held text's escapes resolved in its place: the symbols are no more than its characters.
use mathlib.Core.Path.{◌≡◌, refl, sym, ap, ◌∙◌, subst}
use mathlib.Core.Bool.{Bool, true, false}
use mathlib.Core.List.{List, [], ◌∷◌}
use Prim.Native.Nat.{ℕ, zero, suc, ◌+◌, ◌-◌, ◌≤◌}
use native.Mathlib.Omega.{arith}
use lib.Dec.{eqb}
use lib.ListN.{length, get_or, set}
use borrow.Rule.Slice.PartMut.{mid_of, put_mid, same_len_mid}
use Rattle.chars.specs.Base.{pick, one_of}
use Rattle.chars.specs.Putting.{lay}
use Rattle.chars.proofs.Laws.Putting.{lay_length}
use Rattle.syntax.specs.Forms.{Reading, wrong, read, both, ahead, symbol, symbols_behind, symbols_of}
use Rattle.syntax.specs.Members.{then}
use Rattle.syntax.specs.Told.{converted}
use Rattle.std.specs.Prelude.{Option, Some, None}
use Rattle.held.specs.Held.{held_text}
use Rattle.parts.specs.Holding.{Extends, Laid, Left}
use Rattle.parts.proofs.Laws.Formed.{part_is, shortened, then_read}

-- ---- how many symbols

-- at most n symbols, if any
pub record Few (x : Reading (List ℕ)) (n : ℕ) : Type 0 where
  pub few : (ys : List ℕ) → x ≡ read ys → length ys ≤ n

few_wrong : (n : ℕ) → Few wrong n
few_wrong n = record { few = λ ys e. absurd (let y : ◌≡◌ {A = ℕ} 0 1 = cc in omega arith) }

few_ahead : (c n : ℕ) (x : Reading (List ℕ)) → Few x n → Few (ahead c x) (suc n)
unfolding ahead
few_ahead c n wrong f = few_wrong (suc n)
few_ahead c n (read zs) f =
    record { few = λ ys e. let y : c ∷ zs ≡ ys = cc in let z = ap length y in omega (arith, z, f.few zs refl) }

few_more : (x : Reading (List ℕ)) (n : ℕ) → Few x n → Few x (suc n)
few_more x n f = record { few = λ ys e. omega (arith, f.few ys e) }

few_pick : (t : Bool) (x y : Reading (List ℕ)) (n : ℕ) → Few x n → Few y n → Few (pick t x y) n
few_pick true x y n f g = f
few_pick false x y n f g = g

behind_few : (n : ℕ) (w : Bool) (cs : List ℕ) → Few (symbols_behind n w cs) (length cs)
unfolding symbols_behind
behind_few n w [] = record { few = λ ys e. let y : [] ≡ ys = cc in let z = ap length y in omega (arith, z) }
behind_few (suc n) w (c ∷ cs) = few_more (symbols_behind n w cs) (length cs) (behind_few n w cs)
behind_few zero w (c ∷ cs) =
    let rest = ahead (get_or cs 1 0) (symbols_behind 3 w cs) in
    let f = few_ahead (get_or cs 1 0) (length cs) (symbols_behind 3 w cs) (behind_few 3 w cs) in
    few_pick (both (eqb c 36) (eqb (get_or cs 0 0) 123))
    (pick (both (one_of (36 ∷ 42 ∷ 63 ∷ []) (get_or cs 1 0)) (eqb (get_or cs 2 0) 125)) rest wrong)
    (ahead (symbol w c) (symbols_behind 0 w cs)) (suc (length cs))
    (few_pick (both (one_of (36 ∷ 42 ∷ 63 ∷ []) (get_or cs 1 0)) (eqb (get_or cs 2 0) 125)) rest wrong (suc (length cs)) f
    (few_wrong (suc (length cs))))
    (few_ahead (symbol w c) (length cs) (symbols_behind 0 w cs) (behind_few 0 w cs))

-- ---- what the answer tells

record Told (x : Reading (List ℕ)) (mid out : List ℕ) (n : ℕ) : Type 0 where
  pub symbols : List ℕ
  pub said : x ≡ read symbols
  pub count : n ≡ length symbols
  pub laid : out ≡ lay symbols mid

some_told : (x : Reading (List ℕ)) (mid out : List ℕ) (r : Option ℕ) (n : ℕ) → (r, out) ≡ converted x mid
    → r ≡ Some n → Told x mid out n
some_told wrong mid out r n e k =
    absurd (let z : Some n ≡ None = sym k ∙ ap (λ y. y.0) e in let y : ◌≡◌ {A = ℕ} 0 1 = cc in omega arith)
some_told (read ys) mid out r n e k =
    let z : Some n ≡ Some (length ys) = sym k ∙ ap (λ y. y.0) e in
    record { symbols = ys; said = refl; count = cc; laid = ap (λ y. y.1) e }

record Untold (x : Reading (List ℕ)) (mid out : List ℕ) : Type 0 where
  pub said : x ≡ wrong
  pub kept : out ≡ mid

none_told : (x : Reading (List ℕ)) (mid out : List ℕ) (r : Option ℕ) → (r, out) ≡ converted x mid → r ≡ None
    → Untold x mid out
none_told wrong mid out r e k = record { said = refl; kept = ap (λ y. y.1) e }
none_told (read ys) mid out r e k =
    absurd (let z : None ≡ Some (length ys) = sym k ∙ ap (λ y. y.0) e in
    let y : ◌≡◌ {A = ℕ} 0 1 = cc in omega arith)

-- ---- the run

module _ {run run' : List ℕ} {at p : ℕ} {x : Reading (List ℕ)} (low : at ≤ length run)
    (h : Laid held_text run run' at x p) (w : Bool) (out : List ℕ) (r : Option ℕ)
    (told : (r, out) ≡ converted (symbols_of w (mid_of (at + 1) (p - (at + 1)) run'))
    (mid_of (at + 1) (p - (at + 1)) run')) where
  abbrev mid : List ℕ
  mid = mid_of (at + 1) (p - (at + 1)) run'

  read_of : {y : Reading (List ℕ)} → symbols_of w mid ≡ y → then x (symbols_of w) ≡ y
  read_of e = then_read (symbols_of w) h.said ∙ ap (symbols_of w) (sym (part_is low h)) ∙ e

  pub symbols_size : length (put_mid (at + 1) (p - (at + 1)) run' out) ≡ length run
  symbols_size = by r told
    where
      same : length out ≡ length mid → length (put_mid (at + 1) (p - (at + 1)) run' out) ≡ length run
      same e = same_len_mid (at + 1) (p - (at + 1)) run' out e ∙ h.extends.size

      by : (r : Option ℕ) → (r, out) ≡ converted (symbols_of w mid) mid
          → length (put_mid (at + 1) (p - (at + 1)) run' out) ≡ length run
      by (Some n) e =
          let s = some_told (symbols_of w mid) mid out (Some n) n e refl in
          same (ap length s.laid ∙ lay_length s.symbols mid)
      by None e = same (ap length (none_told (symbols_of w mid) mid out None e refl).kept)

  pub symbols_none : r ≡ None → Left run (put_mid (at + 1) (p - (at + 1)) run' out) (then x (symbols_of w))
  symbols_none e =
      record { size = symbols_size; said = read_of (none_told (symbols_of w mid) mid out r told e).said }

  abbrev found : (n : ℕ) → r ≡ Some n → Told (symbols_of w mid) mid out n
  found n e = some_told (symbols_of w mid) mid out r n told e

  pub symbols_few : (n : ℕ) → r ≡ Some n → n ≤ length h.thing
  symbols_few n e =
      let s = found n e in
      omega (arith, s.count, (behind_few 0 w mid).few s.symbols s.said, ap length (part_is low h))

  pub symbols_some :
      (n : ℕ) → r ≡ Some n
      → Laid held_text run (set (put_mid (at + 1) (p - (at + 1)) run' out) at n) at (then x (symbols_of w)) (at + 1 + n)
  symbols_some n e =
      let s = found n e in
      let f : length s.symbols ≤ length h.thing = omega (arith, s.count, symbols_few n e) in
      record {
        thing = s.symbols;
        said = read_of s.said;
        extends = subst (λ (k : ℕ). Extends run (set (put_mid (at + 1) (p - (at + 1)) run' out) at k) at
            (held_text s.symbols) (at + 1 + k)) (sym s.count) (shortened low h s.symbols out s.laid f);
      }
