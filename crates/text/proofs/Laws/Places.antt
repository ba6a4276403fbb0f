-- Where the twin's items are done: at one place, and past the byte that they took.
use mathlib.Core.Path.{◌≡◌, refl, sym, ap, ◌∙◌}
use mathlib.Core.Bool.{Bool, true, false}
use mathlib.Core.List.{List, [], ◌∷◌, ◌++◌, map, append-nil}
use Prim.Native.Nat.{ℕ, ◌+◌, ◌≤◌, ◌<◌}
use native.Mathlib.Omega.{arith}
use native.Mathlib.Decide.{dec_lt, ℕ_discrete}
use lib.Dec.{eqb}
use lib.ListN.{length, get_or, drop}
use Rattle.chars.specs.Base.{pick, At}
use Rattle.text.specs.Machine.{Item, Move, pass, bad, deep, go, byte, range, text, char, move, optional, owing}
use Rattle.text.specs.Machine.{feed, ends, after, run, from, value}
use Rattle.text.specs.Reading.{Leads, Done, Falls}
use Rattle.std.specs.Prelude.{Ok, Err}
use Rattle.text.specs.Verdicts.{Verdict}
use Rattle.text.specs.declared.fault.Fault.{Fault}
use Rattle.text.specs.declared.fault.Fault.TheVariants.{Breaks, Deep}
use Rattle.text.proofs.Laws.Reading.{from_cons, takes, refuses, sinks, stops}
use Rattle.text.proofs.Laws.Moves.Owing.{Firm, char_firm, value_firm}
use Rattle.text.proofs.Laws.Moves.Bytes.{byte_is, byte_not, range_under, range_over}

-- a fault is not a whole text
pub not_whole : {f : Fault} → ◌≡◌ {A = Verdict} (Err f) (Ok tt) → ⊥
not_whole e = let z : ◌≡◌ {A = ℕ} 0 1 = cc in omega arith

pub same_break : {n m : ℕ} → ◌≡◌ {A = Verdict} (Err (Breaks n)) (Err (Breaks m)) → n ≡ m
same_break e = cc

pub deep_breaks : {n : ℕ} → ◌≡◌ {A = Verdict} (Err Deep) (Err (Breaks n)) → ⊥
deep_breaks e = let z : ◌≡◌ {A = ℕ} 0 1 = cc in omega arith

-- ---- a text does not break before where it is read

late_end : (t : Bool) {at p : ℕ} → ◌≡◌ {A = Verdict} (pick t (Ok tt) (Err (Breaks at))) (Err (Breaks p)) → at ≤ p
late_end true {at} {p} e = absurd (not_whole (sym e))
late_end false e = let q = same_break e in omega arith

late_on : (m : Move) (f : List Item → Verdict) {at p : ℕ} → ((l : List Item) → f l ≡ Err (Breaks p) → at + 1 ≤ p)
    → after m at f ≡ Err (Breaks p) → at ≤ p
late_on pass f r e = let q = same_break e in omega arith
late_on bad f r e = let q = same_break e in omega arith
late_on deep f r e = absurd (deep_breaks e)
late_on (go l) f r e = let q = r l e in omega arith

pub late : (bs : List ℕ) (k : List Item) (at p : ℕ) → run k bs at ≡ Err (Breaks p) → at ≤ p
unfolding run
late [] k at p e = late_end (ends k) e
late (b ∷ bs) k at p e = late_on (feed k b) (λ l. run l bs (at + 1)) (λ l. late bs l (at + 1) p) e

-- ---- what is done could be part of a whole text

own : (bs : List ℕ) (at : ℕ) → run (map byte bs) bs at ≡ Ok tt
unfolding run feed ends
own [] at = refl
own (b ∷ bs) at = rw (byte_is b b refl) (own bs (at + 1))

-- the text is whole, if the items are what is owed at a place
pub record Alive (s : List ℕ) (xs : List Item) (at : ℕ) : Type 0 where
  pub high : at ≤ length s
  pub lives : from xs s at ≡ Ok tt

pub alive_fall : {s : List ℕ} {xs : List Item} {a : ℕ} {v : Fault} → Alive s xs a → Falls s xs a v → ⊥
alive_fall {s} {xs} {a} {v} l f =
    not_whole (sym (f.goes []) ∙ ap (λ (k : List Item). from k s a) (append-nil xs) ∙ l.lives)

pub alive_seq : {s : List ℕ} {xs ys : List Item} {a b : ℕ} → Alive s xs a → Leads s xs a ys b → Alive s ys b
alive_seq {s} {xs} {ys} {a} {b} l p =
    record {
      high = p.high;
      lives = ap (λ (k : List Item). from k s b) (sym (append-nil ys))
          ∙ sym (p.goes [])
          ∙ ap (λ (k : List Item). from k s a) (append-nil xs)
          ∙ l.lives;
    }

pub done_alive : {s : List ℕ} {xs : List Item} {i n : ℕ} → Done s xs i n → Alive s (xs ++ map byte (drop n s)) i
unfolding from
done_alive {s} {xs} {i} {n} p =
    record { high = omega (arith, p.low, p.high); lives = p.goes (map byte (drop n s)) ∙ own (drop n s) n }

-- an item that may not be left out stands inside the text
pub alive_inside : {s : List ℕ} {i : ℕ} (x : Item) (ys : List Item) → optional x ≡ false → Alive s (x ∷ ys) i
    → i < length s
alive_inside {s} {i} x ys e v = by (dec_lt i (length s))
  where
    by : Dec (i < length s) → i < length s
    by (yes p) = p
    by (no p) = absurd (alive_fall v (stops x ys (let h = v.high in omega arith) e))

-- a byte that is due stands there
pub byte_due : {s : List ℕ} {i n x : ℕ} (ys : List Item) → Done s (byte x ∷ ys) i n → At s i x
unfolding optional
byte_due {s} {i} {n} {x} ys p = record { inside = inside; is = by (ℕ_discrete (get_or s i 0) x) }
  where
    l : Alive s (byte x ∷ (ys ++ map byte (drop n s))) i
    l = done_alive p

    inside : i < length s
    inside = alive_inside (byte x) (ys ++ map byte (drop n s)) refl l

    by : Dec (get_or s i 0 ≡ x) → get_or s i 0 ≡ x
    by (yes e) = e
    by (no e) = absurd (alive_fall l (refuses (byte x) (ys ++ map byte (drop n s)) inside (byte_not (get_or s i 0) x e)))

-- ---- items are done at one place

-- an item that refuses every byte tells where it stands
probe : (s : List ℕ) (n : ℕ) → n ≤ length s → from (range 1 0 ∷ []) s n ≡ Err (Breaks n)
unfolding optional
probe s n h = by (dec_lt n (length s)) (dec_lt (get_or s n 0) 1)
  where
    by : Dec (n < length s) → Dec (get_or s n 0 < 1) → from (range 1 0 ∷ []) s n ≡ Err (Breaks n)
    by (yes p) (yes q) = (refuses (range 1 0) [] p (range_under (get_or s n 0) 1 0 q)).goes []
    by (yes p) (no q) = (refuses (range 1 0) [] p (range_over (get_or s n 0) 1 0 (omega arith))).goes []
    by (no p) d = (stops {s = s} {i = n} (range 1 0) [] (omega arith) refl).goes []

pub done_unique : {s : List ℕ} {at n m : ℕ} (xs : List Item) → Done s xs at n → Done s xs at m → n ≡ m
done_unique {s} {at} {n} {m} xs p q =
    same_break
    (sym (probe s n p.high) ∙ sym (p.goes (range 1 0 ∷ [])) ∙ q.goes (range 1 0 ∷ []) ∙ probe s m q.high)

-- ---- a firm item is done past the byte that it took

pub past_end : (s : List ℕ) (i : ℕ) → i < length s → from [] s i ≡ Err (Breaks i)
unfolding feed
past_end s i h = from_cons [] s i h

pub done_grows : {s : List ℕ} {i n : ℕ} (x : Item) → optional x ≡ false → ((b : ℕ) → Firm (move x b))
    → Done s (x ∷ []) i n → i < n
unfolding Firm from
done_grows {s} {i} {n} x o f p =
    by (alive_inside x (map byte (drop n s)) o (done_alive p)) (move x (get_or s i 0)) refl (f (get_or s i 0)) (dec_lt i n)
  where
    by : i < length s → (m : Move) → move x (get_or s i 0) ≡ m → Firm m → Dec (i < n) → i < n
    by h m e g (yes q) = q
    by h pass e g (no q) = absurd g
    by h bad e g (no q) = absurd (alive_fall (done_alive p) (refuses x (map byte (drop n s)) h e))
    by h deep e g (no q) = absurd (alive_fall (done_alive p) (sinks x (map byte (drop n s)) h e))
    by h (go xs) e g (no q) =
        let same : i ≡ n = omega (arith, p.low) in
        let there = sym ((takes x [] xs h e).goes []) ∙ p.goes [] ∙ ap (from [] s) (sym same) ∙ past_end s i h in
        absurd (let z = late (drop (i + 1) s) ((xs ++ []) ++ []) (i + 1) i there in omega arith)

pub char_grows : {s : List ℕ} {i n : ℕ} → Done s (char ∷ []) i n → i < n
unfolding optional
char_grows p = done_grows char refl char_firm p

owing_firm : (m : Move) (ys : List Item) → Firm m → Firm (owing m ys)
unfolding Firm
owing_firm pass ys h = h
owing_firm bad ys h = tt
owing_firm deep ys h = tt
owing_firm (go xs) ys h = tt

text_firm : (b : ℕ) → Firm (move text b)
unfolding Firm move
text_firm b = by (eqb b 34)
  where
    by : (t : Bool) → Firm (pick t (go []) (owing (move char b) (text ∷ [])))
    by true = tt
    by false = owing_firm (move char b) (text ∷ []) (char_firm b)

pub text_grows : {s : List ℕ} {i n : ℕ} → Done s (text ∷ []) i n → i < n
unfolding optional
text_grows p = done_grows text refl text_firm p

pub value_grows : {s : List ℕ} {i n l : ℕ} → Done s (value l ∷ []) i n → i < n
unfolding optional
value_grows {l = l} p = done_grows (value l) refl (value_firm l) p
