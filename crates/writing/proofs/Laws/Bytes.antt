-- The pieces of the written form put together are the bytes of the tree.
--   digits_plain                      digits are written as they are
--   elements_bytes                    a list of things
--   values_bytes, texts_bytes         a list of a row's entries, and one of Action or Resource
-- Rows are on the page BytesRows, statements and the policy on BytesPolicy.
use mathlib.Core.Path.{◌≡◌, refl, sym, ap, ◌∙◌}
use mathlib.Core.Bool.{false}
use mathlib.Core.List.{List, [], ◌∷◌, ◌++◌, map, append_assoc}
use Prim.Native.Nat.{ℕ, zero, suc, ◌+◌, ◌/◌, ◌%◌, ◌<◌}
use native.Mathlib.Nat.{mod-lt}
use native.Mathlib.Omega.{arith}
use native.Mathlib.Decide.{dec_lt}
use lib.Dec.{ltb}
use borrow.Author.Tests.{ne_eqb, le-leb, le-ltb, lt-ltb}
use Rattle.text.specs.Json.{Json}
use Rattle.chars.specs.Written.{written, written_text}
use Rattle.text.specs.Printing.{quoted, printed, printed_rest}
use Rattle.chars.proofs.Laws.Written.Runs.{text_append}
use Rattle.syntax.specs.Policy.{Operator, StringEquals, StringLike, NumericLessThanEquals}
use Rattle.syntax.specs.Policy.{Value, text, number}
use Rattle.held.specs.Held.{operator_number}
use Rattle.writing.specs.WrittenForm.{digits_up_to, digits_of, values_of, list_of, action_tree, resource_tree, value_tree}
use Rattle.writing.specs.Bytes.{listed, entry_body, entry_bytes, list_bytes}

-- ---- digits

digit_written : (d : ℕ) → d < 10 → written (48 + d) ≡ (48 + d) ∷ []
unfolding written
digit_written d h =
    rw (
      ne_eqb (48 + d) 34 (λ e. omega arith),
      ne_eqb (48 + d) 92 (λ e. omega arith),
      le-ltb (48 + d) 32 (omega arith),
      le-leb (48 + d) 126 (omega arith),
    )

last_written : (n : ℕ) → written_text ((48 + n % 10) ∷ []) ≡ (48 + n % 10) ∷ []
unfolding written_text
last_written n = ap (λ (l : List ℕ). l ++ []) (digit_written (n % 10) (mod-lt n {m = 10} (omega arith)))

plain_up_to : (k n : ℕ) → written_text (digits_up_to k n) ≡ digits_up_to k n
unfolding digits_up_to written_text
plain_up_to zero n = last_written n
plain_up_to (suc k) n = by (dec_lt n 10) (plain_up_to k (n / 10))
  where
    front : List ℕ
    front = digits_up_to k (n / 10)

    by : Dec (n < 10) → written_text front ≡ front → written_text (digits_up_to (suc k) n) ≡ digits_up_to (suc k) n
    by (yes h) q = rw (lt-ltb n 10 h) (ap (λ (l : List ℕ). l ++ []) (digit_written n h))
    by (no h) q =
        let e : ltb n 10 ≡ false = le-ltb n 10 (omega arith) in
        rw e
        (text_append front ((48 + n % 10) ∷ [])
        ∙ ap (λ (l : List ℕ). l ++ written_text ((48 + n % 10) ∷ [])) q
        ∙ ap (λ (l : List ℕ). front ++ l) (last_written n))

pub digits_plain : (n : ℕ) → written_text (digits_of n) ≡ digits_of n
digits_plain n = plain_up_to 15 n

-- ---- lists

module _ {A : Type 0} (f : A → Json) (g : A → List ℕ) (e : (x : A) → printed (f x) ≡ g x) where
  rest_bytes : (i : ℕ) (xs : List A) (zs : List ℕ) → listed g (suc i) xs ++ (93 ∷ zs) ≡ printed_rest (values_of f xs) ++
      zs
  unfolding listed values_of printed
  rest_bytes i [] zs = refl
  rest_bytes i (x ∷ xs) zs =
      ap (λ (l : List ℕ). 44 ∷ l)
      (append_assoc (g x) (listed g (suc (suc i)) xs) (93 ∷ zs)
      ∙ ap (λ (l : List ℕ). g x ++ l) (rest_bytes (suc i) xs zs)
      ∙ ap (λ (l : List ℕ). l ++ (printed_rest (values_of f xs) ++ zs)) (sym (e x))
      ∙ sym (append_assoc (printed (f x)) (printed_rest (values_of f xs)) zs))

  pub elements_bytes : (xs : List A) (zs : List ℕ) → 91 ∷ (listed g 0 xs ++ (93 ∷ zs)) ≡ printed (list_of f xs) ++ zs
  unfolding listed values_of printed
  elements_bytes [] zs = refl
  elements_bytes (x ∷ xs) zs =
      ap (λ (l : List ℕ). 91 ∷ l)
      (append_assoc (g x) (listed g 1 xs) (93 ∷ zs)
      ∙ ap (λ (l : List ℕ). g x ++ l) (rest_bytes 0 xs zs)
      ∙ ap (λ (l : List ℕ). l ++ (printed_rest (values_of f xs) ++ zs)) (sym (e x))
      ∙ sym (append_assoc (printed (f x)) (printed_rest (values_of f xs)) zs))

-- ---- entries

listed_map :
    {A B : Type 0} (f : A → B) (g : B → List ℕ) (i : ℕ) (xs : List A) → listed g i (map f xs) ≡ listed (λ x. g (f x))
    i xs
unfolding listed
listed_map f g i [] = refl
listed_map f g zero (x ∷ xs) = ap (λ (l : List ℕ). g (f x) ++ l) (listed_map f g 1 xs)
listed_map f g (suc i) (x ∷ xs) = ap (λ (l : List ℕ). 44 ∷ (g (f x) ++ l)) (listed_map f g (suc (suc i)) xs)

value_bytes : (o : Operator) (x : Value) → printed (value_tree o x) ≡ entry_bytes (operator_number o) x
unfolding printed value_tree entry_bytes entry_body
value_bytes StringEquals (text ys) = refl
value_bytes StringLike (text ys) = refl
value_bytes NumericLessThanEquals (text ys) = refl
value_bytes o (number n) = ap quoted (digits_plain n)

pub action_bytes : (ys : List ℕ) → printed (action_tree ys) ≡ entry_bytes 0 (text ys)
unfolding printed action_tree entry_bytes entry_body
action_bytes ys = refl

pub resource_bytes : (ys : List ℕ) → printed (resource_tree ys) ≡ entry_bytes 2 (text ys)
unfolding printed resource_tree entry_bytes entry_body
resource_bytes ys = refl

list_before : (k : ℕ) (xs : List Value) (zs : List ℕ) → list_bytes k xs ++ zs ≡ 91 ∷
    (listed (entry_bytes k) 0 xs ++ (93 ∷ zs))
unfolding list_bytes
list_before k xs zs = ap (λ (l : List ℕ). 91 ∷ l) (append_assoc (listed (entry_bytes k) 0 xs) (93 ∷ []) zs)

pub values_bytes :
    (o : Operator) (xs : List Value) (zs : List ℕ)
    → list_bytes (operator_number o) xs ++ zs ≡ printed (list_of (value_tree o) xs) ++ zs
values_bytes o xs zs =
    list_before (operator_number o) xs zs
    ∙ elements_bytes (value_tree o) (entry_bytes (operator_number o)) (value_bytes o) xs zs

pub texts_bytes :
    (k : ℕ) (f : List ℕ → Json) → ((ys : List ℕ) → printed (f ys) ≡ entry_bytes k (text ys)) → (xs : List (List ℕ))
    (zs : List ℕ)
    → list_bytes k (map text xs) ++ zs ≡ printed (list_of f xs) ++ zs
texts_bytes k f e xs zs =
    list_before k (map text xs) zs
    ∙ ap (λ (l : List ℕ). 91 ∷ (l ++ (93 ∷ zs))) (listed_map text (entry_bytes k) 0 xs)
    ∙ elements_bytes f (λ ys. entry_bytes k (text ys)) e xs zs
