-- Forms of texts: document 01, "Policy layout", on characters already decoded.
--   is_action cs      "*", or a vendor without wildcards, one colon and a name
--   is_resource ys    the wildcard alone, or begins arn: and has five colons at least
--   is_sid cs, is_key cs   1 to 64 letters and digits; letters, digits and : - _ / .
--   symbols_of w cs   the entry that characters say: `${*}` `${?}` `${$}` are plain, another `${` is wrong; where w holds,
--                    a bare * or ? is a wildcard
--   number_in cs      plain digits without a leading zero, up to the greatest;  same_key k l   equal but for ASCII case
-- Differs from 01: nowhere.
use Rattle.std.specs.Prelude.{◌≡◌, Bool, true, false, List, [], ◌∷◌, ℕ, zero, suc, ◌+◌, ◌*◌, ◌-◌, ◌≤◌, ◌<◌, eqb, leb, ltb, length, get_or}
use Rattle.chars.specs.Base.{pick, within, one_of}
use Rattle.syntax.specs.Limits.{sid_characters, greatest}
use Rattle.syntax.specs.Policy.{star, any}

-- what a text comes to: not of the form, or read
pub data Reading (A : Type 0) : Type 0 where
  wrong : Reading A
  read : A → Reading A

abbrev pub both : Bool → Bool → Bool
both t u = pick t u false

abbrev pub either : Bool → Bool → Bool
either t u = pick t true u

unfoldable pub all : (ℕ → Bool) → List ℕ → Bool
all f [] = true
all f (c ∷ cs) = both (f c) (all f cs)

-- each character from place a up to place e passes the test f
pub record Each (f : ℕ → Bool) (cs : List ℕ) (a e : ℕ) : Type 0 where
  pub low : a ≤ e
  pub high : e ≤ length cs
  pub passes : (k : ℕ) → a ≤ k → k < e → f (get_or cs k 0) ≡ true

unfoldable pub same : List ℕ → List ℕ → Bool
same [] [] = true
same [] (y ∷ ys) = false
same (x ∷ xs) [] = false
same (x ∷ xs) (y ∷ ys) = both (eqb x y) (same xs ys)

-- ASCII letters and digits
unfoldable pub is_alphanumeric : ℕ → Bool
is_alphanumeric c = either (within 48 57 c) (either (within 65 90 c) (within 97 122 c))

-- - . _ beside them; in a name * and ? too
unfoldable pub is_vendor_char : ℕ → Bool
is_vendor_char c = either (is_alphanumeric c) (one_of (45 ∷ 46 ∷ 95 ∷ []) c)

unfoldable pub is_name_char : ℕ → Bool
is_name_char c = either (is_vendor_char c) (one_of (42 ∷ 63 ∷ []) c)

-- behind a colon: one character of a name or more
unfoldable pub is_name : List ℕ → Bool
is_name [] = false
is_name (c ∷ cs) = all is_name_char (c ∷ cs)

-- a vendor's further characters, then the colon and the name
unfoldable pub is_vendor_tail : List ℕ → Bool
is_vendor_tail [] = false
is_vendor_tail (c ∷ cs) = pick (eqb c 58) (is_name cs) (both (is_vendor_char c) (is_vendor_tail cs))

unfoldable pub is_vendor : List ℕ → Bool
is_vendor [] = false
is_vendor (c ∷ cs) = both (is_vendor_char c) (is_vendor_tail cs)

unfoldable pub is_action : List ℕ → Bool
is_action cs = either (same cs (42 ∷ [])) (is_vendor cs)

-- an action's wildcards
unfoldable pub wildcard : ℕ → ℕ
wildcard c = pick (eqb c 42) star (pick (eqb c 63) any c)

unfoldable pub colons : List ℕ → ℕ
colons [] = 0
colons (c ∷ cs) = pick (eqb c 58) (suc (colons cs)) (colons cs)

-- arn:
unfoldable pub begins_arn : List ℕ → Bool
begins_arn cs = both (eqb (get_or cs 0 0) 97) (both (eqb (get_or cs 1 0) 114)
    (both (eqb (get_or cs 2 0) 110) (eqb (get_or cs 3 0) 58)))

unfoldable pub is_arn : List ℕ → Bool
is_arn cs = both (begins_arn cs) (leb 5 (colons cs))

unfoldable pub is_resource : List ℕ → Bool
is_resource ys = either (same ys (star ∷ [])) (is_arn ys)

unfoldable pub is_sid : List ℕ → Bool
is_sid cs = both (ltb 0 (length cs)) (both (leb (length cs) sid_characters) (all is_alphanumeric cs))

unfoldable pub is_key_char : ℕ → Bool
is_key_char c = either (is_alphanumeric c) (one_of (45 ∷ 46 ∷ 47 ∷ 58 ∷ 95 ∷ []) c)

unfoldable pub is_key : List ℕ → Bool
is_key cs = both (ltb 0 (length cs)) (all is_key_char cs)

-- ---- wildcards and escapes

unfoldable pub ahead : ℕ → Reading (List ℕ) → Reading (List ℕ)
ahead c wrong = wrong
ahead c (read ys) = read (c ∷ ys)

-- one character that is no beginning of an escape
abbrev pub symbol : Bool → ℕ → ℕ
symbol w c = pick w (wildcard c) c

-- the symbols behind the first n characters, which belong to an escape before them
unfoldable pub symbols_behind : ℕ → Bool → List ℕ → Reading (List ℕ)
symbols_behind n w [] = read []
symbols_behind (suc n) w (c ∷ cs) = symbols_behind n w cs
symbols_behind zero w (c ∷ cs) =
    pick (both (eqb c 36) (eqb (get_or cs 0 0) 123))
    (pick (both (one_of (36 ∷ 42 ∷ 63 ∷ []) (get_or cs 1 0)) (eqb (get_or cs 2 0) 125))
    (ahead (get_or cs 1 0) (symbols_behind 3 w cs)) wrong)
    (ahead (symbol w c) (symbols_behind 0 w cs))

abbrev pub symbols_of : Bool → List ℕ → Reading (List ℕ)
symbols_of w cs = symbols_behind 0 w cs

-- ---- numbers

-- the digits behind those that made n
unfoldable pub digits_from : ℕ → List ℕ → Reading ℕ
digits_from n [] = read n
digits_from n (c ∷ cs) =
    pick (both (within 48 57 c) (leb (n * 10 + (c - 48)) greatest)) (digits_from (n * 10 + (c - 48)) cs) wrong

unfoldable pub number_in : List ℕ → Reading ℕ
number_in [] = wrong
number_in (c ∷ []) = digits_from 0 (c ∷ [])
number_in (c ∷ d ∷ cs) = pick (eqb c 48) wrong (digits_from 0 (c ∷ d ∷ cs))

-- ---- keys

unfoldable pub lower : ℕ → ℕ
lower c = pick (within 65 90 c) (c + 32) c

unfoldable pub same_key : List ℕ → List ℕ → Bool
same_key [] [] = true
same_key [] (y ∷ ys) = false
same_key (x ∷ xs) [] = false
same_key (x ∷ xs) (y ∷ ys) = both (eqb (lower x) (lower y)) (same_key xs ys)
