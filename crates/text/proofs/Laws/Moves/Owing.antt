-- A move that is never done before the byte owes the same, whether on its own or on the stack.
use mathlib.Core.Path.{◌≡◌, refl, sym, ap, ◌∙◌}
use mathlib.Core.Bool.{Bool, true, false}
use mathlib.Core.List.{List, [], ◌∷◌, ◌++◌, append_assoc}
use Prim.Native.Nat.{ℕ, zero, suc}
use lib.Dec.{eqb}
use Rattle.chars.specs.Base.{pick, within}
use Rattle.text.specs.Machine.{Item, Move, pass, bad, deep, go, ws, byte, text, char, value, first, next, close}
use Rattle.text.specs.Machine.{before, inner, leads, high, onto, owing, opens, begins, move, feed}
use Rattle.text.specs.declared.scan.Shape.{Shape}
use Rattle.text.specs.declared.scan.Shape.TheVariants.{List as list, Object as object}
use Rattle.text.proofs.Laws.Moves.Bytes.{byte_moves}
use Rattle.text.proofs.Laws.Moves.Strings.{text_char}
use Rattle.text.proofs.Laws.Moves.Values.{value_is, first_not}

unfoldable pub Firm : Move → Type 0
Firm pass = ⊥
Firm bad = Unit {0}
Firm deep = Unit {0}
Firm (go xs) = Unit {0}

firm_pick : (t : Bool) (m n : Move) → Firm m → Firm n → Firm (pick t m n)
firm_pick true m n p q = p
firm_pick false m n p q = q

pub char_firm : (b : ℕ) → Firm (move char b)
unfolding Firm move leads high
char_firm b =
    firm_pick (eqb b 92) _ _ tt
    (firm_pick (within 32 127 b) _ _ tt
    (firm_pick (within 194 223 b) _ _ tt
    (firm_pick (eqb b 224) _ _ tt
    (firm_pick (eqb b 237) _ _ tt
    (firm_pick (within 225 239 b) _ _ tt
    (firm_pick (eqb b 240) _ _ tt
    (firm_pick (within 241 243 b) _ _ tt
    (firm_pick (eqb b 244) _ _ tt tt))))))))

opens_firm : (sh : Shape) (n : ℕ) → Firm (opens sh n)
unfolding Firm
opens_firm sh zero = tt
opens_firm sh (suc n) = tt

pub value_firm : (n b : ℕ) → Firm (move (value n) b)
unfolding Firm move begins
value_firm n b =
    firm_pick (eqb b 34) _ _ tt
    (firm_pick (eqb b 45) _ _ tt
    (firm_pick (within 48 57 b) _ _ (firm_pick (eqb b 48) _ _ tt (firm_pick (within 49 57 b) _ _ tt tt))
    (firm_pick (eqb b 91) _ _ (opens_firm list n)
    (firm_pick (eqb b 102) _ _ tt
    (firm_pick (eqb b 110) _ _ tt
    (firm_pick (eqb b 116) _ _ tt
    (firm_pick (eqb b 123) _ _ (opens_firm object n) tt)))))))

-- other items owed behind a firm move are owed on the stack
pub owing_onto : (m : Move) (ys k : List Item) (f g : Move) → Firm m → onto (owing m ys) k f ≡ onto m (ys ++ k) g
unfolding Firm
owing_onto pass ys k f g h = absurd h
owing_onto bad ys k f g h = refl
owing_onto deep ys k f g h = refl
owing_onto (go xs) ys k f g h = ap go (append_assoc xs ys k)

-- a string goes on with one character, unless it ends here
pub text_one : (b : ℕ) → (b ≡ 34 → ⊥) → (k : List Item) → feed (text ∷ k) b ≡ feed (char ∷ text ∷ k) b
unfolding feed
text_one b h k =
    ap (λ (m : Move). onto m k (feed k b)) (text_char b h)
    ∙ owing_onto (move char b) (text ∷ []) k (feed k b) (feed (text ∷ k) b) (char_firm b)

-- what closes no list or object enters its first inner value
pub first_enters : (b : ℕ) (sh : Shape) (n : ℕ) → (b ≡ close sh → ⊥) → (k : List Item)
    → feed (first sh n ∷ k) b ≡ feed ((before sh ++ inner sh n) ++ k) b
unfolding feed
first_enters b list n h k =
    ap (λ (m : Move). onto m k (feed k b))
    (first_not b list n h ∙ ap (λ (m : Move). owing m (ws ∷ next list n ∷ [])) (sym (value_is b n)))
    ∙ owing_onto (move (value n) b) (ws ∷ next list n ∷ []) k (feed k b) (feed (ws ∷ next list n ∷ k) b)
    (value_firm n b)
first_enters b object n h k =
    ap (λ (m : Move). onto m k (feed k b)) (first_not b object n h)
    ∙ by (eqb b 34)
    ∙ ap (λ (m : Move). onto m (behind ++ k) (feed (behind ++ k) b)) (sym (byte_moves b 34))
  where
    behind : List Item
    behind = text ∷ ws ∷ byte 58 ∷ ws ∷ inner object n

    by : (t : Bool)
        → onto (pick t (go behind) bad) k (feed k b) ≡ onto (pick t (go []) bad) (behind ++ k) (feed (behind ++ k) b)
    by true = refl
    by false = refl

-- two items that meet a byte alike
pub same_move : (b : ℕ) (x y : Item) → move x b ≡ move y b → (k : List Item) → feed (x ∷ k) b ≡ feed (y ∷ k) b
unfolding feed
same_move b x y e k = ap (λ (m : Move). onto m k (feed k b)) e
