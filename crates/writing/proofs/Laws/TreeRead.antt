-- What is read of a sound tree is valid: entries, and lists and members of whatever is.
--   action_valid, resource_valid, value_valid, sid_valid   entries, and a Sid
--   several_valid, members_valid                           things of a list or an object, where each alone is as P says
use mathlib.Core.Path.{◌≡◌, refl, sym, subst}
use mathlib.Core.Bool.{Bool, true, false}
use mathlib.Core.List.{List, [], ◌∷◌, map}
use Prim.Native.Nat.{ℕ, zero, suc, ◌≤◌}
use native.Mathlib.Omega.{arith}
use native.Mathlib.Decide.{ℕ_discrete}
use lib.Dec.{eqb}
use lib.ListN.{get_or}
use Rattle.chars.specs.Base.{pick, one_of}
use Rattle.text.specs.Json.{Json, null, bool, number, string, list, object, Values, Members, named}
use Rattle.chars.specs.Strings.{Unit, Body}
use Rattle.chars.specs.Decoding.{Text, text_of}
use Rattle.chars.specs.Written.{Scalar, Scalars}
use Rattle.chars.specs.Written as W
use Rattle.text.specs.Printing.{Sound, sound_null, sound_bool, sound_number, sound_string, sound_list, sound_object}
use Rattle.text.specs.Printing.{SoundValues, sound_no_more, sound_also, SoundMembers, sound_no_members, sound_named}
use Rattle.chars.proofs.Laws.Strings.{said, text_sound, means_scalar}
use Rattle.syntax.specs.Limits.{greatest}
use Rattle.syntax.specs.Policy.{Operator, StringEquals, StringLike, NumericLessThanEquals, Value, text}
use Rattle.syntax.specs.Policy as P
use Rattle.syntax.specs.Forms.{Reading, wrong, read, both, is_action, wildcard, is_resource, is_sid, symbol, ahead}
use Rattle.syntax.specs.Forms.{symbols_behind, symbols_of, number_in}
use Rattle.syntax.specs.Members.{then, only, characters, characters_of, cons, each, some, one_or_more, members}
use Rattle.syntax.specs.PolicyLayout.{action_of, resource_of, as_text, as_number, number_of_json, value_of, sid_of}
use Rattle.writing.specs.Valid.{Each, none, more, Some, first, Symbol, plain, run, one, Symbols, ValidAction}
use Rattle.writing.specs.Valid.{ValidResource, ValidValue, equals, like, at_most}
use Rattle.syntax.proofs.Laws.Characters.{wildcard_none}
use Rattle.syntax.proofs.Laws.Numbers.{number_small}
use Rattle.parts.proofs.Laws.Fits.{wrong_read, then_inv, only_inv, cons_inv}
use Rattle.writing.proofs.Laws.TreeSpelling.{ascii}

pub only_test : {A : Type 0} (t : Bool) (x : A) {y : A} → only t x ≡ read y → t ≡ true
only_test true x e = refl
only_test false x e = wrong_read e

-- ---- characters

text_said : (t : Text) (cs : List ℕ) → only t.sound t.chars ≡ read cs → t ≡ said cs
text_said t cs e =
    let c : t.chars ≡ cs = only_inv t.sound e in
    let k : t.sound ≡ true = only_test t.sound t.chars e in
    λ i. record { chars = c i; sound = k i }

pub characters_scalars : {w : List ℕ} {us : List Unit} {cs : List ℕ} → Body w us → characters w ≡ read cs → Scalars cs
unfolding characters
characters_scalars {w} {us} {cs} b e = means_scalar b (text_sound b (text_said (text_of w) cs e))

sound_scalars : {t : Json} {cs : List ℕ} → Sound t → characters_of t ≡ read cs → Scalars cs
sound_scalars sound_null e = wrong_read e
sound_scalars sound_bool e = wrong_read e
sound_scalars (sound_number n) e = wrong_read e
sound_scalars (sound_string b) e = characters_scalars b e
sound_scalars (sound_list ts) e = wrong_read e
sound_scalars (sound_object ms) e = wrong_read e

scalar_at : {cs : List ℕ} → Scalars cs → (i : ℕ) → Scalar (get_or cs i 0)
scalar_at W.none i = ascii 0 (omega arith)
scalar_at (W.more s ss) zero = s
scalar_at (W.more s ss) (suc i) = scalar_at ss i

-- ---- symbols

module _ (Q : ℕ → Type 0) (w : Bool) (alone : (c : ℕ) → Scalar c → Q c) (said_by : (c : ℕ) → Scalar c → Q (symbol w c))
  where
    ahead_each : (c : ℕ) (t : Reading (List ℕ)) → Q c → ((ys : List ℕ) → t ≡ read ys → Each ℕ Q ys)
        → (ys : List ℕ) → ahead c t ≡ read ys → Each ℕ Q ys
    unfolding ahead
    ahead_each c wrong q f ys e = wrong_read e
    ahead_each c (read zs) q f ys e = let same : c ∷ zs ≡ ys = cc in subst (Each ℕ Q) same (more q (f zs refl))

    step_each : (t u : Bool) (x y : ℕ) (a b : Reading (List ℕ)) → Q x → Q y
        → ((ys : List ℕ) → a ≡ read ys → Each ℕ Q ys) → ((ys : List ℕ) → b ≡ read ys → Each ℕ Q ys)
        → (ys : List ℕ) → pick t (pick u (ahead x a) wrong) (ahead y b) ≡ read ys → Each ℕ Q ys
    step_each true true x y a b p q f g ys e = ahead_each x a p f ys e
    step_each true false x y a b p q f g ys e = wrong_read e
    step_each false u x y a b p q f g ys e = ahead_each y b q g ys e

    behind_each : (n : ℕ) {cs : List ℕ} → Scalars cs → (ys : List ℕ) → symbols_behind n w cs ≡ read ys → Each ℕ Q ys
    unfolding symbols_behind
    behind_each n W.none ys e = let same : [] ≡ ys = cc in subst (Each ℕ Q) same none
    behind_each (suc n) (W.more s ss) ys e = behind_each n ss ys e
    behind_each zero (W.more {c} {cs} s ss) ys e =
        step_each (both (eqb c 36) (eqb (get_or cs 0 0) 123))
        (both (one_of (36 ∷ 42 ∷ 63 ∷ []) (get_or cs 1 0)) (eqb (get_or cs 2 0) 125)) (get_or cs 1 0) (symbol w c)
        (symbols_behind 3 w cs) (symbols_behind 0 w cs) (alone (get_or cs 1 0) (scalar_at ss 1)) (said_by c s)
        (behind_each 3 ss) (behind_each 0 ss) ys e

wildcard_symbol : (c : ℕ) → Scalar c → Symbol (wildcard c)
unfolding wildcard
wildcard_symbol c s = by (ℕ_discrete c 42) (ℕ_discrete c 63)
  where
    by : Dec (c ≡ 42) → Dec (c ≡ 63) → Symbol (wildcard c)
    by (yes p) d = subst (λ (x : ℕ). Symbol (wildcard x)) (sym p) run
    by (no p) (yes q) = subst (λ (x : ℕ). Symbol (wildcard x)) (sym q) one
    by (no p) (no q) = subst Symbol (wildcard_none c p q) (plain s)

pub symbols_valid : {cs : List ℕ} (ys : List ℕ) → Scalars cs → symbols_of true cs ≡ read ys → Symbols ys
symbols_valid ys s e = behind_each Symbol true (λ c p. plain p) wildcard_symbol 0 s ys e

each_scalars : {ys : List ℕ} → Each ℕ Scalar ys → Scalars ys
each_scalars none = W.none
each_scalars (more s ss) = W.more s (each_scalars ss)

pub symbols_scalars : {cs : List ℕ} (ys : List ℕ) → Scalars cs → symbols_of false cs ≡ read ys → Scalars ys
symbols_scalars ys s e = each_scalars (behind_each Scalar false (λ c p. p) (λ c p. p) 0 s ys e)

-- ---- entries

pub sid_valid : (t : Json) (cs : List ℕ) → sid_of t ≡ read cs → is_sid cs ≡ true
unfolding sid_of
sid_valid t cs e =
    let p = then_inv (characters_of t) (λ cs. only (is_sid cs) cs) e in
    subst (λ (l : List ℕ). is_sid l ≡ true) (only_inv (is_sid p.thing) p.next)
    (only_test (is_sid p.thing) p.thing p.next)

pub action_valid : (t : Json) → Sound t → (ys : List ℕ) → action_of t ≡ read ys → ValidAction ys
unfolding action_of
action_valid t s ys e =
    let p = then_inv (characters_of t) (λ cs. only (is_action cs) (map wildcard cs)) e in
    record {
      chars = p.thing;
      is = sym (only_inv (is_action p.thing) p.next);
      right = only_test (is_action p.thing) (map wildcard p.thing) p.next;
    }

pub resource_valid : (t : Json) → Sound t → (ys : List ℕ) → resource_of t ≡ read ys → ValidResource ys
unfolding resource_of
resource_valid t s ys e =
    let p = then_inv (characters_of t) (λ cs. then (symbols_of true cs) (λ ys. only (is_resource ys) ys)) e in
    let q = then_inv (symbols_of true p.thing) (λ ys. only (is_resource ys) ys) p.next in
    subst ValidResource (only_inv (is_resource q.thing) q.next)
    (record {
      symbols = symbols_valid q.thing (sound_scalars s p.said) q.said;
      right = only_test (is_resource q.thing) q.thing q.next;
    })

text_valid : (o : Operator) (x : Reading (List ℕ)) (v : Value)
    → ((ys : List ℕ) → x ≡ read ys → ValidValue o (text ys)) → as_text x ≡ read v → ValidValue o v
text_valid o wrong v f e = wrong_read e
text_valid o (read ys) v f e = let z : text ys ≡ v = cc in subst (ValidValue o) z (f ys refl)

number_valid : (x : Reading ℕ) (v : Value) → ((n : ℕ) → x ≡ read n → n ≤ greatest) → as_number x ≡ read v
    → ValidValue NumericLessThanEquals v
number_valid wrong v f e = wrong_read e
number_valid (read n) v f e =
    let z : P.number n ≡ v = cc in subst (ValidValue NumericLessThanEquals) z (at_most (f n refl))

json_small : (t : Json) (n : ℕ) → number_of_json t ≡ read n → n ≤ greatest
unfolding number_of_json
json_small null n e = wrong_read e
json_small (bool b) n e = wrong_read e
json_small (number w) n e = number_small w e
json_small (string w) n e = let p = then_inv (characters w) number_in e in number_small p.thing p.next
json_small (list ts) n e = wrong_read e
json_small (object ms) n e = wrong_read e

pub value_valid : (o : Operator) (t : Json) → Sound t → (v : Value) → value_of o t ≡ read v → ValidValue o v
unfolding value_of
value_valid StringEquals t s v e =
    text_valid StringEquals (then (characters_of t) (symbols_of false)) v
    (λ ys k. let p = then_inv (characters_of t) (symbols_of false) k in
    equals (symbols_scalars ys (sound_scalars s p.said) p.next)) e
value_valid StringLike t s v e =
    text_valid StringLike (then (characters_of t) (symbols_of true)) v
    (λ ys k. let p = then_inv (characters_of t) (symbols_of true) k in
    like (symbols_valid ys (sound_scalars s p.said) p.next)) e
value_valid NumericLessThanEquals t s v e = number_valid (number_of_json t) v (json_small t) e

-- ---- lists

module _ {A : Type 0} (P : A → Type 0) where
  none_each : (zs : List A) → ◌≡◌ {A = Reading (List A)} (read []) (read zs) → Each A P zs
  none_each zs e = let y : [] ≡ zs = cc in subst (Each A P) y none

  cons_some : (x : Reading A) (xs : Reading (List A)) (ys : List A) → ((z : A) → x ≡ read z → P z)
      → ((zs : List A) → xs ≡ read zs → Each A P zs) → cons x xs ≡ read ys → Some A P ys
  cons_some x xs ys f g e =
      let p = cons_inv x xs e in
      subst (Some A P) (sym p.is) (first (f p.head p.first) (g p.tail p.others))

  some_each : {xs : List A} → Some A P xs → Each A P xs
  some_each (first p ps) = more p ps

  module _ (f : Json → Reading A) (valid : (t : Json) → Sound t → (x : A) → f t ≡ read x → P x) where
    each_valid : {ts : Values} → SoundValues ts → (xs : List A) → each f ts ≡ read xs → Each A P xs
    unfolding each
    each_valid sound_no_more xs e = none_each xs e
    each_valid (sound_also {t} {ts} s ss) xs e =
        some_each (cons_some (f t) (each f ts) xs (valid t s) (each_valid ss) e)

    one_valid : {t : Json} → Sound t → (xs : List A) → cons (f t) (read []) ≡ read xs → Some A P xs
    one_valid {t} s xs e = cons_some (f t) (read []) xs (valid t s) none_each e

    some_valid : {ts : Values} → SoundValues ts → (xs : List A) → some f ts ≡ read xs → Some A P xs
    unfolding some each
    some_valid sound_no_more xs e = wrong_read e
    some_valid (sound_also {t} {ts} s ss) xs e = cons_some (f t) (each f ts) xs (valid t s) (each_valid ss) e

    pub several_valid : {t : Json} → Sound t → (xs : List A) → one_or_more f t ≡ read xs → Some A P xs
    unfolding one_or_more
    several_valid sound_null xs e = one_valid sound_null xs e
    several_valid sound_bool xs e = one_valid sound_bool xs e
    several_valid (sound_number n) xs e = one_valid (sound_number n) xs e
    several_valid (sound_string b) xs e = one_valid (sound_string b) xs e
    several_valid (sound_list ts) xs e = some_valid ts xs e
    several_valid (sound_object ms) xs e = one_valid (sound_object ms) xs e

  module _ (f : List ℕ → Json → Reading A)
      (valid : (w : List ℕ) (us : List Unit) (t : Json) → Body w us → Sound t → (x : A) → f w t ≡ read x → P x) where
    each_member : {ms : Members} → SoundMembers ms → (xs : List A) → members f ms ≡ read xs → Each A P xs
    unfolding members
    each_member sound_no_members xs e = none_each xs e
    each_member (sound_named {w} {us} {t} {ms} b s ss) xs e =
        some_each (cons_some (f w t) (members f ms) xs (valid w us t b s) (each_member ss) e)

    pub members_valid : {w : List ℕ} {t : Json} {ms : Members} → SoundMembers (named w t ms) → (xs : List A)
        → members f (named w t ms) ≡ read xs → Some A P xs
    unfolding members
    members_valid (sound_named {w} {us} {t} {ms} b s ss) xs e =
        cons_some (f w t) (members f ms) xs (valid w us t b s) (each_member ss) e
