-- Action and Resource entries are texts: lists of them, held as values, are held as texts.
use mathlib.Core.Path.{◌≡◌, refl, sym, ap, ◌∙◌, subst}
use mathlib.Core.List.{List, [], ◌∷◌, ◌++◌, map}
use Prim.Native.Nat.{ℕ}
use lib.ListN.{length, length-map}
use Rattle.text.specs.Json.{Json, null, bool, number, string, list, object, Values, no_more, also}
use Rattle.syntax.specs.Policy.{Value, text}
use Rattle.syntax.specs.Forms.{Reading, wrong, read}
use Rattle.syntax.specs.Members.{then, cons, each, some, one_or_more}
use Rattle.syntax.specs.PolicyLayout.{as_text}
use Rattle.held.specs.Held.{held_text, held_each, held_list, held_value}
use Rattle.parts.specs.Holding.{Extends, Laid}
use Rattle.parts.proofs.Laws.Fits.{then_inv}

abbrev pub as_texts : Reading (List (List ℕ)) → Reading (List Value)
as_texts x = then x (λ l. read (map text l))

cons_texts : (x : Reading (List ℕ)) (y : Reading (List (List ℕ))) → cons (as_text x) (as_texts y) ≡ as_texts (cons x y)
cons_texts wrong y = refl
cons_texts (read x) wrong = refl
cons_texts (read x) (read y) = refl

each_held : (l : List (List ℕ)) → held_each held_value (map text l) ≡ held_each held_text l
unfolding held_each
each_held [] = refl
each_held (x ∷ l) = ap (λ (m : List ℕ). held_text x ++ m) (each_held l)

list_held : (l : List (List ℕ)) → held_list held_value (map text l) ≡ held_list held_text l
list_held l =
    ap (λ (n : ℕ). n ∷ held_each held_value (map text l)) (length-map l text)
    ∙ ap (λ (m : List ℕ). length l ∷ m) (each_held l)

module _ (g : Json → Reading (List ℕ)) where
  each_texts : (ts : Values) → each (λ t. as_text (g t)) ts ≡ as_texts (each g ts)
  unfolding each
  each_texts no_more = refl
  each_texts (also t ts) =
      ap (λ (y : Reading (List Value)). cons (as_text (g t)) y) (each_texts ts) ∙ cons_texts (g t) (each g ts)

  some_texts : (ts : Values) → some (λ t. as_text (g t)) ts ≡ as_texts (some g ts)
  unfolding some
  some_texts no_more = refl
  some_texts (also t ts) = each_texts (also t ts)

  pub texts : (t : Json) → one_or_more (λ t. as_text (g t)) t ≡ as_texts (one_or_more g t)
  unfolding one_or_more
  texts null = cons_texts (g null) (read [])
  texts (bool b) = cons_texts (g (bool b)) (read [])
  texts (number w) = cons_texts (g (number w)) (read [])
  texts (string w) = cons_texts (g (string w)) (read [])
  texts (list ts) = some_texts ts
  texts (object ms) = cons_texts (g (object ms)) (read [])

  pub texts_laid :
      {run run' : List ℕ} {at p : ℕ} (t : Json)
      → Laid (held_list held_value) run run' at (one_or_more (λ t. as_text (g t)) t) p
      → Laid (held_list held_text) run run' at (one_or_more g t) p
  texts_laid {run} {run'} {at} {p} t d =
      let i = then_inv (one_or_more g t) (λ l. read (map text l)) (sym (texts t) ∙ d.said) in
      let e : map text i.thing ≡ d.thing = let z = i.next in cc in
      record {
        thing = i.thing;
        said = i.said;
        extends = subst (λ (l : List ℕ). Extends run run' at l p)
            (ap (held_list held_value) (sym e) ∙ list_held i.thing) d.extends;
      }
