-- A place of a text reads as one piece of each kind: places are told by the twin, kinds by first bytes.
use mathlib.Core.Path.{◌≡◌, refl, sym, ap, ◌∙◌, subst}
use mathlib.Core.List.{List, [], ◌∷◌}
use Prim.Native.Nat.{ℕ, ◌+◌}
use native.Mathlib.Omega.{arith}
use Rattle.chars.specs.Base.{At, part, one_of}
use Rattle.text.specs.Json.{Json, Members, named, Space, Quoted, Piece, a_value, members, more, Reads, a_null}
use Rattle.text.specs.Json.{a_true, a_false, a_number, a_string, empty_list, some_list, element, close_list}
use Rattle.text.specs.Json.{comma_list, empty_object, some_object, member, close_object, comma_object, JsonText}
use Rattle.text.specs.Machine.{byte, text, move}
use Rattle.text.proofs.Laws.Places.{done_unique}
use Rattle.text.proofs.Laws.Parts.{spelt_first}
use Rattle.text.proofs.Laws.Complete.{Stopped, quoted_done}
use Rattle.text.proofs.Laws.Ends.{ends_rest, ends_more, ends_after}
use Rattle.text.proofs.Laws.Spaces.{space_once}
use Rattle.text.proofs.Laws.Starts.{Starts, value_starts}
use Rattle.text.proofs.Laws.Once.Readings.{Same, Once, moved}
use Rattle.text.proofs.Laws.Once.Leaves.{opens_not, number_opens, flat_once}
use Rattle.text.proofs.Laws.Once.Inner.{empty_list_once, some_list_once, empty_object_once, some_object_once}
use Rattle.text.proofs.Laws.Once.Inner.{element_once, close_list_once, comma_list_once, close_object_once}
use Rattle.text.proofs.Laws.Once.Inner.{comma_object_once}
pub mod Inner
pub mod Leaves
pub mod Readings

module _ {s : List ℕ} where
  -- a string ends at one place and has one raw part
  pub quoted_once : {i e f : ℕ} {w x : List ℕ} → Quoted s w i e → Quoted s x i f → Same (List ℕ) w x e f
  quoted_once {i} {e} {f} {w} {x} p q =
      let z = done_unique (byte 34 ∷ text ∷ []) (quoted_done p) (quoted_done q) in
      let a = p.past in
      let b = q.past in
      let k : p.close ≡ q.close = omega arith in
      record { what = sym p.spelt.is ∙ ap (part s (i + 1)) k ∙ q.spelt.is; stop = z }

  member_once : {i q c v j e : ℕ} {w : List ℕ} {t : Json} {ms : Members} → Quoted s w i q → Space s q c → At s c 58
      → Space s (c + 1) v → Starts s v → Once s (a_value t) v j → Once s (more ms) j e
      → Once s (members (named w t ms)) i e
  unfolding move one_of
  member_once {t = t} {ms = ms} n x o y b on go u f
      (member {c = c'} {v = v'} {j = j'} {w = w'} {t = t'} {ms = ms'} n' x' o' y' r p) =
      let d = quoted_once n' n in
      let g = space_once (subst (λ (k : ℕ). Space s k c') d.stop x') o' refl x o refl in
      let a = value_starts r in
      let h = space_once (subst (λ (k : ℕ). Space s (k + 1) v') g y') a.at a.black y b.at b.black in
      let m = on t' j' (moved (a_value t') h r) (ends_more p) in
      let z = go ms' f (moved (more ms') (sym m.stop) p) in
      record {
        what = ap (λ (k : List ℕ). named k t ms) (sym d.what)
            ∙ ap (λ (k : Json). named w' k ms) m.what
            ∙ ap (named w' t') z.what;
        stop = z.stop;
      }

pub once : {s : List ℕ} {p : Piece} {i e : ℕ} → Reads s p i e → Stopped s p e → Once s p i e
once (a_null p) c = flat_once (opens_not 110 (spelt_first p) (omega arith) (omega arith)) (a_null p) c
once (a_true p) c = flat_once (opens_not 116 (spelt_first p) (omega arith) (omega arith)) (a_true p) c
once (a_false p) c = flat_once (opens_not 102 (spelt_first p) (omega arith) (omega arith)) (a_false p) c
once (a_number p n) c = flat_once (number_opens n p) (a_number p n) c
once (a_string p) c = flat_once (opens_not 34 p.opens (omega arith) (omega arith)) (a_string p) c
once (empty_list o w p) c = empty_list_once o w p
once (some_list o w r) c = some_list_once o w r (once r tt)
once (element v r) c = element_once (once v (ends_rest r)) (once r tt)
once (close_list w p) c = close_list_once w p
once (comma_list w o x r) c = comma_list_once w o x r (once r tt)
once (empty_object o w p) c = empty_object_once o w p
once (some_object o w r) c = some_object_once o w r (once r tt)
once (member q w o x v r) c = member_once q w o x (value_starts v) (once v (ends_more r)) (once r tt)
once (close_object w p) c = close_object_once w p
once (comma_object w o x r) c = comma_object_once w o x r (once r tt)

-- a text says one thing
pub text_unique : (s : List ℕ) (t u : Json) → JsonText s t → JsonText s u → t ≡ u
text_unique s t u p q =
    let a = value_starts p.reads in
    let b = value_starts q.reads in
    let z = space_once q.before b.at b.black p.before a.at a.black in
    (once p.reads (ends_after p.after) u q.past (moved (a_value u) z q.reads) (ends_after q.after)).what
