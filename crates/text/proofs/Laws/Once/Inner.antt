-- Behind white space stands one byte, and it tells whether a list or object ends or goes on.
use mathlib.Core.Path.{◌≡◌, refl, sym, ap, ◌∙◌, subst}
use mathlib.Core.List.{List}
use Prim.Native.Nat.{ℕ, ◌+◌}
use native.Mathlib.Omega.{arith}
use Rattle.chars.specs.Base.{At, one_of}
use Rattle.text.specs.Json.{Json, Values, Members, no_more, also, no_members, list, object, Space, a_value}
use Rattle.text.specs.Json.{elements, rest, members, more, Reads, a_null, a_true, a_false, a_number, a_string}
use Rattle.text.specs.Json.{empty_list, some_list, element, close_list, comma_list, empty_object, some_object}
use Rattle.text.specs.Json.{close_object, comma_object}
use Rattle.text.specs.Machine.{move}
use Rattle.text.proofs.Laws.Parts.{spelt_first}
use Rattle.text.proofs.Laws.Ends.{ends_rest}
use Rattle.text.proofs.Laws.Spaces.{space_once, space_byte}
use Rattle.text.proofs.Laws.Starts.{Starts, elements_start, members_start}
use Rattle.text.proofs.Laws.Once.Readings.{clash, Same, Once, moved}
use Rattle.text.proofs.Laws.Once.Leaves.{number_opens}

-- a list has no element and closes at once, or its elements stand behind white space
pub data Listed (s : List ℕ) (t : Json) (i e : ℕ) : Type 0 where
  none : {j : ℕ} → t ≡ list no_more → e ≡ j + 1 → Space s (i + 1) j → At s j 93 → Listed s t i e
  some : {j : ℕ} (ts : Values) → t ≡ list ts → Space s (i + 1) j → Reads s (elements ts) j e → Listed s t i e

pub listed : {s : List ℕ} {t : Json} {i e : ℕ} → At s i 91 → Reads s (a_value t) i e → Listed s t i e
listed o (a_null p) = absurd (let z = clash o (spelt_first p) in omega arith)
listed o (a_true p) = absurd (let z = clash o (spelt_first p) in omega arith)
listed o (a_false p) = absurd (let z = clash o (spelt_first p) in omega arith)
listed o (a_number p n) = absurd ((number_opens n p).no_list o.is)
listed o (a_string p) = absurd (let z = clash o p.opens in omega arith)
listed o (empty_list p w c) = none refl refl w c
listed o (some_list {ts = ts} p w r) = some ts refl w r
listed o (empty_object p w c) = absurd (let z = clash o p in omega arith)
listed o (some_object p w r) = absurd (let z = clash o p in omega arith)

pub data Objected (s : List ℕ) (t : Json) (i e : ℕ) : Type 0 where
  none : {j : ℕ} → t ≡ object no_members → e ≡ j + 1 → Space s (i + 1) j → At s j 125 → Objected s t i e
  some : {j : ℕ} (ms : Members) → t ≡ object ms → Space s (i + 1) j → Reads s (members ms) j e → Objected s t i e

pub objected : {s : List ℕ} {t : Json} {i e : ℕ} → At s i 123 → Reads s (a_value t) i e → Objected s t i e
objected o (a_null p) = absurd (let z = clash o (spelt_first p) in omega arith)
objected o (a_true p) = absurd (let z = clash o (spelt_first p) in omega arith)
objected o (a_false p) = absurd (let z = clash o (spelt_first p) in omega arith)
objected o (a_number p n) = absurd ((number_opens n p).no_object o.is)
objected o (a_string p) = absurd (let z = clash o p.opens in omega arith)
objected o (empty_list p w c) = absurd (let z = clash o p in omega arith)
objected o (some_list p w r) = absurd (let z = clash o p in omega arith)
objected o (empty_object p w c) = none refl refl w c
objected o (some_object {ms = ms} p w r) = some ms refl w r

module _ {s : List ℕ} where
  pub empty_list_once : {i j : ℕ} → At s i 91 → Space s (i + 1) j → At s j 93
      → Once s (a_value (list no_more)) i (j + 1)
  unfolding move one_of
  empty_list_once {i} {j} o w c u f r d = by (listed o r)
    where
      by : Listed s u i f → Same Json (list no_more) u (j + 1) f
      by (none e g x p) = let z = space_once w c refl x p refl in record { what = sym e; stop = omega arith }
      by (some us e x p) =
          let v = elements_start p in absurd (v.inner (space_byte x v.at v.black w c refl))

  pub some_list_once : {i j e : ℕ} {ts : Values} → At s i 91 → Space s (i + 1) j → Reads s (elements ts) j e
      → Once s (elements ts) j e → Once s (a_value (list ts)) i e
  unfolding move one_of
  some_list_once {i} {j} {e} {ts} o w q on u f r d = let v = elements_start q in by v (listed o r)
    where
      by : Starts s j → Listed s u i f → Same Json (list ts) u e f
      by v (none g h x p) = absurd (v.inner (space_byte w v.at v.black x p refl))
      by v (some us g x p) =
          let y = elements_start p in
          let z = space_once x y.at y.black w v.at v.black in
          let m = on us f (moved (elements us) z p) in
          record { what = ap list m.what ∙ sym g; stop = m.stop }

  pub empty_object_once : {i j : ℕ} → At s i 123 → Space s (i + 1) j → At s j 125
      → Once s (a_value (object no_members)) i (j + 1)
  unfolding move one_of
  empty_object_once {i} {j} o w c u f r d = by (objected o r)
    where
      by : Objected s u i f → Same Json (object no_members) u (j + 1) f
      by (none e g x p) = let z = space_once w c refl x p refl in record { what = sym e; stop = omega arith }
      by (some us e x p) = absurd (let y = space_byte w c refl x (members_start p) refl in omega arith)

  pub some_object_once : {i j e : ℕ} {ms : Members} → At s i 123 → Space s (i + 1) j → Reads s (members ms) j e
      → Once s (members ms) j e → Once s (a_value (object ms)) i e
  unfolding move one_of
  some_object_once {i} {j} {e} {ms} o w q on u f r d = let v = members_start q in by v (objected o r)
    where
      by : At s j 34 → Objected s u i f → Same Json (object ms) u e f
      by v (none g h x p) = absurd (let y = space_byte w v refl x p refl in omega arith)
      by v (some us g x p) =
          let z = space_once x (members_start p) refl w v refl in
          let m = on us f (moved (members us) z p) in
          record { what = ap object m.what ∙ sym g; stop = m.stop }

  pub element_once : {i j e : ℕ} {t : Json} {ts : Values} → Once s (a_value t) i j → Once s (rest ts) j e
      → Once s (elements (also t ts)) i e
  element_once {i} {j} {e} {t} {ts} on go u f (element {j = k} {t = v} {ts = vs} p q) =
      let m = on v k p (ends_rest q) in
      let n = go vs f (moved (rest vs) (sym m.stop) q) in
      record { what = ap (λ (x : Json). also x ts) m.what ∙ ap (also v) n.what; stop = n.stop }

  pub close_list_once : {i j : ℕ} → Space s i j → At s j 93 → Once s (rest no_more) i (j + 1)
  unfolding move one_of
  close_list_once w c u f (close_list x p) =
      let z = space_once w c refl x p refl in record { what = refl; stop = ap (λ (n : ℕ). n + 1) z }
  close_list_once w c u f (comma_list x p y r) = absurd (let k = space_byte w c refl x p refl in omega arith)

  pub comma_list_once : {i j k e : ℕ} {ts : Values} → Space s i j → At s j 44 → Space s (j + 1) k
      → Reads s (elements ts) k e → Once s (elements ts) k e → Once s (rest ts) i e
  unfolding move one_of
  comma_list_once w c y q on u f (close_list x p) = absurd (let k = space_byte w c refl x p refl in omega arith)
  comma_list_once {k = k} w c y q on u f (comma_list {k = l} x p g r) =
      let z = space_once x p refl w c refl in
      let v = elements_start q in
      let a = elements_start r in
      let b = space_once (subst (λ (n : ℕ). Space s (n + 1) l) z g) a.at a.black y v.at v.black in
      on u f (moved (elements u) b r)

  pub close_object_once : {i j : ℕ} → Space s i j → At s j 125 → Once s (more no_members) i (j + 1)
  unfolding move one_of
  close_object_once w c u f (close_object x p) =
      let z = space_once w c refl x p refl in record { what = refl; stop = ap (λ (n : ℕ). n + 1) z }
  close_object_once w c u f (comma_object x p y r) = absurd (let k = space_byte w c refl x p refl in omega arith)

  pub comma_object_once : {i j k e : ℕ} {ms : Members} → Space s i j → At s j 44 → Space s (j + 1) k
      → Reads s (members ms) k e → Once s (members ms) k e → Once s (more ms) i e
  unfolding move one_of
  comma_object_once w c y q on u f (close_object x p) = absurd (let k = space_byte w c refl x p refl in omega arith)
  comma_object_once {k = k} w c y q on u f (comma_object {k = l} x p g r) =
      let z = space_once x p refl w c refl in
      let b = space_once (subst (λ (n : ℕ). Space s (n + 1) l) z g) (members_start r) refl y (members_start q) refl in
      on u f (moved (members u) b r)
