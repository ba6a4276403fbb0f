-- Laws of Printing: what is printed of a sound tree is a JSON text that says the tree.
--   printed_reads      as the grammar has it
--   printed_whole      the scan finds it whole, if it has no more levels than a text may have
--   printed_contents   and what it says is the tree
--   written_sound      a string of written characters is sound, and so is a member with such a name
--   says_sound         what any JSON text says is sound
use mathlib.Core.Path.{◌≡◌, refl, sym, ap, ◌∙◌, subst}
use mathlib.Core.Bool.{true, false}
use mathlib.Core.List.{List, [], ◌∷◌, ◌++◌, append_assoc}
use Prim.Native.Nat.{ℕ, ◌+◌, ◌-◌, ◌≤◌}
use native.Mathlib.Omega.{arith}
use lib.ListN.{length, take, drop, length-append}
use lib.Seq.{drop-drop, take_at, drop_at, take_all}
use Rattle.chars.specs.Base.{At}
use Rattle.chars.specs.Strings.{Unit, Body}
use Rattle.text.specs.Json.{Json, Values, Members, string, list, object, no_more, no_members, named, depth}
use Rattle.text.specs.Json.{levels, Space, no_space, Spelt, Quoted, Piece, a_value, elements, rest, members, more}
use Rattle.text.specs.Json.{Reads, a_null, a_true, a_false, a_number, a_string, empty_list, some_list, element}
use Rattle.text.specs.Json.{close_list, comma_list, empty_object, some_object, member, close_object, comma_object}
use Rattle.text.specs.Json.{JsonText}
use Rattle.text.specs.Machine.{verdict}
use Rattle.chars.specs.Written.{Scalars, written_text}
use Rattle.text.specs.Printing.{quoted, printed, printed_elements, printed_rest, printed_members, printed_more, Sound}
use Rattle.text.specs.Printing.{sound_null, sound_bool, sound_number, sound_string, sound_list, sound_object}
use Rattle.text.specs.Printing.{SoundValues, sound_no_more, sound_also, SoundMembers, sound_no_members}
use Rattle.text.specs.Printing.{sound_named}
use Rattle.std.specs.Prelude.{Ok}
use Rattle.text.proofs.Laws.Parts.{spelt_drop, spelt_length, spelt_first}
use Rattle.text.proofs.Laws.Meaning.{verdict_unique}
use Rattle.text.proofs.Laws.Contents.{contents, contents_is}
use Rattle.chars.proofs.Laws.Written.{text_tells}

-- ---- spelt bytes, taken apart

module _ {s : List ℕ} (w v : List ℕ) {i e : ℕ} (p : Spelt s (w ++ v) i e) where
  past_length : i + (length w + length v) ≡ e
  past_length = ap (λ (n : ℕ). i + n) (sym (length-append w v)) ∙ spelt_length p

  from_here : drop i s ≡ w ++ (v ++ drop e s)
  from_here = spelt_drop p ∙ append_assoc w v (drop e s)

  pub spelt_left : Spelt s w i (i + length w)
  spelt_left =
      let l = past_length in
      let n : length w ≡ i + length w - i = omega arith in
      record {
        order = omega arith;
        inside = omega (arith, p.inside);
        is = ap (take (i + length w - i)) from_here ∙ take_at w (v ++ drop e s) (i + length w - i) n;
      }

  pub spelt_right : Spelt s v (i + length w) e
  spelt_right =
      let l = past_length in
      let n : length v ≡ e - (i + length w) = omega arith in
      record {
        order = omega arith;
        inside = p.inside;
        is = ap (take (e - (i + length w)))
            (sym (drop-drop (length w) i s) ∙ ap (drop (length w)) from_here
            ∙ drop_at w (v ++ drop e s) (length w) refl)
            ∙ take_at v (drop e s) (e - (i + length w)) n;
      }

module _ {s w : List ℕ} {i b e : ℕ} (p : Spelt s (b ∷ w) i e) where
  spelt_next : Spelt s w (i + 1) e
  spelt_next = spelt_right (b ∷ []) w p

  -- no white space before the next byte
  nothing : Space s (i + 1) (i + 1)
  nothing = no_space {a = i + 1} (omega (arith, (spelt_first p).inside))

here : {s w : List ℕ} {i e : ℕ} → Spelt s w i e → Space s i i
here {i = i} p = no_space {a = i} (omega (arith, p.order, p.inside))

-- ---- strings

module _ {s w : List ℕ} {us : List Unit} {i e : ℕ} (b : Body w us) (p : Spelt s (quoted w) i e) where
  reads_quoted : Quoted s w i e
  reads_quoted =
      let inner = spelt_next p in
      let closing = spelt_right w (34 ∷ []) inner in
      record {
        opens = spelt_first p;
        close = i + 1 + length w;
        units = us;
        spelt = spelt_left w (34 ∷ []) inner;
        body = b;
        closes = spelt_first closing;
        past = sym (spelt_length closing);
      }

-- up to whichever of two equal places
up_to : {s : List ℕ} {i e f : ℕ} (p : Piece) → e ≡ f → Reads s p i e → Reads s p i f
up_to {s} {i} p q r = subst (λ (k : ℕ). Reads s p i k) q r

-- ---- values

mutual
  unfolding printed

  reads_value : {s : List ℕ} {t : Json} {i e : ℕ} → Sound t → Spelt s (printed t) i e → Reads s (a_value t) i e
  reads_value sound_null p = a_null p
  reads_value (sound_bool {b = true}) p = a_true p
  reads_value (sound_bool {b = false}) p = a_false p
  reads_value (sound_number n) p = a_number p n
  reads_value (sound_string b) p = a_string (reads_quoted b p)
  reads_value (sound_list ts) p = reads_list ts (spelt_first p) (spelt_next p)
  reads_value (sound_object ms) p = reads_object ms (spelt_first p) (spelt_next p)

  reads_list : {s : List ℕ} {ts : Values} {i e : ℕ} → SoundValues ts → At s i 91
      → Spelt s (printed_elements ts) (i + 1) e → Reads s (a_value (list ts)) i e
  reads_list sound_no_more o p =
      up_to (a_value (list no_more)) (spelt_length p) (empty_list o (here p) (spelt_first p))
  reads_list (sound_also {t} {ts} st sts) o p =
      some_list o (here p)
      (element (reads_value st (spelt_left (printed t) (printed_rest ts) p))
      (reads_rest sts (spelt_right (printed t) (printed_rest ts) p)))

  reads_rest : {s : List ℕ} {ts : Values} {i e : ℕ} → SoundValues ts → Spelt s (printed_rest ts) i e
      → Reads s (rest ts) i e
  reads_rest sound_no_more p = up_to (rest no_more) (spelt_length p) (close_list (here p) (spelt_first p))
  reads_rest (sound_also {t} {ts} st sts) p =
      comma_list (here p) (spelt_first p) (nothing p)
      (element (reads_value st (spelt_left (printed t) (printed_rest ts) (spelt_next p)))
      (reads_rest sts (spelt_right (printed t) (printed_rest ts) (spelt_next p))))

  reads_object : {s : List ℕ} {ms : Members} {i e : ℕ} → SoundMembers ms → At s i 123
      → Spelt s (printed_members ms) (i + 1) e → Reads s (a_value (object ms)) i e
  reads_object sound_no_members o p =
      up_to (a_value (object no_members)) (spelt_length p) (empty_object o (here p) (spelt_first p))
  reads_object (sound_named {w} {us} {t} {ms} b st sms) o p =
      let line = printed t ++ printed_more ms in
      let q = spelt_right (quoted w) (58 ∷ line) p in
      let v = spelt_next q in
      some_object o (here p)
      (member (reads_quoted b (spelt_left (quoted w) (58 ∷ line) p)) (here q) (spelt_first q) (nothing q)
      (reads_value st (spelt_left (printed t) (printed_more ms) v))
      (reads_more sms (spelt_right (printed t) (printed_more ms) v)))

  reads_more : {s : List ℕ} {ms : Members} {i e : ℕ} → SoundMembers ms → Spelt s (printed_more ms) i e
      → Reads s (more ms) i e
  reads_more sound_no_members p = up_to (more no_members) (spelt_length p) (close_object (here p) (spelt_first p))
  reads_more (sound_named {w} {us} {t} {ms} b st sms) p =
      let line = printed t ++ printed_more ms in
      let n = spelt_next p in
      let q = spelt_right (quoted w) (58 ∷ line) n in
      let v = spelt_next q in
      comma_object (here p) (spelt_first p) (nothing p)
      (member (reads_quoted b (spelt_left (quoted w) (58 ∷ line) n)) (here q) (spelt_first q) (nothing q)
      (reads_value st (spelt_left (printed t) (printed_more ms) v))
      (reads_more sms (spelt_right (printed t) (printed_more ms) v)))

-- ---- texts

spelt_all : (s : List ℕ) → Spelt s s 0 (length s)
spelt_all s = record { order = omega arith; inside = omega arith; is = take_all (length s - 0) s (omega arith) }

module _ {t : Json} (p : Sound t) where
  pub printed_reads : JsonText (printed t) t
  printed_reads =
      let s = printed t in
      record {
        from = 0;
        past = length s;
        before = no_space {a = 0} (omega arith);
        reads = reads_value p (spelt_all s);
        after = no_space {a = length s} (omega arith);
      }

  pub printed_whole : depth t ≤ levels → verdict (printed t) ≡ Ok tt
  printed_whole h = sym (verdict_unique (printed t) (Ok tt) (record { tree = t; says = printed_reads; shallow = h }))

  pub printed_contents : depth t ≤ levels → contents (printed t) ≡ t
  printed_contents h = contents_is (printed t) t (printed_whole h) printed_reads

-- ---- written characters

module _ {cs : List ℕ} (p : Scalars cs) where
  pub written_sound : Sound (string (written_text cs))
  written_sound = sound_string (text_tells p).body

  pub written_named : {t : Json} {ms : Members} → Sound t → SoundMembers ms
      → SoundMembers (named (written_text cs) t ms)
  written_named t ms = sound_named (text_tells p).body t ms

-- ---- what is read

abbrev SoundPiece : Piece → Type 0
SoundPiece (a_value t) = Sound t
SoundPiece (elements ts) = SoundValues ts
SoundPiece (rest ts) = SoundValues ts
SoundPiece (members ms) = SoundMembers ms
SoundPiece (more ms) = SoundMembers ms

reads_sound : {s : List ℕ} {p : Piece} {i e : ℕ} → Reads s p i e → SoundPiece p
reads_sound (a_null p) = sound_null
reads_sound (a_true p) = sound_bool
reads_sound (a_false p) = sound_bool
reads_sound (a_number p n) = sound_number n
reads_sound (a_string q) = sound_string q.body
reads_sound (empty_list o w c) = sound_list sound_no_more
reads_sound (some_list o w r) = sound_list (reads_sound r)
reads_sound (element r q) = sound_also (reads_sound r) (reads_sound q)
reads_sound (close_list w c) = sound_no_more
reads_sound (comma_list w c x r) = reads_sound r
reads_sound (empty_object o w c) = sound_object sound_no_members
reads_sound (some_object o w r) = sound_object (reads_sound r)
reads_sound (member n w c x r q) = sound_named n.body (reads_sound r) (reads_sound q)
reads_sound (close_object w c) = sound_no_members
reads_sound (comma_object w c x r) = reads_sound r

pub says_sound : {s : List ℕ} {t : Json} → JsonText s t → Sound t
says_sound p = reads_sound p.reads
