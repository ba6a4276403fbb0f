-- Bytes put one behind another are a part of the text; what is put or decoded is what a string at a place says.
use mathlib.Core.Path.{◌≡◌, refl, sym, ap, ◌∙◌, subst}
use mathlib.Core.Bool.{true, not, ◌&&◌}
use mathlib.Core.List.{List, [], ◌∷◌, ◌++◌, map}
use Prim.Native.Nat.{ℕ, ◌+◌, ◌-◌, ◌≤◌, ◌<◌}
use native.Mathlib.Omega.{arith}
use native.Mathlib.Numerals.{add-one}
use lib.Dec.{eqb, ltb}
use lib.ListN.{length, get_or, take, drop, set, length-set}
use lib.Seq.{take-suc-set, take-take}
use borrow.Author.Tests.{ltb-true, eqb-false, not-true}
use Rattle.chars.specs.Base.{At, part}
use Rattle.chars.specs.Strings.{Body}
use Rattle.chars.proofs.Laws.Tests.{each_true}
use Rattle.text.specs.Json.{Json, string, list, also, no_more, depth, depths, a_string, Quoted}
use Rattle.text.specs.Machine.{text, byte}
use Rattle.text.specs.Reading.{Done}
use Rattle.text.proofs.Laws.Parts.{part_length, part_empty, part_append, part_one}
use Rattle.text.proofs.Laws.Places.{done_alive, done_unique, text_grows}
use Rattle.text.proofs.Laws.Taking.Strings.{alive_text, closed_quoted}
use Rattle.text.proofs.Laws.Complete.{body_done}
use Rattle.syntax.specs.Forms.{Reading}
use Rattle.syntax.specs.Members.{characters, characters_of}
use Rattle.syntax.specs.RecordLayout.{only_one}
use Rattle.held.specs.Held.{held_text}
use Rattle.parts.specs.Room.{Roomy}
use Rattle.parts.specs.Holding.{Extends, Laid, Kept}
use Rattle.parts.specs.declared.holding.Ended.{Ended}
use Rattle.std.specs.Prelude.{Option, Some, None}
use Rattle.parts.proofs.Laws.Extends.{extends_none, extends_then, extends_after, extends_front, extends_within}
use Rattle.parts.proofs.Laws.Extends.{extends_kept}
use Rattle.straight.specs.Marks.{bare, all_bare, Opened, Closed}
use Rattle.straight.specs.Taking.{Taken, Takes, Puts}
use Rattle.straight.proofs.Laws.Bare.{bare_facts, bare_true, all_bare_cons, all_bare_append, all_bare_characters}
use Rattle.straight.proofs.Laws.Marks.{quoted_bare}
use Rattle.straight.proofs.Laws.Reads.{list_sole}
use Rattle.straight.proofs.Laws.Taking.{retaken}

-- ---- bytes that stand for themselves

pub plain_bare : (b : ℕ) → (((ltb 31 b && ltb b 128) && not (eqb b 34)) && not (eqb b 92)) ≡ true → bare b ≡ true
plain_bare b h =
    let t = each_true ((ltb 31 b && ltb b 128) && not (eqb b 34)) (not (eqb b 92)) h in
    let u = each_true (ltb 31 b && ltb b 128) (not (eqb b 34)) t.0 in
    let v = each_true (ltb 31 b) (ltb b 128) u.0 in
    let low = ltb-true 31 b v.0 in
    let high = ltb-true b 128 v.1 in
    bare_true
    record {
      low = omega arith;
      high = omega arith;
      no_quote = eqb-false b 34 (not-true (eqb b 34) u.1);
      no_escape = eqb-false b 92 (not-true (eqb b 92) t.1);
    }

-- ---- parts

part_next : (s : List ℕ) (at n k : ℕ) → part s at (at + n) ++ part s (at + n) (at + n + k) ≡ part s at (at + (n + k))
part_next s at n k =
    let e : at + n + k ≡ at + (n + k) = omega arith in
    part_append s at (at + n) (at + n + k) (omega arith) (omega arith) ∙ ap (part s at) e

pub bare_none : (s : List ℕ) (at : ℕ) → all_bare (part s at (at + 0)) ≡ true
unfolding all_bare
bare_none s at =
    let e : at + 0 ≡ at = omega arith in
    ap (λ (n : ℕ). all_bare (part s at n)) e ∙ ap all_bare (part_empty s at)

bare_then :
    (s : List ℕ) (at n k : ℕ) → all_bare (part s at (at + n)) ≡ true → all_bare (part s (at + n) (at + n + k)) ≡ true
    → all_bare (part s at (at + (n + k))) ≡ true
bare_then s at n k p q =
    ap all_bare (sym (part_next s at n k)) ∙ all_bare_append (part s at (at + n)) (part s (at + n) (at + n + k)) p q

bare_one : (s : List ℕ) (i : ℕ) → i < length s → bare (get_or s i 0) ≡ true → all_bare (part s i (i + 1)) ≡ true
unfolding all_bare
bare_one s i h p =
    ap all_bare (part_one s i h) ∙ all_bare_cons (get_or s i 0) [] (bare_facts (get_or s i 0) p) refl

pub bare_next :
    (s : List ℕ) (at n : ℕ) → at + n < length s → all_bare (part s at (at + n)) ≡ true
    → bare (get_or s (at + n) 0) ≡ true → all_bare (part s at (at + (n + 1))) ≡ true
bare_next s at n h p q = bare_then s at n 1 p (bare_one s (at + n) h q)

-- ---- bytes put

pub bytes_none : (s run : List ℕ) (at to : ℕ) → Extends run run to (part s at (at + 0)) (to + 0)
bytes_none s run at to =
    let e : at ≡ at + 0 = omega arith in
    let d : to ≡ to + 0 = omega arith in
    subst (λ (p : ℕ). Extends run run to (part s at (at + 0)) p) d
    (subst (λ (xs : List ℕ). Extends run run to xs to) (sym (part_empty s at) ∙ ap (part s at) e) (extends_none run to))

bytes_then :
    (s : List ℕ) (at to n k : ℕ) {run run₁ run₂ : List ℕ} → Extends run run₁ to (part s at (at + n)) (to + n)
    → Extends run₁ run₂ (to + n) (part s (at + n) (at + n + k)) (to + n + k)
    → Extends run run₂ to (part s at (at + (n + k))) (to + (n + k))
bytes_then s at to n k {run} {run₁} {run₂} f g =
    let e : to + n + k ≡ to + (n + k) = omega arith in
    subst (λ (p : ℕ). Extends run run₂ to (part s at (at + (n + k))) p) e
    (subst (λ (xs : List ℕ). Extends run run₂ to xs (to + n + k)) (part_next s at n k) (extends_then f g))

bytes_one :
    (s run : List ℕ) (i to : ℕ) {c : ℕ} → i < length s → to < length run → c ≡ get_or s i 0
    → Extends run (set run to c) to (part s i (i + 1)) (to + 1)
bytes_one s run i to {c} h g e =
    record {
      size = length-set run to c;
      place = let l = part_length s i (i + 1) (omega arith) (omega arith) in omega arith;
      is = ap (λ (k : ℕ). take k (set run to c)) (add-one to) ∙ take-suc-set run to c g
          ∙ ap (λ (x : ℕ). take to run ++ (x ∷ [])) e ∙ ap (λ (l : List ℕ). take to run ++ l) (sym (part_one s i h));
    }

pub bytes_next :
    (s : List ℕ) (at to n : ℕ) {run run₁ : List ℕ} {c : ℕ} → Extends run run₁ to (part s at (at + n)) (to + n)
    → at + n < length s → to + n < length run₁ → c ≡ get_or s (at + n) 0
    → Extends run (set run₁ (to + n) c) to (part s at (at + (n + 1))) (to + (n + 1))
bytes_next s at to n {run} {run₁} f h g e = bytes_then s at to n 1 f (bytes_one s run₁ (at + n) (to + n) h g e)

pub puts_none : {s : List ℕ} (run : List ℕ) {at : ℕ} (to : ℕ) → at ≤ length s → Puts s run run at to 0
puts_none {s} run {at} to h =
    record { inside = omega arith; bare = bare_none s at; extends = bytes_none s run at to }

module _ {s run run₁ : List ℕ} {at to n : ℕ} (p : Puts s run run₁ at to n) where
  pub puts_then : (k : ℕ) {run₂ : List ℕ} → at + n + k ≤ length s → all_bare (part s (at + n) (at + n + k)) ≡ true
      → Extends run₁ run₂ (to + n) (part s (at + n) (at + n + k)) (to + n + k) → Puts s run run₂ at to (n + k)
  puts_then k h b x =
      record {
        inside = omega arith;
        bare = bare_then s at n k p.bare b;
        extends = bytes_then s at to n k p.extends x;
      }

  pub puts_next : {c : ℕ} → at + n < length s → to + n < length run₁ → bare (get_or s (at + n) 0) ≡ true
      → c ≡ get_or s (at + n) 0 → Puts s run (set run₁ (to + n) c) at to (n + 1)
  puts_next h g b e =
      puts_then 1 (omega arith) (bare_one s (at + n) h b) (bytes_one s run₁ (at + n) (to + n) h g e)

  pub puts_within : to ≤ length run → to + n ≤ length run₁
  puts_within low = extends_within p.extends low

-- ---- strings

-- what the scan passed is a string, up to the place where it stopped
pub quoted_reads : {s : List ℕ} {v e : ℕ} → At s v 34 → Done s (text ∷ []) (v + 1) e
    → Quoted s (part s (v + 1) (e - 1)) v e
quoted_reads {s} {v} {e} o d =
    let r = alive_text (map byte (drop e s)) (done_alive d) in
    let z : r.close + 1 ≡ e = done_unique (text ∷ []) (body_done (closed_quoted o r)) d in
    let y : e - 1 ≡ r.close = omega arith in
    let w : part s (v + 1) (e - 1) ≡ r.word = ap (part s (v + 1)) y ∙ r.spelt.is in
    record {
      opens = o;
      close = r.close;
      units = r.units;
      spelt = record { order = r.spelt.order; inside = r.spelt.inside; is = ap (part s (v + 1)) (sym y) };
      body = subst (λ (x : List ℕ). Body x r.units) (sym w) r.body;
      closes = r.closes;
      past = sym z;
    }

module _ {A : Type 0} {h : A → List ℕ} {s run run' : List ℕ} {v at p e : ℕ} where
  -- a string, whatever is read of it
  quoted_taken : {f : Json → Reading A} (w : List ℕ) → Quoted s w v e → Laid h run run' at (f (string w)) p
      → Taken h f 0 s run run' v at p e
  unfolding depth
  quoted_taken w q l = record { tree = string w; reads = a_string q; shallow = omega arith; laid = l }

  -- a list of one value
  pub sole_taken : {f : Json → Reading A} {n i j : ℕ} → Opened s 91 v i → Taken h f n s run run' i at p j
      → Closed s 93 j e → Taken h (only_one f) (n + 1) s run run' v at p e
  unfolding depth depths only_one
  sole_taken o t c =
      record {
        tree = list (also t.tree no_more);
        reads = list_sole o t.reads c;
        shallow = omega (arith, t.shallow);
        laid = t.laid;
      }

-- room for a string's characters and their number where there is room for its bytes
pub string_room :
    {s run : List ℕ} (v : ℕ) {at e : ℕ} → Done s (text ∷ []) (v + 1) e → Roomy run at 0 → e - v ≤ length run - at
    → Roomy run at (1 + length (part s (v + 1) (e - 1)))
string_room {s} {run} v {at} {e} d r h =
    let g = text_grows d in
    let l = part_length s (v + 1) (e - 1) (omega arith) (omega (arith, d.high)) in
    record { room = omega (arith, r.room); bounded = r.bounded }

pub string_taken :
    {s run run' : List ℕ} {v at p e : ℕ} → At s v 34 → Done s (text ∷ []) (v + 1) e
    → Laid held_text run run' at (characters (part s (v + 1) (e - 1))) p
    → Taken held_text characters_of 0 s run run' v at p e
string_taken {s} {v = v} {e = e} o d l = quoted_taken (part s (v + 1) (e - 1)) (quoted_reads o d) l

pub bare_taken :
    {s run run₁ : List ℕ} {v at n : ℕ} → At s v 34 → at < length run → Puts s run run₁ (v + 1) (at + 1) n
    → At s (v + 1 + n) 34
    → Taken held_text characters_of 0 s run (set run₁ at n) v at (at + 1 + n) (v + 1 + n + 1)
bare_taken {s} {run} {run₁} {v} {at} {n} o low p q =
    let w = part s (v + 1) (v + 1 + n) in
    let l : length w ≡ n = part_length s (v + 1) (v + 1 + n) (omega arith) p.inside ∙ omega arith in
    quoted_taken w
    (quoted_bare p.bare o q (record { order = omega arith; inside = p.inside; is = refl }))
    record {
      thing = w;
      said = all_bare_characters w p.bare;
      extends =
          subst (λ (k : ℕ). Extends run (set run₁ at n) at (k ∷ w) (at + 1 + n)) (sym l)
          (extends_front n low p.extends);
    }

-- the run may have been written on behind the place before
module _ {A : Type 0} (h : A → List ℕ) (f : Json → Reading A) (n : ℕ) (s run' : List ℕ) (v at : ℕ) where
  pub takes_after : {run run₁ : List ℕ} (r : Option Ended) → Kept run run₁ at → Takes h f n s run₁ run' v at r
      → Takes h f n s run run' v at r
  takes_after (Some r) k t =
      retaken t
      (record { thing = t.laid.thing; said = t.laid.said; extends = extends_after k t.laid.extends })
  takes_after None k t = t ∙ k.size

pub puts_kept :
    {s run run₁ : List ℕ} {i at n : ℕ} → Puts s run run₁ i (at + 1) n → at < length run → Kept run run₁ at
puts_kept {s} {run} {run₁} {i} {at} {n} p low =
    let k = extends_kept p.extends (omega arith) in
    record {
      size = k.size;
      is = sym (take-take at (at + 1) run₁ (omega arith)) ∙ ap (take at) k.is
          ∙ take-take at (at + 1) run (omega arith);
    }
