-- What stands at a place, as the walkers find it: the twin tells every place, and a place has one piece.
use mathlib.Core.Path.{◌≡◌, refl, sym, ap, ◌∙◌}
use mathlib.Core.List.{List, [], ◌∷◌, map}
use Prim.Native.Nat.{ℕ, ◌+◌, ◌-◌, ◌≤◌, ◌<◌}
use native.Mathlib.Omega.{arith}
use lib.ListN.{length, get_or, drop}
use Rattle.chars.specs.Base.{part}
use Rattle.text.specs.Json.{Json, Values, Members, null, string, levels, Quoted, a_value, Reads, a_string}
use Rattle.text.specs.Json.{JsonText}
use Rattle.text.specs.Machine.{Item, ws, byte, text, value, verdict}
use Rattle.text.specs.Reading.{Leads, Done, Falls, Goes}
use Rattle.text.specs.Verdicts.{Verdict, Text}
use Rattle.text.specs.Contents.{Stands, Rest, Others, Raw, Rooted}
use Rattle.std.specs.Prelude.{Result, Ok, Err}
use Rattle.std.specs.Result.{result_unwrap_or}
use Rattle.text.specs.declared.fault.Fault.{Fault}
use Rattle.text.proofs.Laws.Reading.{takes, fall_frame}
use Rattle.text.proofs.Laws.Moves.Values.{value_text}
use Rattle.text.proofs.Laws.Places.{done_alive, alive_fall, done_unique, not_whole, value_grows}
use Rattle.text.proofs.Laws.Ends.{ends_after}
use Rattle.text.proofs.Laws.Spaces.{space_is}
use Rattle.text.proofs.Laws.Complete.{body_done, reads_done}
use Rattle.text.proofs.Laws.Starts.{value_starts}
use Rattle.text.proofs.Laws.Sound.{text_sound}
use Rattle.text.proofs.Laws.Once.{once, text_unique}
use Rattle.text.proofs.Laws.Once.Readings.{moved}
pub use Rattle.text.proofs.Laws.Contents.Turns.{list_turn, rest_turn, object_turn, more_turn}
pub use Rattle.text.proofs.Laws.Contents.Turns.{turn_inside, turn_closed, turn_open}
pub mod Entries
pub mod Kinds
pub mod Turns

pub stands_done : {s : List ℕ} {t : Json} {v e : ℕ} → Stands s t v e → Done s (value levels ∷ []) v e
stands_done p = reads_done levels p.reads p.shallow p.ends

-- what is done does not fail
pub done_fall : {s : List ℕ} {a e : ℕ} {v : Fault} (xs : List Item) → Done s xs a e → Falls s xs a v → ⊥
done_fall {s} {a} {e} xs d f = alive_fall (done_alive d) (fall_frame (map byte (drop e s)) f)

pub leaf_end : {s : List ℕ} {t : Json} {v e : ℕ} (r : Result ℕ Fault) (other : ℕ) → Goes s (value levels ∷ []) v r
    → Stands s t v e → result_unwrap_or r other ≡ e
leaf_end (Ok n) other g p = done_unique (value levels ∷ []) g (stands_done p)
leaf_end (Err f) other g p = absurd (done_fall (value levels ∷ []) (stands_done p) g)

pub stands_inside : {s : List ℕ} {t : Json} {v e : ℕ} → Stands s t v e → v < length s
stands_inside p = (value_starts p.reads).at.inside

pub stands_unique : {s : List ℕ} {t u : Json} {v e f : ℕ} → Stands s t v e → Stands s u v f → t ≡ u
stands_unique {u = u} {f = f} p q = (once p.reads p.ends u f q.reads q.ends).what

-- ---- strings

reads_quoted : {s w : List ℕ} {v e : ℕ} → Reads s (a_value (string w)) v e → Quoted s w v e
reads_quoted (a_string q) = q

-- a value that a quote opens
pub opened_done : {s : List ℕ} {t : Json} {v e : ℕ} → get_or s v 0 ≡ 34 → Stands s t v e → Done s (text ∷ []) (v + 1) e
opened_done {s} {t} {v} z p =
    let d = stands_done p in
    let h = value_grows d in
    let q : Leads s (value levels ∷ []) v (text ∷ []) (v + 1) =
    takes (value levels) [] (text ∷ []) (stands_inside p) (value_text (get_or s v 0) levels z) in
    record { low = omega arith; high = d.high; goes = λ k. sym (q.goes k) ∙ d.goes k }

module _ {s w : List ℕ} {v e : ℕ} (p : Stands s (string w) v e) where
  pub text_done : Done s (text ∷ []) (v + 1) e
  text_done = body_done (reads_quoted p.reads)

  pub text_raw : (q : ℕ) → Done s (text ∷ []) (v + 1) q → Raw s w e (record { from = v + 1; to = q - 1 })
  text_raw q d =
      let r = reads_quoted p.reads in
      let z = done_unique (text ∷ []) d text_done in
      let y = r.past in
      let k : q - 1 ≡ r.close = omega arith in
      record {
        is = ap (part s (v + 1)) k ∙ r.spelt.is;
        order = omega (arith, r.spelt.order);
        inside = omega (arith, r.closes.inside);
        past = omega arith;
      }

-- ---- the whole text

text_stands : (s : List ℕ) (i : ℕ) → Done s (ws ∷ []) 0 i → (x : Text levels s) → Stands s x.tree i x.says.past
text_stands s i d x =
    let p = x.says in
    let b = value_starts p.reads in
    let z = space_is d p.before b.at b.black in
    record { reads = moved (a_value x.tree) z p.reads; ends = ends_after p.after; shallow = x.shallow }

pub root_is : (s : List ℕ) (i : ℕ) → verdict s ≡ Ok tt → Done s (ws ∷ []) 0 i → Rooted s i
root_is s i e d =
    let x = text_sound levels s e in
    record { stop = x.says.past; stands = λ t p. rw (text_unique s x.tree t x.says p) at (text_stands s i d x) }

-- ---- the tree as a function: null where the text is not whole

by_verdict_lem : (s : List ℕ) (v : Verdict) → verdict s ≡ v → Json
by_verdict_lem s (Ok x) e = (text_sound levels s e).tree
by_verdict_lem s (Err f) e = null

pub contents : List ℕ → Json
contents s = by_verdict_lem s (verdict s) refl

by_says : (s : List ℕ) (v : Verdict) (e : verdict s ≡ v) → v ≡ Ok tt → JsonText s (by_verdict_lem s v e)
unfolding by_verdict_lem
by_says s (Ok x) e w = (text_sound levels s e).says
by_says s (Err f) e w = absurd (not_whole w)

pub contents_says : (s : List ℕ) → verdict s ≡ Ok tt → JsonText s (contents s)
unfolding contents
contents_says s e = by_says s (verdict s) refl e

pub contents_is : (s : List ℕ) (t : Json) → verdict s ≡ Ok tt → JsonText s t → contents s ≡ t
contents_is s t e p = text_unique s (contents s) t (contents_says s e) p

-- ---- places inside the text

pub rest_inside : {s : List ℕ} {ts : Values} {i e : ℕ} → Rest s ts i e → i ≤ length s
rest_inside p = let d = reads_done levels p.reads p.shallow tt in omega (arith, d.low, d.high)

pub others_inside : {s : List ℕ} {ms : Members} {i e : ℕ} → Others s ms i e → i ≤ length s
others_inside p = let d = reads_done levels p.reads p.shallow tt in omega (arith, d.low, d.high)
