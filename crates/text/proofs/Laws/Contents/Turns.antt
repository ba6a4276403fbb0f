-- Behind white space stands the closing byte or what goes on, in lists and in objects.
use mathlib.Core.Path.{◌≡◌, refl, sym, ap, ◌∙◌, subst}
use mathlib.Core.Logic.{◌⊎◌, inl, inr}
use mathlib.Core.List.{List, [], ◌∷◌}
use Prim.Native.Nat.{ℕ, ◌+◌, ◌≤◌, ◌<◌}
use native.Mathlib.Omega.{arith}
use lib.ListN.{length, get_or}
use Rattle.chars.specs.Base.{At, one_of}
use Rattle.text.specs.Json.{Values, Members, no_more, no_members, list, object, depth, depths, depthm, levels}
use Rattle.text.specs.Json.{Space, a_value, elements, rest, members, more, Reads, empty_list, some_list, element}
use Rattle.text.specs.Json.{close_list, comma_list, empty_object, some_object, close_object, comma_object}
use Rattle.text.specs.Machine.{ws, move}
use Rattle.text.specs.Reading.{Done}
use Rattle.text.specs.Contents.{Stands, Rest, Others, Entry, First}
use Rattle.text.proofs.Laws.Ends.{ends_rest}
use Rattle.text.proofs.Laws.Spaces.{space_is}
use Rattle.text.proofs.Laws.Starts.{elements_start, members_start}
use Rattle.text.proofs.Laws.Once.Readings.{moved}

-- the first of some elements
first_of : {s : List ℕ} {i j e : ℕ} {ts : Values} → i < j → depths ts ≤ levels → Reads s (elements ts) j e
    → First s i ts e j
unfolding depth
first_of h d (element {j = k} {t = t} {ts = ts} v r) =
    record {
      head = t;
      tail = ts;
      is = refl;
      stop = k;
      stands = record { reads = v; ends = ends_rest r; shallow = omega arith };
      follows = record { reads = r; shallow = omega arith };
      later = h;
    }

-- behind white space: the end, or what goes on as G says
abbrev Turn : List ℕ → ℕ → (X : Type 0) → X → X → ℕ → ℕ → Type 0 → Type 0
Turn s c X x none e j G = (At s j c × ((x ≡ none) × (j + 1 ≡ e))) ⊎ ((get_or s j 0 ≡ c → ⊥) × ((j < length s) × G))

pub turn_inside : {s : List ℕ} {c : ℕ} {X : Type 0} {x none : X} {e j : ℕ} {G : Type 0} → Turn s c X x none e j G
    → j < length s
turn_inside (inl p) = p.0.inside
turn_inside (inr p) = p.1.0

pub turn_closed : {s : List ℕ} {c : ℕ} {X : Type 0} {x none : X} {e j : ℕ} {G : Type 0} → Turn s c X x none e j G
    → get_or s j 0 ≡ c → (x ≡ none) × (j + 1 ≡ e)
turn_closed (inl p) z = p.1
turn_closed (inr p) z = absurd (p.0 z)

pub turn_open : {s : List ℕ} {c : ℕ} {X : Type 0} {x none : X} {e j : ℕ} {G : Type 0} → Turn s c X x none e j G
    → (get_or s j 0 ≡ c → ⊥) → G
turn_open (inl p) z = absurd (z p.0.is)
turn_open (inr p) z = p.1.1

-- a closing byte at the place where the white space ends
closes : {s : List ℕ} {c : ℕ} {X : Type 0} {none : X} {j k : ℕ} {G : Type 0} → k ≡ j → At s k c
    → Turn s c X none none (k + 1) j G
closes {s} {c} z p = inl (subst (λ (n : ℕ). At s n c) z p, (refl, ap (λ (n : ℕ). n + 1) (sym z)))

list_reads : {s : List ℕ} {v j e : ℕ} {ts : Values} → Done s (ws ∷ []) (v + 1) j → depths ts ≤ levels
    → Reads s (a_value (list ts)) v e → Turn s 93 Values ts no_more e j (First s v ts e j)
unfolding move one_of
list_reads d h (empty_list o w p) = closes (space_is d w p refl) p
list_reads {s} {v} {j} {e} {ts} d h (some_list o w r) =
    let b = elements_start r in
    let z = space_is d w b.at b.black in
    let r' = moved (elements ts) z r in
    let b' = elements_start r' in
    inr (λ q. b'.inner (sym b'.at.is ∙ q), (b'.at.inside, first_of (let l = d.low in omega arith) h r'))

pub list_turn : {s : List ℕ} {v j e : ℕ} {ts : Values} → Done s (ws ∷ []) (v + 1) j → Stands s (list ts) v e
    → Turn s 93 Values ts no_more e j (First s v ts e j)
unfolding depth
list_turn d p = list_reads d (let h = p.shallow in omega arith) p.reads

-- behind an element: white space to j, and behind a comma there white space to whatever place the code finds
rest_reads : {s : List ℕ} {i j e : ℕ} {ts : Values} → Done s (ws ∷ []) i j → depths ts ≤ levels → Reads s (rest ts) i e
    → Turn s 93 Values ts no_more e j ((k : ℕ) → Done s (ws ∷ []) (j + 1) k → First s i ts e k)
unfolding move one_of
rest_reads d h (close_list w p) = closes (space_is d w p refl) p
rest_reads {s} {i} {j} {e} {ts} d h (comma_list {k = l} w o x r) =
    let z = space_is d w o refl in
    let o' = subst (λ (n : ℕ). At s n 44) z o in
    let x' = subst (λ (n : ℕ). Space s (n + 1) l) z x in
    let b = elements_start r in
    inr (
      (let y = o'.is in omega arith),
      (
        o'.inside,
        λ k g. first_of (omega (arith, d.low, g.low)) h (moved (elements ts) (space_is g x' b.at b.black) r),
      ),
    )

pub rest_turn : {s : List ℕ} {i j e : ℕ} {ts : Values} → Done s (ws ∷ []) i j → Rest s ts i e
    → Turn s 93 Values ts no_more e j ((k : ℕ) → Done s (ws ∷ []) (j + 1) k → First s i ts e k)
rest_turn d p = rest_reads d p.shallow p.reads

-- ---- objects

object_reads : {s : List ℕ} {v j e : ℕ} {ms : Members} → Done s (ws ∷ []) (v + 1) j → depthm ms ≤ levels
    → Reads s (a_value (object ms)) v e → Turn s 125 Members ms no_members e j (Entry s ms j e)
unfolding move one_of
object_reads d h (empty_object o w p) = closes (space_is d w p refl) p
object_reads {s} {v} {j} {e} {ms} d h (some_object o w r) =
    let z = space_is d w (members_start r) refl in
    let r' = moved (members ms) z r in
    let b = members_start r' in
    inr ((let y = b.is in omega arith), (b.inside, record { reads = r'; shallow = h }))

pub object_turn : {s : List ℕ} {v j e : ℕ} {ms : Members} → Done s (ws ∷ []) (v + 1) j → Stands s (object ms) v e
    → Turn s 125 Members ms no_members e j (Entry s ms j e)
unfolding depth
object_turn d p = object_reads d (let h = p.shallow in omega arith) p.reads

more_reads : {s : List ℕ} {i j e : ℕ} {ms : Members} → Done s (ws ∷ []) i j → depthm ms ≤ levels → Reads s (more ms) i e
    → Turn s 125 Members ms no_members e j ((k : ℕ) → Done s (ws ∷ []) (j + 1) k → Entry s ms k e)
unfolding move one_of
more_reads d h (close_object w p) = closes (space_is d w p refl) p
more_reads {s} {i} {j} {e} {ms} d h (comma_object {k = l} w o x r) =
    let z = space_is d w o refl in
    let o' = subst (λ (n : ℕ). At s n 44) z o in
    let x' = subst (λ (n : ℕ). Space s (n + 1) l) z x in
    inr (
      (let y = o'.is in omega arith),
      (
        o'.inside,
        λ k g. record { reads = moved (members ms) (space_is g x' (members_start r) refl) r; shallow = h },
      ),
    )

pub more_turn : {s : List ℕ} {i j e : ℕ} {ms : Members} → Done s (ws ∷ []) i j → Others s ms i e
    → Turn s 125 Members ms no_members e j ((k : ℕ) → Done s (ws ∷ []) (j + 1) k → Entry s ms k e)
more_turn d p = more_reads d p.shallow p.reads
