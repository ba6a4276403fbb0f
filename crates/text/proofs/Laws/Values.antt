-- How lists and objects are opened, entered and gone on with, both by one law each.
use mathlib.Core.Path.{◌≡◌, refl, sym, ap, ◌∙◌, subst}
use mathlib.Core.List.{List, [], ◌∷◌, ◌++◌}
use Prim.Native.Nat.{ℕ, zero, suc, ◌+◌, ◌-◌, ◌≤◌, ◌<◌}
use native.Mathlib.Omega.{arith}
use native.Mathlib.Numerals.{sub-one}
use lib.ListN.{length, get_or}
use Rattle.text.specs.Json.{levels}
use Rattle.text.specs.Machine.{go, ws, value, first, next, before, inner, close, opener, opens}
use Rattle.text.specs.Machine.{optional, ends, from, verdict_at, verdict}
use Rattle.text.specs.Reading.{Leads, Done, Falls, Goes, Opens, Enters, Begins, Followed, Follows}
use Rattle.std.specs.Prelude.{Result, Ok, Err}
use Rattle.std.specs.Result.{result_map_both}
use Rattle.text.specs.declared.fault.Fault.{Fault}
use Rattle.text.specs.declared.fault.Fault.TheVariants.{Breaks, Deep}
use Rattle.text.specs.declared.scan.Shape.{Shape}
use Rattle.text.specs.declared.scan.Shape.TheVariants.{List as list, Object as object}
use Rattle.text.specs.declared.scan.Begun.{Begun}
use Rattle.text.specs.declared.scan.Begun.TheVariants.{Ends, Inner}
use Rattle.text.specs.declared.scan.Next.{Next}
use Rattle.text.specs.declared.scan.Next.TheVariants.{Inner as Another, Closed}
use Rattle.text.proofs.Laws.Reading.{stay, seq, frame, fall, fall_frame, takes, refuses}
use Rattle.text.proofs.Laws.Reading.{sinks, stops, alike, from_empty}
use Rattle.text.proofs.Laws.Places.{past_end}
use Rattle.text.proofs.Laws.Moves.Values.{value_opens, first_close, next_close, next_comma, next_not}
use Rattle.text.proofs.Laws.Moves.Owing.{first_enters}

-- ---- before an inner value

pub before_list : {s : List ℕ} {i : ℕ} {sh : Shape} → sh ≡ list → i ≤ length s → Done s (before sh) i i
before_list {s} {i} e h = rw e (stay s [] i h)

-- ---- behind an opening byte

module _ {s : List ℕ} {sh : Shape} {a i : ℕ} (w : Done s (ws ∷ []) a i) where
  to_first : (n : ℕ) → Leads s (ws ∷ first sh n ∷ []) a (first sh n ∷ []) i
  to_first n = frame (first sh n ∷ []) w

  pub opened_short : length s ≤ i → Opens s sh a (Err (Breaks i))
  unfolding optional
  opened_short h = record { at_any = λ n. fall (to_first n) (stops (first sh n) [] (omega (arith, w.high)) refl) }

  pub opened_empty : i < length s → get_or s i 0 ≡ close sh → Opens s sh a (Ok (Ends (i + 1)))
  opened_empty h e =
      record { at_any = λ n. seq (to_first n) (takes (first sh n) [] [] h (first_close (get_or s i 0) sh n e)) }

  pub to_inner : i < length s → (get_or s i 0 ≡ close sh → ⊥) → (n : ℕ)
      → Leads s (ws ∷ first sh n ∷ []) a (before sh ++ inner sh n) i
  to_inner h e n =
      seq (to_first n) (alike (first sh n ∷ []) (before sh ++ inner sh n) h (first_enters (get_or s i 0) sh n e))

  pub opened_inner : {n : ℕ} → i < length s → (get_or s i 0 ≡ close sh → ⊥) → Done s (before sh) i n
      → Opens s sh a (Ok (Inner n sh))
  opened_inner h e d = record { at_any = λ m. (refl, seq (to_inner h e m) (frame (inner sh m) d)) }

  pub opened_fails : {f : Fault} → i < length s → (get_or s i 0 ≡ close sh → ⊥) → Falls s (before sh) i f
      → Opens s sh a (Err f)
  opened_fails h e d = record { at_any = λ m. fall (to_inner h e m) (fall_frame (inner sh m) d) }

-- ---- a value that opens a level

opens_more : (sh : Shape) (n : ℕ) → (n ≡ 0 → ⊥) → opens sh n ≡ go (ws ∷ first sh (n - 1) ∷ [])
opens_more sh zero h = absurd (h refl)
opens_more sh (suc n) h = rw (sub-one (suc n))

module _ {s : List ℕ} {n i : ℕ} (sh : Shape) (h : i < length s) (o : get_or s i 0 ≡ opener sh) where
  pub begins_deep : n ≡ 0 → Begins s n i (Err Deep)
  begins_deep z = sinks (value n) [] h (value_opens (get_or s i 0) n sh o ∙ ap (opens sh) z)

  pub to_opened : (n ≡ 0 → ⊥) → Leads s (value n ∷ []) i (ws ∷ first sh (n - 1) ∷ []) (i + 1)
  to_opened z = takes (value n) [] (ws ∷ first sh (n - 1) ∷ []) h (value_opens (get_or s i 0) n sh o ∙ opens_more sh n z)

  pub begins_opened : (r : Result Begun Fault) → (n ≡ 0 → ⊥) → Opens s sh (i + 1) r → Begins s n i r
  begins_opened (Err f) z w = fall (to_opened z) (w.at_any (n - 1))
  begins_opened (Ok (Ends e)) z w = seq (to_opened z) (w.at_any (n - 1))
  begins_opened (Ok (Inner j sh')) z w =
      let at = w.at_any (n - 1) in
      record {
        left = omega arith;
        leads = subst (λ (x : Shape). Leads s (value n ∷ []) i (inner x (n - 1)) j) (sym at.0)
            (seq (to_opened z) at.1);
      }

-- a value without an inner value begins and ends as one part
pub begins_ends : (s : List ℕ) (n a : ℕ) (r : Result ℕ Fault) (q : Result Begun Fault)
    → q ≡ result_map_both Ends (λ f. f) r → Goes s (value n ∷ []) a r → Begins s n a q
begins_ends s n a (Ok e) q z g = subst (λ (x : Result Begun Fault). Begins s n a x) (sym z) g
begins_ends s n a (Err f) q z g = subst (λ (x : Result Begun Fault). Begins s n a x) (sym z) g

-- ---- behind an inner value

pub next_goes : {s : List ℕ} {i : ℕ} (sh : Shape) (n : ℕ) → i < length s → get_or s i 0 ≡ 44
    → Leads s (next sh n ∷ []) i (ws ∷ (before sh ++ inner sh n)) (i + 1)
next_goes {s} {i} list n h e = takes (next list n) [] (ws ∷ inner list n) h (next_comma (get_or s i 0) list n e)
next_goes {s} {i} object n h e =
    takes (next object n) [] (ws ∷ (before object ++ inner object n)) h (next_comma (get_or s i 0) object n e)

module _ {s : List ℕ} {sh : Shape} {a i : ℕ} (w : Done s (ws ∷ []) a i) where
  to_next : (n : ℕ) → Leads s (ws ∷ next sh n ∷ []) a (next sh n ∷ []) i
  to_next n = frame (next sh n ∷ []) w

  pub follow_short : length s ≤ i → Follows s sh a (Err (Breaks i))
  unfolding optional
  follow_short h = record { at_any = λ n. fall (to_next n) (stops (next sh n) [] (omega (arith, w.high)) refl) }

  pub follow_close : i < length s → get_or s i 0 ≡ close sh → Follows s sh a (Ok (Closed (i + 1)))
  follow_close h e =
      record { at_any = λ n. seq (to_next n) (takes (next sh n) [] [] h (next_close (get_or s i 0) sh n e)) }

  pub follow_wrong : i < length s → (get_or s i 0 ≡ close sh → ⊥) → (get_or s i 0 ≡ 44 → ⊥)
      → Follows s sh a (Err (Breaks i))
  follow_wrong h e f =
      record { at_any = λ n. fall (to_next n) (refuses (next sh n) [] h (next_not (get_or s i 0) sh n e f)) }

  module _ {j : ℕ} (h : i < length s) (e : get_or s i 0 ≡ 44) (x : Done s (ws ∷ []) (i + 1) j) where
    to_heading : (n : ℕ) → Leads s (ws ∷ next sh n ∷ []) a (before sh ++ inner sh n) j
    to_heading n = seq (seq (to_next n) (next_goes sh n h e)) (frame (before sh ++ inner sh n) x)

    pub follow_inner : {m : ℕ} → Done s (before sh) j m → Follows s sh a (Ok (Another m))
    follow_inner d =
        record {
          at_any = λ n. record {
            later = omega (arith, w.low, x.low, d.low);
            leads = seq (to_heading n) (frame (inner sh n) d);
          };
        }

    pub follow_fails : {f : Fault} → Falls s (before sh) j f → Follows s sh a (Err f)
    follow_fails d = record { at_any = λ n. fall (to_heading n) (fall_frame (inner sh n) d) }

-- ---- a value with inner values

module _ {s : List ℕ} {n a i m : ℕ} {sh : Shape} (w : Enters s n a sh i) (d : Done s (value (n - 1) ∷ []) i m) where
  behind : Leads s (value n ∷ []) a (ws ∷ next sh (n - 1) ∷ []) m
  behind = seq w.leads (frame (ws ∷ next sh (n - 1) ∷ []) d)

  pub inner_stops : {f : Fault} → Follows s sh m (Err f) → Falls s (value n ∷ []) a f
  inner_stops f = fall behind (f.at_any (n - 1))

  module _ {q : Next} (f : Follows s sh m (Ok q)) where
    told : (r : Next) → q ≡ r → Followed s sh m (Ok r) (n - 1)
    told r e = subst (λ (x : Next). Followed s sh m (Ok x) (n - 1)) e (f.at_any (n - 1))

    pub inner_more : {j : ℕ} → q ≡ Another j → Enters s n a sh j
    inner_more e = record { left = w.left; leads = seq behind (told (Another _) e).leads }

    pub inner_later : {j : ℕ} → q ≡ Another j → i < j
    inner_later e = omega (arith, d.low, (told (Another _) e).later)

    pub inner_closed : {e : ℕ} → q ≡ Closed e → Done s (value n ∷ []) a e
    inner_closed z = seq behind (told (Closed _) z)

-- ---- a whole text

module _ {s : List ℕ} {i : ℕ} (w : Done s (ws ∷ []) 0 i) where
  pub verdict_fails : {f : Fault} → Falls s (value levels ∷ []) i f → Err f ≡ verdict s
  unfolding verdict_at
  verdict_fails d = sym ((fall (frame (value levels ∷ ws ∷ []) w) (fall_frame (ws ∷ []) d)).goes [])

  pub verdict_on : {n : ℕ} → Done s (value levels ∷ []) i n → from (ws ∷ []) s n ≡ verdict s
  unfolding verdict_at
  verdict_on d = sym ((seq (frame (value levels ∷ ws ∷ []) w) (frame (ws ∷ []) d)).goes [])

module _ {s : List ℕ} {a j : ℕ} (d : Done s (ws ∷ []) a j) where
  pub ended_breaks : j < length s → Err (Breaks j) ≡ from (ws ∷ []) s a
  ended_breaks h = sym (d.goes [] ∙ past_end s j h)

  pub ended_whole : length s ≤ j → Ok tt ≡ from (ws ∷ []) s a
  unfolding ends
  ended_whole h = sym (d.goes [] ∙ from_empty [] s j (omega (arith, d.high)))
