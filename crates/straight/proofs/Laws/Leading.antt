-- Marks and values passed, as the reader of the text layer sees it: what it owes at the place behind them.
use mathlib.Core.Path.{◌≡◌, refl}
use mathlib.Core.Logic.{inl}
use mathlib.Core.List.{List, [], ◌∷◌, ◌++◌}
use Prim.Native.Nat.{ℕ, suc, ◌≤◌}
use native.Mathlib.Omega.{arith}
use lib.ListN.{get_or}
use Rattle.chars.specs.Base.{At, one_of}
use Rattle.text.specs.Json.{Json, depth, a_value, Reads}
use Rattle.text.specs.Contents.{Ends}
use Rattle.text.specs.Machine.{ws, byte, value, first, next, before, inner, opener, close, move}
use Rattle.text.specs.Reading.{Leads}
use Rattle.text.specs.declared.scan.Shape.{Shape}
use Rattle.text.specs.declared.scan.Shape.TheVariants.{Object}
use Rattle.text.proofs.Laws.Reading.{takes_at, seq, frame, alike}
use Rattle.text.proofs.Laws.Moves.Bytes.{byte_is}
use Rattle.text.proofs.Laws.Moves.Values.{value_opens}
use Rattle.text.proofs.Laws.Moves.Owing.{first_enters}
use Rattle.text.proofs.Laws.Values.{next_goes}
use Rattle.text.proofs.Laws.Spaces.{space_done}
use Rattle.text.proofs.Laws.Ends.{ends_space}
use Rattle.text.proofs.Laws.Complete.{quoted_done, reads_done, Shut, shut_done}
use Rattle.straight.specs.Marks.{Opened, Parted, Named}

module _ {s : List ℕ} where
  -- behind an opening byte, where no closing one stands
  pub opened_inner : {v i b : ℕ} (sh : Shape) (n : ℕ) → Opened s (opener sh) v i → At s i b
      → (get_or s i 0 ≡ close sh → ⊥) → Leads s (value (suc n) ∷ []) v (before sh ++ inner sh n) i
  opened_inner {i = i} sh n o p h =
      seq (takes_at (value (suc n)) [] o.at (ws ∷ first sh n ∷ []) (value_opens (opener sh) (suc n) sh refl))
      (seq (frame (first sh n ∷ []) o.all)
      (alike (first sh n ∷ []) (before sh ++ inner sh n) p.inside (first_enters (get_or s i 0) sh n h)))

  -- behind a name and its colon
  pub named_inner : {w : List ℕ} {i v : ℕ} (n : ℕ) → Named s w i v
      → Leads s (before Object ++ inner Object n) i (inner Object n) v
  unfolding move one_of
  named_inner n p =
      seq (frame (ws ∷ byte 58 ∷ ws ∷ inner Object n) (quoted_done p.name))
      (seq (frame (byte 58 ∷ ws ∷ inner Object n) (space_done p.colon.before p.colon.at refl))
      (seq (takes_at (byte 58) (ws ∷ inner Object n) p.colon.at [] (byte_is 58 58 refl))
      (frame (inner Object n) p.colon.all)))

  -- behind an inner value: one behind which no number goes on, or one that ends with a byte of its own
  pub value_behind : {t : Json} {v e : ℕ} (sh : Shape) (n : ℕ) → Reads s (a_value t) v e → depth t ≤ n → Ends s e
      → Leads s (inner sh n) v (ws ∷ next sh n ∷ []) e
  value_behind sh n r h c = frame (ws ∷ next sh n ∷ []) (reads_done n r h c)

  pub shut_behind : {t : Json} {v e : ℕ} (sh : Shape) (n : ℕ) → Shut t → Reads s (a_value t) v e → depth t ≤ n
      → Leads s (inner sh n) v (ws ∷ next sh n ∷ []) e
  shut_behind sh n c r h = frame (ws ∷ next sh n ∷ []) (shut_done n c r h)

  module _ {e c : ℕ} (p : Parted s 44 e c) where
    -- behind a comma
    pub parted_inner : (sh : Shape) (n : ℕ) → Leads s (ws ∷ next sh n ∷ []) e (before sh ++ inner sh n) c
    unfolding move one_of
    parted_inner sh n =
        seq (frame (next sh n ∷ []) (space_done p.before p.at refl))
        (seq (next_goes sh n p.at.inside p.at.is) (frame (before sh ++ inner sh n) p.all))

    pub parted_ends : Ends s e
    parted_ends = ends_space 44 (inl (inl (omega arith))) p.before p.at

    -- from one name to the next
    pub member_leads : {w : List ℕ} {t : Json} {i v : ℕ} (n : ℕ) → Named s w i v → Reads s (a_value t) v e
        → depth t ≤ n → Leads s (before Object ++ inner Object n) i (before Object ++ inner Object n) c
    member_leads n m r h =
        seq (named_inner n m) (seq (value_behind Object n r h parted_ends) (parted_inner Object n))
