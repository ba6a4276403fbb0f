-- A row that covers a value stays as it is when the value is charged: what it holds is the least candidate of both.
use mathlib.Core.Path.{◌≡◌, refl, sym, ap, ◌∙◌, subst}
use mathlib.Core.Bool.{Bool, true}
use mathlib.Core.Logic.{inl, ⊎_elim}
use mathlib.Core.List.{List}
use Prim.Native.Nat.{ℕ}
use lib.Dec.{eqb}
use lib.ListN.{length, get_or}
use Rattle.syntax.specs.Policy.{star, Value, text}
use Rattle.syntax.specs.Forms.{both, same}
use Rattle.held.proofs.Laws.Parts.{IsText}
use Rattle.decision.specs.Decision.{found}
use Rattle.candidates.specs.Candidates.{Candidate, Content, empty, holds, Kind, Covers, Lawful}
use Rattle.candidates.specs.Candidates.{charged, is_content, Covered}
use Rattle.candidates.specs.Beginnings.{begins}
use Rattle.candidates.specs.Kinds.{texts_cover}
use Rattle.candidates.specs.Entries.{Place, meets_at, wildcards, last_of, wild_kind}
use Rattle.candidates.specs.Rows.{row_numbers, row, content_of}
use Rattle.candidates.proofs.Laws.Bounds.{pick_case}
use Rattle.candidates.proofs.Laws.Entries.{lawful, whole_meets}
use Rattle.candidates.proofs.Laws.Fitting.{itself_is, single_is, under_is}
use Rattle.candidates.proofs.Laws.FittingText.{part, part_is}
use Rattle.rooms.specs.Rooms.{Slot, slot_kind, row_fits, row_fed}
use Rattle.rooms.specs.Walking.{Chargeable}
use Rattle.rooms.proofs.Laws.Handling.{Wild, made}
use Rattle.rooms.proofs.Laws.HandlingRows.{kind_row, row_back}

-- ---- what is held already

charged_covered :
    {k : Kind} → Lawful k → (c : Content) (v : Value) → is_content k c ≡ true → Covers k k.whole v → Covered k c v
    → charged k c v ≡ c
charged_covered w empty v i m h = absurd h
charged_covered {k} w (holds a) v i m h =
    let l = w.least v m in
    let j = w.join a (k.least v) i l.among in
    let only_v = l.least a i (λ u e. subst (Covers k a) (sym e) h) in
    ap holds
    (w.same (k.join a (k.least v)) a j.among i (j.least a i (λ u e. ⊎_elim (λ x. x) (only_v u) e))
    (λ u x. j.all u (inl x)))

-- ---- what a row covers, by its mark

abbrev AsTexts : (Value → Bool) → Kind → Type 0
AsTexts m k = (c : Candidate) (v : Value) → k.covers c v ≡ texts_cover m c v

wild_covers : (p : Place) (ys : List ℕ) → AsTexts (meets_at p (text ys)) (wild_kind p ys)
unfolding wild_kind
wild_covers p ys =
    pick_case (AsTexts (meets_at p (text ys))) (eqb (wildcards ys) 0) _ _ (λ e c v. refl)
    (λ n. pick_case (AsTexts (meets_at p (text ys))) (both (eqb (wildcards ys) 1) (eqb (last_of ys) star)) _ _
    (λ e c v. refl) (λ e c v. refl))

module _ (p : Place) (ys xs vs : List ℕ) where
  holding : (c : Candidate) → content_of xs ≡ holds c → texts_cover (meets_at p (text ys)) c (text vs) ≡ true
      → Covered (wild_kind p ys) (content_of xs) (text vs)
  holding c e h =
      subst (λ (d : Content). Covered (wild_kind p ys) d (text vs)) (sym e) (wild_covers p ys c (text vs) ∙ h)

  pub itself_covers : length xs ≡ row_numbers → get_or xs 0 0 ≡ 1 → meets_at p (text ys) (text vs) ≡ true
      → Covered (wild_kind p ys) (content_of xs) (text vs)
  itself_covers n e m = holding _ (itself_is (wild_kind p ys) xs n e) m

  pub single_covers : get_or xs 0 0 ≡ 2 → same (part xs) vs ≡ true → Covered (wild_kind p ys) (content_of xs) (text vs)
  single_covers e h = holding _ (single_is xs e) (ap (λ (t : List ℕ). same t vs) (sym (part_is xs)) ∙ h)

  pub under_covers : get_or xs 0 0 ≡ 3 → begins (part xs) vs ≡ true → Covered (wild_kind p ys) (content_of xs) (text vs)
  under_covers e h = holding _ (under_is xs e) (ap (λ (q : List ℕ). begins q vs) (sym (part_is xs)) ∙ h)

-- ---- the row of a slot

module _ {s : Slot} {y : Value} (w : Wild s) (t : IsText y) (r : Chargeable s y) where
  pub wild_meets : {vs : List ℕ} → vs ≡ t.characters → meets_at s.place (text w.symbols) (text vs) ≡ true
  wild_meets e =
      ap (λ (v : Value). meets_at s.place (text w.symbols) v) (ap text e ∙ sym t.is)
      ∙ ap (λ (x : Value). meets_at s.place x y) (sym w.is) ∙ r.meets

  pub fed_covered : {vs xs : List ℕ} → length xs ≡ row_numbers → row_fits s xs ≡ true → vs ≡ t.characters
      → Covered (wild_kind s.place w.symbols) (content_of xs) (text vs) → xs ≡ row_fed s (found y) xs
  fed_covered {xs = xs} n f e h =
      let g = subst (λ (k : Kind). Covered k (content_of xs) y) (sym w.kind)
      (subst (Covered (wild_kind s.place w.symbols) (content_of xs)) (ap text e ∙ sym t.is) h) in
      row_back s xs n f
      ∙ ap row
      (sym (charged_covered (lawful s.place s.entry) (content_of xs) y
      (made (slot_kind s) xs (kind_row s xs w.allows refl f)) (whole_meets s.place s.entry y ∙ r.meets) g))
