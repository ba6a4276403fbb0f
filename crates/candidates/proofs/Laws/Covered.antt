-- What rows cover, an empty one nothing: a row that is right for some values covers them, and no more than any other
-- row that does. Charging on and joining a part's row come to the same, so a room may be fed and joined in any way.
use mathlib.Core.Path.{◌≡◌, refl, sym, ap, ◌∙◌}
use mathlib.Core.Bool.{true}
use mathlib.Core.Logic.{inl, inr, ⊎_elim}
use mathlib.Core.List.Memᴰ
use mathlib.Core.List.{List, [], ◌∷◌}
use Rattle.syntax.specs.Policy.{Value}
use Rattle.candidates.specs.Candidates.{Content, empty, holds, Kind, Covers, Lawful}
use Rattle.candidates.specs.Candidates.{joined, charged, held_from, held, is_content, Covered, Below, Matched, Holds}
use Rattle.candidates.specs.Candidates.{nothing, least}
use Rattle.candidates.proofs.Laws.Contents.{joined_assoc, joined_content, joined_empty, holds_content}
use Rattle.candidates.proofs.Laws.Contents.{held_least}

-- ---- a row that is right

module _ {k : Kind} {S : Value → Type 0} where
  pub holds_covers : {r : Content} → Holds k S r → (v : Value) → S v → Covered k r v
  holds_covers (nothing n) v s = n v s
  holds_covers (least t l) v s = l.all v s

  -- dropping the entry is among the others
  pub holds_below : {r : Content} → Holds k S r → (d : Content) → is_content k d ≡ true
      → ((v : Value) → S v → Covered k d v) → Below k r d
  holds_below (nothing n) d i a v c = absurd c
  holds_below (least {v = u} t l) empty i a v c = absurd (a u t)
  holds_below (least t l) (holds d) i a v c = l.least d i a v c

module _ {k : Kind} (w : Lawful k) where
  pub content_inside : (r : Content) → is_content k r ≡ true → Below k r (holds k.whole)
  content_inside empty i v c = absurd c
  content_inside (holds a) i v c = w.inside a i v c

  -- ---- a joined row

  pub joined_left : (a b : Content) → is_content k a ≡ true → is_content k b ≡ true → Below k a (joined k a b)
  joined_left empty b i j v c = absurd c
  joined_left (holds a) empty i j v c = c
  joined_left (holds a) (holds b) i j v c = (w.join a b i j).all v (inl c)

  pub joined_right : (a b : Content) → is_content k a ≡ true → is_content k b ≡ true → Below k b (joined k a b)
  joined_right empty b i j v c = c
  joined_right (holds a) empty i j v c = absurd c
  joined_right (holds a) (holds b) i j v c = (w.join a b i j).all v (inr c)

  pub joined_below : (a b d : Content) → is_content k a ≡ true → is_content k b ≡ true → is_content k d ≡ true
      → Below k a d → Below k b d → Below k (joined k a b) d
  joined_below empty b d i j h x y v c = y v c
  joined_below (holds a) empty d i j h x y v c = x v c
  joined_below (holds a) (holds b) empty i j h x y v c =
      x v ((w.join a b i j).least a i (λ u e. absurd (⊎_elim (x u) (y u) e)) v c)
  joined_below (holds a) (holds b) (holds d) i j h x y v c =
      (w.join a b i j).least d h (λ u e. ⊎_elim (x u) (y u) e) v c

  -- ---- charging on

  pub charged_content : (r : Content) (v : Value) → is_content k r ≡ true → Covers k k.whole v
      → is_content k (charged k r v) ≡ true
  charged_content r v i c = joined_content w r (holds (k.least v)) i (w.least v c).among

  pub held_content : (vs : List Value) → Matched k vs → is_content k (held k vs) ≡ true
  held_content vs m = holds_content (held_least w vs m)

  -- a row fed on is the row joined with that of what was fed
  pub from_joined : (r : Content) (vs : List Value) → is_content k r ≡ true → Matched k vs
      → held_from k r vs ≡ joined k r (held k vs)
  unfolding held_from
  from_joined r [] i m = sym (joined_empty w r)
  from_joined r (v ∷ vs) i m =
      let c = m v (Memᴰ.head refl) in
      let n : Matched k vs = λ u e. m u (Memᴰ.tail e) in
      let j = (w.least v c).among in
      from_joined (charged k r v) vs (charged_content r v i c) n
      ∙ joined_assoc w r (holds (k.least v)) (held k vs) i j (held_content vs n)
      ∙ ap (joined k r) (sym (from_joined (holds (k.least v)) vs j n))
