-- By the number that the list has for the slot; a Deny entry is not charged, and what is covered changes nothing.
use mathlib.Core.Path.{sym, subst}
use mathlib.Core.List.{List}
use Prim.Native.Nat.{ℕ, ◌≤◌}
use native.Mathlib.Omega.{arith}
use lib.ListN.{length}
use Rattle.syntax.specs.Limits.{entry_characters}
use Rattle.rooms.proofs.Laws.Handling.{as_alone, as_wild, as_bound, not_denied, wild_texted, charged_at}
use Rattle.rooms.proofs.Laws.HandlingRows.{bound_value, wild_value, number_lies, text_lies, text_short}
use Rattle.rooms.proofs.Laws.HandlingRows.{fed_alone, number_of, fed_bound, text_of_lem, fed_wild, row_numbers_lem}
use Rattle.rooms.proofs.Laws.HandlingRows.{row_texts}
use Rattle.rooms.proofs.Laws.Already.{wild_meets, fed_covered}
use Rattle.rooms.proofs.walking.charge_row.Goals as goal

pub returns-in-Itself : goal.returns-in-Itself
returns-in-Itself c =
    λ s y a l r f. fed_alone s y _ f (as_alone a c.in-Itself.is) c.put_mark.ensures

pub number_at-requires : goal.number_at-requires
number_at-requires c =
    let bound = as_bound c.requires.stands c.in-Number.is in
    let told = bound_value bound c.requires.value c.requires.right in
    record { thing = told.value; lies = number_lies c.requires.lies told }

pub charge_bound-requires : goal.charge_bound-requires
charge_bound-requires c =
    let bound = as_bound c.requires.stands c.in-Number.is in
    row_numbers_lem c.requires.slot _ c.requires.fits bound

pub returns-in-Number : goal.returns-in-Number
returns-in-Number c =
    λ s y a l r f.
    let b = as_bound a c.in-Number.is in
    let t = bound_value b y r in
    let w = number_of s _ f b in
    fed_bound s y _ f b t (c.number_at.ensures t.value (number_lies l t)) (c.charge_bound.ensures b.most _ w.numeric w.is)

pub bounds-run-note : goal.bounds-run-note
bounds-run-note c =
    let wild = as_wild c.requires.stands c.in-Wild.is in
    let symbols = wild_texted c.requires.stands wild in
    symbols.inside

pub overflow_cast-to : goal.overflow_cast-to
overflow_cast-to c =
    let wild = as_wild c.requires.stands c.in-Wild.is in
    let symbols = wild_texted c.requires.stands wild in
    omega (arith, symbols.ends, symbols.bounded)

pub overflow_add-to : goal.overflow_add-to
overflow_add-to c =
    let wild = as_wild c.requires.stands c.in-Wild.is in
    let symbols = wild_texted c.requires.stands wild in
    omega (arith, symbols.ends, symbols.bounded)

pub bounds-request-v : goal.bounds-request-v
bounds-request-v c =
    let wild = as_wild c.requires.stands c.in-Wild.is in
    let text = wild_value wild c.requires.value c.requires.right in
    let lent = text_lies c.requires.lies text in
    lent.inside

pub overflow_cast-b : goal.overflow_cast-b
overflow_cast-b c =
    let wild = as_wild c.requires.stands c.in-Wild.is in
    let text = wild_value wild c.requires.value c.requires.right in
    let lent = text_lies c.requires.lies text in
    omega (arith, lent.ends, lent.bounded)

pub overflow_add-b : goal.overflow_add-b
overflow_add-b c =
    let wild = as_wild c.requires.stands c.in-Wild.is in
    let text = wild_value wild c.requires.value c.requires.right in
    let lent = text_lies c.requires.lies text in
    omega (arith, lent.ends, lent.bounded)

pub slice_bounds-covers-end : goal.slice_bounds-covers-end
slice_bounds-covers-end c =
    let wild = as_wild c.requires.stands c.in-Wild.is in
    let text = wild_value wild c.requires.value c.requires.right in
    let lent = text_lies c.requires.lies text in
    lent.ends

pub covers-requires : goal.covers-requires
covers-requires c =
    let wild = as_wild c.requires.stands c.in-Wild.is in
    row_texts c.requires.slot _ c.requires.fits c.requires.size wild

pub returns-else-not-covers : goal.returns-else-not-covers
returns-else-not-covers c =
    λ s y a l r f.
    let v = as_wild a c.in-Wild.is in
    let t = wild_value v y r in
    let e = (text_lies l t).is in
    fed_covered v t r c.requires.size f e (c.covers.ensures s.place v.symbols (wild_meets v t r e)
    c.if-not-covers.false)

pub slice_bounds-charge_wild-end : goal.slice_bounds-charge_wild-end
slice_bounds-charge_wild-end c =
    let wild = as_wild c.requires.stands c.in-Wild.is in
    let symbols = wild_texted c.requires.stands wild in
    symbols.ends

pub charge_wild-requires : goal.charge_wild-requires
charge_wild-requires c =
    let wild = as_wild c.requires.stands c.in-Wild.is in
    let text = wild_value wild c.requires.value c.requires.right in
    let lent = text_lies c.requires.lies text in (
      subst (λ (cs : List ℕ). length cs ≤
          entry_characters) (sym lent.is) (text_short c.requires.right.short text),
      row_texts c.requires.slot _
          c.requires.fits c.requires.size wild,
    )

pub returns-then-not-covers : goal.returns-then-not-covers
returns-then-not-covers c =
    λ s y a l r f.
    let v = as_wild a c.in-Wild.is in
    let t = wild_value v y r in
    let w = text_of_lem s _ f c.requires.size v in
    fed_wild s y _ f v t (wild_texted a v).is (text_lies l t).is
    (charged_at _ _ _ a.placed (c.charge_wild.ensures _ w.textual w.is))

pub returns-in-Nothing : goal.returns-in-Nothing
returns-in-Nothing c = λ s y a l r f. absurd (not_denied a r.allows c.in-Nothing.is)
