-- By the number that the list has for the slot; an entry that has itself alone, and a Deny entry, have no more than a mark.
use native.Mathlib.Omega.{arith}
use Rattle.candidates.specs.Rows.{content_of}
use Rattle.rooms.proofs.Laws.Handling.{as_bound, as_wild, wild_texted, joined_at}
use Rattle.rooms.proofs.Laws.HandlingRows.{row_numbers_lem, row_texts, number_of, text_of_lem, met_bound, met_wild}
use Rattle.rooms.proofs.Laws.HandlingRows.{met_nothing, met_marked}
use Rattle.rooms.proofs.walking.join_row.Goals as goal

pub join_bound-requires : goal.join_bound-requires
join_bound-requires c =
    let bound = as_bound c.requires.stands c.in-Number.is in (
      row_numbers_lem c.requires.slot _ c.requires.fits bound,
      row_numbers_lem c.requires.slot _ c.requires.other
          bound,
    )

pub returns-in-Number : goal.returns-in-Number
returns-in-Number c =
    λ s a f g.
    let b = as_bound a c.in-Number.is in
    let w = number_of s _ f b in
    let z = number_of s _ g b in
    met_bound s _ _ f g b (c.join_bound.ensures b.most _ _ w.numeric z.numeric w.is z.is)

pub bounds-run-note : goal.bounds-run-note
bounds-run-note c =
    let wild = as_wild c.requires.stands c.in-Wild.is in
    let symbols = wild_texted c.requires.stands wild in
    symbols.inside

pub overflow_cast-to : goal.overflow_cast-to
overflow_cast-to c =
    let wild = as_wild c.requires.stands c.in-Wild.is in
    let symbols = wild_texted c.requires.stands wild in
    omega (arith, symbols.ends, symbols.bounded)

pub overflow_add-to : goal.overflow_add-to
overflow_add-to c =
    let wild = as_wild c.requires.stands c.in-Wild.is in
    let symbols = wild_texted c.requires.stands wild in
    omega (arith, symbols.ends, symbols.bounded)

pub slice_bounds-join_wild-end : goal.slice_bounds-join_wild-end
slice_bounds-join_wild-end c =
    let wild = as_wild c.requires.stands c.in-Wild.is in
    let symbols = wild_texted c.requires.stands wild in
    symbols.ends

pub join_wild-requires : goal.join_wild-requires
join_wild-requires c =
    let wild = as_wild c.requires.stands c.in-Wild.is in (
      row_texts c.requires.slot _ c.requires.fits c.requires.size wild,
      row_texts c.requires.slot _ c.requires.other c.requires.same_size wild,
    )

pub returns-in-Wild : goal.returns-in-Wild
returns-in-Wild c =
    λ s a f g.
    let v = as_wild a c.in-Wild.is in
    let w = text_of_lem s _ f c.requires.size v in
    let z = text_of_lem s _ g c.requires.same_size v in
    met_wild s _ _ f g v (wild_texted a v).is (joined_at _ (content_of c.args.row.now) (content_of c.args.other.now) a.placed (c.join_wild.ensures _ _ w.textual z.textual w.is z.is))

pub returns-then-other-ne-EMPTY : goal.returns-then-other-ne-EMPTY
returns-then-other-ne-EMPTY c =
    λ s a f g. met_marked s _ _ f g a c.in-Nothing.is c.if-other-ne-EMPTY.true c.put_mark.ensures

pub returns-else-other-ne-EMPTY : goal.returns-else-other-ne-EMPTY
returns-else-other-ne-EMPTY c =
    λ s a f g. met_nothing s _ _ f g c.requires.size c.if-other-ne-EMPTY.false
