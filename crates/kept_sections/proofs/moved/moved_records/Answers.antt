use Rattle.std.proofs.Common.{◌≡◌, ◌*◌, ◌∙◌, List, ℕ, ap, inl, inr, length, refl, subst, sym}
use Rattle.std.specs.Prelude.{IsSome, sum}
use Rattle.bit_array.specs.Element.{words_of}
use Rattle.row_packing.specs.Chosen.{shape_at}
use Rattle.kept_sections.specs.Moved.{AreCopied}
use Rattle.kept_sections.proofs.MovedPlaces.{CanMoveTo, can_move_to, few_kept, moved_packed, place_in, room_at, section_is}
use Rattle.kept_sections.proofs.MovedRows.{written_over}
use Rattle.kept_sections.proofs.moved.moved_records.Given.{Over}
use Rattle.kept_sections.proofs.moved.moved_records.Goals.{After-as_mut_slice, After-place_count-2}
use Rattle.kept_sections.proofs.moved.moved_records.Goals as goal

-- what the moves start from
start : (g : Over) (c : After-place_count-2 g) → CanMoveTo (shape_at (g.B.Rows.schemas c.args.new.now) c.args.type_index) c.as_slice-widths.result.now c.as_slice.result.now c.args.kept.now.packed.areas
    (g.A.Rows.table c.args.old.now) (g.B.Rows.table c.args.new.now) c.args.type_index c.place_count.result c.place_count-2.result
start g c =
    can_move_to (shape_at (g.B.Rows.schemas c.args.new.now) c.args.type_index) (g.A.Rows.table c.args.old.now) (g.B.Rows.table c.args.new.now) c.args.type_index c.args.kept.now c.args.chosen.now c.as_slice-widths.result.now
    c.as_slice.result.now c.place_count.result c.place_count-2.result c.requires.can c.requires.kept c.requires.greatest c.requires.room c.as_slice-widths.ensures c.as_slice.ensures c.place_count.ensures.is c.place_count-2.ensures.is

-- the words for the new state's places
long : (g : Over) (c : After-as_mut_slice g) → length c.as_mut_slice.result.now ≡ words_of (c.place_count-2.result * sum c.as_slice-widths.result.now)
long g c = ap (λ (f : List ℕ). length f) c.as_mut_slice.ensures.value ∙ c.in_ok-first.ensures.long

pub copied_words-requires-clause-source : goal.copied_words-requires-clause-source
copied_words-requires-clause-source g c = (start g c).kept.words

pub copied_words-requires-clause-counted : goal.copied_words-requires-clause-counted
copied_words-requires-clause-counted g c = few_kept c.as_slice-widths.result.now c.place_count.result (start g c).few.narrow c.place_count.ensures.small

pub copied_words-requires-clause-room : goal.copied_words-requires-clause-room
copied_words-requires-clause-room g c = (start g c).few.counted

pub replace_records-requires-clause-places : goal.replace_records-requires-clause-places
replace_records-requires-clause-places g c =
    let to = start g (goal.at.replace_records-requires-clause-places g c).After-place_count-2 in
    λ ordinal live. place_in c.as_slice-widths.result.now c.as_mut_slice.result.now c.place_count-2.result ordinal (long g c) to.few.counted (to.placed ordinal (inl live))

pub replace_records-requires-clause-room : goal.replace_records-requires-clause-room
replace_records-requires-clause-room g c =
    let shape = shape_at (g.B.Rows.schemas c.args.new.now) c.args.type_index in
    let to = start g (goal.at.replace_records-requires-clause-room g c).After-place_count-2 in
    λ ordinal row stands. room_at shape c.as_slice-widths.result.now c.as_mut_slice.result.now (g.B.Rows.table c.args.new.now) c.args.type_index c.place_count-2.result ordinal row to.fixed to.can (long g c) stands
    (to.placed ordinal (inr (subst IsSome (sym stands) refl)))

pub returns : goal.returns
returns g c =
    let shape = shape_at (g.B.Rows.schemas c.args.new.now) c.args.type_index in
    let new = g.B.Rows.table c.args.new.now in
    let t = c.args.type_index in
    let areas = c.args.kept.now.packed.areas in
    let widths = c.as_slice-widths.result.now in
    let before = c.place_count.result in
    let places = c.place_count-2.result in
    let to = start g (goal.at.returns g c).After-place_count-2 in
    let after = c.replace_records.new.first in
    let copies = subst (λ (f : List ℕ). AreCopied widths c.as_slice.result.now before places f) (sym c.as_mut_slice.ensures.value) c.in_ok-first.ensures in
    let packed = moved_packed shape widths c.as_slice.result.now areas (g.A.Rows.table c.args.old.now) new t before places c.as_mut_slice.result.now after copies c.in_ok-replace_records.ensures to.fixed to.few.long to.kept c.requires.agree to.was_placed to.can to.placed in
    let over = c.from_vec.ensures ∙ written_over after _ _ (sym (c.replace_records.auto.first ∙ c.as_mut_slice.ensures.len)) in
    section_is shape new t c.args.chosen.now widths after c.from_vec.result c.new.result areas c.in_ok-areas.areas places to.object c.as_slice-widths.ensures c.place_count-2.ensures.is over c.new.ensures c.in_ok-areas.ensures packed
