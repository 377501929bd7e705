use Rattle.std.proofs.Common.{List, ℕ, map, ap, sym, subst, ◌∙◌}
use Rattle.std.specs.Prelude.{replicate}
use Rattle.std.proofs.lemmas.List.{length-replicate}
use Rattle.record_copies.specs.Fixed.{HasFront, whole_words}
use Rattle.packed_half.specs.Half.{place_words}
use Rattle.type_rows.specs.Layout.{places_of, words_needed}
use Rattle.type_state.specs.Differences.{differing, removal, removed_of, rows_with}
use Rattle.type_state.specs.Kept.{half_rows}
use Rattle.type_state.specs.Recorded.{AreRecorded, HasPlaces}
use Rattle.type_state.proofs.Comings.{stored_each}
use Rattle.type_state.proofs.FixedHalves.{few_copied, front_cut, half_of_records, has_places}
use Rattle.type_state.proofs.RecordedRows.{same_places}
use Rattle.type_state.proofs.fixed_moves.lay_fixed.Goals as goal

pub copy_places-requires-clause-held : goal.copy_places-requires-clause-held
copy_places-requires-clause-held c =
    let shape = c.args.schema.now.shape in
    let half = c.args.next.now.half in
    let ds = c.args.next.now.differences in
    let old = half_rows shape c.args.current.half.now c.args.current.words.now in
    let rows = rows_with old ds in
    let widths = c.as_slice-widths.result.now in
    let first = c.split_at_mut-first.result.0.now in
    let behind = c.split_at_mut-first.result.1.now in
    let few = few_copied shape c.args.current.half.now half c.args.current.words.now c.requires.object c.requires.kept c.requires.widths in
    let cut = front_cut shape c.args.current.half.now half c.args.current.words.now c.args.words.now first behind c.words_needed.result few c.requires.front (c.words_needed.ensures ∙ ap (λ (w : List ℕ). words_needed shape record { max = half.max; widths = w }) c.as_slice-widths.ensures) c.split_at_mut-first.ensures.front c.split_at_mut-first.ensures.back in
    let held = has_places shape half rows first widths c.place_count-places.result c.requires.object c.requires.fixed c.requires.can cut.long c.as_slice-widths.ensures c.place_count-places.ensures.is in
    held

pub copy_places-requires-clause-front : goal.copy_places-requires-clause-front
copy_places-requires-clause-front c =
    let shape = c.args.schema.now.shape in
    let half = c.args.next.now.half in
    let ds = c.args.next.now.differences in
    let old = half_rows shape c.args.current.half.now c.args.current.words.now in
    let rows = rows_with old ds in
    let widths = c.as_slice-widths.result.now in
    let first = c.split_at_mut-first.result.0.now in
    let behind = c.split_at_mut-first.result.1.now in
    let few = few_copied shape c.args.current.half.now half c.args.current.words.now c.requires.object c.requires.kept c.requires.widths in
    let cut = front_cut shape c.args.current.half.now half c.args.current.words.now c.args.words.now first behind c.words_needed.result few c.requires.front (c.words_needed.ensures ∙ ap (λ (w : List ℕ). words_needed shape record { max = half.max; widths = w }) c.as_slice-widths.ensures) c.split_at_mut-first.ensures.front c.split_at_mut-first.ensures.back in
    let held = has_places shape half rows first widths c.place_count-places.result c.requires.object c.requires.fixed c.requires.can cut.long c.as_slice-widths.ensures c.place_count-places.ensures.is in
    subst
    (λ (n : ℕ). HasFront (whole_words widths (places_of c.args.current.half.now.max) n) c.args.current.words.now first)
    (sym c.place_count-places.ensures.is)
    (subst (λ (w : List ℕ). HasFront (whole_words w (places_of c.args.current.half.now.max) (places_of half.max)) c.args.current.words.now first) (sym c.as_slice-widths.ensures) cut.front)

pub clear_records-requires : goal.clear_records-requires
clear_records-requires c =
    let shape = c.args.schema.now.shape in
    let half = c.args.next.now.half in
    let ds = c.args.next.now.differences in
    let old = half_rows shape c.args.current.half.now c.args.current.words.now in
    let rows = rows_with old ds in
    let widths = c.as_slice-widths.result.now in
    let first = c.split_at_mut-first.result.0.now in
    let behind = c.split_at_mut-first.result.1.now in
    let few = few_copied shape c.args.current.half.now half c.args.current.words.now c.requires.object c.requires.kept c.requires.widths in
    let cut = front_cut shape c.args.current.half.now half c.args.current.words.now c.args.words.now first behind c.words_needed.result few c.requires.front (c.words_needed.ensures ∙ ap (λ (w : List ℕ). words_needed shape record { max = half.max; widths = w }) c.as_slice-widths.ensures) c.split_at_mut-first.ensures.front c.split_at_mut-first.ensures.back in
    let held = has_places shape half rows first widths c.place_count-places.result c.requires.object c.requires.fixed c.requires.can cut.long c.as_slice-widths.ensures c.place_count-places.ensures.is in
    same_places shape widths first c.copy_places.new.first c.place_count-places.result held c.copy_places.auto.first

pub bring_records-requires-clause-widths : goal.bring_records-requires-clause-widths
bring_records-requires-clause-widths c = c.as_slice-widths.ensures ∙ c.requires.of.widths

pub bring_records-requires-clause-stored : goal.bring_records-requires-clause-stored
bring_records-requires-clause-stored c = stored_each (half_rows c.args.schema.now.shape c.args.current.half.now c.args.current.words.now) c.args.next.now.differences c.requires.apart c.requires.can.stored

pub bring_records-requires-clause-held : goal.bring_records-requires-clause-held
bring_records-requires-clause-held c =
    let shape = c.args.schema.now.shape in
    let half = c.args.next.now.half in
    let ds = c.args.next.now.differences in
    let old = half_rows shape c.args.current.half.now c.args.current.words.now in
    let rows = rows_with old ds in
    let widths = c.as_slice-widths.result.now in
    let first = c.split_at_mut-first.result.0.now in
    let behind = c.split_at_mut-first.result.1.now in
    let few = few_copied shape c.args.current.half.now half c.args.current.words.now c.requires.object c.requires.kept c.requires.widths in
    let cut = front_cut shape c.args.current.half.now half c.args.current.words.now c.args.words.now first behind c.words_needed.result few c.requires.front (c.words_needed.ensures ∙ ap (λ (w : List ℕ). words_needed shape record { max = half.max; widths = w }) c.as_slice-widths.ensures) c.split_at_mut-first.ensures.front c.split_at_mut-first.ensures.back in
    let held = has_places shape half rows first widths c.place_count-places.result c.requires.object c.requires.fixed c.requires.can cut.long c.as_slice-widths.ensures c.place_count-places.ensures.is in
    subst (λ s. HasPlaces s widths c.clear_records.new.first c.place_count-places.result) (sym c.requires.of.same)
    (same_places shape widths first c.clear_records.new.first c.place_count-places.result held (c.clear_records.auto.first ∙ c.copy_places.auto.first))

pub returns : goal.returns
returns c =
    let shape = c.args.schema.now.shape in
    let half = c.args.next.now.half in
    let ds = c.args.next.now.differences in
    let old = half_rows shape c.args.current.half.now c.args.current.words.now in
    let rows = rows_with old ds in
    let widths = c.as_slice-widths.result.now in
    let first = c.split_at_mut-first.result.0.now in
    let behind = c.split_at_mut-first.result.1.now in
    let few = few_copied shape c.args.current.half.now half c.args.current.words.now c.requires.object c.requires.kept c.requires.widths in
    let cut = front_cut shape c.args.current.half.now half c.args.current.words.now c.args.words.now first behind c.words_needed.result few c.requires.front (c.words_needed.ensures ∙ ap (λ (w : List ℕ). words_needed shape record { max = half.max; widths = w }) c.as_slice-widths.ensures) c.split_at_mut-first.ensures.front c.split_at_mut-first.ensures.back in
    let held = has_places shape half rows first widths c.place_count-places.result c.requires.object c.requires.fixed c.requires.can cut.long c.as_slice-widths.ensures c.place_count-places.ensures.is in
    let places = c.place_count-places.result in
    let after = c.bring_records.new.first in
    let one : AreRecorded shape widths c.clear_records.new.first places (differing old (removed_of ds)) =
    subst (λ (os : List ℕ). AreRecorded shape widths c.clear_records.new.first places (differing old (map removal os))) c.as_slice-removed.ensures (c.clear_records.ensures old c.copy_places.ensures) in
    let both : AreRecorded shape widths after places rows =
    subst (λ s. AreRecorded s widths c.clear_records.new.first places (differing old (removed_of ds)) → AreRecorded s widths after places rows) c.requires.of.same (c.bring_records.ensures (differing old (removed_of ds))) one in
    half_of_records shape half rows (replicate (place_words shape half) 0) after behind widths places c.requires.object c.requires.can cut.cut (c.bring_records.auto.first ∙ c.clear_records.auto.first ∙ c.copy_places.auto.first ∙ cut.long ∙ sym (length-replicate (place_words shape half) 0)) c.as_slice-widths.ensures c.place_count-places.ensures.is both
