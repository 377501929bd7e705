use Rattle.std.proofs.Common.{◌≡◌, length, get_or, ap, ◌∙◌, arith}
use Rattle.std.specs.Prelude.{slice_index}
use Rattle.std.specs.List.{range_with_len}
use Rattle.object_codec.specs.ObjectPlace.{HoldsPlace}
use Rattle.object_codec.specs.Sound.{IsFirstFault, SpellSome}
use Rattle.object_codec.proofs.Soundness.{was_none, was_some}
use Rattle.type_rows.specs.Patches.{places_in}
use Rattle.type_rows.proofs.RecordFaults.{of_records, to_records}
use Rattle.type_state.proofs.AddedRows.{fault_inside, few_places, holds_each, listed_more, record_failed, records_spelled}
use Rattle.type_state.proofs.added.test_records.Goals as goal

pub loop-place-init : goal.loop-place-init
loop-place-init c = c.in_ok-places.ensures.items

pub overflow_cast-place : goal.overflow_cast-place
overflow_cast-place c =
    let few = few_places c.args.schema.now.shape c.args.patch.now c.loop-place.place c.requires.readable c.requires.rising c.requires.placed (omega arith) in
    omega (arith, few)

pub loop-place-preserved : goal.loop-place-preserved
loop-place-preserved c = listed_more c.loop-place.places.items _ c.loop-place.place c.loop-place.invariant c.in_ok-push.ensures.items

pub first_fault-requires : goal.first_fault-requires
first_fault-requires c = λ k inside.
    let shape = c.args.schema.now.shape in
    let patch = c.args.patch.now in
    let end : c.loop-place.place ≡ length patch.added = omega arith in
    let are : c.as_slice-4.result.now ≡ range_with_len 0 (length patch.added) = c.as_slice-4.ensures.value ∙ c.loop-place.invariant ∙ ap (range_with_len 0) end in
    to_records (λ fields widths first areas. HoldsPlace fields widths first areas (slice_index c.as_slice-4.result.now k)) shape (places_in patch)
    c.fields.result.now c.as_slice.result.now c.as_slice-2.result.now c.as_slice-3.result.now c.fields.ensures c.as_slice.ensures c.as_slice-2.ensures c.as_slice-3.ensures
    (holds_each shape patch c.as_slice-4.result.now k c.requires.object c.requires.readable c.requires.rising c.requires.placed are inside)

pub returns-in-None : goal.returns-in-None
returns-in-None c =
    let shape = c.args.schema.now.shape in
    let patch = c.args.patch.now in
    let places = c.as_slice-4.result.now in
    let end : c.loop-place.place ≡ length patch.added = omega arith in
    let are : places ≡ range_with_len 0 (length patch.added) = c.as_slice-4.ensures.value ∙ c.loop-place.invariant ∙ ap (range_with_len 0) end in
    let told = was_none (SpellSome c.fields.result.now c.as_slice.result.now c.as_slice-2.result.now c.as_slice-3.result.now places (length places))
    (IsFirstFault c.fields.result.now c.as_slice.result.now c.as_slice-2.result.now c.as_slice-3.result.now places) c.in_ok-found.found c.in-None.is c.in_ok-found.ensures.tells in
    records_spelled shape patch places c.requires.object are
    (of_records (λ fields widths first areas. SpellSome fields widths first areas places (length places)) shape (places_in patch)
    c.fields.result.now c.as_slice.result.now c.as_slice-2.result.now c.as_slice-3.result.now c.fields.ensures c.as_slice.ensures c.as_slice-2.ensures c.as_slice-3.ensures told)

pub bounds-as_slice-place : goal.bounds-as_slice-place
bounds-as_slice-place c =
    let shape = c.args.schema.now.shape in
    let patch = c.args.patch.now in
    let places = c.as_slice-4.result.now in
    let end : c.loop-place.place ≡ length patch.added = omega arith in
    let are : places ≡ range_with_len 0 (length patch.added) = c.as_slice-4.ensures.value ∙ c.loop-place.invariant ∙ ap (range_with_len 0) end in
    let told = was_some (SpellSome c.fields.result.now c.as_slice.result.now c.as_slice-2.result.now c.as_slice-3.result.now places (length places))
    (IsFirstFault c.fields.result.now c.as_slice.result.now c.as_slice-2.result.now c.as_slice-3.result.now places) c.in_ok-found.found (c.in-Some.place, c.in-Some.reason) c.in-Some.is c.in_ok-found.ensures.tells in
    let fault = of_records (λ fields widths first areas. IsFirstFault fields widths first areas places (c.in-Some.place, c.in-Some.reason)) shape (places_in patch)
    c.fields.result.now c.as_slice.result.now c.as_slice-2.result.now c.as_slice-3.result.now c.fields.ensures c.as_slice.ensures c.as_slice-2.ensures c.as_slice-3.ensures told in
    let inside = fault_inside shape patch places c.in-Some.place c.in-Some.reason are fault in
    let same = ap length c.as_slice-in-Some.ensures in
    omega (arith, inside, same)

pub returns : goal.returns
returns c =
    let shape = c.args.schema.now.shape in
    let patch = c.args.patch.now in
    let places = c.as_slice-4.result.now in
    let end : c.loop-place.place ≡ length patch.added = omega arith in
    let are : places ≡ range_with_len 0 (length patch.added) = c.as_slice-4.ensures.value ∙ c.loop-place.invariant ∙ ap (range_with_len 0) end in
    let told = was_some (SpellSome c.fields.result.now c.as_slice.result.now c.as_slice-2.result.now c.as_slice-3.result.now places (length places))
    (IsFirstFault c.fields.result.now c.as_slice.result.now c.as_slice-2.result.now c.as_slice-3.result.now places) c.in_ok-found.found (c.in-Some.place, c.in-Some.reason) c.in-Some.is c.in_ok-found.ensures.tells in
    let fault = of_records (λ fields widths first areas. IsFirstFault fields widths first areas places (c.in-Some.place, c.in-Some.reason)) shape (places_in patch)
    c.fields.result.now c.as_slice.result.now c.as_slice-2.result.now c.as_slice-3.result.now c.fields.ensures c.as_slice.ensures c.as_slice-2.ensures c.as_slice-3.ensures told in
    record_failed shape patch places c.in-Some.place (get_or c.as_slice-in-Some.result.now c.in-Some.place 0) c.in-Some.reason c.requires.object are fault (ap (λ os. get_or os c.in-Some.place 0) c.as_slice-in-Some.ensures)
