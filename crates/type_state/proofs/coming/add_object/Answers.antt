use Rattle.std.proofs.Common.{rules, List, arith}
use Rattle.std.proofs.lemmas.List.{with_items_is}
use Rattle.std.specs.Vec.{with_items}
use Rattle.row_model.specs.declared.row.Value.{Value}
use Rattle.object_codec.specs.ObjectPlace.{HoldsPlace, SpellsObject}
use Rattle.type_rows.specs.FieldEnds.{AddsRecord}
use Rattle.type_rows.specs.Patches.{places_in}
use Rattle.type_rows.proofs.RecordFaults.{of_records, to_records}
use Rattle.type_state.proofs.ComingRows.{record_comes}
use Rattle.type_state.proofs.coming.add_object.Goals as goal

pub add_record-requires-clause-holds : goal.add_record-requires-clause-holds
add_record-requires-clause-holds c =
    to_records (λ fields widths first areas. HoldsPlace fields widths first areas c.args.place) c.args.shape.now (places_in c.args.patch.now)
    c.fields-fields.result.now c.as_slice-widths.result.now c.as_slice-first.result.now c.as_slice-areas.result.now c.fields-fields.ensures c.as_slice-widths.ensures c.as_slice-first.ensures c.as_slice-areas.ensures c.requires.holds

pub returns-in-Some : goal.returns-in-Some
returns-in-Some c = λ few row spells.
    let old = c.deref_mut.result.now in
    let new = c.add_record.new.ends in
    let told = of_records (λ fields widths first areas. (values : List Value) → SpellsObject fields widths first areas c.args.place values → AddsRecord fields widths old values new c.in-Some.bytes) c.args.shape.now (places_in c.args.patch.now)
    c.fields-fields.result.now c.as_slice-widths.result.now c.as_slice-first.result.now c.as_slice-areas.result.now c.fields-fields.ensures c.as_slice-widths.ensures c.as_slice-first.ensures c.as_slice-areas.ensures c.in-Some.ensures in
    let same = with_items_is c.args.totals.now.ends.offsets new (omega (arith, c.add_record.auto.ends, c.deref_mut.ensures.len)) in
    record_comes c.args.shape.now c.args.patch.now c.args.place row c.args.totals.now
    (record { ends = record { offsets = with_items c.args.totals.now.ends.offsets new; items = c.args.totals.now.ends.items }; bytes = c.saturating_add-totals.result }) c.in-Some.bytes old new
    c.requires.object told c.deref_mut.ensures.value same c.add_record.auto.ends (search rules) c.saturating_add-totals.ensures (search rules) spells
