use Rattle.std.proofs.Common.{List, ◌+◌, arith, ap, length, subst, sym, ◌∙◌}
use Rattle.row_model.specs.declared.row.Value.{Value}
use Rattle.object_codec.specs.ObjectPlace.{HoldsPlace, SpellsObject}
use Rattle.type_rows.specs.Ends.{end_after}
use Rattle.type_rows.specs.Holds.{FitsWidths}
use Rattle.type_rows.proofs.Places.{holds_object}
use Rattle.type_rows.specs.FieldEnds.{AddsRecord}
use Rattle.type_rows.proofs.FoundRows.{listed_below, read_there}
use Rattle.type_rows.proofs.RecordFaults.{of_records, to_records}
use Rattle.type_rows.proofs.RecordsLaid.{RecordsLaid, record_unheld, records_more, written_back}
use Rattle.type_rows.proofs.records.lay_out_records.Goals as goal

pub add_record-requires-clause-holds : goal.add_record-requires-clause-holds
add_record-requires-clause-holds c =
    to_records (λ fields widths first areas. HoldsPlace fields widths first areas c.from-place.result) c.args.shape.now c.args.section.now
    c.fields-fields.result.now c.as_slice-widths.result.now c.as_slice-first.result.now c.as_slice-areas.result.now c.fields-fields.ensures c.as_slice-widths.ensures c.as_slice-first.ensures c.as_slice-areas.ensures
    (holds_object c.args.shape.now c.args.section.now c.from-place.result c.requires.object c.requires.readable
    (listed_below c.args.section.now c.args.live.now c.loop-ordinal.ordinal-index c.from-place.result c.requires.live c.requires.placed
    (read_there c.args.live.now c.loop-ordinal.ordinal-index c.from-place.result (omega (arith, c.loop-ordinal-test.true)) c.from-place.ensures)))

pub returns-in-None-clause-tells : goal.returns-in-None-clause-tells
returns-in-None-clause-tells c =
    let shape = c.args.shape.now in
    let section = c.args.section.now in
    let place = c.from-place.result in
    let old = c.loop-ordinal.lengths.items in
    record_unheld shape section c.args.live.now c.loop-ordinal.ordinal-index place old c.loop-ordinal.bytes c.requires.object c.requires.live c.requires.leads
    (read_there c.args.live.now c.loop-ordinal.ordinal-index place (omega (arith, c.loop-ordinal-test.true)) c.from-place.ensures) c.loop-ordinal.invariant.laid
    (of_records (λ fields widths first areas. (record_values : List Value) → SpellsObject fields widths first areas place record_values → FitsWidths fields widths (end_after old record_values) record_values → ⊥) shape section
    c.fields-fields.result.now c.as_slice-widths.result.now c.as_slice-first.result.now c.as_slice-areas.result.now c.fields-fields.ensures c.as_slice-widths.ensures c.as_slice-first.ensures c.as_slice-areas.ensures
    (subst (λ ends. (record_values : List Value) → SpellsObject c.fields-fields.result.now c.as_slice-widths.result.now c.as_slice-first.result.now c.as_slice-areas.result.now place record_values
    → FitsWidths c.fields-fields.result.now c.as_slice-widths.result.now (end_after ends record_values) record_values → ⊥) c.deref_mut.ensures.value c.in-None.ensures.tells))

pub loop-ordinal-preserved : goal.loop-ordinal-preserved
loop-ordinal-preserved c =
    let shape = c.args.shape.now in
    let section = c.args.section.now in
    let place = c.from-place.result in
    let index = c.loop-ordinal.ordinal-index in
    let old = c.loop-ordinal.lengths.items in
    let new = c.add_record.new.lengths in
    let more = c.in-Some.more in
    let long = c.add_record.ensures.long ∙ ap length c.deref_mut.ensures.value in
    let same = written_back old new c.loop-ordinal.lengths.len long (ap length (sym c.deref_mut.ensures.value) ∙ c.deref_mut.ensures.len) in
    let told = of_records (λ fields widths first areas. (record_values : List Value) → SpellsObject fields widths first areas place record_values → AddsRecord fields widths old record_values new more) shape section
    c.fields-fields.result.now c.as_slice-widths.result.now c.as_slice-first.result.now c.as_slice-areas.result.now c.fields-fields.ensures c.as_slice-widths.ensures c.as_slice-first.ensures c.as_slice-areas.ensures
    (subst (λ ends. (record_values : List Value) → SpellsObject c.fields-fields.result.now c.as_slice-widths.result.now c.as_slice-first.result.now c.as_slice-areas.result.now place record_values
    → AddsRecord c.fields-fields.result.now c.as_slice-widths.result.now ends record_values new more) c.deref_mut.ensures.value c.in-Some.ensures.tells) in
    record {
      laid = subst (λ lengths. RecordsLaid shape section (index + 1) lengths c.saturating_add-bytes.result) (sym same)
          (records_more shape section c.args.live.now index place old new c.loop-ordinal.bytes more c.saturating_add-bytes.result c.requires.object c.requires.live
          (read_there c.args.live.now index place (omega (arith, c.loop-ordinal-test.true)) c.from-place.ensures) c.loop-ordinal.invariant.laid told c.saturating_add-bytes.ensures);
      long = ap length same ∙ long ∙ c.loop-ordinal.invariant.long;
    }
