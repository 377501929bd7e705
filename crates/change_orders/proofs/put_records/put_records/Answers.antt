use Rattle.std.proofs.Common.{◌<◌, arith, length, refl}
use Rattle.std.proofs.lemmas.Result.{err_from_is_err_and}
use Rattle.hol_incremental.specs.Changes.{records}
use Rattle.hol_orders.specs.Parts.{added}
use Rattle.hollow_machine.specs.Records.{values_under}
use Rattle.producer_orders.proofs.Placed.{front_entries, some_item}
use Rattle.change_orders.proofs.ReadRecords.{read_end, types_front, types_read}
use Rattle.change_orders.proofs.put_records.put_records.Goals as goal

pub returns-in_err-read_type : goal.returns-in_err-read_type
returns-in_err-read_type c =
    let schemas = c.args.model.now in
    let json = added c.args.put.now in
    let t = c.loop-type_index.type_index in
    let within : t < length schemas = omega (arith, c.len-type_index-end.ensures.count, c.loop-type_index-test.true) in
    let (schema, at) = some_item schemas t within in
    let p = err_from_is_err_and c.from_residual.result c.from_residual.ensures.1 in
    rw (p.1, p.2)
    (read_end schemas json t schema (values_under json schema.name) at refl c.read_type.new.found c.in_err-read_type.field-0.0
    (c.in_err-read_type.ensures schema (front_entries schemas json t) at c.loop-type_index.invariant))

pub loop-type_index-preserved : goal.loop-type_index-preserved
loop-type_index-preserved c =
    let schemas = c.args.model.now in
    let json = added c.args.put.now in
    let t = c.loop-type_index.type_index in
    let within : t < length schemas = omega (arith, c.len-type_index-end.ensures.count, c.loop-type_index-test.true) in
    let (schema, at) = some_item schemas t within in
    let read = c.in_ok-read_type.ensures schema (front_entries schemas json t) at c.loop-type_index.invariant in
    record { read = types_front schemas json t schema (values_under json schema.name) (records c.read_type.new.found) at refl read.read }

pub returns : goal.returns
returns c = record {
  read = types_read c.args.model.now (added c.args.put.now) c.loop-type_index.type_index (records c.loop-type_index.found) (omega (arith, c.len-type_index-end.ensures.count, c.loop-type_index-test.false)) c.loop-type_index.invariant.read;
}
