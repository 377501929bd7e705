use Rattle.std.proofs.Common.{inl, rules}
use Rattle.type_state.specs.Views.{next_halves, table_of}
use Rattle.snapshot_blob.proofs.Trials.{row_fails, told_row}
use Rattle.snapshot_blob.proofs.types.check_closed.Goals as goal

pub returns-in_ok-name-in-Some : goal.returns-in_ok-name-in-Some
returns-in_ok-name-in-Some c =
    let table = table_of (next_halves c.args.states.now) in
    inl (row_fails c.args.offsets.now c.args.model.now table c.in-Some.found c.get-at.result.now c.from.result c.schema.result.now c.in_ok-name-in-Some.name
    (told_row c.next_of-rows.result.schemas c.args.model.now c.next_of-rows.result.table table c.in_ok-first_dangling.field-0 c.in-Some.found c.next_of-rows.ensures.schemas c.next_of-rows.ensures.table c.in-Some.is
    c.in_ok-first_dangling.ensures) c.get-at.ensures c.schema.ensures.value c.in_ok-name-in-Some.ensures (search rules))
