use Rattle.std.proofs.Common.{rules, refl}
use Rattle.type_state.specs.declared.leaving.Items.{Items}
use Rattle.type_state.proofs.LeavingRows.{records_stand}
use Rattle.type_state.proofs.leaving.leaving_of.Goals as goal

pub returns-in-Some-clause-stands : goal.returns-in-Some-clause-stands
returns-in-Some-clause-stands c =
    records_stand c.args.shape.now c.in-Object.field-0 c.in-Object.fields c.as_slice.result.now c.args.rows.now.rows c.in-Some.columns.items (record { columns = c.in-Some.columns; items = Items.None }) c.in-Object.is c.as_slice.ensures c.requires (search rules) refl refl
