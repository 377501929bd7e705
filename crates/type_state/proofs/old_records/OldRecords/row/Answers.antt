use Rattle.std.proofs.Common.{Err, ap, ◌∙◌}
use Rattle.row_model.specs.declared.packed.PlaceFault.{PlaceFault}
use Rattle.type_state.specs.OldRecords.{record_row}
use Rattle.type_state.proofs.OldPlaces.{never_bad, place_inside, row_read}
use Rattle.type_state.proofs.old_records.OldRecords.row.Goals as goal

pub read-requires-clause-holds : goal.read-requires-clause-holds
read-requires-clause-holds c =
    let old = c.self.inside in
    c.self.invariant.holds c.args.place (place_inside old.schema.shape old.widths old.packed.first old.packed.areas old.count c.args.place c.args.self.now c.self.view_is c.self.invariant c.requires)

pub unreachable-requires : goal.unreachable-requires
unreachable-requires c =
    let old = c.self.inside in
    never_bad old.schema.shape old.widths old.packed.first old.packed.areas old.count c.args.place c.args.self.now c.self.view_is c.self.invariant c.requires c.read.result c.in-Err-Bad.field-0-0
    (c.read.ensures.spelled (record_row old.schema.shape old.widths old.packed.first old.packed.areas c.args.place)) (c.in-Err-Bad.is ∙ ap (λ (f : PlaceFault). Err f) c.in-Err-Bad.field-0-is)

pub returns-in-Ok : goal.returns-in-Ok
returns-in-Ok c =
    let old = c.self.inside in
    row_read old.schema.shape old.widths old.packed.first old.packed.areas old.count c.args.place c.args.self.now c.self.view_is c.self.invariant c.requires c.in-Ok.row c.in-Ok.ensures.tells
