use Rattle.std.proofs.Common.{ap, sym, ◌∙◌}
use Rattle.std.specs.Prelude.{Err}
use Rattle.std.proofs.lemmas.Bool.{false≢true}
use Rattle.write_engine.specs.Grown.{seen_of}
use Rattle.write_engine.proofs.GrownTypes.{dead_seen, not_twice, row_read, type_there}
use Rattle.write_engine.proofs.RestoredTypes.{row_more, row_skipped}
use Rattle.write_engine.proofs.growing.grow_row.Goals as goal

pub returns-then-not-previous_has : goal.returns-then-not-previous_has
returns-then-not-previous_has c =
    row_skipped (seen_of c.args.model.now c.args.grown.now c.args.maps.now) c.args.type_index c.args.ordinal c.args.map.now c.requires.below
    (dead_seen c.args.model.now c.args.grown.now c.args.maps.now c.requires.may c.args.type_index c.args.ordinal c.index-maps-type_index.result c.requires.known c.index-maps-type_index.is
    (λ live. false≢true (sym c.if-not-previous_has.true ∙ c.previous_has.ensures.has.1 live)))

pub schema-requires : goal.schema-requires
schema-requires c = type_there c.args.model.now c.args.grown.now c.requires.may.grows c.args.type_index c.requires.known

pub unreachable-requires : goal.unreachable-requires
unreachable-requires c =
    let at = row_read c.args.model.now c.args.grown.now c.args.maps.now c.requires.may c.args.type_index c.args.ordinal c.index-maps-type_index.result c.row.result.now c.in_ok-row.row c.schema.result.now c.fields-fields.result.now
    c.requires.known c.index-maps-type_index.is c.previous_has.ensures.agree (c.previous_has.ensures.has.0 c.if-not-previous_has.false) c.row.ensures.row c.schema.ensures.value c.fields-fields.ensures c.in_ok-row.ensures in
    let first = c.in-Err-Equal.field-0-0 in
    not_twice c.args.model.now c.args.grown.now c.args.maps.now c.requires.may c.args.type_index c.args.ordinal first c.args.map.now c.in_ok-row.row c.requires.below at
    ((c.restore_row.ensures.equal first).0 (c.in-Err-Equal.is ∙ ap Err c.in-Err-Equal.field-0-is))

pub returns-in-Ok : goal.returns-in-Ok
returns-in-Ok c =
    let at = row_read c.args.model.now c.args.grown.now c.args.maps.now c.requires.may c.args.type_index c.args.ordinal c.index-maps-type_index.result c.row.result.now c.in_ok-row.row c.schema.result.now c.fields-fields.result.now
    c.requires.known c.index-maps-type_index.is c.previous_has.ensures.agree (c.previous_has.ensures.has.0 c.if-not-previous_has.false) c.row.ensures.row c.schema.ensures.value c.fields-fields.ensures c.in_ok-row.ensures in
    row_more (seen_of c.args.model.now c.args.grown.now c.args.maps.now) c.args.type_index c.args.ordinal c.args.map.now c.in_ok-row.row c.requires.below at c.restore_row.new.self c.in-Ok.ensures.tells.0 c.in-Ok.ensures.tells.1
