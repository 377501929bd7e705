use Rattle.std.proofs.Common.{◌∙◌, ◌<◌, arith, inl, inr, length, map}
use Rattle.std.proofs.lemmas.Result.{err_from_is_err_and}
use Rattle.serde_json.specs.View.{view}
use Rattle.schema_model.specs.declared.model.rule.Rule.TheVariants.{DuplicateName}
use Rattle.producer_orders.proofs.Placed.{front_entries, some_item}
use Rattle.change_orders.proofs.ReadKeys.{keyed_or_none, keys_end, type_given, types_given}
use Rattle.change_orders.proofs.removed_keys.removed_keys.Goals as goal

pub read_type-requires-clause-keyed : goal.read_type-requires-clause-keyed
read_type-requires-clause-keyed c =
    let schemas = c.args.model.now in
    let json = view c.args.remove.now in
    let t = c.loop-type_index.type_index in
    let within : t < length schemas = omega (arith, c.len-type_index-end.ensures.count, c.loop-type_index-test.true) in
    let (schema, at) = some_item schemas t within in
    elim (keyed_or_none schemas (c.len-type_index-end.ensures.model DuplicateName) json c.requires.keyed t schema at) [
      | inl keyed ↦ inl keyed
      | inr none ↦ inr (c.values_of-values.ensures schema at ∙ none)
    ]

pub returns-in_err-read_type : goal.returns-in_err-read_type
returns-in_err-read_type c =
    let schemas = c.args.model.now in
    let json = view c.args.remove.now in
    let t = c.loop-type_index.type_index in
    let within : t < length schemas = omega (arith, c.len-type_index-end.ensures.count, c.loop-type_index-test.true) in
    let (schema, at) = some_item schemas t within in
    let p = err_from_is_err_and c.from_residual.result c.from_residual.ensures.1 in
    rw (p.1, p.2)
    (keys_end schemas json t schema (map view c.values_of-values.result.now) at (c.values_of-values.ensures schema at) c.read_type.new.found c.in_err-read_type.field-0.0
    (c.in_err-read_type.ensures (front_entries schemas json t) c.loop-type_index.invariant))

pub loop-type_index-preserved : goal.loop-type_index-preserved
loop-type_index-preserved c =
    let schemas = c.args.model.now in
    let json = view c.args.remove.now in
    let t = c.loop-type_index.type_index in
    let within : t < length schemas = omega (arith, c.len-type_index-end.ensures.count, c.loop-type_index-test.true) in
    let (schema, at) = some_item schemas t within in
    type_given schemas json t schema (map view c.values_of-values.result.now) at (c.values_of-values.ensures schema at) c.read_type.new.found
    (c.in_ok-read_type.ensures (front_entries schemas json t) c.loop-type_index.invariant)

pub returns : goal.returns
returns c =
    types_given c.args.model.now (view c.args.remove.now) c.loop-type_index.type_index c.loop-type_index.found (omega (arith, c.len-type_index-end.ensures.count, c.loop-type_index-test.false)) c.requires.keyed c.loop-type_index.invariant
