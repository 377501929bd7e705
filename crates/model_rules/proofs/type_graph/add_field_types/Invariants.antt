use Rattle.std.proofs.Common.{◌≡◌, ◌++◌, take, true}
use Rattle.std.specs.BTreeMap.{get_by_text}
use Rattle.std.specs.List.{filter_map}
use Rattle.model_rules.specs.RuleTests.{are_known}
use Rattle.schema_model.specs.Parts.{referenced_names}
use Rattle.model_rules.proofs.type_graph.add_field_types.Given as goal

-- the types that the first fields refer to are there, and in the row
abbrev pub invariant-loop-field : goal.invariant-loop-field
invariant-loop-field l =
    let names = referenced_names (take l.field-index l.fields) in
    (are_known (get_by_text l.index) names ≡ true) × (l.row ≡ l.fn.row ++ filter_map (get_by_text l.index) names)
