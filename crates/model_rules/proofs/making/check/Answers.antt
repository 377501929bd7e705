use Rattle.std.proofs.Common.{refl}
use Rattle.schema_model.specs.declared.model.rule.Rule.TheVariants.{TooMany, LongName, DuplicateName, FloatField, UnknownType, CyclicModel, TooDeep, BadPath}
use Rattle.model_rules.proofs.FirstBroken.{Passed, passed_none, passed_more, all_passed, fault_told, exit_told}
use Rattle.model_rules.proofs.making.check.Goals as goal

pub returns-in_err-check_sizes : goal.returns-in_err-check_sizes
returns-in_err-check_sizes c =
    let schemas = c.args.schemas.now in
    exit_told c.from_residual.result c.in_err-check_sizes.field-0.0 _ _ c.from_residual.ensures.1 (fault_told schemas TooMany c.in_err-check_sizes.field-0.0 (passed_none schemas) c.in_err-check_sizes.ensures.tells)

pub returns-in_err-check_lengths : goal.returns-in_err-check_lengths
returns-in_err-check_lengths c =
    let schemas = c.args.schemas.now in
    let passed1 : Passed schemas 1 = passed_more schemas TooMany 0 refl (passed_none schemas) c.in_ok-check_sizes.ensures.tells in
    exit_told c.from_residual-in_err-check_lengths.result c.in_err-check_lengths.field-0.0 _ _ c.from_residual-in_err-check_lengths.ensures.1 (fault_told schemas LongName c.in_err-check_lengths.field-0.0 passed1 c.in_err-check_lengths.ensures)

pub returns-in_err-check_names : goal.returns-in_err-check_names
returns-in_err-check_names c =
    let schemas = c.args.schemas.now in
    let passed1 : Passed schemas 1 = passed_more schemas TooMany 0 refl (passed_none schemas) c.in_ok-check_sizes.ensures.tells in
    let passed2 : Passed schemas 2 = passed_more schemas LongName 1 refl passed1 c.in_ok-check_lengths.ensures in
    exit_told c.from_residual-in_err-check_names.result c.in_err-check_names.field-0.0 _ _ c.from_residual-in_err-check_names.ensures.1 (fault_told schemas DuplicateName c.in_err-check_names.field-0.0 passed2 c.in_err-check_names.ensures)

pub returns-in_err-graph : goal.returns-in_err-graph
returns-in_err-graph c =
    let schemas = c.args.schemas.now in
    let passed1 : Passed schemas 1 = passed_more schemas TooMany 0 refl (passed_none schemas) c.in_ok-check_sizes.ensures.tells in
    let passed2 : Passed schemas 2 = passed_more schemas LongName 1 refl passed1 c.in_ok-check_lengths.ensures in
    let passed3 : Passed schemas 3 = passed_more schemas DuplicateName 2 refl passed2 c.in_ok-check_names.ensures in
    let passed4 : Passed schemas 4 = passed_more schemas FloatField 3 refl passed3 (λ t breaks. breaks.2) in
    exit_told c.from_residual-in_err-graph.result c.in_err-graph.field-0.0 _ _ c.from_residual-in_err-graph.ensures.1 (fault_told schemas UnknownType c.in_err-graph.field-0.0 passed4 c.in_err-graph.ensures.tells)

pub returns-in_err-check_cycles : goal.returns-in_err-check_cycles
returns-in_err-check_cycles c =
    let schemas = c.args.schemas.now in
    let passed1 : Passed schemas 1 = passed_more schemas TooMany 0 refl (passed_none schemas) c.in_ok-check_sizes.ensures.tells in
    let passed2 : Passed schemas 2 = passed_more schemas LongName 1 refl passed1 c.in_ok-check_lengths.ensures in
    let passed3 : Passed schemas 3 = passed_more schemas DuplicateName 2 refl passed2 c.in_ok-check_names.ensures in
    let passed4 : Passed schemas 4 = passed_more schemas FloatField 3 refl passed3 (λ t breaks. breaks.2) in
    let passed5 : Passed schemas 5 = passed_more schemas UnknownType 4 refl passed4 c.in_ok-graph.ensures.tells in
    exit_told c.from_residual-in_err-check_cycles.result c.in_err-check_cycles.field-0.0 _ _ c.from_residual-in_err-check_cycles.ensures.1 (fault_told schemas CyclicModel c.in_err-check_cycles.field-0.0 passed5 c.in_err-check_cycles.ensures)

pub returns-in_err-check_depth : goal.returns-in_err-check_depth
returns-in_err-check_depth c =
    let schemas = c.args.schemas.now in
    let passed1 : Passed schemas 1 = passed_more schemas TooMany 0 refl (passed_none schemas) c.in_ok-check_sizes.ensures.tells in
    let passed2 : Passed schemas 2 = passed_more schemas LongName 1 refl passed1 c.in_ok-check_lengths.ensures in
    let passed3 : Passed schemas 3 = passed_more schemas DuplicateName 2 refl passed2 c.in_ok-check_names.ensures in
    let passed4 : Passed schemas 4 = passed_more schemas FloatField 3 refl passed3 (λ t breaks. breaks.2) in
    let passed5 : Passed schemas 5 = passed_more schemas UnknownType 4 refl passed4 c.in_ok-graph.ensures.tells in
    let passed6 : Passed schemas 6 = passed_more schemas CyclicModel 5 refl passed5 c.in_ok-check_cycles.ensures in
    exit_told c.from_residual-in_err-check_depth.result c.in_err-check_depth.field-0.0 _ _ c.from_residual-in_err-check_depth.ensures.1 (fault_told schemas TooDeep c.in_err-check_depth.field-0.0 passed6 c.in_err-check_depth.ensures)

pub returns-in_err-check_keys : goal.returns-in_err-check_keys
returns-in_err-check_keys c =
    let schemas = c.args.schemas.now in
    let passed1 : Passed schemas 1 = passed_more schemas TooMany 0 refl (passed_none schemas) c.in_ok-check_sizes.ensures.tells in
    let passed2 : Passed schemas 2 = passed_more schemas LongName 1 refl passed1 c.in_ok-check_lengths.ensures in
    let passed3 : Passed schemas 3 = passed_more schemas DuplicateName 2 refl passed2 c.in_ok-check_names.ensures in
    let passed4 : Passed schemas 4 = passed_more schemas FloatField 3 refl passed3 (λ t breaks. breaks.2) in
    let passed5 : Passed schemas 5 = passed_more schemas UnknownType 4 refl passed4 c.in_ok-graph.ensures.tells in
    let passed6 : Passed schemas 6 = passed_more schemas CyclicModel 5 refl passed5 c.in_ok-check_cycles.ensures in
    let passed7 : Passed schemas 7 = passed_more schemas TooDeep 6 refl passed6 c.in_ok-check_depth.ensures in
    exit_told c.from_residual-in_err-check_keys.result c.in_err-check_keys.field-0.0 _ _ c.from_residual-in_err-check_keys.ensures.1 (fault_told schemas BadPath c.in_err-check_keys.field-0.0 passed7 c.in_err-check_keys.ensures)

pub returns : goal.returns
returns c =
    let schemas = c.args.schemas.now in
    let passed1 : Passed schemas 1 = passed_more schemas TooMany 0 refl (passed_none schemas) c.in_ok-check_sizes.ensures.tells in
    let passed2 : Passed schemas 2 = passed_more schemas LongName 1 refl passed1 c.in_ok-check_lengths.ensures in
    let passed3 : Passed schemas 3 = passed_more schemas DuplicateName 2 refl passed2 c.in_ok-check_names.ensures in
    let passed4 : Passed schemas 4 = passed_more schemas FloatField 3 refl passed3 (λ t breaks. breaks.2) in
    let passed5 : Passed schemas 5 = passed_more schemas UnknownType 4 refl passed4 c.in_ok-graph.ensures.tells in
    let passed6 : Passed schemas 6 = passed_more schemas CyclicModel 5 refl passed5 c.in_ok-check_cycles.ensures in
    let passed7 : Passed schemas 7 = passed_more schemas TooDeep 6 refl passed6 c.in_ok-check_depth.ensures in
    let passed8 : Passed schemas 8 = passed_more schemas BadPath 7 refl passed7 c.in_ok-check_keys.ensures in
    (all_passed schemas passed8, c.in_ok-index.ensures)
