use Rattle.std.proofs.Common.{subst, sym, refl, Ok, List}
use Rattle.schema_model.specs.Faults.{TellsWalk}
use Rattle.schema_model.specs.Path.{path_names}
use Rattle.schema_model.specs.WalkPath.{LeadsAlong}
use Rattle.schema_model.specs.Ways.{CanBeWalked}
use Rattle.schema_model.specs.declared.model.rule.Rule.TheVariants.{TooMany, DuplicateName, TooDeep}
use Rattle.schema_model.specs.declared.schema.Schema.{Schema}
use Rattle.model_paths.proofs.Walking.{walk_exit, walk_found, walk_missing}
use Rattle.model_paths.proofs.paths.resolve_walk.Goals as goal

pub parts_of-requires-clause-ready : goal.parts_of-requires-clause-ready
parts_of-requires-clause-ready c =
    let rules = c.names.ensures.model in
    subst (λ (ss : List Schema). CanBeWalked ss c.names.result.now) (sym c.schemas.ensures.value)
    (record { indexed = c.names.ensures.indexed; few = rules TooMany; apart = rules DuplicateName; shallow = rules TooDeep })

pub returns-in_err-parts : goal.returns-in_err-parts
returns-in_err-parts c =
    let schemas = c.args.model.now in
    let apart = c.names.ensures.model DuplicateName in
    let r = c.from_residual.result in
    let tells = subst (λ (ss : List Schema). TellsWalk ss c.args.type_index c.args.text.now r) c.schemas.ensures.value
    (walk_exit c.schemas.result.now c.args.type_index c.args.text.now r c.in_err-parts.field-0.0 c.from_residual.ensures.1 c.in_err-parts.ensures) in
    record {
      tells = tells;
      found = λ path. walk_found schemas apart c.args.type_index c.args.text.now path r tells;
      unresolved = walk_missing schemas c.args.type_index c.args.text.now r tells;
    }

pub returns : goal.returns
returns c =
    let schemas = c.args.model.now in
    let apart = c.names.ensures.model DuplicateName in
    let leads = subst (λ (ss : List Schema). LeadsAlong ss c.args.type_index (path_names c.args.text.now) c.in_ok-parts.parts) c.schemas.ensures.value c.in_ok-parts.ensures in
    let r = Ok (record { type_index = c.args.type_index; parts = c.in_ok-parts.parts }) in
    record {
      tells = (refl, leads);
      found = λ path. walk_found schemas apart c.args.type_index c.args.text.now path r (refl, leads);
      unresolved = walk_missing schemas c.args.type_index c.args.text.now r (refl, leads);
    }
