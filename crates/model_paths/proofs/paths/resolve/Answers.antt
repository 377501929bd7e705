use Rattle.std.proofs.Common.{subst, sym, refl, Ok, List}
use Rattle.schema_model.specs.Faults.{TellsPath}
use Rattle.schema_model.specs.Path.{Leads, path_names}
use Rattle.schema_model.specs.Ways.{CanBeWalked}
use Rattle.schema_model.specs.declared.model.rule.Rule.TheVariants.{TooMany, DuplicateName, TooDeep}
use Rattle.schema_model.specs.declared.schema.Schema.{Schema}
use Rattle.schema_model.proofs.Ways.{path_found, path_missing, path_exit}
use Rattle.model_paths.proofs.paths.resolve.Goals as goal

pub way_of-requires-clause-ready : goal.way_of-requires-clause-ready
way_of-requires-clause-ready c =
    let rules = c.names.ensures.model in
    subst (λ (ss : List Schema). CanBeWalked ss c.names.result.now) (sym c.schemas.ensures.value)
    (record { indexed = c.names.ensures.indexed; few = rules TooMany; apart = rules DuplicateName; shallow = rules TooDeep })

pub returns-in_err-fields : goal.returns-in_err-fields
returns-in_err-fields c =
    let schemas = c.args.model.now in
    let apart = c.names.ensures.model DuplicateName in
    let r = c.from_residual.result in
    let tells = subst (λ (ss : List Schema). TellsPath ss c.args.type_index c.args.text.now r) c.schemas.ensures.value
    (path_exit c.schemas.result.now c.args.type_index c.args.text.now r c.in_err-fields.field-0.0 c.from_residual.ensures.1 c.in_err-fields.ensures) in
    record {
      tells = tells;
      found = λ path. path_found schemas apart c.args.type_index c.args.text.now path r tells;
      unresolved = path_missing schemas c.args.type_index c.args.text.now r tells;
    }

pub returns : goal.returns
returns c =
    let schemas = c.args.model.now in
    let apart = c.names.ensures.model DuplicateName in
    let leads = subst (λ (ss : List Schema). Leads ss c.args.type_index (path_names c.args.text.now) c.in_ok-fields.fields) c.schemas.ensures.value c.in_ok-fields.ensures in
    let r = Ok (record { type_index = c.args.type_index; fields = c.in_ok-fields.fields }) in
    record {
      tells = (refl, leads);
      found = λ path. path_found schemas apart c.args.type_index c.args.text.now path r (refl, leads);
      unresolved = path_missing schemas c.args.type_index c.args.text.now r (refl, leads);
    }
