use Rattle.std.proofs.Common.{◌≡◌, ◌∙◌, sym, subst, Some, None, ℕ, List, Option}
use Rattle.std.specs.Prelude.{◌↔◌, Contains, slice_get}
use Rattle.schema_model.specs.Model.{IsModel}
use Rattle.schema_model.specs.Parts.{index_of_type, type_names}
use Rattle.schema_model.specs.declared.model.rule.Rule.TheVariants.{DuplicateName}
use Rattle.schema_model.specs.declared.schema.Schema.{Schema}
use Rattle.schema_model.proofs.ModelFacts.{index_at, index_none}
use Rattle.schema_model.proofs.model.Model.index_of.Goals as goal

pub returns-clause-found : goal.returns-clause-found
returns-clause-found c = λ t.
    let found : c.find_name.result ≡ index_of_type c.self.inside.schemas c.args.name.now = c.find_name.ensures ∙ c.self.invariant.1 c.args.name.now in
    let same = index_at c.self.inside.schemas c.args.name.now (c.self.invariant.0 DuplicateName) t in
    subst (λ (schemas : List Schema). (c.find_name.result ≡ Some t) ↔ (slice_get (type_names schemas) t ≡ Some c.args.name.now)) c.self.view_is
    (subst (λ (o : Option ℕ). (o ≡ Some t) ↔ (slice_get (type_names c.self.inside.schemas) t ≡ Some c.args.name.now)) (sym found) same)

pub returns-clause-missing : goal.returns-clause-missing
returns-clause-missing c =
    let found : c.find_name.result ≡ index_of_type c.self.inside.schemas c.args.name.now = c.find_name.ensures ∙ c.self.invariant.1 c.args.name.now in
    let same = index_none (type_names c.self.inside.schemas) c.args.name.now in
    subst (λ (schemas : List Schema). (c.find_name.result ≡ None) ↔ (¬ Contains (type_names schemas) c.args.name.now)) c.self.view_is
    (subst (λ (o : Option ℕ). (o ≡ None) ↔ (¬ Contains (type_names c.self.inside.schemas) c.args.name.now)) (sym found) same)

pub returns-clause-model : goal.returns-clause-model
returns-clause-model c = subst IsModel c.self.view_is c.self.invariant.0
