use Rattle.std.proofs.Common.{subst, List}
use Rattle.schema_model.specs.Model.{IsModel}
use Rattle.schema_model.specs.NameIndex.{Indexes}
use Rattle.schema_model.specs.Parts.{type_names}
use Rattle.schema_model.specs.declared.schema.Schema.{Schema}
use Rattle.schema_model.proofs.model.Model.names.Goals as goal

pub returns-clause-indexed : goal.returns-clause-indexed
returns-clause-indexed c = subst (λ (schemas : List Schema). Indexes (type_names schemas) c.self.inside.index) c.self.view_is c.self.invariant.1

pub returns-clause-model : goal.returns-clause-model
returns-clause-model c = subst IsModel c.self.view_is c.self.invariant.0
