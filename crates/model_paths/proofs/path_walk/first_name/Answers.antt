use Rattle.std.proofs.Common.{lit<}
use Rattle.schema_model.proofs.Ways.{one_name, more_names}
use Rattle.model_paths.proofs.path_walk.first_name.Goals as goal

pub returns-in-Some-clause-names : goal.returns-in-Some-clause-names
returns-in-Some-clause-names c = more_names c.args.text.now c.in-Some.name.now c.in-Some.rest.now (c.in-Some.ensures.byte (lit< tt) (λ w o h. h))

pub returns-in-None-clause-names : goal.returns-in-None-clause-names
returns-in-None-clause-names c = one_name c.args.text.now (c.in-None.ensures.byte (lit< tt) (λ w o h. h))
