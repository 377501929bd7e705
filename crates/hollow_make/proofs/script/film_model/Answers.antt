use Rattle.std.proofs.Common.{Err, ap, ◌∙◌}
use Rattle.hollow_make.proofs.Ends.{not_broken}
use Rattle.hollow_make.proofs.script.film_model.Goals as goal

pub unreachable-requires : goal.unreachable-requires
unreachable-requires c =
    not_broken c.in_ok-film_schemas.field-0 c.model_of.result c.in-Err-Broken.field-0-0 c.in-Err-Broken.field-0-1 (c.in-Err-Broken.is ∙ ap Err c.in-Err-Broken.field-0-is) c.in_ok-film_schemas.ensures c.model_of.ensures.made.1
    c.films_model.ensures
