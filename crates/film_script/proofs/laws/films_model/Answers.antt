use Rattle.film_script.proofs.FilmModel.{is_model}
use Rattle.film_script.proofs.laws.films_model.Goals as goal

pub returns : goal.returns
returns c = is_model
