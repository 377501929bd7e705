use Rattle.byte_laws.proofs.FilmBytes.{film_model, films_are}
use Rattle.byte_laws.proofs.laws.film_bytes.Goals as goal

pub returns : goal.returns
returns c = record { model = film_model; records = films_are }
