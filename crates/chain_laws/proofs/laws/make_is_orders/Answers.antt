use Rattle.serde_json.specs.View.{view}
use Rattle.hol_orders.specs.Parts.{asked_state}
use Rattle.chain_laws.proofs.ScriptFilms.{films_read}
use Rattle.chain_laws.proofs.ScriptModel.{cycle_is, model_starts}
use Rattle.chain_laws.proofs.laws.make_is_orders.Goals as goal

pub returns-clause-model : goal.returns-clause-model
returns-clause-model c = λ store schemas is. model_starts c.films_model.ensures store (view schemas) is

pub returns-clause-films : goal.returns-clause-films
returns-clause-films c = λ seed rows cycle within. films_read seed cycle rows within

pub returns-clause-cycles : goal.returns-clause-cycles
returns-clause-cycles c = λ machine next seed rows cycle asked answer within of_films is. cycle_is machine seed rows cycle within of_films (asked_state asked) is answer next
