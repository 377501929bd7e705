use Rattle.std.proofs.Common.{◌≡◌, subst, sym, refl}
use Rattle.film_script.specs.Films.{film_schemas, films}
use Rattle.hollow_machine.specs.Kept.{IsResting}
use Rattle.hollow_machine.specs.Records.{given}
use Rattle.state_blobs.specs.Published.{published_of}
use Rattle.write_engine.specs.Production.{Production}
use Rattle.producer_orders.specs.Ends.{IsMemory, TellsEnd}
use Rattle.producer_orders.specs.Making.{AreRefused, AreTaken}
use Rattle.producer_orders.proofs.films.take_films.Goals as goal

pub returns-in_err-make_room-clause-kept : goal.returns-in_err-make_room-clause-kept
returns-in_err-make_room-clause-kept c = subst (λ (p : Production). p ≡ record c.args.producer.now { current = p.current }) (sym c.make_room.ensures) refl

pub add_films-requires-clause-resting : goal.add_films-requires-clause-resting
add_films-requires-clause-resting c = subst IsResting (sym c.make_room.ensures) c.requires.resting

pub add_films-requires-clause-model : goal.add_films-requires-clause-model
add_films-requires-clause-model c = subst (λ (p : Production). p.schemas ≡ film_schemas) (sym c.make_room.ensures) c.requires.model

pub returns-clause-tells : goal.returns-clause-tells
returns-clause-tells c =
    subst (λ (p : Production). TellsEnd (λ _. AreTaken (published_of p) (given (films c.args.script.seed c.args.script.rows c.args.script.cycle)) c.add_films.new.producer.current)
    (AreRefused (published_of p) (given (films c.args.script.seed c.args.script.rows c.args.script.cycle))) IsMemory c.add_films.result) c.make_room.ensures c.add_films.ensures.tells

pub returns-clause-kept : goal.returns-clause-kept
returns-clause-kept c = subst (λ (p : Production). c.add_films.new.producer ≡ record p { current = c.add_films.new.producer.current }) c.make_room.ensures c.add_films.ensures.kept
