use Rattle.std.proofs.Common.{subst, sym}
use Rattle.state_blobs.specs.Published.{published_of}
use Rattle.producer_orders.specs.Asked.{Suit, adding_of}
use Rattle.producer_orders.specs.Ends.{IsMemory, TellsEnd}
use Rattle.producer_orders.specs.Making.{AreRefused, AreTaken}
use Rattle.producer_orders.specs.declared.asked.Records.{Records}
use Rattle.producer_orders.proofs.make.take_records.Goals as goal

pub take_spelled-requires-clause-records : goal.take_spelled-requires-clause-records
take_spelled-requires-clause-records c = subst (λ (r : Records). Suit c.args.producer.now.schemas r) c.in-Spelled.is c.requires.records

pub returns-in-Spelled-clause-tells : goal.returns-in-Spelled-clause-tells
returns-in-Spelled-clause-tells c =
    let last = published_of c.args.producer.now in
    subst (λ (r : Records). TellsEnd (λ done. AreTaken last (adding_of r) c.take_spelled.new.producer.current) (AreRefused last (adding_of r)) IsMemory c.take_spelled.result) (sym c.in-Spelled.is) c.take_spelled.ensures.tells

pub take_films-requires-clause-model : goal.take_films-requires-clause-model
take_films-requires-clause-model c = (subst (λ (r : Records). Suit c.args.producer.now.schemas r) c.in-Films.is c.requires.records).0

pub take_films-requires-clause-script : goal.take_films-requires-clause-script
take_films-requires-clause-script c = (subst (λ (r : Records). Suit c.args.producer.now.schemas r) c.in-Films.is c.requires.records).1

pub returns-in-Films-clause-tells : goal.returns-in-Films-clause-tells
returns-in-Films-clause-tells c =
    let last = published_of c.args.producer.now in
    subst (λ (r : Records). TellsEnd (λ done. AreTaken last (adding_of r) c.take_films.new.producer.current) (AreRefused last (adding_of r)) IsMemory c.take_films.result) (sym c.in-Films.is) c.take_films.ensures.tells
