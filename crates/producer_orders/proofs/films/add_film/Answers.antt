use Rattle.std.proofs.Common.{refl, sym, ◌∙◌}
use Rattle.producer_orders.proofs.FilmRecords.{film_added, film_not_added, not_shown}
use Rattle.producer_orders.proofs.films.add_film.Goals as goal

pub returns-then-not-is_shown-clause-tells : goal.returns-then-not-is_shown-clause-tells
returns-then-not-is_shown-clause-tells c =
    let old = c.args.producer.now in
    not_shown c.args.script c.args.place old.schemas old.previous old.current (sym c.is_shown.ensures ∙ c.if-not-is_shown.true)

pub returns-in-Ok-clause-tells : goal.returns-in-Ok-clause-tells
returns-in-Ok-clause-tells c =
    let old = c.args.producer.now in
    film_added c.args.script c.args.place old.schemas old.previous old.current c.add.new.producer.current c.in-Ok.field-0 (sym c.is_shown.ensures ∙ c.if-not-is_shown.false)
    c.requires.model c.in-Ok.ensures.tells

pub returns-in-Err-TooMany-clause-tells : goal.returns-in-Err-TooMany-clause-tells
returns-in-Err-TooMany-clause-tells c =
    let old = c.args.producer.now in (
      refl,
      film_not_added c.args.script c.args.place old.schemas old.previous old.current (sym c.is_shown.ensures ∙ c.if-not-is_shown.false) c.requires.model (rw c.in-Err-TooMany.field-0-is at c.in-Err-TooMany.ensures.tells),
    )
