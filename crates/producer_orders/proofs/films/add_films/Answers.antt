use Rattle.std.proofs.lemmas.Result.{err_from_is_err_and}
use Rattle.film_rows.proofs.Knowing.{ready_unknown}
use Rattle.producer_orders.proofs.AddingRecords.{holds_once}
use Rattle.producer_orders.proofs.FilmRecords.{films_end, films_start, films_step, films_stop, takes_films}
use Rattle.producer_orders.proofs.films.add_films.Goals as goal

pub loop-place-init : goal.loop-place-init
loop-place-init c =
    let old = c.args.producer.now in
    let filming = takes_films old c.requires.model c.requires.resting.is_open c.current-agreeing.ensures.agree c.current-agreeing.ensures.closed in
    (films_start c.args.script old c.requires.resting.is_empty, ready_unknown c.in_ok-rows.rows old c.in_ok-rows.ensures filming)

pub returns-in_err-add_film-clause-tells : goal.returns-in_err-add_film-clause-tells
returns-in_err-add_film-clause-tells c =
    let old = c.args.producer.now in
    let p = err_from_is_err_and c.from_residual-in_err-add_film.result c.from_residual-in_err-add_film.ensures.1 in
    rw (p.1, p.2)
    (films_stop c.args.script c.loop-place.place old c.loop-place.producer c.add_film.new.producer c.in_err-add_film.field-0.0 c.loop-place-test.true
    (holds_once old.previous old.current c.current-agreeing.ensures.agree) c.loop-place.invariant.0 c.in_err-add_film.ensures.tells)

pub loop-place-preserved : goal.loop-place-preserved
loop-place-preserved c = (
  films_step c.args.script c.loop-place.place c.args.producer.now c.loop-place.producer c.add_film.new.producer c.loop-place-test.true c.loop-place.invariant.0 c.add_film.ensures.kept c.in_ok-add_film.ensures.tells,
  c.in_ok-add_film.ensures.ready,
)

pub returns-clause-tells : goal.returns-clause-tells
returns-clause-tells c = films_end c.args.script c.loop-place.place c.args.producer.now c.loop-place.producer c.loop-place-test.false c.loop-place.invariant.0
