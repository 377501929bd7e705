use Rattle.film_rows.specs.Known.{AreReady}
use Rattle.producer_orders.proofs.FilmRecords.{HasFilms}
use Rattle.producer_orders.proofs.films.add_films.Given as goal

abbrev pub invariant-loop-place : goal.invariant-loop-place
invariant-loop-place l = HasFilms l.script l.place l.initial.producer l.producer × AreReady l.rows l.producer
