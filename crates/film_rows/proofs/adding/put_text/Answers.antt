use Rattle.film_rows.proofs.Fitting.{text_fits}
use Rattle.film_rows.proofs.adding.put_text.Goals as goal

pub put_row-requires-clause-fits : goal.put_row-requires-clause-fits
put_row-requires-clause-fits c =
    text_fits c.args.producer.now.schemas c.args.producer.now.current c.requires.filming.model c.in_ok-row.row c.args.letter.now c.args.number c.in_ok-row.ensures.row c.in_ok-row.ensures.range
