use Rattle.std.proofs.Common.{Err, arith, subst, ◌∙◌}
use Rattle.std.specs.Prelude.{ℕ, ◌≡◌, codes, ◌%◌, ◌*◌}
use Rattle.std.proofs.lemmas.Result.{err_from_is_err_and}
use Rattle.row_model.specs.Table.{Table}
use Rattle.row_model.specs.declared.row.Row.{Row}
use Rattle.write_engine.specs.Agreement.{TablesAgree}
use Rattle.write_engine.specs.Cycle.{Adds, PutsRow}
use Rattle.write_engine.specs.RowPuts.{TellsRowPut}
use Rattle.film_script.specs.Films.{film_schemas, film_tags, film_type}
use Rattle.film_rows.specs.Known.{TellsAdded}
use Rattle.film_rows.specs.Rows.{film_row, tags_type, text_row, text_type}
use Rattle.film_rows.proofs.Answering.{film_tells, is_live, put_stands, ready_put, same_previous, tags_stop, title_stops}
use Rattle.film_rows.proofs.Fitting.{film_fits}
use Rattle.film_rows.proofs.adding.FilmRows.add.Goals as goal

pub returns-in_err-title-clause-tells : goal.returns-in_err-title-clause-tells
returns-in_err-title-clause-tells c =
    let old = c.args.producer.now in
    let mid = c.put_title.new.producer in
    let p = err_from_is_err_and c.from_residual.result c.from_residual.ensures.1 in
    let number : c.from.result * c.from-2.result % 1000 ≡ c.args.place * c.args.seed % 1000 = λ i. c.from.ensures i * c.from-2.ensures i % 1000 in
    rw (p.1, p.2)
    (title_stops old.previous c.args.seed c.args.cycle c.args.place old.current c.requires.ready.filming.agree c.in_err-title.field-0.0 mid.current mid.current
    (subst (λ (n : ℕ). TellsRowPut old.previous text_type (text_row (codes "t") n) old.current (Err c.in_err-title.field-0.0) mid.current) number c.in_err-title.ensures.tells))

pub returns-in_err-tags-clause-tells : goal.returns-in_err-tags-clause-tells
returns-in_err-tags-clause-tells c =
    let old = c.args.producer.now in
    let mid = c.put_title.new.producer in
    let late = c.put_tags.new.producer in
    let fault = c.in_err-tags.field-0.0 in
    let p = err_from_is_err_and c.from_residual-in_err-tags.result c.from_residual-in_err-tags.ensures.1 in
    let number : c.from.result * c.from-2.result % 1000 ≡ c.args.place * c.args.seed % 1000 = λ i. c.from.ensures i * c.from-2.ensures i % 1000 in
    let put = subst (λ (n : ℕ). PutsRow old.previous text_type (text_row (codes "t") n) old.current c.in_ok-title.title mid.current) number c.in_ok-title.ensures.tells in
    rw (p.1, p.2)
    (tags_stop old.previous c.args.seed c.args.cycle c.args.place old.current c.requires.ready.filming.agree c.in_ok-title.title mid.current put fault late.current late.current
    (subst (λ (previous : Table). TellsAdded previous tags_type (film_tags c.args.place) mid.current (Err fault) late.current) (same_previous old mid c.put_title.ensures.kept) c.in_err-tags.ensures.tells))

pub put_row-requires-clause-fits : goal.put_row-requires-clause-fits
put_row-requires-clause-fits c =
    let old = c.args.producer.now in
    let mid = c.put_title.new.producer in
    let late = c.put_tags.new.producer in
    let title = c.in_ok-title.title in
    let number : c.from.result * c.from-2.result % 1000 ≡ c.args.place * c.args.seed % 1000 = λ i. c.from.ensures i * c.from-2.ensures i % 1000 in
    let put = subst (λ (n : ℕ). PutsRow old.previous text_type (text_row (codes "t") n) old.current c.in_ok-title.title mid.current) number c.in_ok-title.ensures.tells in
    let stands = put_stands old mid text_type title (text_row (codes "t") (c.args.place * c.args.seed % 1000)) c.requires.ready.filming (omega arith) put in
    film_fits late.schemas late.current c.in_ok-tags.ensures.ready.filming.model c.in_ok-row.row c.args.seed c.args.cycle c.args.place title c.in_ok-tags.tags c.in_ok-row.ensures.row c.in_ok-row.ensures.range
    (is_live late.current text_type title _ (c.in_ok-tags.ensures.grown.keeps text_type title _ stands)) c.in_ok-tags.ensures.live

pub returns-clause-tells : goal.returns-clause-tells
returns-clause-tells c =
    let old = c.args.producer.now in
    let mid = c.put_title.new.producer in
    let late = c.put_tags.new.producer in
    let new = c.put_row.new.self in
    let title = c.in_ok-title.title in
    let tags = c.in_ok-tags.tags in
    let number : c.from.result * c.from-2.result % 1000 ≡ c.args.place * c.args.seed % 1000 = λ i. c.from.ensures i * c.from-2.ensures i % 1000 in
    let put = subst (λ (n : ℕ). PutsRow old.previous text_type (text_row (codes "t") n) old.current c.in_ok-title.title mid.current) number c.in_ok-title.ensures.tells in
    let same_mid = same_previous old mid c.put_title.ensures.kept in
    let same_late = same_previous mid late c.put_tags.ensures.kept ∙ same_mid in
    film_tells old.previous c.args.seed c.args.cycle c.args.place old.current c.requires.ready.filming.agree title mid.current put tags late.current c.requires.place
    (subst (λ (previous : Table). Adds film_schemas previous tags_type (film_tags c.args.place) mid.current tags late.current) same_mid c.in_ok-tags.ensures.tells)
    (subst (λ (previous : Table). TablesAgree previous late.current) same_late c.in_ok-tags.ensures.ready.filming.agree) c.put_row.result new.current
    (subst (λ (previous : Table). TellsRowPut previous film_type (film_row c.args.seed c.args.cycle c.args.place title tags) late.current c.put_row.result new.current) same_late
    (subst (λ (row : Row). TellsRowPut late.previous film_type row late.current c.put_row.result new.current) c.in_ok-row.ensures.row c.put_row.ensures.tells))

pub returns-clause-ready : goal.returns-clause-ready
returns-clause-ready c =
    ready_put _ c.put_tags.new.producer c.put_row.new.self film_type c.in_ok-row.row c.put_row.result c.in_ok-tags.ensures.ready c.put_row.ensures.kept c.put_row.ensures.tells
