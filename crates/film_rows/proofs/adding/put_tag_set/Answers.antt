use Rattle.std.proofs.Common.{Err, arith, subst}
use Rattle.std.specs.Prelude.{codes, ◌%◌}
use Rattle.std.proofs.lemmas.Result.{err_from_is_err_and}
use Rattle.row_model.specs.Table.{Table}
use Rattle.write_engine.specs.RowPuts.{TellsRowPut}
use Rattle.film_rows.specs.Rows.{text_row, text_type}
use Rattle.film_rows.proofs.Answering.{PutTags, first_there, if_grown, if_there, is_live, late_grown, same_previous, second_stops, second_there, tags_tell}
use Rattle.film_rows.proofs.Fitting.{tags_fits}
use Rattle.film_rows.proofs.Knowing.{grown_by}
use Rattle.film_rows.proofs.adding.put_tag_set.Goals as goal

pub put_text-requires-2 : goal.put_text-requires-2
put_text-requires-2 c = record {
  filming = (grown_by c.args.producer.now c.put_text.new.producer text_type c.in_ok-first.first (text_row (codes "g") (c.args.place % 3)) c.requires.filming c.put_text.ensures.kept c.in_ok-first.ensures.tells).filming;
}

pub returns-in_err-second-clause-tells : goal.returns-in_err-second-clause-tells
returns-in_err-second-clause-tells c =
    let old = c.args.producer.now in
    let mid = c.put_text.new.producer in
    let late = c.put_text-2.new.producer in
    let fault = c.in_err-second.field-0.0 in
    let q = err_from_is_err_and c.from_residual-in_err-second.result c.from_residual-in_err-second.ensures.1 in
    rw (q.1, q.2)
    (second_stops old.previous c.args.place old.current c.requires.filming.agree c.in_ok-first.first mid.current c.in_ok-first.ensures.tells fault late.current late.current
    (subst (λ (previous : Table). TellsRowPut previous text_type (text_row (codes "g") (c.args.place % 5)) mid.current (Err fault) late.current) (same_previous old mid c.put_text.ensures.kept) c.in_err-second.ensures.tells))

pub put_row-requires-clause-fits : goal.put_row-requires-clause-fits
put_row-requires-clause-fits c =
    let old = c.args.producer.now in
    let mid = c.put_text.new.producer in
    let late = c.put_text-2.new.producer in
    let first = c.in_ok-first.first in
    let second = c.in_ok-second.second in
    let members = c.in_ok-members.members in
    let p : PutTags old mid late c.args.place first second members = record {
      filming = c.requires.filming;
      first_puts = c.in_ok-first.ensures.tells;
      first_kept = c.put_text.ensures.kept;
      second_puts = c.in_ok-second.ensures.tells;
      second_kept = c.put_text-2.ensures.kept;
      set = c.in_ok-members.ensures;
    } in
    let low_first = p.first_puts.low in
    let low_second = p.second_puts.low in
    tags_fits late.schemas late.current (late_grown old mid late c.args.place first second members p).filming.model first second members p.set (omega (arith, low_first)) (omega (arith, low_second))
    (is_live late.current text_type first _ (first_there old mid late c.args.place first second members p)) (is_live late.current text_type second _ (second_there old mid late c.args.place first second members p))

pub returns-clause-tells : goal.returns-clause-tells
returns-clause-tells c =
    let old = c.args.producer.now in
    let mid = c.put_text.new.producer in
    let late = c.put_text-2.new.producer in
    let first = c.in_ok-first.first in
    let second = c.in_ok-second.second in
    let members = c.in_ok-members.members in
    let p : PutTags old mid late c.args.place first second members = record {
      filming = c.requires.filming;
      first_puts = c.in_ok-first.ensures.tells;
      first_kept = c.put_text.ensures.kept;
      second_puts = c.in_ok-second.ensures.tells;
      second_kept = c.put_text-2.ensures.kept;
      set = c.in_ok-members.ensures;
    } in
    tags_tell old mid late c.args.place first second members p c.put_row.new.self c.put_row.result c.put_row.ensures.tells

pub returns-clause-grown : goal.returns-clause-grown
returns-clause-grown c =
    let old = c.args.producer.now in
    let mid = c.put_text.new.producer in
    let late = c.put_text-2.new.producer in
    let first = c.in_ok-first.first in
    let second = c.in_ok-second.second in
    let members = c.in_ok-members.members in
    let p : PutTags old mid late c.args.place first second members = record {
      filming = c.requires.filming;
      first_puts = c.in_ok-first.ensures.tells;
      first_kept = c.put_text.ensures.kept;
      second_puts = c.in_ok-second.ensures.tells;
      second_kept = c.put_text-2.ensures.kept;
      set = c.in_ok-members.ensures;
    } in
    if_grown old mid late c.put_row.new.self c.args.place first second members p c.put_row.result c.put_row.ensures.kept c.put_row.ensures.tells

pub returns-clause-tags : goal.returns-clause-tags
returns-clause-tags c =
    let old = c.args.producer.now in
    let mid = c.put_text.new.producer in
    let late = c.put_text-2.new.producer in
    let first = c.in_ok-first.first in
    let second = c.in_ok-second.second in
    let members = c.in_ok-members.members in
    let p : PutTags old mid late c.args.place first second members = record {
      filming = c.requires.filming;
      first_puts = c.in_ok-first.ensures.tells;
      first_kept = c.put_text.ensures.kept;
      second_puts = c.in_ok-second.ensures.tells;
      second_kept = c.put_text-2.ensures.kept;
      set = c.in_ok-members.ensures;
    } in
    if_there old mid late c.put_row.new.self c.args.place first second members p c.put_row.result c.put_row.ensures.kept c.put_row.ensures.tells
