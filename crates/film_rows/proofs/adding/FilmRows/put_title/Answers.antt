use Rattle.std.proofs.Common.{arith, refl}
use Rattle.film_rows.specs.Rows.{text_type}
use Rattle.film_rows.proofs.Answering.{put_stands}
use Rattle.film_rows.proofs.Knowing.{grown_by, known_at, ready_grown, ready_title, title_again}
use Rattle.film_rows.proofs.adding.FilmRows.put_title.Goals as goal

pub returns-in-Some-clause-tells : goal.returns-in-Some-clause-tells
returns-in-Some-clause-tells c =
    let rows = c.args.self.now in
    let ready = c.requires.ready in
    let number = c.requires.number in
    title_again rows c.args.producer.now c.args.number c.in-Some.ordinal ready
    (known_at rows.titles.items c.args.number c.index.result.now c.in-Some.ordinal (let all = ready.all_titles in omega (arith, number, all)) c.index.ensures c.in-Some.is)

pub returns-clause-ready : goal.returns-clause-ready
returns-clause-ready c =
    let old = c.args.producer.now in
    let new = c.put_text.new.producer in
    let ready = c.requires.ready in
    let ordinal = c.in_ok-ordinal.ordinal in
    let puts = c.in_ok-ordinal.ensures.tells in
    let grown = grown_by old new text_type ordinal _ ready.filming c.put_text.ensures.kept puts in
    ready_title c.args.self.now _ new c.args.number ordinal (ready_grown c.args.self.now old new grown ready) refl refl
    (put_stands old new text_type ordinal _ ready.filming (omega arith) puts)
