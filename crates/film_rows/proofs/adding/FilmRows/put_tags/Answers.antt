use Rattle.std.proofs.Common.{arith, refl}
use Rattle.film_rows.specs.Known.{tags_number}
use Rattle.film_rows.specs.Rows.{tags_type}
use Rattle.film_rows.proofs.Answering.{is_live}
use Rattle.film_rows.proofs.Knowing.{known_at, ready_grown, ready_tags, tags_again}
use Rattle.film_rows.proofs.adding.FilmRows.put_tags.Goals as goal

pub returns-in-Some-clause-tells : goal.returns-in-Some-clause-tells
returns-in-Some-clause-tells c =
    let ready = c.requires.ready in
    let all = ready.all_tags in
    tags_again c.args.producer.now c.args.place c.in-Some.ordinal ready.filming
    (ready.tags c.args.place c.in-Some.ordinal (known_at c.args.self.now.tags.items (tags_number c.args.place) c.index.result.now c.in-Some.ordinal (omega (arith, all)) c.index.ensures c.in-Some.is))

pub returns-in-Some-clause-live : goal.returns-in-Some-clause-live
returns-in-Some-clause-live c =
    let ready = c.requires.ready in
    let all = ready.all_tags in
    is_live c.args.producer.now.current tags_type c.in-Some.ordinal _
    (ready.tags c.args.place c.in-Some.ordinal (known_at c.args.self.now.tags.items (tags_number c.args.place) c.index.result.now c.in-Some.ordinal (omega (arith, all)) c.index.ensures c.in-Some.is)).stands

pub returns-clause-ready : goal.returns-clause-ready
returns-clause-ready c =
    let new = c.put_tag_set.new.producer in
    ready_tags c.args.self.now _ new c.args.place c.in_ok-ordinal.ordinal (ready_grown c.args.self.now c.args.producer.now new c.in_ok-ordinal.ensures.grown c.requires.ready) refl refl c.in_ok-ordinal.ensures.tags
