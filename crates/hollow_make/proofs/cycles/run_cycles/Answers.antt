use Rattle.std.proofs.Common.{◌≡◌, ◌+◌, ◌++◌, ◌∷◌, [], if◌then◌else◌, arith, refl}
use Rattle.hollow_make.specs.Parts.{publishes}
use Rattle.hollow_make.proofs.Passing.{are_published, noted_is_published, run_end, run_halts, run_refused, run_start, run_step, run_stops}
use Rattle.std.proofs.lemmas.Result.{err_from_is_err_and}
use Rattle.hollow_make.proofs.cycles.run_cycles.Goals as goal

pub loop-place-init : goal.loop-place-init
loop-place-init g c = record {
  run = run_start c.args.seed c.args.rows (g.S.BlobStore.seen c.args.store.now).held c.args.producer.now c.args.published.now c.requires.none c.requires.model c.requires.resting;
  later = omega arith;
}

pub returns-in-Err-clause-tells : goal.returns-in-Err-clause-tells
returns-in-Err-clause-tells g c =
    run_refused c.args.seed c.args.rows c.args.cycles (g.S.BlobStore.seen c.args.store.now).held (g.S.BlobStore.seen c.loop-place.store).held (g.S.BlobStore.seen c.film_cycle.new.store).held
    c.args.producer.now c.loop-place.producer c.film_cycle.new.producer c.loop-place.place c.loop-place.published c.in_ok-reply.reply c.in-Err.refusal c.loop-place-test.true c.loop-place.invariant.run
    c.in_ok-reply.ensures.step c.in-Err.ensures.refused

pub returns-in-Err-clause-published : goal.returns-in-Err-clause-published
returns-in-Err-clause-published g c =
    are_published c.loop-place.place c.args.cycles c.loop-place.published (omega (arith, c.loop-place-test.true)) c.requires.cycles c.loop-place.invariant.run.below

pub loop-place-preserved : goal.loop-place-preserved
loop-place-preserved g c = record {
  run = run_step c.args.seed c.args.rows (g.S.BlobStore.seen c.args.store.now).held (g.S.BlobStore.seen c.loop-place.store).held (g.S.BlobStore.seen c.film_cycle.new.store).held
      c.args.producer.now c.loop-place.producer c.film_cycle.new.producer c.loop-place.place c.loop-place.published c.note.new.published c.in_ok-reply.reply c.loop-place.invariant.run
      c.in_ok-reply.ensures.step c.in-Ok.ensures.answered c.in_ok-reply.ensures.model c.in_ok-reply.ensures.resting
      (noted_is_published c.loop-place.place c.loop-place.published c.note.new.published c.in-Ok.is_published c.in_ok-reply.reply c.in_ok-note-in-Ok.ensures.ok c.in-Ok.ensures.published);
  later = omega (arith, c.loop-place.invariant.later, c.in_ok-reply.ensures.later);
}

pub returns-clause-tells : goal.returns-clause-tells
returns-clause-tells g c =
    let all : c.loop-place.place ≡ c.args.cycles = omega (arith, c.loop-place-test.false, c.loop-place.auto.place-end) in
    run_end c.args.seed c.args.rows c.args.cycles (g.S.BlobStore.seen c.args.store.now).held (g.S.BlobStore.seen c.loop-place.store).held c.args.producer.now c.loop-place.producer
    c.loop-place.place c.loop-place.published all c.loop-place.invariant.run

pub returns-clause-published : goal.returns-clause-published
returns-clause-published g c =
    are_published c.loop-place.place c.args.cycles c.loop-place.published (omega (arith, c.loop-place.auto.place-end)) c.requires.cycles c.loop-place.invariant.run.below

pub returns-in_err-reply-clause-halts : goal.returns-in_err-reply-clause-halts
returns-in_err-reply-clause-halts g c =
    let p = err_from_is_err_and c.from_residual.result c.from_residual.ensures.1 in
    rw p.1 (run_halts c.args.seed c.args.rows c.args.cycles (g.S.BlobStore.seen c.args.store.now).held (g.S.BlobStore.seen c.loop-place.store).held (g.S.BlobStore.seen c.film_cycle.new.store).held
    c.args.producer.now c.loop-place.producer c.loop-place.place c.loop-place.published c.in_err-reply.field-0.0 c.loop-place-test.true c.loop-place.invariant.run c.in_err-reply.ensures.halts)

pub returns-in_err-note-in-Ok-clause-halts : goal.returns-in_err-note-in-Ok-clause-halts
returns-in_err-note-in-Ok-clause-halts g c =
    let p = err_from_is_err_and c.from_residual-in_err-note-in-Ok.result c.from_residual-in_err-note-in-Ok.ensures.1 in
    let place = c.loop-place.place in
    let versions = c.loop-place.published ++ (if publishes c.in_ok-reply.reply then (place + 1) ∷ [] else []) in
    let held = (g.S.BlobStore.seen c.args.store.now).held in
    let held' = (g.S.BlobStore.seen c.film_cycle.new.store).held in
    let run = run_step c.args.seed c.args.rows held (g.S.BlobStore.seen c.loop-place.store).held held'
    c.args.producer.now c.loop-place.producer c.film_cycle.new.producer place c.loop-place.published versions c.in_ok-reply.reply c.loop-place.invariant.run
    c.in_ok-reply.ensures.step c.in-Ok.ensures.answered c.in_ok-reply.ensures.model c.in_ok-reply.ensures.resting refl in
    rw p.1 (run_stops c.args.seed c.args.rows c.args.cycles held held' c.args.producer.now c.film_cycle.new.producer (place + 1) versions (omega (arith, c.loop-place-test.true)) run)
