use Rattle.std.proofs.Common.{IfSome, Some, ◌∙◌, sym, subst, arith, rules}
use Rattle.hollow_machine.specs.Kept.{IsResting}
use Rattle.hollow_script.proofs.Answering.{handed_on, reader_starts, starts_answered, takes_none, takes_past, takes_then, told_both, told_next}
use Rattle.std.proofs.lemmas.Result.{err_from_is_err_and}
use Rattle.hollow_script.proofs.Halting.{stays_stopped}
use Rattle.hollow_script.proofs.Keeping.{nothing_edited, nothing_read}
use Rattle.hollow_script.specs.Scripted.{HasStopped, IsAnswered}
use Rattle.hollow_script.specs.declared.script_stop.ScriptStop.TheVariants as stop
use Rattle.hollow_script.proofs.Replying.{end_replied, next_replied, none_replied}
use Rattle.hollow_script.specs.declared.script_stop.ScriptStop.TheVariants.{TooLong}
use Rattle.hollow_script.proofs.script.answer_each.Goals as goal

pub loop-turn-init : goal.loop-turn-init
loop-turn-init g c =
    let at_start = reader_starts _ _ _ c.requires.starts in
    record {
      answered = starts_answered (g.I.Source.left c.args.input.now) (g.S.BlobStore.seen c.args.store.now).held _ c.args.keep.now (g.O.Sink.taken c.args.out.now) c.args.waiting.now.items c.requires.fresh c.requires.none_waits
          c.requires.ahead at_start.0;
      replied = none_replied (g.O.Sink.taken c.args.out.now) c.args.waiting.now.items c.requires.none_waits;
      resting = subst (λ kept. IfSome kept IsResting) (sym c.requires.fresh.producer) tt;
      reading = nothing_read c.args.keep.now c.requires.fresh;
      edits = nothing_edited c.args.keep.now c.requires.fresh;
      later = omega arith;
      source_later = omega arith;
      store_later = omega arith;
      takes = takes_none (g.I.Source.left c.args.input.now) _ at_start.1;
      budget = at_start.2;
      at_end = at_start.3 (g.I.Source.left c.args.input.now);
    }

pub returns-in_err-also-clause-past : goal.returns-in_err-also-clause-past
returns-in_err-also-clause-past g c = λ too.
    (let before = g.I.Source.left c.args.input.now in
    let mid = g.I.Source.left c.loop-turn.input in
    let after = g.I.Source.left c.serve_next.new.input in
    takes_past before after c.serve_next.new.lines.taken c.serve_next.new.lines.budget
    (takes_then before mid after 0 c.loop-turn.lines.taken c.serve_next.new.lines.taken c.loop-turn.invariant.takes c.in_err-also.ensures.takes)
    (c.in_err-also.ensures.limits.1 ∙ c.loop-turn.invariant.budget)
    (c.in_err-also.ensures.past (handed_on c.from_residual.result c.in_err-also.field-0.0 TooLong c.from_residual.ensures.1 too)))

pub loop-turn-preserved : goal.loop-turn-preserved
loop-turn-preserved g c = record {
  answered = told_next (g.I.Source.left c.loop-turn.input) (g.I.Source.left c.serve_next.new.input) (g.S.BlobStore.seen c.loop-turn.store).held (g.S.BlobStore.seen c.serve_next.new.store).held
      c.loop-turn.lines c.serve_next.new.lines c.loop-turn.keep c.serve_next.new.keep (g.O.Sink.taken c.args.out.now) (g.O.Sink.taken c.loop-turn.out) (g.O.Sink.taken c.serve_next.new.out)
      c.loop-turn.waiting.items c.serve_next.new.waiting.items c.loop-turn.refused c.in-Some.also _ c.in_ok-also.field-0
      (g.I.Source.left c.args.input.now) (g.S.BlobStore.seen c.args.store.now).held c.in-Some.is (search rules) c.loop-turn.invariant.answered c.in_ok-also.ensures.served;
  replied = next_replied (g.O.Sink.taken c.args.out.now) (g.O.Sink.taken c.serve_next.new.out) c.serve_next.new.waiting.items c.loop-turn.refused c.in-Some.also _ c.in_ok-also.field-0 c.in-Some.is (search rules)
      (c.in_ok-also.ensures.replied (g.O.Sink.taken c.args.out.now) c.loop-turn.refused c.loop-turn.invariant.replied);
  resting = c.in_ok-also.ensures.resting;
  reading = c.in_ok-also.ensures.reading;
  edits = c.in_ok-also.ensures.edits;
  later = omega (arith, c.loop-turn.invariant.later, c.in_ok-also.ensures.later);
  source_later = omega (arith, c.loop-turn.invariant.source_later, c.in_ok-also.ensures.source_later);
  store_later = omega (arith, c.loop-turn.invariant.store_later, c.in_ok-also.ensures.store_later);
  takes = takes_then (g.I.Source.left c.args.input.now) (g.I.Source.left c.loop-turn.input) (g.I.Source.left c.serve_next.new.input) 0 c.loop-turn.lines.taken c.serve_next.new.lines.taken
      c.loop-turn.invariant.takes c.in_ok-also.ensures.takes;
  budget = c.in_ok-also.ensures.limits.1 ∙ c.loop-turn.invariant.budget;
  at_end = c.in_ok-also.ensures.at_end;
}

pub returns-in_default-clause-replied : goal.returns-in_default-clause-replied
returns-in_default-clause-replied g c =
    end_replied (g.O.Sink.taken c.args.out.now) (g.O.Sink.taken c.serve_next.new.out) c.serve_next.new.waiting.items c.loop-turn.refused c.in_ok-also.field-0 (search rules)
    (c.in_ok-also.ensures.replied (g.O.Sink.taken c.args.out.now) c.loop-turn.refused c.loop-turn.invariant.replied)

-- ---- where it stops

pub returns-in_err-also-clause-stops : goal.returns-in_err-also-clause-stops
returns-in_err-also-clause-stops g c =
    let p = err_from_is_err_and c.from_residual.result c.from_residual.ensures.1 in
    let before = g.O.Sink.taken c.args.out.now in
    let held' = (g.S.BlobStore.seen c.serve_next.new.store).held in
    rw (p.1, p.2) (told_both (g.I.Source.left c.args.input.now) (g.S.BlobStore.seen c.args.store.now).held
    (λ bytes first. IsAnswered bytes first (g.I.Source.left c.loop-turn.input) (g.S.BlobStore.seen c.loop-turn.store).held c.loop-turn.lines c.loop-turn.keep before (g.O.Sink.taken c.loop-turn.out) c.loop-turn.waiting.items c.loop-turn.refused)
    (λ bytes first. HasStopped bytes first (g.I.Source.left c.serve_next.new.input) (Some c.serve_next.new.lines) held' c.serve_next.new.keep before (g.O.Sink.taken c.serve_next.new.out) c.serve_next.new.waiting.items c.in_err-also.field-0.0) c.loop-turn.invariant.answered
    (λ bytes first is. c.in_err-also.ensures.served bytes first before c.loop-turn.refused is))

pub returns-clause-stops : goal.returns-clause-stops
returns-clause-stops g c =
    let before = g.O.Sink.taken c.args.out.now in
    let held = (g.S.BlobStore.seen c.loop-turn.store).held in
    let after = g.O.Sink.taken c.loop-turn.out in
    told_both (g.I.Source.left c.args.input.now) (g.S.BlobStore.seen c.args.store.now).held
    (λ bytes first. IsAnswered bytes first (g.I.Source.left c.loop-turn.input) held c.loop-turn.lines c.loop-turn.keep before after c.loop-turn.waiting.items c.loop-turn.refused)
    (λ bytes first. HasStopped bytes first (g.I.Source.left c.loop-turn.input) (Some c.loop-turn.lines) held c.loop-turn.keep before after c.loop-turn.waiting.items stop.Memory) c.loop-turn.invariant.answered
    (λ bytes first is. stays_stopped bytes first (g.I.Source.left c.loop-turn.input) held c.loop-turn.lines c.loop-turn.keep before after c.loop-turn.waiting.items c.loop-turn.refused is)
