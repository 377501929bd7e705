use Rattle.std.proofs.Common.{refl, rules}
use Rattle.hollow_top.proofs.RefusalLines.{script_status_tells}
use Rattle.hollow_top.proofs.Serving.{cast_status, ends_script}
use Rattle.hollow_script.specs.declared.script_stop.ScriptStop.TheVariants as stop
use Rattle.hollow_top.proofs.Stopped.{leaves_chain, script_ended, script_stops, verdict_small}
use Rattle.hollow_top.proofs.TrueScripts.{answers_truly}
use Rattle.hollow_top.proofs.program.serve_script.Goals as goal

pub returns-in-Ok-clause-ends : goal.returns-in-Ok-clause-ends
returns-in-Ok-clause-ends g c = λ small.
    ends_script (g.I.Source.left c.args.input.now) (g.S.BlobStore.seen c.args.store.now).held (g.S.BlobStore.seen c.run_script.new.store).held c.run_script.new.keep
    (g.O.Sink.taken c.args.out.now) (g.O.Sink.taken c.run_script.new.out) c.in-Ok.any_refused c.from.result (cast_status c.from.result c.in-Ok.any_refused c.from.ensures) c.in-Ok.ensures.written

pub returns-in-Ok-clause-headline : goal.returns-in-Ok-clause-headline
returns-in-Ok-clause-headline g c = λ small.
    answers_truly c.true_script.ensures (g.I.Source.left c.args.input.now) (g.S.BlobStore.seen c.args.store.now).held (g.S.BlobStore.seen c.run_script.new.store).held c.run_script.new.keep
    (g.O.Sink.taken c.args.out.now) (g.O.Sink.taken c.run_script.new.out) c.in-Ok.any_refused c.told_bytes.ensures c.in-Ok.ensures.written

pub returns-in-Ok-clause-verdict : goal.returns-in-Ok-clause-verdict
returns-in-Ok-clause-verdict g c = λ small.
    script_status_tells c.refusals_apart.ensures (g.O.Sink.taken c.args.out.now) (g.O.Sink.taken c.run_script.new.out) c.in-Ok.any_refused c.from.result
    (cast_status c.from.result c.in-Ok.any_refused c.from.ensures) c.in-Ok.ensures.replied

-- ---- where it stops

pub returns-in-Ok-clause-stopped : goal.returns-in-Ok-clause-stopped
returns-in-Ok-clause-stopped g c =
    script_ended (g.I.Source.left c.args.input.now) (g.I.Source.left c.run_script.new.input) (g.S.BlobStore.seen c.args.store.now).held (g.S.BlobStore.seen c.run_script.new.store).held c.run_script.new.keep (g.O.Sink.taken c.args.out.now) (g.O.Sink.taken c.run_script.new.out)
    c.from.result (verdict_small c.from.result c.in-Ok.any_refused (cast_status c.from.result c.in-Ok.any_refused c.from.ensures))

pub returns-in-Err-Source-clause-stopped : goal.returns-in-Err-Source-clause-stopped
returns-in-Err-Source-clause-stopped g c =
    script_stops (g.I.Source.left c.args.input.now) (g.I.Source.left c.run_script.new.input) (g.S.BlobStore.seen c.args.store.now).held (g.S.BlobStore.seen c.run_script.new.store).held c.run_script.new.keep (g.O.Sink.taken c.args.out.now) (g.O.Sink.taken c.run_script.new.out)
    _ stop.Source _ (search rules) refl c.in-Err-Source.ensures.stopped

pub returns-in-Err-Source-clause-chain : goal.returns-in-Err-Source-clause-chain
returns-in-Err-Source-clause-chain g c = λ past.
    leaves_chain c.stopped_script_keeps_chain.ensures.between c.stopped_script_keeps_chain.ensures.within c.chain_is_kept.ensures (g.I.Source.left c.args.input.now) (g.I.Source.left c.run_script.new.input) (g.S.BlobStore.seen c.args.store.now).held (g.S.BlobStore.seen c.run_script.new.store).held
    c.run_script.new.keep (g.O.Sink.taken c.args.out.now) (g.O.Sink.taken c.run_script.new.out) _ c.told_bytes.ensures c.in-Err-Source.ensures.stopped

pub returns-in-Err-Sink-clause-stopped : goal.returns-in-Err-Sink-clause-stopped
returns-in-Err-Sink-clause-stopped g c =
    script_stops (g.I.Source.left c.args.input.now) (g.I.Source.left c.run_script.new.input) (g.S.BlobStore.seen c.args.store.now).held (g.S.BlobStore.seen c.run_script.new.store).held c.run_script.new.keep (g.O.Sink.taken c.args.out.now) (g.O.Sink.taken c.run_script.new.out)
    _ stop.Sink _ (search rules) refl c.in-Err-Sink.ensures.stopped

pub returns-in-Err-Sink-clause-chain : goal.returns-in-Err-Sink-clause-chain
returns-in-Err-Sink-clause-chain g c = λ past.
    leaves_chain c.stopped_script_keeps_chain.ensures.between c.stopped_script_keeps_chain.ensures.within c.chain_is_kept.ensures (g.I.Source.left c.args.input.now) (g.I.Source.left c.run_script.new.input) (g.S.BlobStore.seen c.args.store.now).held (g.S.BlobStore.seen c.run_script.new.store).held
    c.run_script.new.keep (g.O.Sink.taken c.args.out.now) (g.O.Sink.taken c.run_script.new.out) _ c.told_bytes.ensures c.in-Err-Sink.ensures.stopped

pub returns-in-Err-Store-clause-stopped : goal.returns-in-Err-Store-clause-stopped
returns-in-Err-Store-clause-stopped g c =
    script_stops (g.I.Source.left c.args.input.now) (g.I.Source.left c.run_script.new.input) (g.S.BlobStore.seen c.args.store.now).held (g.S.BlobStore.seen c.run_script.new.store).held c.run_script.new.keep (g.O.Sink.taken c.args.out.now) (g.O.Sink.taken c.run_script.new.out)
    _ stop.Store _ (search rules) refl c.in-Err-Store.ensures.stopped

pub returns-in-Err-Store-clause-chain : goal.returns-in-Err-Store-clause-chain
returns-in-Err-Store-clause-chain g c = λ past.
    leaves_chain c.stopped_script_keeps_chain.ensures.between c.stopped_script_keeps_chain.ensures.within c.chain_is_kept.ensures (g.I.Source.left c.args.input.now) (g.I.Source.left c.run_script.new.input) (g.S.BlobStore.seen c.args.store.now).held (g.S.BlobStore.seen c.run_script.new.store).held
    c.run_script.new.keep (g.O.Sink.taken c.args.out.now) (g.O.Sink.taken c.run_script.new.out) _ c.told_bytes.ensures c.in-Err-Store.ensures.stopped

pub returns-in-Err-Memory-clause-stopped : goal.returns-in-Err-Memory-clause-stopped
returns-in-Err-Memory-clause-stopped g c =
    script_stops (g.I.Source.left c.args.input.now) (g.I.Source.left c.run_script.new.input) (g.S.BlobStore.seen c.args.store.now).held (g.S.BlobStore.seen c.run_script.new.store).held c.run_script.new.keep (g.O.Sink.taken c.args.out.now) (g.O.Sink.taken c.run_script.new.out)
    _ stop.Memory _ (search rules) refl c.in-Err-Memory.ensures.stopped

pub returns-in-Err-Memory-clause-chain : goal.returns-in-Err-Memory-clause-chain
returns-in-Err-Memory-clause-chain g c = λ past.
    leaves_chain c.stopped_script_keeps_chain.ensures.between c.stopped_script_keeps_chain.ensures.within c.chain_is_kept.ensures (g.I.Source.left c.args.input.now) (g.I.Source.left c.run_script.new.input) (g.S.BlobStore.seen c.args.store.now).held (g.S.BlobStore.seen c.run_script.new.store).held
    c.run_script.new.keep (g.O.Sink.taken c.args.out.now) (g.O.Sink.taken c.run_script.new.out) _ c.told_bytes.ensures c.in-Err-Memory.ensures.stopped

pub returns-in-Err-TooLong-clause-stopped : goal.returns-in-Err-TooLong-clause-stopped
returns-in-Err-TooLong-clause-stopped g c =
    script_stops (g.I.Source.left c.args.input.now) (g.I.Source.left c.run_script.new.input) (g.S.BlobStore.seen c.args.store.now).held (g.S.BlobStore.seen c.run_script.new.store).held c.run_script.new.keep (g.O.Sink.taken c.args.out.now) (g.O.Sink.taken c.run_script.new.out)
    _ stop.TooLong _ (search rules) refl c.in-Err-TooLong.ensures.stopped

pub returns-in-Err-TooLong-clause-chain : goal.returns-in-Err-TooLong-clause-chain
returns-in-Err-TooLong-clause-chain g c = λ past.
    leaves_chain c.stopped_script_keeps_chain.ensures.between c.stopped_script_keeps_chain.ensures.within c.chain_is_kept.ensures (g.I.Source.left c.args.input.now) (g.I.Source.left c.run_script.new.input) (g.S.BlobStore.seen c.args.store.now).held (g.S.BlobStore.seen c.run_script.new.store).held
    c.run_script.new.keep (g.O.Sink.taken c.args.out.now) (g.O.Sink.taken c.run_script.new.out) _ c.told_bytes.ensures c.in-Err-TooLong.ensures.stopped
