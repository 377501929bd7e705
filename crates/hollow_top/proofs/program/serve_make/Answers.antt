use Rattle.hollow_top.proofs.Serving.{cast_status, ends_make}
use Rattle.hollow_top.proofs.Stopped.{leaves_made_chain}
use Rattle.hollow_top.proofs.TrueScripts.{makes_chain}
use Rattle.hollow_top.proofs.Verdicts.{status_tells}
use Rattle.hollow_top.proofs.program.serve_make.Goals as goal

pub returns-in-Ok-clause-ends : goal.returns-in-Ok-clause-ends
returns-in-Ok-clause-ends g c = λ ended.
    ends_make c.args.seed c.args.rows c.args.cycles (g.S.BlobStore.seen c.args.store.now).held (g.S.BlobStore.seen c.make_line.new.store).held c.make_line.new.keep
    (g.O.Sink.taken c.args.out.now) (g.O.Sink.taken c.make_line.new.out) c.in-Ok.is_refusal c.from.result (cast_status c.from.result c.in-Ok.is_refusal c.from.ensures) c.in-Ok.ensures.made

pub returns-in-Ok-clause-verdict : goal.returns-in-Ok-clause-verdict
returns-in-Ok-clause-verdict g c = λ ended.
    status_tells (g.O.Sink.taken c.args.out.now) (g.O.Sink.taken c.make_line.new.out) c.in-Ok.is_refusal c.from.result (cast_status c.from.result c.in-Ok.is_refusal c.from.ensures) c.in-Ok.ensures.verdict

pub returns-in-Ok-clause-chain : goal.returns-in-Ok-clause-chain
returns-in-Ok-clause-chain g c = λ ended.
    makes_chain c.chain_is_kept.ensures c.make_keeps_chain.ensures c.args.seed c.args.rows c.args.cycles (g.S.BlobStore.seen c.args.store.now).held
    (g.S.BlobStore.seen c.make_line.new.store).held c.make_line.new.keep (g.O.Sink.taken c.args.out.now) (g.O.Sink.taken c.make_line.new.out) c.from.result
    c.requires.seed c.requires.cycles c.told_bytes.ensures (returns-in-Ok-clause-ends g c ended)

pub returns-in-Err-Sink-clause-left_chain : goal.returns-in-Err-Sink-clause-left_chain
returns-in-Err-Sink-clause-left_chain g c = λ past.
    leaves_made_chain c.stopped_make_keeps_chain.ensures c.chain_is_kept.ensures c.args.seed c.args.rows c.args.cycles (g.S.BlobStore.seen c.args.store.now).held (g.S.BlobStore.seen c.make_line.new.store).held
    c.requires.seed c.requires.cycles c.told_bytes.ensures c.in-Err-Sink.ensures.stopped

pub returns-in-Err-Store-clause-left_chain : goal.returns-in-Err-Store-clause-left_chain
returns-in-Err-Store-clause-left_chain g c = λ past.
    leaves_made_chain c.stopped_make_keeps_chain.ensures c.chain_is_kept.ensures c.args.seed c.args.rows c.args.cycles (g.S.BlobStore.seen c.args.store.now).held (g.S.BlobStore.seen c.make_line.new.store).held
    c.requires.seed c.requires.cycles c.told_bytes.ensures c.in-Err-Store.ensures.stopped

pub returns-in-Err-Memory-clause-left_chain : goal.returns-in-Err-Memory-clause-left_chain
returns-in-Err-Memory-clause-left_chain g c = λ past.
    leaves_made_chain c.stopped_make_keeps_chain.ensures c.chain_is_kept.ensures c.args.seed c.args.rows c.args.cycles (g.S.BlobStore.seen c.args.store.now).held (g.S.BlobStore.seen c.make_line.new.store).held
    c.requires.seed c.requires.cycles c.told_bytes.ensures c.in-Err-Memory.ensures.stopped
