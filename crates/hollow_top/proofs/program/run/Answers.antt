use Rattle.std.proofs.Common.{IfSome, map, string_bytes, rules}
use Rattle.written_laws.specs.Chain.{Chain}
use Rattle.written_laws.specs.HoldsChain.{HoldsChain}
use Rattle.hollow_top.specs.Headline.{LeavesMadeChain}
use Rattle.hollow_top.specs.Run.{StopsMade}
use Rattle.hollow_script.proofs.Keeping.{keeps_history, nothing_edited, nothing_read}
use Rattle.hollow_top.proofs.Stopped.{made_numbers}
use Rattle.hollow_top.proofs.Serving.{asks_script, cast_status, finishes, make_finishes, make_part, part_written, script_finishes}
use Rattle.hollow_top.proofs.TrueScripts.{one_made}
use Rattle.hollow_top.proofs.Verdicts.{status_tells}
use Rattle.hollow_top.proofs.program.run.Goals as goal

pub returns-in-Ok-clause-verdict : goal.returns-in-Ok-clause-verdict
returns-in-Ok-clause-verdict g c = λ ended single.
    status_tells (g.O.Sink.taken c.args.out.now) (g.O.Sink.taken c.serve.new.out) c.in-Ok.refused c.from.result (cast_status c.from.result c.in-Ok.refused c.from.ensures) c.in-Ok.ensures.verdict

pub returns-in-Ok-clause-answered : goal.returns-in-Ok-clause-answered
returns-in-Ok-clause-answered g c = λ ended enough.
    finishes (map string_bytes c.args.words.now) (g.I.Source.left c.args.input.now) (g.S.BlobStore.seen c.args.store.now).held (g.S.BlobStore.seen c.serve.new.store).held
    c.args.keep.now c.in-Some.command (g.O.Sink.taken c.args.out.now) (g.O.Sink.taken c.serve.new.out) c.in-Ok.refused c.from.result
    c.requires c.in-Some.ensures.0 (cast_status c.from.result c.in-Ok.refused c.from.ensures) (c.in-Ok.ensures.served (g.I.Source.left c.args.input.now))

pub returns-in-Err-Sink-clause-part : goal.returns-in-Err-Sink-clause-part
returns-in-Err-Sink-clause-part g c = λ ended single.
    part_written (map string_bytes c.args.words.now) (g.I.Source.left c.args.input.now) (g.S.BlobStore.seen c.args.store.now).held (g.S.BlobStore.seen c.serve.new.store).held
    c.in-Some.command (g.O.Sink.taken c.args.out.now) (g.O.Sink.taken c.serve.new.out) _ (search rules) c.in-Some.ensures.0 (search rules) c.serve.ensures.held (c.in-Err-Sink.ensures.served (g.I.Source.left c.args.input.now))

pub returns-in-Run-clause-answered : goal.returns-in-Run-clause-answered
returns-in-Run-clause-answered g c = λ ended tells.
    (let asked = asks_script (map string_bytes c.args.words.now) c.in-Some.command c.in-Some.ensures.0 c.in-Run.is in
    script_finishes (map string_bytes c.args.words.now) (g.I.Source.left c.args.input.now) (g.S.BlobStore.seen c.args.store.now).held (g.S.BlobStore.seen c.serve_script.new.store).held
    c.serve_script.new.keep (g.O.Sink.taken c.args.out.now) (g.O.Sink.taken c.serve_script.new.out) c.serve_script.result asked (tells asked) (c.serve_script.ensures.ends ended))

pub returns-in-Make-clause-answered : goal.returns-in-Make-clause-answered
returns-in-Make-clause-answered g c = λ ended enough.
    make_finishes (map string_bytes c.args.words.now) (g.I.Source.left c.args.input.now) (g.S.BlobStore.seen c.args.store.now).held (g.S.BlobStore.seen c.serve_make.new.store).held
    c.serve_make.new.keep c.in-Some.command c.in-Make.seed c.in-Make.rows c.in-Make.cycles (g.O.Sink.taken c.args.out.now) (g.O.Sink.taken c.serve_make.new.out) c.serve_make.result
    c.in-Some.ensures.0 c.in-Make.is (c.serve_make.ensures.ends ended)

pub returns-in-Make-clause-part : goal.returns-in-Make-clause-part
returns-in-Make-clause-part g c = λ failed single.
    make_part (map string_bytes c.args.words.now) (g.I.Source.left c.args.input.now) (g.S.BlobStore.seen c.args.store.now).held (g.S.BlobStore.seen c.serve_make.new.store).held c.in-Some.command c.in-Make.seed c.in-Make.rows c.in-Make.cycles
    (g.O.Sink.taken c.args.out.now) (g.O.Sink.taken c.serve_make.new.out) c.in-Some.ensures.0 c.in-Make.is (c.serve_make.ensures.part failed)

pub returns-in-Make-clause-made : goal.returns-in-Make-clause-made
returns-in-Make-clause-made g c = λ ended seed rows cycles asked.
    one_made (map string_bytes c.args.words.now) c.in-Some.command c.in-Make.seed c.in-Make.rows c.in-Make.cycles seed rows cycles (g.S.BlobStore.seen c.args.store.now).held
    (g.S.BlobStore.seen c.serve_make.new.store).held c.serve_make.new.keep c.in-Some.ensures.1 c.in-Make.is asked (c.serve_make.ensures.chain ended)

-- ---- where `make` stops

pub returns-in-Make-clause-make_stopped : goal.returns-in-Make-clause-make_stopped
returns-in-Make-clause-make_stopped g c = λ past seed rows cycles asked.
    made_numbers (map string_bytes c.args.words.now) c.in-Some.command c.in-Make.seed c.in-Make.rows c.in-Make.cycles seed rows cycles
    (λ s r n. IfSome (g.S.BlobStore.seen c.args.store.now).held (λ first. StopsMade s r n first (g.S.BlobStore.seen c.serve_make.new.store).held))
    c.in-Some.ensures.1 c.in-Make.is asked (c.serve_make.ensures.stopped past)

pub returns-in-Make-clause-made_chain : goal.returns-in-Make-clause-made_chain
returns-in-Make-clause-made_chain g c = λ past seed rows cycles asked.
    made_numbers (map string_bytes c.args.words.now) c.in-Some.command c.in-Make.seed c.in-Make.rows c.in-Make.cycles seed rows cycles
    (λ s r n. IfSome (g.S.BlobStore.seen c.args.store.now).held (λ first. (chain : Chain) → HoldsChain first chain → LeavesMadeChain s r n first chain (g.S.BlobStore.seen c.serve_make.new.store).held))
    c.in-Some.ensures.1 c.in-Make.is asked (c.serve_make.ensures.left_chain past)

-- ---- the history that is kept

pub returns-in_default-clause-history : goal.returns-in_default-clause-history
returns-in_default-clause-history g c = λ held. keeps_history c.args.keep.now held (nothing_read c.args.keep.now c.requires)

pub returns-in-Run-clause-history : goal.returns-in-Run-clause-history
returns-in-Run-clause-history g c = λ held. keeps_history c.serve_script.new.keep held c.serve_script.ensures.reading

pub returns-in-Make-clause-history : goal.returns-in-Make-clause-history
returns-in-Make-clause-history g c = λ held. keeps_history c.serve_make.new.keep held c.serve_make.ensures.reading

pub returns-in-Ok-clause-history : goal.returns-in-Ok-clause-history
returns-in-Ok-clause-history g c = λ held. keeps_history c.args.keep.now held (nothing_read c.args.keep.now c.requires)

pub returns-in-Err-Sink-clause-history : goal.returns-in-Err-Sink-clause-history
returns-in-Err-Sink-clause-history g c = λ held. keeps_history c.args.keep.now held (nothing_read c.args.keep.now c.requires)

pub returns-in-Err-Store-clause-history : goal.returns-in-Err-Store-clause-history
returns-in-Err-Store-clause-history g c = λ held. keeps_history c.args.keep.now held (nothing_read c.args.keep.now c.requires)

pub returns-in-Err-Memory-clause-history : goal.returns-in-Err-Memory-clause-history
returns-in-Err-Memory-clause-history g c = λ held. keeps_history c.args.keep.now held (nothing_read c.args.keep.now c.requires)

-- ---- what is kept for changes

pub returns-in_default-clause-edits : goal.returns-in_default-clause-edits
returns-in_default-clause-edits g c = nothing_edited c.args.keep.now c.requires

pub returns-in-Ok-clause-edits : goal.returns-in-Ok-clause-edits
returns-in-Ok-clause-edits g c = nothing_edited c.args.keep.now c.requires

pub returns-in-Err-Sink-clause-edits : goal.returns-in-Err-Sink-clause-edits
returns-in-Err-Sink-clause-edits g c = nothing_edited c.args.keep.now c.requires

pub returns-in-Err-Store-clause-edits : goal.returns-in-Err-Store-clause-edits
returns-in-Err-Store-clause-edits g c = nothing_edited c.args.keep.now c.requires

pub returns-in-Err-Memory-clause-edits : goal.returns-in-Err-Memory-clause-edits
returns-in-Err-Memory-clause-edits g c = nothing_edited c.args.keep.now c.requires

pub returns-in-Run-clause-edits : goal.returns-in-Run-clause-edits
returns-in-Run-clause-edits g c = c.serve_script.ensures.edits

pub returns-in-Make-clause-edits : goal.returns-in-Make-clause-edits
returns-in-Make-clause-edits g c = c.serve_make.ensures.edits
