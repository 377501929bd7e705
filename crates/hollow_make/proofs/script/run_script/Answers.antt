use Rattle.film_script.specs.Films.{film_schemas}
use Rattle.hollow_make.proofs.Ends.{behind_cycles, resting_start, script_refused, script_result}
use Rattle.std.proofs.lemmas.Result.{err_from_is_err_and}
use Rattle.hollow_make.proofs.script.run_script.Goals as goal

pub run_cycles-requires-clause-resting : goal.run_cycles-requires-clause-resting
run_cycles-requires-clause-resting g c = resting_start film_schemas c.args.producer.now c.requires.start

pub returns-in-Some-clause-reply : goal.returns-in-Some-clause-reply
returns-in-Some-clause-reply g c =
    script_refused c.args.seed c.args.rows c.args.cycles (g.S.BlobStore.seen c.args.store.now).held (g.S.BlobStore.seen c.run_cycles.new.store).held
    c.args.producer.now c.run_cycles.new.producer c.run_cycles.new.published c.in_ok-refused.refused c.in-Some.reply c.in-Some.is c.in_ok-refused.ensures.tells

pub returns-clause-reply : goal.returns-clause-reply
returns-clause-reply g c =
    script_result c.args.seed c.args.rows c.args.cycles (g.S.BlobStore.seen c.args.store.now).held (g.S.BlobStore.seen c.run_cycles.new.store).held (g.S.BlobStore.seen c.end_script.new.store).held
    c.args.producer.now c.run_cycles.new.producer c.run_cycles.new.published c.in_ok-refused.refused c.end_script.result c.in-None.is c.in_ok-refused.ensures.tells c.end_script.ensures.tells c.end_script.ensures.held

pub returns-clause-halts : goal.returns-clause-halts
returns-clause-halts g c =
    behind_cycles c.args.seed c.args.rows c.args.cycles (g.S.BlobStore.seen c.args.store.now).held (g.S.BlobStore.seen c.run_cycles.new.store).held (g.S.BlobStore.seen c.end_script.new.store).held
    c.args.producer.now c.run_cycles.new.producer c.run_cycles.new.published c.in_ok-refused.refused c.end_script.result c.in-None.is c.in_ok-refused.ensures.tells c.end_script.ensures.held

pub returns-in_err-refused-clause-halts : goal.returns-in_err-refused-clause-halts
returns-in_err-refused-clause-halts g c =
    let p = err_from_is_err_and c.from_residual.result c.from_residual.ensures.1 in
    rw p.1 c.in_err-refused.ensures.halts
