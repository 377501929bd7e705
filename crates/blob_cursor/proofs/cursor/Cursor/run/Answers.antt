use Rattle.std.proofs.Common.{arith, ap, ◌≤◌, ◌+◌, ℕ, List, length, Err}
use Rattle.std.proofs.lemmas.Grind.{common_steps}
use Rattle.schema_model.specs.declared.reason.Reason.TheVariants.{Truncated}
use Rattle.blob_frame.specs.declared.fault.BlobFault.TheVariants.{Bad}
use Rattle.blob_cursor.proofs.Runs.{gathers_start, gathers_more, gathers_done, gathers_gone, reads_cut}
use Rattle.blob_cursor.proofs.cursor.Cursor.run.Goals as goal

pub returns-then-left-count-clause-reads : goal.returns-then-left-count-clause-reads
returns-then-left-count-clause-reads g c = reads_cut c.args.count c.requires.over (omega (arith, c.left.ensures.value)) (ap Err c.bad.ensures)

pub loop-self-preserved : goal.loop-self-preserved
loop-self-preserved g c =
    let here : c.min-piece.result ≤ length c.want.new.self.ahead = omega (arith, ap (λ (xs : List ℕ). length xs) c.ahead.ensures.value) in
    let fits : length c.loop-self.bytes.items + c.min-piece.result ≤ c.args.count = omega arith in
    gathers_more c.min-piece.result c.loop-self.invariant c.in_ok-want.ensures.fills here fits c.pass.ensures.moved (grind (arith, common_steps))

pub returns-clause-reads : goal.returns-clause-reads
returns-clause-reads g c = gathers_done c.loop-self.invariant (omega arith) c.from_vec.ensures

pub returns-clause-few : goal.returns-clause-few
returns-clause-few g c = omega (arith, ap (λ (xs : List ℕ). length xs) c.from_vec.ensures, c.loop-self.invariant.within, c.left.ensures.few)

pub loop-self-init : goal.loop-self-init
loop-self-init g c = gathers_start c.args.count _ c.requires.over c.new-bytes.ensures.items

pub returns-then-piece-eq0-clause-reads : goal.returns-then-piece-eq0-clause-reads
returns-then-piece-eq0-clause-reads g c =
    gathers_gone c.loop-self.invariant c.in_ok-want.ensures.fills (omega (arith, ap (λ (xs : List ℕ). length xs) c.ahead.ensures.value)) (omega arith)
    (omega (arith, c.left.ensures.value)) c.requires.over (ap (λ at. Err (Bad at Truncated)) c.at-start.ensures)
