use Rattle.std.proofs.Common.{◌≡◌, string_bytes, refl}
use Rattle.hollow_top.specs.Command.{IsLineOf}
use Rattle.hollow_top.specs.Stopping.{IsVerdict}
use Rattle.hollow_top.proofs.Shown.{leaves_as, line_cut}
use Rattle.hollow_top.proofs.Verdicts.{line_of_verdict}
use Rattle.hollow_top.proofs.answer.write_reply.Goals as goal

pub returns-in_err-write_all-clause-written : goal.returns-in_err-write_all-clause-written
returns-in_err-write_all-clause-written g c =
    line_cut c.args.reply (g.O.Sink.taken c.args.out.now) (g.O.Sink.taken c.write_all.new.out) (string_bytes c.in_ok-line.line)
    c.from_residual-in_err-write_all.result c.from_residual-in_err-write_all.ensures.1 c.in_ok-line.ensures
    (rw c.as_bytes.ensures.value at c.in_err-write_all.ensures.part)

pub returns-in_err-write_all-clause-verdict : goal.returns-in_err-write_all-clause-verdict
returns-in_err-write_all-clause-verdict g c =
    leaves_as (IsLineOf (λ answer. answer ≡ c.args.reply)) IsVerdict (g.O.Sink.taken c.args.out.now) (g.O.Sink.taken c.write_all.new.out)
    c.from_residual-in_err-write_all.result (line_of_verdict c.args.reply) (returns-in_err-write_all-clause-written g c)

pub returns-clause-verdict : goal.returns-clause-verdict
returns-clause-verdict g c = (
  string_bytes c.in_ok-line.line,
  line_of_verdict c.args.reply _ c.is_refusal-refused.result (c.args.reply, refl, c.in_ok-line.ensures, c.is_refusal-refused.ensures),
  (rw c.as_bytes.ensures.value at c.in_ok-write_all.ensures.written),
)
