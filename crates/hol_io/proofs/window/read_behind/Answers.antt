use Rattle.std.proofs.Common.{◌-◌, ◌+◌, arith}
use Rattle.hol_io.proofs.Windows.{read_into}
use Rattle.hol_io.proofs.window.read_behind.Goals as goal

pub returns-clause-reads : goal.returns-clause-reads
returns-clause-reads g c =
    read_into _ _ c.read.result c.args.end (c.args.end + c.min-size.result - c.args.end) c.args.buf.now c.read.new.buf (omega arith) (omega arith)
    c.read.ensures.bound c.read.ensures.taken
