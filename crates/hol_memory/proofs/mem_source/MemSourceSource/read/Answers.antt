use Rattle.std.proofs.Common.{ap, arith}
use Rattle.hol_memory.proofs.Fronts.{gives_left}
use Rattle.hol_memory.proofs.mem_source.MemSourceSource.read.Goals as goal

pub returns-clause-taken : goal.returns-clause-taken
returns-clause-taken c =
    gives_left c.self.inside.bytes.items c.deref.result.now c.args.self.now.left c.place-count.new.buf c.self.inside.at c.self.inside.piece c.place-count.result c.min-most.result
    c.deref.ensures.value (ap (λ s. s.left) c.self.view_is) (omega arith) (omega arith) (omega arith) (omega arith) c.place-count.ensures.placed
