use Rattle.std.proofs.Common.{◌++◌, ap, ◌∙◌, arith}
use Rattle.hol_io.proofs.Windows.{range_more, range_kept, reads_none}
use Rattle.hol_io.proofs.window.Window.read.Goals as goal

pub returns-in_err-count-clause-reads : goal.returns-in_err-count-clause-reads
returns-in_err-count-clause-reads g c =
    let inside = c.self.inside in
    reads_none _ _ _ _ _ c.from_residual-in_err-count.ensures.0 c.in_err-count.ensures.fails
    (range_kept inside.bytes.len inside.at inside.end inside.bytes.items c.deref_mut.result.now c.read_behind.new.buf c.deref_mut.ensures.value (omega arith) c.in_err-count.ensures.kept
    ∙ ap (λ w. w.pending) c.self.view_is ∙ c.make_room.ensures.pending)

pub returns-clause-reads : goal.returns-clause-reads
returns-clause-reads g c =
    let reads = c.in_ok-count.ensures.reads in
    let inside = c.self.inside in (
      reads.0,
      reads.1,
      reads.2,
      reads.3,
      range_more inside.bytes.len inside.at inside.end c.in_ok-count.count inside.bytes.items c.deref_mut.result.now c.read_behind.new.buf reads.0
          c.deref_mut.ensures.value (omega arith) (omega arith) (omega arith) reads.4
          ∙ ap (λ w. w.pending ++ reads.0) c.self.view_is ∙ ap (λ p. p ++ reads.0) c.make_room.ensures.pending,
    )
