use Rattle.std.proofs.Common.{length, take, ◌-◌, ◌≤◌}
use Rattle.std.specs.Io.KnownBytes.{Appends}
use Rattle.hol_io.proofs.sink.write_all.Given as goal

-- So many bytes have gone out, and the count of faults has not fallen.
abbrev pub invariant-loop-done : goal.invariant-loop-done
invariant-loop-done g l =
    (l.done ≤ length l.bytes) × (g.O.Sink.faults l.initial.out ≤ g.O.Sink.faults l.out)
    × Appends (g.O.Sink.taken l.initial.out) (g.O.Sink.taken l.out) (take l.done l.bytes)

abbrev pub decreases-loop-done : goal.decreases-loop-done
decreases-loop-done g l = length l.bytes - l.done
