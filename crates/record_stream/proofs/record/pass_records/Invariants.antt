use Rattle.record_stream.proofs.Ahead.{ArePassed}
use Rattle.record_stream.proofs.record.pass_records.Given as goal

abbrev pub invariant-loop : goal.invariant-loop
invariant-loop l = ArePassed l.initial.reader l.reader l.count l.counter
