use Rattle.std.proofs.Common.{◌≡◌, ◌++◌, take}
use Rattle.hol_varint.specs.JavaUtf.{java_bytes}
use Rattle.hol_varint.proofs.java_utf.push_text.Given as goal

abbrev pub invariant-loop-unit : goal.invariant-loop-unit
invariant-loop-unit l = l.out.items ≡ l.initial.out.items ++ java_bytes (take l.unit-index l.units)
