use Rattle.std.proofs.Common.{◌≡◌, ◌++◌, ◌+◌, ◌≤◌, take, length, vec_len, vec_capacity}
use Rattle.json_rows.proofs.plain.put_plain.Given as goal

abbrev pub invariant-loop-unit : goal.invariant-loop-unit
invariant-loop-unit l = (l.out.items ≡ l.initial.out.items ++ take l.unit-index l.units) × (vec_len l.out + (length l.units + 1) ≤ vec_capacity l.out + l.unit-index)
