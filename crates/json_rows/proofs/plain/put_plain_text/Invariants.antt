use Rattle.std.proofs.Common.{◌≡◌, ◌++◌, ◌+◌, ◌≤◌, take, vec_len, vec_capacity}
use Rattle.object_codec.specs.Bytes.{bytes_of}
use Rattle.json_rows.proofs.plain.put_plain_text.Given as goal

abbrev pub invariant-loop-at : goal.invariant-loop-at
invariant-loop-at l = (l.out.items ≡ l.initial.out.items ++ take l.at (bytes_of l.bytes)) × (vec_len l.out + (l.bytes.len + 1) ≤ vec_capacity l.out + l.at)
