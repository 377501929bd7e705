use Rattle.std.proofs.Common.{◌≡◌, ◌++◌, length, take}
use Rattle.serde_json.specs.Written.{compact_text}
use Rattle.json_rows.specs.StoredRow.{pairs_data}
use Rattle.json_rows.proofs.Put.{items_from, pair_data}
use Rattle.json_rows.proofs.line.put_pairs.Given as goal

abbrev pub invariant-loop-index : goal.invariant-loop-index
invariant-loop-index l =
    (l.out.items ++ items_from pair_data l.pairs l.index ≡ l.fn.out.items ++ compact_text (pairs_data l.pairs))
    × (take (length l.fn.out.items) l.out.items ≡ l.fn.out.items)
