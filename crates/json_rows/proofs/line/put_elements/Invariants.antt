use Rattle.std.proofs.Common.{◌≡◌, ◌++◌, length, take}
use Rattle.serde_json.specs.Data.{number, unsigned}
use Rattle.serde_json.specs.Written.{compact_text}
use Rattle.list_codec.specs.Elements.{elements_of}
use Rattle.json_rows.specs.StoredRow.{numbers_data}
use Rattle.json_rows.proofs.Put.{items_from}
use Rattle.json_rows.proofs.line.put_elements.Given as goal

abbrev pub invariant-loop-index : goal.invariant-loop-index
invariant-loop-index l =
    (l.out.items ++ items_from (λ n. number (unsigned n)) (elements_of l.elements) l.index ≡ l.fn.out.items ++ compact_text (numbers_data (elements_of l.elements)))
    × (take (length l.fn.out.items) l.out.items ≡ l.fn.out.items)
