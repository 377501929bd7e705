-- How many bytes values have behind one another.
use Rattle.std.proofs.Common.{◌≡◌, ◌∙◌, ◌+◌, ◌++◌, ℕ, List, ap, length}
use Rattle.std.proofs.lemmas.Grind.{flat_map-append}
use Rattle.std.proofs.lemmas.List.{length-append}
use Rattle.row_model.specs.declared.row.Value.{Value}
use Rattle.object_codec.specs.Stored.{value_bytes, values_bytes}
use Rattle.object_codec.specs.Widths.{byte_count}

pub byte_count-append : (xs ys : List Value) → byte_count (xs ++ ys) ≡ byte_count xs + byte_count ys
byte_count-append xs ys = ap (λ (bytes : List ℕ). length bytes) (flat_map-append value_bytes xs ys) ∙ length-append (values_bytes xs) (values_bytes ys)
