-- How many variable bytes a value has.
use Rattle.std.proofs.Common.{◌≡◌, length, refl}
use Rattle.row_model.specs.declared.row.Value.{Value}
use Rattle.object_codec.specs.Stored.{value_bytes as bytes_of_value}
use Rattle.type_rows.specs.WordsHeld.{value_bytes}

pub value_count : (value : Value) → length (bytes_of_value value) ≡ value_bytes value
value_count Value.Null = refl
value_count (Value.Int number) = refl
value_count (Value.Long number) = refl
value_count (Value.Bool flag) = refl
value_count (Value.Text units) = refl
value_count (Value.Bytes bytes) = refl
value_count (Value.Ref ordinal) = refl
