-- The hash of a row, and that of values: a fold over the numbers, of which the upper half is kept.
use Rattle.std.specs.Prelude.{List, ℕ, ◌*◌, ◌/◌, ◌%◌, ◌^◌, true, false, length, bit_xor}
use Rattle.std.specs.Int.{rotate_left}
use Rattle.std.specs.List.{fold}
use mir.Syntax.{w64}
use Rattle.hol_varint.specs.Zigzag.{zigzag}
use Rattle.row_model.specs.declared.row.Value.{Value}
use Rattle.row_model.specs.declared.row.Row.{Row}

-- one more number
unfoldable pub mixed : ℕ → ℕ → ℕ
mixed hash number = (bit_xor (rotate_left w64 hash 5) number * 11400714819323198485) % 2 ^ 64

-- one more pair
abbrev pub mixed_pair : ℕ → ℕ × ℕ → ℕ
mixed_pair hash pair = mixed (mixed hash pair.0) pair.1

-- one more value: the length of a text or of bytes stands before what it holds
abbrev pub mixed_value : ℕ → Value → ℕ
mixed_value hash Value.Null = mixed hash 9223372036854775808
mixed_value hash (Value.Int number) = mixed hash (zigzag number)
mixed_value hash (Value.Long number) = mixed hash (zigzag number)
mixed_value hash (Value.Bool true) = mixed hash 1
mixed_value hash (Value.Bool false) = mixed hash 0
mixed_value hash (Value.Text units) = fold mixed (mixed hash (length units)) units
mixed_value hash (Value.Bytes bytes) = fold mixed (mixed hash (length bytes)) bytes
mixed_value hash (Value.Ref ordinal) = mixed hash ordinal

-- all of a row
abbrev pub mixed_row : Row → ℕ
mixed_row (Row.Object values) = fold mixed_value 0 values
mixed_row (Row.List ordinals) = fold mixed 0 ordinals
mixed_row (Row.Set ordinals) = fold mixed 0 ordinals
mixed_row (Row.Map pairs) = fold mixed_pair 0 pairs

-- the hash of a row: mixed once more, so that the last number too is spread over the upper half
unfoldable pub row_hash : Row → ℕ
row_hash row = mixed (mixed_row row) 0 / 2 ^ 32

-- the hash of values, that of the record that has them
unfoldable pub values_hash : List Value → ℕ
values_hash values = mixed (fold mixed_value 0 values) 0 / 2 ^ 32
