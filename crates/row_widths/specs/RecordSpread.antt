-- What the values of each field of an OBJECT type take, as they are gathered.
use Rattle.std.specs.Prelude.{◌≡◌, ℕ, ◌+◌, ◌-◌, ◌^◌, ◌<◌, List, length, max, min, slice_index_or}
use Rattle.row_model.specs.declared.row.Row.{Row}
use Rattle.row_model.specs.declared.row.Value.{Value}
use Rattle.row_widths.specs.declared.records.Spread.{Spread}
use Rattle.object_codec.specs.Stored.{column}
use Rattle.object_codec.specs.Widths.{most_bits, byte_count, records_of}

-- What the values of a field take.
abbrev pub spread_at : List Spread → ℕ → Spread
spread_at spreads index = slice_index_or spreads index (record { bits = 0; bytes = 0 })

-- What is taken with these values more.
pub record IsSpreadWith (more : List Value) (old new : Spread) : Type 0 where
  pub bits : new.bits ≡ max old.bits (most_bits more)
  pub bytes : new.bytes ≡ min (old.bytes + byte_count more) (2 ^ 64 - 1)

-- What is taken by each field is what the values take that these rows have at its index.
pub record AreSpreads (fields : ℕ) (rows : List Row) (spreads : List Spread) : Type 0 where
  pub long : length spreads ≡ fields
  pub bits : (index : ℕ) → index < fields → (spread_at spreads index).bits ≡ most_bits (column index (records_of rows))
  pub bytes : (index : ℕ) → index < fields → (spread_at spreads index).bytes ≡ min (byte_count (column index (records_of rows))) (2 ^ 64 - 1)
