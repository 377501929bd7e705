-- What rows of a type add up to, and how that changes where a row is taken off or laid out.
use Rattle.std.specs.Prelude.{◌≡◌, ℕ, ◌+◌, ◌-◌, ◌^◌, ◌<◌, ◌≤◌, List, Option, length, slice_index}
use Rattle.std.specs.Option.{option_map_or}
use Rattle.row_model.specs.declared.row.Row.{Row}
use Rattle.type_rows.specs.declared.totals.Totals.{Totals}
use Rattle.type_rows.specs.Layout.{item_count, items_of_row}
use Rattle.type_rows.specs.WordsHeld.{bytes_held, field_bytes, part_bytes, row_bytes}

-- The totals are those of these rows: the end offset of each field, the items, and the variable bytes.
pub record AreTotals (rows : List Row) (totals : Totals) : Type 0 where
  pub ends : (field : ℕ) → slice_index totals.ends.offsets.items field ≡ field_bytes field rows
  pub items : totals.ends.items ≡ item_count rows
  pub bytes : totals.bytes ≡ bytes_held rows

-- A row has no more values than there are fields, and a set or map has fewer than 2^32 elements.
abbrev pub HasParts : ℕ → Row → Type 0
HasParts fields (Row.Object values) = length values ≤ fields
HasParts fields (Row.List ordinals) = Unit {0}
HasParts fields (Row.Set ordinals) = length ordinals < 2 ^ 32
HasParts fields (Row.Map pairs) = length pairs < 2 ^ 32

-- The totals without what stood under an ordinal.
pub record AreLess (before : Totals) (stood : Option Row) (after : Totals) : Type 0 where
  pub ends : (field : ℕ) → slice_index after.ends.offsets.items field ≡ slice_index before.ends.offsets.items field - option_map_or (part_bytes field) stood 0
  pub items : after.ends.items ≡ before.ends.items - option_map_or items_of_row stood 0
  pub bytes : after.bytes ≡ before.bytes - option_map_or row_bytes stood 0
  pub long : length after.ends.offsets.items ≡ length before.ends.offsets.items

-- The totals with what comes under an ordinal.
pub record AreMore (before : Totals) (comes : Option Row) (after : Totals) : Type 0 where
  pub ends : (field : ℕ) → slice_index after.ends.offsets.items field ≡ slice_index before.ends.offsets.items field + option_map_or (part_bytes field) comes 0
  pub items : after.ends.items ≡ before.ends.items + option_map_or items_of_row comes 0
  pub bytes : after.bytes ≡ before.bytes + option_map_or row_bytes comes 0
  pub long : length after.ends.offsets.items ≡ length before.ends.offsets.items
