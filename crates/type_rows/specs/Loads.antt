-- Sections of a snapshot: the rows that the section of a type spells.
use Rattle.std.specs.Prelude.{◌≡◌, ℕ, ◌<◌, ◌≤◌, List, [], Some, All, Result, Ok, Err}
use Rattle.std.specs.FinMap.{entries, keys}
use Rattle.std.specs.Map.{keys_of, values_of}
use Rattle.schema_model.specs.declared.limit.Limit.{Limit}
use Rattle.schema_model.specs.declared.limit.Limit.TheVariants.{Words, Bytes}
use Rattle.schema_model.specs.Limit.{number_of_limit}
use Rattle.row_model.specs.Table.{RowMap}
use Rattle.schema_model.specs.declared.schema.Shape.{Shape}
use Rattle.row_model.specs.declared.row.Row.{Row}
use Rattle.row_model.specs.declared.packed.PlaceFault.{PlaceFault}
use Rattle.object_codec.specs.ObjectPlace.{SpellsObjectRow}
use Rattle.list_codec.specs.ListPlace.{SpellsListRow}
use Rattle.bucket_codec.specs.BucketPlace.{SpellsBucketRow}
use Rattle.type_rows.specs.declared.section.Section.{Section}
use Rattle.type_rows.specs.declared.fault.RowFault.{RowFault}
use Rattle.type_rows.specs.Layout.{Layout, places_of, record_bits}
use Rattle.type_rows.specs.WordsHeld.{bytes_held}
use Rattle.type_rows.specs.Holds.{Holds, HoldsRows, KeepsLimits}

-- The layout that a section states.
abbrev pub layout_of : Section → Layout
layout_of section = record { max = section.max; widths = section.widths }

-- The parts of a type, as those of a section whose last place is this one.
abbrev pub parts_up_to : List ℕ → ℕ → List ℕ → List ℕ → List (List ℕ) → ℕ → Section
parts_up_to widths total first second areas place =
    record { max = Some place; widths = widths; total = total; first = first; second = second; areas = areas; live = [] }

-- The place of a section spells this row, by the codec of the kind.
abbrev pub Spells : Shape → Section → ℕ → Row → Type 0
Spells (Shape.Object key fields) section place row = SpellsObjectRow (Shape.Object key fields) section.widths section.first section.areas place row
Spells (Shape.List element) section place row = SpellsListRow section.widths section.total section.first section.second place row
Spells (Shape.Set element) section place row = SpellsBucketRow (Shape.Set element) section.widths section.total section.first section.second place row
Spells (Shape.Map key value) section place row = SpellsBucketRow (Shape.Map key value) section.widths section.total section.first section.second place row

-- A row under an ordinal is spelled at its place.
abbrev pub IsSpelledIn : Shape → Section → ℕ × Row → Type 0
IsSpelledIn shape section entry = Spells shape section entry.0 entry.1

-- The section is that of these rows: their ordinals are its live ones, none above the max ordinal, and each row is spelled at its place.
pub record SectionIs (shape : Shape) (section : Section) (rows : RowMap) : Type 0 where
  pub live : keys rows ≡ section.live
  pub places : All (λ ordinal. ordinal < places_of section.max) section.live
  pub spelled : All (IsSpelledIn shape section) (entries rows)

-- The section is that of these rows, its layout holds them, and they keep the limits.
pub record Loads (shape : Shape) (section : Section) (rows : RowMap) : Type 0 where
  pub is : SectionIs shape section rows
  pub held : Holds shape (layout_of section) rows
  pub within : KeepsLimits shape (record_bits shape section.widths) (layout_of section) rows

-- Want of memory may come in place of any answer.
abbrev pub IsFreeRow : RowFault → Type 0
IsFreeRow RowFault.Memory = Unit {0}
IsFreeRow _ = ⊥

-- The limits that the rows of a section may pass.
abbrev pub IsLoadLimit : Limit → Type 0
IsLoadLimit Words = Unit {0}
IsLoadLimit Bytes = Unit {0}
IsLoadLimit _ = ⊥

-- A section is refused for no other limit.
abbrev pub IsLoadFault : RowFault → Type 0
IsLoadFault (RowFault.Limit limit) = IsLoadLimit limit
IsLoadFault _ = Unit {0}

-- What a refusal tells of the section.
abbrev pub RefusesLoad : Shape → Section → RowFault → Type 0
RefusesLoad shape section RowFault.Memory = Unit {0}
RefusesLoad shape section _ = (rows : RowMap) → Loads shape section rows → ⊥

-- What each answer to a load tells, by the rows that it leaves.
abbrev pub TellsLoad : Shape → Section → RowMap → Result (Unit {0}) RowFault → Type 0
TellsLoad shape section rows (Ok done) = Loads shape section rows
TellsLoad shape section rows (Err fault) = RefusesLoad shape section fault

-- What each answer of the codec tells.
abbrev pub TellsPlace : Shape → Section → ℕ → Result Row PlaceFault → Type 0
TellsPlace shape section ordinal (Ok row) = IsSpelledIn shape section (ordinal, row)
TellsPlace shape section ordinal (Err PlaceFault.Memory) = Unit {0}
TellsPlace shape section ordinal (Err (PlaceFault.Bad reason)) = (row : Row) → IsSpelledIn shape section (ordinal, row) → ⊥

-- What each answer to the reading of one row tells.
abbrev pub TellsRow : Shape → Section → ℕ → Result Row RowFault → Type 0
TellsRow shape section ordinal (Ok row) = IsSpelledIn shape section (ordinal, row)
TellsRow shape section ordinal (Err RowFault.Memory) = Unit {0}
TellsRow shape section ordinal (Err _) = (row : Row) → IsSpelledIn shape section (ordinal, row) → ⊥

-- The entries are the section's live rows, and they fit its widths and keep the limit on bytes.
pub record AreRead (shape : Shape) (section : Section) (rows : List (ℕ × Row)) : Type 0 where
  pub live : keys_of rows ≡ section.live
  pub spelled : All (IsSpelledIn shape section) rows
  pub held : HoldsRows shape section.widths [] (values_of rows)
  pub bytes : bytes_held (values_of rows) ≤ number_of_limit Bytes

-- What a refusal tells of them.
abbrev pub RefusesRows : Shape → Section → RowFault → Type 0
RefusesRows shape section RowFault.Memory = Unit {0}
RefusesRows shape section _ = (rows : List (ℕ × Row)) → AreRead shape section rows → ⊥
