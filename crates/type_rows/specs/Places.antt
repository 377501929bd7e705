-- Places of a section that spell no row, and the first of them.
use Rattle.std.specs.Prelude.{◌≡◌, ◌<◌, ℕ, List, Some, slice_get}
use Rattle.schema_model.specs.declared.schema.Shape.{Shape}
use Rattle.schema_model.specs.declared.reason.Reason.{Reason}
use Rattle.row_model.specs.declared.row.Row.{Row}
use Rattle.type_rows.specs.declared.section.Section.{Section}
use Rattle.type_rows.specs.Fails.{Fails}
use Rattle.type_rows.specs.Loads.{Spells}

-- The place of a section spells some row.
abbrev pub SpellsSome : Shape → Section → ℕ → Type 0
SpellsSome shape section place = (row : Row) × Spells shape section place row

-- The first of some places that spells no row, and why: each before it spells one. Beside each place stands its ordinal.
pub record FirstPlaceFails (shape : Shape) (section : Section) (places ordinals : List ℕ) (reason : Reason) (ordinal : ℕ) : Type 0 where
  pub index : ℕ
  pub place : ℕ
  pub stands : slice_get places index ≡ Some place
  pub of : slice_get ordinals index ≡ Some ordinal
  pub fails : Fails shape section place reason
  pub before : (earlier other : ℕ) → earlier < index → slice_get places earlier ≡ Some other → SpellsSome shape section other
