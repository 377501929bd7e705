-- A list that stands packed.
use Rattle.std.specs.Prelude.{◌≡◌, ◌<◌, ◌^◌, ℕ, All}
use Rattle.schema_model.specs.declared.model.walk_path.WalkPart.TheVariants.{Element}
use Rattle.list_codec.specs.declared.elements.Elements.{Elements}
use Rattle.list_codec.specs.Elements.{elements_of}
use Rattle.row_model.specs.Table.{Table}
use Rattle.hol_paths.specs.Reached.{named_at}

-- These are the elements of the list under an ordinal, and they are ordinals.
abbrev pub IsPackedList : Table → ℕ → ℕ → Elements → Type 0
IsPackedList table t ordinal elements = (named_at table t Element ordinal ≡ elements_of elements) × All (λ number. number < 2 ^ 32) (elements_of elements)
