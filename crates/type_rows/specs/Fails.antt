-- Why a place of a section spells no row.
use Rattle.std.specs.Prelude.{◌⊎◌, ℕ}
use Rattle.schema_model.specs.declared.reason.Reason.{Reason}
use Rattle.schema_model.specs.declared.schema.Shape.{Shape}
use Rattle.row_model.specs.declared.packed.PlaceFault.{PlaceFault}
use Rattle.object_codec.specs.ObjectPlace.{FailsObjectRow}
use Rattle.list_codec.specs.ListPlace.{FailsListRow}
use Rattle.bucket_codec.specs.BucketPlace.{FailsBucketRow}
use Rattle.type_rows.specs.Loads.{Spells}
use Rattle.type_rows.specs.declared.section.Section.{Section}
use Rattle.type_rows.specs.Rows.{row_in}

-- The place of a section spells no row, for this reason, by the codec of the kind.
abbrev pub Fails : Shape → Section → ℕ → Reason → Type 0
Fails (Shape.Object key fields) section = FailsObjectRow (Shape.Object key fields) section.widths section.first section.areas
Fails (Shape.List element) section = FailsListRow section.widths section.total section.first section.second
Fails (Shape.Set element) section = FailsBucketRow section.widths section.total section.first section.second
Fails (Shape.Map key value) section = FailsBucketRow section.widths section.total section.first section.second

-- The same of a fault; want of memory may come in place of any answer.
abbrev pub FailsPlace : Shape → Section → ℕ → PlaceFault → Type 0
FailsPlace shape section place (PlaceFault.Bad reason) = Fails shape section place reason
FailsPlace shape section place PlaceFault.Memory = Unit {0}

-- The place spells the row that is computed of it, or there is a reason why it spells none.
abbrev pub SpellsOrFails : Shape → Section → ℕ → Type 0
SpellsOrFails shape section place = Spells shape section place (row_in shape section place) ⊎ ((reason : Reason) × Fails shape section place reason)
