-- What is tried of the types of a blob: their numbers of ordinals and items, their rows, and whether these are closed.
use Rattle.std.specs.Prelude.{◌≤◌, ◌<◌, ℕ, List, Option, Some}
use Rattle.schema_model.specs.declared.limit.Limit.TheVariants.{Ordinals, Items}
use Rattle.schema_model.specs.declared.schema.Schema.{Schema}
use Rattle.schema_model.specs.Limit.{number_of_limit}
use Rattle.closed_rows.specs.declared.dangling.Dangling.{Dangling}
use Rattle.closed_rows.specs.Dangling.{TellsDangling}
use Rattle.row_model.specs.Table.{RowMap, Table, IsClosed}
use Rattle.type_rows.specs.declared.patch.PatchSection.{PatchSection}
use Rattle.type_rows.specs.declared.section.Section.{Section}
use Rattle.type_rows.specs.Layout.{places_of}
use Rattle.type_rows.specs.Loads.{Loads}
use Rattle.type_rows.specs.Patches.{IsMovedBy}
use Rattle.type_rows.specs.LoadFault.{FailsLoad}
use Rattle.type_rows.specs.MoveFault.{FailsMove}
use Rattle.blob_frame.specs.declared.fault.BlobFault.TheVariants as fault
use Rattle.blob_faults.specs.Blame.{BlamesRows, BlamesRow}
use Rattle.blob_faults.specs.Judge.{Judge, ◌>>=◌, test}
use Rattle.blob_faults.specs.Decided.{decides_closed, decides_loads, decides_moves, not_longer}

-- A type has fewer than 2^22 places, and no more than 2^25 elements or buckets.
unfoldable pub counts : Option ℕ → ℕ → Judge Unit
counts max total = do
  _ ← test (places_of max ≤ number_of_limit Ordinals) (number_of_limit Ordinals < places_of max) not_longer (fault.Large Ordinals) tt
  test (total ≤ number_of_limit Items) (number_of_limit Items < total) not_longer (fault.Large Items) tt

-- The section of a type, whose schema stands at this offset, loads rows.
unfoldable pub loads : ℕ → Schema → Section → Judge RowMap
loads at schema section = record {
  Passes = Loads schema.shape section;
  Fails = BlamesRows (FailsLoad schema.shape section) at schema.name;
  decided = decides_loads at schema section;
}

-- The patch of a type, whose schema stands at this offset, moves its rows.
unfoldable pub moves : ℕ → Schema → PatchSection → RowMap → Judge RowMap
moves at schema patch old = record {
  Passes = IsMovedBy schema.shape patch old;
  Fails = BlamesRows (FailsMove schema.shape patch old) at schema.name;
  decided = decides_moves at schema patch old;
}

-- Each ordinal that a row of a table names is live in it; the first row that names another, in model order, is at fault at the offset of its type.
unfoldable pub closed : List ℕ → List Schema → Table → Judge Unit
closed offsets schemas table = record {
  Passes = λ u. IsClosed schemas table;
  Fails = λ found. (row : Dangling) × TellsDangling schemas table (Some row) × BlamesRow offsets schemas row found;
  decided = decides_closed offsets schemas table;
}
