-- Values that were read already, by the ordinals through which rows reach them.
use Rattle.std.specs.Prelude.{◌≡◌, ◌<◌, ◌≤◌, ◌+◌, ◌⊎◌, ℕ, List, [], ◌∷◌, ◌++◌, Option, Some, None, drop, get_or, length, map, take}
use Rattle.schema_model.specs.declared.model.walk_path.WalkPart.{WalkPart}
use Rattle.schema_model.specs.declared.model.walk_path.WalkPart.TheVariants.{Field as FieldPart, Element}
use Rattle.schema_model.specs.declared.schema.Schema.{Schema}
use Rattle.row_model.specs.declared.row.Value.{Value}
use Rattle.row_model.specs.Table.{Table}
use Rattle.object_codec.specs.declared.column.Column.{Column}
use Rattle.column_rows.specs.Columns.{IsColumnOf}
use Rattle.hol_paths.specs.declared.entries.Slot.{Slot}
use Rattle.hol_paths.specs.declared.met.Run.{Run}
use Rattle.hol_paths.specs.Reached.{AreReached, named_at}

-- The column is that of a part of a type.
abbrev pub IsPartColumn : Table → ℕ → WalkPart → Column → Type 0
IsPartColumn table t part column = (field : ℕ) × (part ≡ FieldPart field) × IsColumnOf table t field column

-- The column is that of the first part of a path.
abbrev pub IsFirstColumn : Table → ℕ → List WalkPart → Column → Type 0
IsFirstColumn table t parts column = IsPartColumn table t (get_or parts 0 Element) column

-- the values of a run of entries
abbrev pub run_values : List (ℕ × Value) → Run → List Value
run_values entries run = map (λ entry. entry.1) (take run.count (drop run.start entries))

-- a slot of another row
abbrev pub of_owner : ℕ → Slot → Slot
of_owner owner slot = record slot { owner = owner }

-- the slots of a run, of another row
abbrev pub run_of : ℕ → Run → List Slot → List Slot
run_of owner run slots = map (of_owner owner) (take run.count (drop run.start slots))

-- the run that is kept for an ordinal, if it was met
abbrev pub met_at : List (Option Run) → ℕ → Option Run
met_at met named = get_or met named None

-- Of what is kept, each was kept before, or is this run of this ordinal.
abbrev pub KeepsMet : List (Option Run) → Option ℕ → Run → List (Option Run) → Type 0
KeepsMet before named run after = (place : ℕ) (other : Run) → met_at after place ≡ Some other → (met_at before place ≡ Some other) ⊎ ((named ≡ Some place) × (run ≡ other))

-- The row names this ordinal alone by the first part, and more parts follow.
abbrev pub NamesOnly : Table → ℕ → List WalkPart → ℕ → ℕ → Type 0
NamesOnly table t parts ordinal named = (1 < length parts) × (named_at table t (get_or parts 0 (FieldPart 0)) ordinal ≡ named ∷ [])

-- Each row that names an ordinal that was met, and no other, reaches the values of the run that is kept for it, and no others.
abbrev pub AreMet : List Schema → Table → ℕ → List WalkPart → List (ℕ × Value) → List (Option Run) → Type 0
AreMet schemas table type_index parts entries met =
    (named : ℕ) (run : Run) → met_at met named ≡ Some run
    → (run.start + run.count ≤ length entries) × ((ordinal : ℕ) → NamesOnly table type_index parts ordinal named → AreReached schemas table type_index parts ordinal (run_values entries run))

-- The entries of one row stand behind those of before: a value each that the row reaches.
pub record IsRowPushed (schemas : List Schema) (table : Table) (type_index : ℕ) (parts : List WalkPart) (owner : ℕ) (before after : List (ℕ × Value)) : Type 0 where
  pub values : List Value
  pub reached : AreReached schemas table type_index parts owner values
  pub behind : after ≡ before ++ map (λ value. (owner, value)) values

-- The row reaches so many values that there are more than so many entries with them.
abbrev pub ReachesMany : List Schema → Table → ℕ → List WalkPart → ℕ → ℕ → ℕ → Type 0
ReachesMany schemas table t parts owner before most = (values : List Value) × AreReached schemas table t parts owner values × (most < before + length values)
