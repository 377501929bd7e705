-- Records that are added, and the rows that they get at their tops.
use Rattle.std.specs.Prelude.{List, [], ◌∷◌, ◌++◌, ℕ, ◌≡◌}
use Rattle.schema_model.specs.declared.schema.Schema.{Schema}
use Rattle.row_model.specs.PlainTree.{PlainTree}
use Rattle.row_model.specs.Table.{Table}
use Rattle.write_engine.specs.Cycle.{Adds}

-- The records, each with its type, are added one after another, and their top rows are these, each by its type and ordinal.
abbrev pub AddsTops : List Schema → Table → List (ℕ × PlainTree) → Table → List (ℕ × ℕ) → Table → Type 0
AddsTops schemas previous [] before tops after = (tops ≡ []) × (after ≡ before)
AddsTops schemas previous (entry ∷ records) before tops after =
    (ordinal : ℕ) × (rest : List (ℕ × ℕ)) × (middle : Table) × (tops ≡ (entry.0, ordinal) ∷ rest) × Adds schemas previous entry.0 entry.1 before ordinal middle
    × AddsTops schemas previous records middle rest after

-- The records are added, and their top rows come behind those that were gathered before.
abbrev pub AddsMore : List Schema → Table → List (ℕ × PlainTree) → Table → List (ℕ × ℕ) → Table → List (ℕ × ℕ) → Type 0
AddsMore schemas previous records before gathered after tops = (rows : List (ℕ × ℕ)) × AddsTops schemas previous records before rows after × (tops ≡ gathered ++ rows)
