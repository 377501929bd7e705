-- The edited list of a change, which there is, makes next what is left of it; and what it asks for.
use Rattle.std.proofs.Common.{ℕ, List, length}
use Rattle.schema_model.specs.Model.{IsModel}
use Rattle.schema_model.specs.declared.schema.Schema.{Schema}
use Rattle.row_model.specs.Table.{Table}
use Rattle.write_engine.specs.Agreement.{HoldsOnce}
use Rattle.write_engine.specs.Soundness.{IsClosedTableOf}
use Rattle.write_engine.specs.StoredRows.{AreStored}
use Rattle.hol_incremental.specs.Edited.{IsNextEdited, Keys, Records, of_first}
use Rattle.hol_incremental.specs.Left.{IsLeftOf, StaysOwn}
use Rattle.hol_incremental.specs.Tops.{AddsTops}
use Rattle.hol_incremental.proofs.AddedTops.{FitAllTypes}
use Rattle.hol_incremental.proofs.DecidedRoots.{an_edited_list}
use Rattle.hol_incremental.proofs.EditedNext.{edited_adds, edited_next}

pub next_of_edited : (schemas : List Schema) (previous whole left : Table) (puts : Records) (removes : Keys) (tops : List (ℕ × ℕ)) → IsModel schemas → IsClosedTableOf schemas previous → AreStored previous → HoldsOnce previous
    → FitAllTypes schemas puts → AddsTops schemas previous (of_first (length schemas) puts) previous tops whole → IsLeftOf schemas (StaysOwn schemas previous puts removes tops) whole left → IsNextEdited schemas previous puts removes left
next_of_edited schemas previous whole left puts removes tops model closed stored once fits adds is =
    let (records, edited) = an_edited_list schemas previous puts removes model once in
    (records, edited, edited_next schemas model previous closed stored once puts removes fits records edited tops whole adds left is)

pub edited_adds_puts : (schemas : List Schema) (previous next : Table) (puts : Records) (removes : Keys) → IsModel schemas → IsClosedTableOf schemas previous → AreStored previous → HoldsOnce previous → FitAllTypes schemas puts
    → IsNextEdited schemas previous puts removes next → (tops : List (ℕ × ℕ)) × (whole : Table) × AddsTops schemas previous (of_first (length schemas) puts) previous tops whole
edited_adds_puts schemas previous next puts removes model closed stored once fits (records, edited, made) = edited_adds schemas model previous closed stored once puts removes fits records edited next made
