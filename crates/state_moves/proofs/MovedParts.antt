-- What the parts of a patch make of a state: the rows that come, and those before.
use Rattle.std.proofs.Common.{◌≡◌, ℕ, Bool, List, get_or, map, sym, ap, ◌∙◌, subst}
use Rattle.std.specs.Prelude.{All}
use Rattle.std.specs.List.{AllZip}
use Rattle.schema_model.specs.declared.schema.Schema.{Schema}
use Rattle.row_model.specs.Table.{IsClosed, IsTableOf}
use Rattle.type_rows.specs.Patches.{IsReadablePatch}
use Rattle.type_state.specs.State.{Half, State}
use Rattle.type_state.specs.Views.{table_of}
use Rattle.column_rows.specs.Content.{Content}
use Rattle.delta_blob.specs.declared.patch.PatchPart.{PatchPart}
use Rattle.delta_blob.specs.Reads.{IsWholePart}
use Rattle.blob_frame.specs.declared.fault.BlobFault.{BlobFault}
use Rattle.blob_faults.specs.Judge.{Blames, each_of}
use Rattle.blob_faults.specs.Rows.{closed}
use Rattle.state_moves.specs.Halves.{current_halves}
use Rattle.state_moves.specs.Judged.{IsFreeMove, offsets_among, part_moves, state_moved}
use Rattle.state_moves.specs.Moving.{AreComing, AreMoved, ComesOf, IsReadableIn, MovesParts, StaysCurrent, coming_halves, parts_move}
use Rattle.row_model.specs.Before.{FitsPast, PastPart, table_before}
use Rattle.state_moves.proofs.Judging.{part_blamed, row_blamed, state_passes}
use Rattle.state_moves.proofs.Changed.{FitsLaw, RangesLaw, all_before, all_changed, all_fit, are_coming, state_there}

pub whole_readable : (states : List State) (schemas : List Schema) (parts : List PatchPart) → map (λ (s : State). s.schema) states ≡ schemas → All (IsWholePart schemas) parts → All (IsReadableIn states) parts
whole_readable states schemas parts of_model whole k d inside =
    let (schema, is, readable) = whole k d inside in
    let (state, there, same) = state_there states schemas (get_or parts k d).type_index schema of_model is in
    (state, there, subst (λ (s : Schema). IsReadablePatch s.shape (get_or parts k d).section) (sym same) readable)

pub comes : FitsLaw → RangesLaw → (schemas : List Schema) (parts : List PatchPart) (before states : List State) (named : List Bool) (past : List PastPart) → AreMoved parts states named past → StaysCurrent before states
    → map (λ (s : State). s.schema) before ≡ schemas → IsTableOf schemas (table_of (current_halves before)) → AreComing schemas states named
comes fits_law ranges_law schemas parts before states named past moved stays of_model was =
    are_coming fits_law ranges_law schemas parts states named past moved (stays.schemas ∙ of_model) (subst (λ (halves : List Half). IsTableOf schemas (table_of halves)) (sym stays.halves) was)

-- what is kept fits the rows that come
pub all_fitting : (parts : List PatchPart) (states : List State) (named : List Bool) (past : List PastPart) → AreMoved parts states named past → AllZip FitsPast (table_of (coming_halves states named)) past
all_fitting parts states named past moved = all_fit states named past (all_changed parts states named past moved)

-- what is kept gives the rows before
was_before : (parts : List PatchPart) (before states : List State) (named : List Bool) (past : List PastPart) → AreMoved parts states named past → StaysCurrent before states
    → table_before (table_of (coming_halves states named)) past ≡ table_of (current_halves before)
was_before parts before states named past moved stays = all_before states named past (all_changed parts states named past moved) ∙ ap table_of stays.halves

-- the rows before those that come are closed
pub was_closed : (schemas : List Schema) (parts : List PatchPart) (before states : List State) (named : List Bool) (past : List PastPart) → AreMoved parts states named past → StaysCurrent before states
    → IsClosed schemas (table_of (current_halves before)) → IsClosed schemas (table_before (table_of (coming_halves states named)) past)
was_closed schemas parts before states named past moved stays closed = subst (IsClosed schemas) (sym (was_before parts before states named past moved stays)) closed

pub moves_parts : FitsLaw → RangesLaw → (schemas : List Schema) (parts : List PatchPart) (before states : List State) (named : List Bool) (past : List PastPart) → AreMoved parts states named past → StaysCurrent before states
    → map (λ (s : State). s.schema) before ≡ schemas → IsTableOf schemas (table_of (current_halves before)) → IsClosed schemas (table_of (coming_halves states named)) → MovesParts schemas parts before states named past
moves_parts fits_law ranges_law schemas parts before states named past moved stays of_model was closed = record {
  moved = moved;
  stays = stays;
  coming = comes fits_law ranges_law schemas parts before states named past moved stays of_model was;
  closed = closed;
  fits = all_fitting parts states named past moved;
  was = was_before parts before states named past moved stays;
}

-- ---- what is tried

-- the rows that the parts move to come of the schemas of a model
parts_pass : (schemas : List Schema) (parts : List PatchPart) (before states : List State) (named : List Bool) → map (λ (s : State). s.schema) before ≡ schemas → (comes : ComesOf parts before states named)
    → (each_of (part_moves schemas (table_of (current_halves before))) parts).Passes comes.rows
parts_pass schemas parts before states named of_model comes = subst (λ (of : List Schema). (each_of (part_moves of (table_of (current_halves before))) parts).Passes comes.rows) of_model comes.passes

-- where the rows that come are closed, all that is tried passes
pub all_pass : (schemas : List Schema) (parts : List PatchPart) (size : ℕ) (before states : List State) (named : List Bool) → map (λ (s : State). s.schema) before ≡ schemas → ComesOf parts before states named
    → IsClosed schemas (table_of (coming_halves states named)) → (state_moved schemas parts size (table_of (current_halves before))).Passes (table_of (coming_halves states named))
all_pass schemas parts size before states named of_model comes closed =
    state_passes schemas parts size (table_of (current_halves before)) comes.rows (table_of (coming_halves states named)) (parts_pass schemas parts before states named of_model comes) comes.comes closed

-- a fault of the parts is that of the state
pub part_at_fault : (schemas : List Schema) (parts : List PatchPart) (size : ℕ) (before : List State) (fault : BlobFault) → map (λ (s : State). s.schema) before ≡ schemas → Blames (parts_move before parts) IsFreeMove fault
    → Blames (state_moved schemas parts size (table_of (current_halves before))) IsFreeMove fault
part_at_fault schemas parts size before fault of_model blamed =
    part_blamed schemas parts size (table_of (current_halves before)) fault (subst (λ (of : List Schema). Blames (each_of (part_moves of (table_of (current_halves before))) parts) IsFreeMove fault) of_model blamed)

-- a fault of the rows that come is that of the state
pub row_at_fault : (schemas : List Schema) (parts : List PatchPart) (size : ℕ) (before states : List State) (named : List Bool) (content : Content) (fault : BlobFault) → map (λ (s : State). s.schema) before ≡ schemas
    → ComesOf parts before states named → content.schemas ≡ schemas → content.table ≡ table_of (coming_halves states named)
    → Blames (closed (offsets_among content.schemas parts size) content.schemas content.table) IsFreeMove fault → Blames (state_moved schemas parts size (table_of (current_halves before))) IsFreeMove fault
row_at_fault schemas parts size before states named content fault of_model comes schemas_are table_is blamed =
    row_blamed schemas parts size (table_of (current_halves before)) comes.rows content.table fault (parts_pass schemas parts before states named of_model comes) (table_is ∙ comes.comes)
    (subst (λ (of : List Schema). Blames (closed (offsets_among of parts size) of content.table) IsFreeMove fault) schemas_are blamed)
