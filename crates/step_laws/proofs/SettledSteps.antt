-- No blob is such that its trial as a step neither passes nor fails, so that what is not taken has a fault.
use Rattle.std.proofs.Common.{◌≡◌, ◌∙◌, ℕ, List, [], Option, Some, None, IfSome, length, refl, sym, subst}
use Rattle.std.specs.Prelude.{All}
use Rattle.std.specs.List.{range_with_len}
use Rattle.std.proofs.lemmas.List.{length-map}
use Rattle.std.proofs.lemmas.List.FromFn.{length-range_with_len}
use Rattle.hol_io.specs.declared.name.BlobName.{BlobName}
use Rattle.schema_model.specs.declared.schema.Schema.{Schema}
use Rattle.row_model.specs.BothStates.{rows_in}
use Rattle.row_model.specs.Table.{Table}
use Rattle.type_rows.specs.Patches.{places_in}
use Rattle.type_state.specs.Views.{table_of}
use Rattle.type_rows.proofs.LoadFaults.{holds_at}
use Rattle.type_rows.proofs.OnceFirst.{some_once}
use Rattle.blob_grammar.specs.Decided.{AreBytes}
use Rattle.blob_frame.specs.declared.fault.BlobFault.{BlobFault}
use Rattle.blob_frame.specs.declared.fault.BlobFault.TheVariants as fault
use Rattle.blob_faults.specs.Judge.{◌>>=◌, each_of, item_at, nothing}
use Rattle.blob_faults.specs.Rows.{closed, moves}
use Rattle.blob_faults.specs.Settles.{Settles}
use Rattle.blob_faults.proofs.Settled.{settles_each, settles_nothing, settles_then}
use Rattle.blob_faults.proofs.SettledClosed.{settles_closed}
use Rattle.blob_faults.proofs.SettledRows.{HasFields}
use Rattle.snapshot_blob.proofs.Passed.{some_fault}
use Rattle.delta_blob.specs.declared.patch.PatchPart.{PatchPart}
use Rattle.delta_blob.specs.Judged.{delta_of}
use Rattle.state_moves.specs.Judged.{moved_table, offset_among, offsets_among, part_moves, state_moved}
use Rattle.state_moves.proofs.SettledMoves.{settles_moves}
use Rattle.read_engine.specs.Judged.{RefusesLoad, RefusesStep, step_of}
use Rattle.read_engine.specs.Position.{Position, rows_now}
use Rattle.read_engine.specs.Taking.{LoadsFrom, StepsBy}
use Rattle.step_laws.specs.Typed.{HasTypes}
use Rattle.step_laws.proofs.Passing.{IsFilledPart, delta_filled, passed_delta}
use Rattle.step_laws.proofs.SettledDelta.{settles_delta}
use Rattle.step_laws.proofs.Stepping.{passed_step}

-- ---- the parts of a delta

settles_part : (schemas : List Schema) (table : Table) (part : PatchPart) → IsFilledPart schemas part → Settles (part_moves schemas table part)
unfolding part_moves item_at
settles_part schemas table part (schema, there, fields) =
    settles_then (item_at schemas part.type_index) (λ (found : Schema). moves part.at found part.section (rows_in table part.type_index)) (λ no_pass no_fail. no_pass schema there) (λ found is.
    settles_moves part.at found part.section (rows_in table part.type_index)
    (subst (λ (s : Schema). HasFields s.shape (places_in part.section)) (some_once schema found (sym there ∙ is)) fields))

settles_state : (schemas : List Schema) (parts : List PatchPart) (size : ℕ) (table : Table) → All (IsFilledPart schemas) parts → Settles (state_moved schemas parts size table)
unfolding state_moved
settles_state schemas parts size table filled =
    let offsets = offsets_among schemas parts size in
    let long = length-map (range_with_len 0 (length schemas)) (offset_among parts size) ∙ length-range_with_len 0 (length schemas) in
    settles_then (each_of (part_moves schemas table) parts) (λ rows. closed offsets schemas (moved_table table parts rows) >>= λ done. nothing (moved_table table parts rows))
    (settles_each (part_moves schemas table) parts (λ index part there. settles_part schemas table part (holds_at (IsFilledPart schemas) parts index part filled there))) (λ rows passes.
    settles_then (closed offsets schemas (moved_table table parts rows)) (λ done. nothing (moved_table table parts rows)) (settles_closed offsets schemas (moved_table table parts rows) long) (λ done closes.
    settles_nothing (moved_table table parts rows)))

-- ---- a step

-- of all bytes it cannot be that they neither pass nor fail as a step from a position
settles_step : (blob : List ℕ) (from : Position) → HasTypes from → AreBytes blob → Settles (step_of blob from)
unfolding step_of
settles_step blob from typed bytes =
    let moved = λ (named : List PatchPart). state_moved from.schemas named (length blob) (rows_now from) in
    settles_then (delta_of blob from.tag from.schemas) (λ found. moved found.1 >>= λ rows. nothing (found.0.destination, rows)) (settles_delta blob from.tag from.schemas bytes) (λ found passes.
    settles_then (moved found.1) (λ rows. nothing (found.0.destination, rows))
    (settles_state from.schemas found.1 (length blob) (rows_now from)
    (delta_filled blob from.tag from.schemas found.0 found.1 (passed_delta from.schemas typed.model blob from.tag found.0 found.1 passes))) (λ rows leads. settles_nothing (found.0.destination, rows)))

-- ---- what is not taken

pub step_or_fault : (name : BlobName) (content : Option (List ℕ)) (from : Position) → HasTypes from → IfSome content AreBytes
    → ((blob : List ℕ) (to : Position) → content ≡ Some blob → StepsBy blob from to → ⊥) → ((found : BlobFault) → RefusesStep name content from found → ⊥) → ⊥
step_or_fault name None from typed bytes no_step no_fault = no_fault (fault.NoBlob name) refl
step_or_fault name (Some blob) from typed bytes no_step no_fault =
    settles_step blob from typed bytes (λ value passes. let there = passed_step blob from typed value.0 value.1 passes in no_step blob there.0 refl there.1) no_fault

pub load_or_fault : (name : BlobName) (content : Option (List ℕ)) → IfSome content AreBytes
    → ((blob : List ℕ) (position : Position) → content ≡ Some blob → LoadsFrom blob position → ⊥) → ((found : BlobFault) → RefusesLoad name content found → ⊥) → ⊥
load_or_fault name None bytes no_load no_fault = no_fault (fault.NoBlob name) refl
load_or_fault name (Some blob) bytes no_load no_fault = some_fault blob bytes (λ head schemas halves accepted.
    let there : Position = record { tag = head.destination; schemas = schemas; halves = halves; before = table_of halves; indexes = []; walks = [] } in
    no_load blob there refl (head, accepted, refl, refl, refl, refl)) no_fault
