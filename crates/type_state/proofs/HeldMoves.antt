-- Which rows a patch moves others to, by whether its layout holds them within the limits.
use Rattle.std.proofs.Common.{◌≡◌, ℕ, get_or, sym, subst}
use Rattle.std.specs.Prelude.{IsSome}
use Rattle.std.specs.FinMap.{entries, keys, get-entries}
use Rattle.schema_model.specs.declared.schema.Shape.{Shape}
use Rattle.schema_model.specs.declared.reason.Reason.{Reason}
use Rattle.schema_model.specs.declared.limit.Limit.TheVariants.{Words, Bytes}
use Rattle.row_model.specs.Table.{RowMap}
use Rattle.type_rows.specs.declared.fault.RowFault.{RowFault}
use Rattle.type_rows.specs.declared.patch.PatchSection.{PatchSection}
use Rattle.type_rows.specs.Ends.{AreOfKind}
use Rattle.type_rows.specs.Layout.{Layout}
use Rattle.type_rows.specs.Loads.{IsLoadFault}
use Rattle.type_rows.specs.Patches.{IsMovedBy, IsReadablePatch, RefusesMove, patch_layout}
use Rattle.type_rows.proofs.MovedRows.{kinds_moved}
use Rattle.type_rows.specs.MoveFault.{FailsMove, LeadsTo}
use Rattle.type_rows.proofs.MoveFaults.{moved_or_fault}
use Rattle.type_state.specs.FirstFaults.{FailsHeld}
use Rattle.type_state.specs.Moving.{IsHeld, IsMoved}
use Rattle.type_state.proofs.Lookups.{key_live}

-- Rows that are moved and that the layout holds within the limits.
pub moved_by : (shape : Shape) (patch : PatchSection) (old new : RowMap) (own : ℕ) (layout : Layout) → own ≡ patch.own → layout ≡ patch_layout patch → IsMoved shape patch old new → IsHeld shape own layout new → IsMovedBy shape patch old new
moved_by shape patch old new own layout counts same m held_in =
    let held = subst (λ n. IsHeld shape n (patch_layout patch) new) counts (subst (λ l. IsHeld shape own l new) same held_in) in
    record {
      added = m.added;
      adds = m.adds;
      ordinals = m.ordinals;
      moves = m.moves;
      held = record { parts = held.parts; places = λ k d inside. m.placed (get_or (keys new) k d) (subst IsSome (sym (get-entries new (get_or (keys new) k d))) (key_live (entries new) k d inside)) };
      within = held.within;
    }

-- The first fault of the new rows, of their widths and the limits, is that of the patch.
pub fails_held : (shape : Shape) (patch : PatchSection) (old new : RowMap) (own : ℕ) (layout : Layout) (fault : RowFault) → own ≡ patch.own → layout ≡ patch_layout patch → LeadsTo shape patch old new → FailsHeld shape own layout new fault → FailsMove shape patch old fault
fails_held shape patch old new own layout fault counts same leads f =
    at_layout fault (subst (λ n. FailsHeld shape n (patch_layout patch) new fault) counts (subst (λ l. FailsHeld shape own l new fault) same f))
  where
    at_layout : (fault : RowFault) → FailsHeld shape patch.own (patch_layout patch) new fault → FailsMove shape patch old fault
    at_layout (RowFault.At Reason.BadWidth o) f = (new, leads, f)
    at_layout (RowFault.At _ o) f = absurd f
    at_layout (RowFault.Limit Words) f = (new, record { leads = leads; held = f.0 }, f.1)
    at_layout (RowFault.Limit Bytes) f = (new, record { leads = leads; held = f.0 }, f.1, f.2)
    at_layout (RowFault.Limit _) f = absurd f
    at_layout RowFault.Memory f = tt

-- A patch with a fault moves the rows to none.
pub refuses_move : (shape : Shape) (patch : PatchSection) (old : RowMap) (fault : RowFault) → FailsMove shape patch old fault → RefusesMove shape patch old fault
refuses_move shape patch old RowFault.Memory f = tt
refuses_move shape patch old (RowFault.At reason o) f = λ rows moved. moved_or_fault shape patch old rows (RowFault.At reason o) (λ same. absurd cc) moved f
refuses_move shape patch old (RowFault.Limit limit) f = λ rows moved. moved_or_fault shape patch old rows (RowFault.Limit limit) (λ same. absurd cc) moved f

-- It is of a limit on words or bytes, if of one.
pub is_load_fault : (shape : Shape) (patch : PatchSection) (old : RowMap) (fault : RowFault) → FailsMove shape patch old fault → IsLoadFault fault
is_load_fault shape patch old RowFault.Memory f = tt
is_load_fault shape patch old (RowFault.At reason o) f = tt
is_load_fault shape patch old (RowFault.Limit Words) f = tt
is_load_fault shape patch old (RowFault.Limit Bytes) f = tt
is_load_fault shape patch old (RowFault.Limit _) f = absurd f

-- The moved rows are of the kind of the type where the old ones are.
pub moved_kinds : (shape : Shape) (patch : PatchSection) (old new : RowMap) → IsReadablePatch shape patch → IsMoved shape patch old new → AreOfKind shape old → AreOfKind shape new
moved_kinds shape patch old new h m kinds = kinds_moved shape patch old new m.added h m.adds m.ordinals m.moves kinds
