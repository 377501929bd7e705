-- An answer to a move is right exactly where there are rows that the patch moves the old ones to.
use Rattle.std.proofs.Common.{inl, inr, Result, Ok, Err, refl}
use Rattle.hol_varint.specs.Yields.{Yields}
use Rattle.schema_model.specs.declared.schema.Shape.{Shape}
use Rattle.row_model.specs.Table.{RowMap}
use Rattle.type_rows.specs.declared.patch.PatchSection.{PatchSection}
use Rattle.type_rows.specs.declared.fault.RowFault.{RowFault}
use Rattle.type_rows.specs.Loads.{IsFreeRow}
use Rattle.type_rows.specs.Patches.{IsMovedBy, TellsMove}

pub moves_exact : (shape : Shape) (patch : PatchSection) (old rows : RowMap) (result : Result (Unit {0}) RowFault) → TellsMove shape patch old rows result → Yields IsFreeRow result (Ok tt) ((some : RowMap) × IsMovedBy shape patch old some)
moves_exact shape patch old rows (Ok tt) told = (λ e. (rows, told), λ h. inl refl)
moves_exact shape patch old rows (Err RowFault.Memory) told = (λ e. absurd cc, λ h. inr tt)
moves_exact shape patch old rows (Err (RowFault.At reason o)) told = (λ e. absurd cc, λ h. absurd (told h.0 h.1))
moves_exact shape patch old rows (Err (RowFault.Limit limit)) told = (λ e. absurd cc, λ h. absurd (told h.0 h.1))
