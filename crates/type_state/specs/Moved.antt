-- What a patch makes of some rows: what the next half is to be, and in what its rows differ.
use Rattle.std.specs.Prelude.{◌≡◌}
use Rattle.schema_model.specs.declared.schema.Shape.{Shape}
use Rattle.row_model.specs.Table.{RowMap}
use Rattle.type_rows.specs.declared.patch.PatchSection.{PatchSection}
use Rattle.type_rows.specs.Patches.{IsMovedBy}
use Rattle.packed_half.specs.Laying.{CanLay}
use Rattle.type_state.specs.declared.moving.Move.{Move}
use Rattle.type_state.specs.Differences.{AreApart, rows_with}

-- The differences are those of a patch of this type, at whose widths the half is.
pub record IsOfPatch (shape : Shape) (next : Move) : Type 0 where
  pub same : next.differences.schema.now.shape ≡ shape
  pub widths : next.half.widths ≡ next.differences.patch.now.widths

-- The patch moves the rows to those with the differences of the move, and these can be laid out in its half; no ordinal is in both parts of the
-- differences.
pub record IsMoveOf (shape : Shape) (patch : PatchSection) (rows : RowMap) (next : Move) : Type 0 where
  pub moved : IsMovedBy shape patch rows (rows_with rows next.differences)
  pub can : CanLay shape next.half (rows_with rows next.differences)
  pub apart : AreApart next.differences
  pub of : IsOfPatch shape next
