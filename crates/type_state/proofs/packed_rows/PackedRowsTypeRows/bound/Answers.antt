use Rattle.std.proofs.Common.{◌∙◌, ap, subst}
use Rattle.ordinal_set.specs.Ordinals.{bound_of}
use Rattle.column_rows.specs.OneType.{IsRowsBound}
use Rattle.type_state.specs.PackedRows.{Standing}
use Rattle.type_state.specs.Kept.{half_rows}
use Rattle.type_state.proofs.Bounds.{rows_bound}
use Rattle.type_state.proofs.Halves.{half_keys}
use Rattle.type_state.proofs.packed_rows.PackedRowsTypeRows.bound.Goals as goal

pub returns : goal.returns
returns c =
    let shape = c.self.inside.schema.now.shape in
    subst (λ (s : Standing). IsRowsBound s.rows c.bound.result) c.self.view_is
    (rows_bound (half_rows shape c.self.inside.half.now c.self.inside.words.now) c.bound.result (c.bound.ensures.bound ∙ ap bound_of (half_keys shape c.self.inside.half.now c.self.inside.words.now c.self.invariant)))
