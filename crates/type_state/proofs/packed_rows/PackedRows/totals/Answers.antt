use Rattle.std.proofs.Common.{refl, subst, ◌∙◌, arith}
use Rattle.std.specs.FinMap.{values}
use Rattle.type_rows.specs.declared.totals.Totals.{Totals}
use Rattle.type_rows.specs.Totals.{AreTotals}
use Rattle.type_state.specs.PackedRows.{Standing}
use Rattle.type_state.proofs.AddedUp.{few_bytes, half_totals}
use Rattle.type_state.proofs.packed_rows.PackedRows.totals.Goals as goal

pub bytes_of_half-requires : goal.bytes_of_half-requires
bytes_of_half-requires c = let few = few_bytes c.self.inside.schema.now.shape c.self.inside.half.now c.self.inside.words.now c.self.invariant in omega (arith, few)

pub returns : goal.returns
returns c =
    let totals : Totals = record { ends = record { offsets = c.in_ok-offsets.offsets; items = c.self.inside.half.now.total }; bytes = c.bytes_of_half.result } in
    subst (λ (s : Standing). AreTotals (values s.rows) totals) c.self.view_is
    (half_totals c.self.inside.schema.now.shape c.self.inside.half.now c.self.inside.words.now totals c.self.invariant (c.in_ok-offsets.ensures.items ∙ c.as_slice.ensures) refl c.bytes_of_half.ensures)
