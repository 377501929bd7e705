use Rattle.std.proofs.Common.{◌≤◌, ◌-◌, ◌^◌, List, ℕ, min, ap, length, refl, slice_index, subst, sym, ◌∙◌}
use Rattle.std.specs.Prelude.{sum}
use Rattle.std.specs.FinMap.{values}
use Rattle.schema_model.specs.Parts.{shape_fields}
use Rattle.type_rows.proofs.Places.{narrow}
use Rattle.type_rows.specs.FieldEnds.{EndsFit}
use Rattle.type_rows.specs.Sums.{AreLaid}
use Rattle.type_rows.proofs.Columns.{object_long}
use Rattle.type_rows.proofs.ColumnsLaid.{all_fit, columns_laid}
use Rattle.type_rows.proofs.records.lay_out.Goals as goal

pub hold_ends-requires-clause-widths : goal.hold_ends-requires-clause-widths
hold_ends-requires-clause-widths c =
    ap length c.as_slice.ensures ∙ object_long c.args.shape.now c.args.section.now c.requires.object c.requires.readable ∙ sym (ap length c.fields.ensures)

pub hold_ends-requires-clause-narrow : goal.hold_ends-requires-clause-narrow
hold_ends-requires-clause-narrow c = λ field.
    subst (λ (widths : List ℕ). slice_index widths field ≤ 64) (sym c.as_slice.ensures) (narrow c.args.shape.now c.args.section.now c.requires.readable field)

pub returns-then-hold_ends-clause-tells : goal.returns-then-hold_ends-clause-tells
returns-then-hold_ends-clause-tells c =
    let shape = c.args.shape.now in
    let section = c.args.section.now in
    let lengths = c.in_ok-lengths.lengths in
    let leads = c.in_ok-test_records.ensures in
    let fit : EndsFit (shape_fields shape) section.widths lengths (length (shape_fields shape)) =
    all_fit shape section lengths c.fields.result.now c.as_slice.result.now c.as_slice-2.result.now c.fields.ensures c.as_slice.ensures c.as_slice-2.ensures (c.if-hold_ends.ensures refl) in (
      leads.0,
      leads.1,
      columns_laid shape section c.requires.object c.requires.readable c.requires.placed lengths c.in_ok-lengths.ensures.long c.in_ok-lengths.ensures.lengths fit leads.0 leads.1 c.total-bytes.result
          (c.total-bytes.ensures ∙ ap (λ (numbers : List ℕ). min (sum numbers) (2 ^ 64 - 1)) c.as_slice-then-hold_ends.ensures),
    )

pub returns-clause-tells : goal.returns-clause-tells
returns-clause-tells c =
    let leads = c.in_ok-test_records.ensures in
    (leads.0, leads.1, subst (λ (lengths : List ℕ). AreLaid c.args.shape.now c.args.section.now.widths (values leads.0) 0 lengths c.in_ok-ends.bytes) (sym c.from_vec-lengths.ensures) (c.in_ok-ends.ensures.tells leads.0 leads.1))
