use Rattle.std.proofs.Common.{◌+◌, List, ℕ, ap, arith, get_or, length, subst, sym, ◌∙◌}
use Rattle.std.proofs.lemmas.List.{length_push}
use Rattle.std.proofs.lemmas.List.Sums.{sum_by_more, sum_by_more_le}
use Rattle.type_rows.specs.FieldEnds.{AreLengths}
use Rattle.type_rows.proofs.Columns.{lengths_more, object_long, record_small}
use Rattle.type_rows.proofs.records.column_lengths.Goals as goal

pub bounds-widths-index : goal.bounds-widths-index
bounds-widths-index c =
    omega (arith, c.loop-index-test.true, object_long c.args.shape.now c.args.section.now c.requires.object c.requires.readable, ap length c.as_slice-widths.ensures, ap length c.fields-many.ensures)

pub overflow_add-before : goal.overflow_add-before
overflow_add-before c =
    let widths = c.args.section.now.widths in
    let long = object_long c.args.shape.now c.args.section.now c.requires.object c.requires.readable in
    omega (
      arith,
      record_small c.args.shape.now c.args.section.now c.requires.object c.requires.readable,
      c.loop-index.invariant.before,
      c.from-before.ensures,
      ap (λ (w : List ℕ). get_or w c.loop-index.index 0) c.as_slice-widths.ensures,
      sum_by_more_le (λ (w : ℕ). w) widths c.loop-index.index 0 (omega (arith, c.loop-index-test.true, long, ap length c.fields-many.ensures)),
    )

pub loop-index-preserved : goal.loop-index-preserved
loop-index-preserved c =
    let widths = c.args.section.now.widths in
    let index = c.loop-index.index in
    let long = object_long c.args.shape.now c.args.section.now c.requires.object c.requires.readable in
    record {
      before = omega (
        arith,
        c.loop-index.invariant.before,
        c.from-before.ensures,
        ap (λ (w : List ℕ). get_or w index 0) c.as_slice-widths.ensures,
        sum_by_more (λ (w : ℕ). w) widths index 0 (omega (arith, c.loop-index-test.true, long, ap length c.fields-many.ensures)),
      );
      long = ap length c.in_ok-push.ensures.ok ∙ length_push c.loop-index.lengths c.column_length.result ∙ ap (λ (n : ℕ). n + 1) c.loop-index.invariant.long;
      lengths = subst (λ (lengths : List ℕ). AreLengths c.args.shape.now c.args.section.now lengths (index + 1)) (sym c.in_ok-push.ensures.ok)
          (lengths_more c.args.shape.now c.args.section.now c.loop-index.lengths index c.column_length.result c.loop-index.invariant.long c.loop-index.invariant.lengths c.column_length.ensures);
    }
