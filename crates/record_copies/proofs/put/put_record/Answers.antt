use Rattle.std.proofs.Common.{◌*◌, ◌∙◌, ℕ, List, length, subst, sym, ap, refl, arith, Fits, w64}
use Rattle.row_model.specs.declared.row.Value.{Value}
use Rattle.record_copies.specs.Element.{GiveValues}
use Rattle.record_copies.proofs.RecordPuts.{widths_narrow, record_counted, values_long, record_put, end_kept, others_kept}
use Rattle.record_copies.proofs.put.put_record.Goals as goal

pub overflow_cast-start : goal.overflow_cast-start
overflow_cast-start c = omega (arith, c.total_width.ensures.total, (record_counted _ _ _ _ c.requires.holds).0)

pub overflow_mul-start : goal.overflow_mul-start
overflow_mul-start c =
    let counted = (record_counted _ _ _ _ c.requires.holds).1 in
    subst (λ (size : ℕ). Fits w64 (c.args.place * size)) (sym c.total_width.ensures.total) (record { fits = omega (arith, counted) })

pub put_values-requires-clause-narrow : goal.put_values-requires-clause-narrow
put_values-requires-clause-narrow c = widths_narrow _ _ c.requires.holds.wide

pub put_values-requires-clause-long : goal.put_values-requires-clause-long
put_values-requires-clause-long c =
    ap (λ (values : List Value). length values) c.values_of.ensures ∙ values_long c.args._schema.now.shape c.args.widths.now c.args.first.now c.args.place c.args.row.now c.requires

pub put_values-requires-clause-counted : goal.put_values-requires-clause-counted
put_values-requires-clause-counted c =
    let start = ap (λ (size : ℕ). c.args.place * size) c.total_width.ensures.total in
    omega (arith, start, (record_counted _ _ _ _ c.requires.holds).1)

pub returns-clause-spelled : goal.returns-clause-spelled
returns-clause-spelled c =
    let start = ap (λ (size : ℕ). c.args.place * size) c.total_width.ensures.total in
    record_put c.args._schema.now.shape c.args.widths.now c.args.first.now c.put_values.new.first c.args.place (c.args.place * c.total_width.result) c.args.row.now c.requires start
    (subst (λ (values : List Value). GiveValues c.args.widths.now c.put_values.new.first (c.args.place * c.total_width.result) values) c.values_of.ensures c.put_values.ensures.values)

pub returns-clause-others : goal.returns-clause-others
returns-clause-others c =
    let start = ap (λ (size : ℕ). c.args.place * size) c.total_width.ensures.total in
    others_kept c.args.widths.now c.args.first.now c.put_values.new.first c.args.place _ _ start refl c.put_values.ensures.kept

pub returns-clause-end : goal.returns-clause-end
returns-clause-end c =
    let start = ap (λ (size : ℕ). c.args.place * size) c.total_width.ensures.total in
    end_kept c.args.widths.now c.args.first.now c.put_values.new.first c.args.place _ _ start refl c.put_values.ensures.kept
