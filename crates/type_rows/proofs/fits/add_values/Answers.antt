use Rattle.std.proofs.Common.{rules, arith, refl}
use Rattle.std.proofs.lemmas.Bool.{false≢true}
use Rattle.type_rows.proofs.Offsets.{stepped, refused, finished, all_ends}
use Rattle.type_rows.proofs.fits.add_values.Goals as goal

pub returns-then-not-fits_width-clause-fits : goal.returns-then-not-fits_width-clause-fits
returns-then-not-fits_width-clause-fits c = (
  λ t. absurd (false≢true t),
  λ all. absurd (refused c.args.fields.now c.args.widths.now c.args.values.now c.args.ends.now c.loop-index.ends c.loop-index.index c.index-fields-index.result c.index-values-index.result c.value_bytes.result c.saturating_add-end.result
      c.loop-index.invariant (search rules) (search rules) all),
)

pub loop-index-preserved : goal.loop-index-preserved
loop-index-preserved c =
    stepped c.args.fields.now c.args.widths.now c.args.values.now c.args.ends.now c.loop-index.ends c.loop-index.index c.index-fields-index.result c.index-values-index.result c.value_bytes.result c.saturating_add-end.result
    c.loop-index.invariant (search rules) (search rules)

pub returns-clause-fits : goal.returns-clause-fits
returns-clause-fits c = (
  λ t. finished c.args.fields.now c.args.widths.now c.args.values.now c.args.ends.now c.loop-index.ends c.loop-index.index c.loop-index.invariant (omega arith),
  λ all. refl,
)

pub returns-clause-ends : goal.returns-clause-ends
returns-clause-ends c = λ t. all_ends c.args.fields.now c.args.widths.now c.args.values.now c.args.ends.now c.loop-index.ends c.loop-index.index c.loop-index.invariant (omega arith)
