use Rattle.type_state.specs.Differences.{removal}
use Rattle.std.proofs.Common.{map, arith}
use Rattle.type_state.proofs.StayingRows.{numbers_kind, numbers_stay, wider_stays}
use Rattle.type_state.proofs.staying.field_fits.Goals as goal

pub returns-then-before-width : goal.returns-then-before-width
returns-then-before-width c = λ t.
    wider_stays c.args.rows.now.rows (map removal c.args.removed.now) c.args.field c.args.kind.now c.args.before c.args.width (numbers_kind c.args.kind.now c.in_default.not-Boolean c.in_default.not-Text c.in_default.not-Bytes) (omega (arith, c.if-before-width.true))

pub returns-else-before-width : goal.returns-else-before-width
returns-else-before-width c = λ t.
    numbers_stay c.args.rows.now.rows (map removal c.args.removed.now) c.args.field c.args.kind.now c.args.before c.args.width (numbers_kind c.args.kind.now c.in_default.not-Boolean c.in_default.not-Text c.in_default.not-Bytes) (c.numbers_fit.ensures t)
