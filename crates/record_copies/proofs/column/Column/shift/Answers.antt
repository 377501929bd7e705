use Rattle.std.proofs.Common.{◌+◌, ◌*◌, ◌^◌, ◌≤◌, arith, refl}
use Rattle.std.proofs.Math.Pow.{pow_mono}
use Rattle.record_copies.proofs.Shifts.{can_shift, shifted_more}
use Rattle.record_copies.proofs.column.Column.shift.Goals as goal

pub overflow_add-end : goal.overflow_add-end
overflow_add-end c =
    let can = can_shift c.args.self c.args.words.now c.loop-place.words c.args.run c.args.less c.args.more c.loop-place.place _ c.element-end.result c.requires.can c.loop-place.invariant (omega arith) refl c.element-end.ensures in
    let most : 2 ^ c.args.self.width ≤ 2 ^ 64 = pow_mono c.requires.lies.narrow in
    record { fits = omega (arith, can.1, most) }

pub loop-place-preserved : goal.loop-place-preserved
loop-place-preserved c =
    shifted_more c.args.self c.args.words.now c.loop-place.words c.set_element.new.words c.args.run c.args.less c.args.more c.loop-place.place (c.loop-place.place * c.args.self.size + c.args.self.before) c.element-end.result _
    c.requires.lies c.loop-place.invariant (omega arith) refl c.element-end.ensures refl c.set_element.ensures.is c.set_element.ensures.others c.set_element.auto.words
