use Rattle.std.proofs.Common.{◌≡◌, ◌+◌, ◌*◌, ◌^◌, ◌<◌, length, get_or, subst, sym, arith, Fits, w64}
use Rattle.list_codec.proofs.Written.{WrittenSoFar, written_more, ends_before}
use Rattle.list_codec.proofs.packing.put_elements.Goals as goal

pub overflow_mul-at : goal.overflow_mul-at
overflow_mul-at c =
    let start = c.args.start in
    let width = c.args.width in
    let held = c.requires.held in
    let few = c.requires.few in
    let below : start * width < 2 ^ 64 = omega arith in
    subst (λ w. Fits w64 (start * w)) (sym c.from.ensures) (record { fits = below })

pub overflow_add-at : goal.overflow_add-at
overflow_add-at c =
    let index = c.loop-element.element-index in
    let count = length c.args.elements.now in
    let width = c.args.width in
    let start = c.args.start in
    let held = c.requires.held in
    let few = c.requires.few in
    let at = c.loop-element.invariant.position in
    let ends = ends_before (start + index) (start + count) width (omega arith) in
    subst (λ w. Fits w64 (c.loop-element.at + w)) (sym c.from-at.ensures) (record { fits = omega arith })

pub loop-element-preserved : goal.loop-element-preserved
loop-element-preserved c =
    let index = c.loop-element.element-index in
    let elements = c.args.elements.now in
    let element = c.from-in-loop-element.result in
    let is : element ≡ get_or elements index 0 = c.from-in-loop-element.ensures in
    let small : element < 2 ^ c.args.width = subst (λ e. e < 2 ^ c.args.width) (sym is) (c.requires.small index 0 (omega arith)) in
    subst (λ w. WrittenSoFar c.args.words.now c.set_element.new.words c.args.width c.args.start (index + 1) (c.loop-element.at + w) elements) (sym c.from-at.ensures)
    (written_more c.args.words.now c.loop-element.words c.set_element.new.words c.args.width c.args.start index c.loop-element.at element elements c.loop-element.invariant (omega arith)
    is small c.set_element.ensures.block c.set_element.ensures.is c.set_element.ensures.others c.set_element.auto.words)
