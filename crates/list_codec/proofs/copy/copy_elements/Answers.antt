use Rattle.std.proofs.Common.{◌+◌, ◌*◌, ◌^◌, ◌<◌, length, subst, sym, arith, Fits, w64}
use Rattle.list_codec.specs.Elements.{elements_of}
use Rattle.list_codec.proofs.Written.{WrittenSoFar, written_more, ends_before}
use Rattle.list_codec.proofs.ListElements.{elements_long}
use Rattle.list_codec.proofs.CopiedLists.{all_written}
use Rattle.list_codec.proofs.copy.copy_elements.Goals as goal

pub overflow_mul-at : goal.overflow_mul-at
overflow_mul-at c =
    let held = c.requires.held in
    let few = c.requires.few in
    let below : c.args.start * c.args.width < 2 ^ 64 = omega arith in
    subst (λ w. Fits w64 (c.args.start * w)) (sym c.from.ensures) (record { fits = below })

pub set_element-requires-clause-inside : goal.set_element-requires-clause-inside
set_element-requires-clause-inside c =
    let index = c.loop-index.index in
    let start = c.args.start in
    let count = length (elements_of c.args.from) in
    let long = elements_long c.args.from in
    let held = c.requires.held in
    let at = c.loop-index.invariant.position in
    let words = c.loop-index.invariant.long in
    let ends = ends_before (start + index) (start + count) c.args.width (omega arith) in
    omega (arith, held, at, words, ends)

pub set_element-requires-clause-small : goal.set_element-requires-clause-small
set_element-requires-clause-small c =
    let long = elements_long c.args.from in
    subst (λ e. e < 2 ^ c.args.width) (sym c.element.ensures) (c.requires.small c.loop-index.index 0 (omega arith))

pub overflow_add-at : goal.overflow_add-at
overflow_add-at c =
    let index = c.loop-index.index in
    let start = c.args.start in
    let count = length (elements_of c.args.from) in
    let long = elements_long c.args.from in
    let held = c.requires.held in
    let few = c.requires.few in
    let at = c.loop-index.invariant.position in
    let ends = ends_before (start + index) (start + count) c.args.width (omega arith) in
    subst (λ w. Fits w64 (c.loop-index.at + w)) (sym c.from-at.ensures) (record { fits = omega (arith, held, few, at, ends) })

pub loop-index-preserved : goal.loop-index-preserved
loop-index-preserved c =
    let index = c.loop-index.index in
    let elements = elements_of c.args.from in
    let long = elements_long c.args.from in
    let small : c.element.result < 2 ^ c.args.width = subst (λ e. e < 2 ^ c.args.width) (sym c.element.ensures) (c.requires.small index 0 (omega arith)) in
    subst (λ w. WrittenSoFar c.args.words.now c.set_element.new.words c.args.width c.args.start (index + 1) (c.loop-index.at + w) elements) (sym c.from-at.ensures)
    (written_more c.args.words.now c.loop-index.words c.set_element.new.words c.args.width c.args.start index c.loop-index.at c.element.result elements c.loop-index.invariant (omega arith)
    c.element.ensures small c.set_element.ensures.block c.set_element.ensures.is c.set_element.ensures.others c.set_element.auto.words)

pub returns-clause-are : goal.returns-clause-are
returns-clause-are c =
    let long = elements_long c.args.from in
    (all_written c.args.words.now c.loop-index.words c.args.width c.args.start c.loop-index.index c.loop-index.at (elements_of c.args.from) c.loop-index.invariant (omega arith)).0

pub returns-clause-bits : goal.returns-clause-bits
returns-clause-bits c =
    let long = elements_long c.args.from in
    (all_written c.args.words.now c.loop-index.words c.args.width c.args.start c.loop-index.index c.loop-index.at (elements_of c.args.from) c.loop-index.invariant (omega arith)).1
