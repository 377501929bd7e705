use Rattle.std.proofs.Common.{◌+◌, ◌*◌, ◌^◌, ◌<◌, ℕ, subst, sym, ap, arith, refl}
use Rattle.bit_array.specs.Element.{number_of}
use Rattle.list_codec.specs.Elements.{elements_of}
use Rattle.list_codec.specs.ListPlace.{pointer_width, element_width}
use Rattle.list_codec.proofs.Written.{pointer_put, row_spelled, row_kept, end_fits}
use Rattle.list_codec.proofs.ListElements.{elements_long}
use Rattle.list_codec.proofs.CopiedLists.{ordinals_fit}
use Rattle.list_codec.proofs.copy.copy_list.Goals as goal

pub overflow_add-end : goal.overflow_add-end
overflow_add-end c =
    let two = c.requires.room.two in
    let long = elements_long c.args.from in
    let below = c.requires.room.below in
    record { fits = end_fits (c.args.start + c.args.from.len) (pointer_width c.args.widths.now) (c.requires.room.narrow 0 0 (omega arith)) (omega (arith, long, below)) }

pub set_element-requires-clause-small : goal.set_element-requires-clause-small
set_element-requires-clause-small c =
    let long = elements_long c.args.from in
    let below = c.requires.room.below in
    omega (arith, long, below)

pub returns-clause-end : goal.returns-clause-end
returns-clause-end c = ap (λ (n : ℕ). c.args.start + n) (sym (elements_long c.args.from))

pub returns-clause-spelled : goal.returns-clause-spelled
returns-clause-spelled c =
    let widths = c.args.widths.now in
    let end = c.args.start + c.args.from.len in
    let long = elements_long c.args.from in
    let below = c.requires.room.below in
    let put = pointer_put widths c.args.first.now c.set_element.new.words c.args.place end (pointer_width widths) c.from.result refl c.from.ensures (omega (arith, long, below))
    c.set_element.ensures.block c.set_element.ensures.is c.set_element.ensures.others in
    row_spelled widths c.args.first.now c.set_element.new.words c.args.second.now c.copy_elements.new.words c.args.place c.args.start end (element_width widths) (elements_of c.args.from)
    c.requires.room put (ap (λ (n : ℕ). c.args.start + n) (sym long)) refl c.copy_elements.ensures.are c.copy_elements.auto.words (ordinals_fit (elements_of c.args.from) c.requires.ordinals)

pub returns-clause-earlier : goal.returns-clause-earlier
returns-clause-earlier c =
    let widths = c.args.widths.now in
    let end = c.args.start + c.args.from.len in
    let long = elements_long c.args.from in
    let below = c.requires.room.below in
    let put = pointer_put widths c.args.first.now c.set_element.new.words c.args.place end (pointer_width widths) c.from.result refl c.from.ensures (omega (arith, long, below))
    c.set_element.ensures.block c.set_element.ensures.is c.set_element.ensures.others in
    row_kept widths c.args.first.now c.set_element.new.words c.args.second.now c.copy_elements.new.words c.args.place c.args.start end (element_width widths) put refl
    c.copy_elements.ensures.before c.copy_elements.auto.words

pub returns-clause-pointer_bits : goal.returns-clause-pointer_bits
returns-clause-pointer_bits c =
    let widths = c.args.widths.now in
    let long = elements_long c.args.from in
    let below = c.requires.room.below in
    let put = pointer_put widths c.args.first.now c.set_element.new.words c.args.place (c.args.start + c.args.from.len) (pointer_width widths) c.from.result refl c.from.ensures (omega (arith, long, below))
    c.set_element.ensures.block c.set_element.ensures.is c.set_element.ensures.others in
    put.bits

pub returns-clause-element_bits : goal.returns-clause-element_bits
returns-clause-element_bits c =
    subst (λ (n : ℕ). number_of c.args.second.now < 2 ^ (c.args.start * element_width c.args.widths.now) → number_of c.copy_elements.new.words < 2 ^ ((c.args.start + n) * element_width c.args.widths.now))
    (elements_long c.args.from) c.copy_elements.ensures.bits
