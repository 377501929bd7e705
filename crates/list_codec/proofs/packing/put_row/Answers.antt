use Rattle.std.proofs.Common.{◌+◌, length, arith, refl}
use Rattle.list_codec.specs.ListPlace.{pointer_width}
use Rattle.list_codec.proofs.Written.{pointer_put, row_spelled, row_kept, end_fits, read_is}
use Rattle.list_codec.proofs.packing.put_row.Goals as goal

pub overflow_add-end : goal.overflow_add-end
overflow_add-end c =
    let two = c.requires.two in
    record { fits = end_fits (c.args.start + length c.args.elements.now) (pointer_width c.args.widths.now) (c.requires.narrow 0 0 (omega arith)) c.requires.below }

pub returns-clause-spelled : goal.returns-clause-spelled
returns-clause-spelled c =
    let widths = c.args.widths.now in
    let end = c.args.start + length c.args.elements.now in
    let is = read_is widths 0 c.get-pointer_width.result.now c.get-pointer_width.ensures in
    let is_width = read_is widths 1 c.get.result.now c.get.ensures in
    let put = pointer_put widths c.args.first.now c.set_element.new.words c.args.place end c.get-pointer_width.result.now c.from.result is c.from.ensures c.requires.below
    c.set_element.ensures.block c.set_element.ensures.is c.set_element.ensures.others in
    row_spelled widths c.args.first.now c.set_element.new.words c.args.second.now c.put_elements.new.words c.args.place c.args.start end c.get.result.now c.args.elements.now
    c.requires put refl is_width c.put_elements.ensures.are c.put_elements.auto.words c.type_inv.elements

pub returns-clause-earlier : goal.returns-clause-earlier
returns-clause-earlier c =
    let widths = c.args.widths.now in
    let end = c.args.start + length c.args.elements.now in
    let is = read_is widths 0 c.get-pointer_width.result.now c.get-pointer_width.ensures in
    let is_width = read_is widths 1 c.get.result.now c.get.ensures in
    let put = pointer_put widths c.args.first.now c.set_element.new.words c.args.place end c.get-pointer_width.result.now c.from.result is c.from.ensures c.requires.below
    c.set_element.ensures.block c.set_element.ensures.is c.set_element.ensures.others in
    row_kept widths c.args.first.now c.set_element.new.words c.args.second.now c.put_elements.new.words c.args.place c.args.start end c.get.result.now put is_width
    c.put_elements.ensures.before c.put_elements.auto.words

pub returns-clause-pointer_bits : goal.returns-clause-pointer_bits
returns-clause-pointer_bits c =
    let widths = c.args.widths.now in
    let end = c.args.start + length c.args.elements.now in
    let is = read_is widths 0 c.get-pointer_width.result.now c.get-pointer_width.ensures in
    let put = pointer_put widths c.args.first.now c.set_element.new.words c.args.place end c.get-pointer_width.result.now c.from.result is c.from.ensures c.requires.below
    c.set_element.ensures.block c.set_element.ensures.is c.set_element.ensures.others in
    put.bits

pub returns-clause-pointer : goal.returns-clause-pointer
returns-clause-pointer c =
    let widths = c.args.widths.now in
    let end = c.args.start + length c.args.elements.now in
    let is = read_is widths 0 c.get-pointer_width.result.now c.get-pointer_width.ensures in
    let put = pointer_put widths c.args.first.now c.set_element.new.words c.args.place end c.get-pointer_width.result.now c.from.result is c.from.ensures c.requires.below
    c.set_element.ensures.block c.set_element.ensures.is c.set_element.ensures.others in
    put.there
