use Rattle.std.proofs.Common.{◌∙◌, ◌-◌, ◌<◌, ap, get_or, length, [], arith}
use Rattle.std.proofs.lemmas.List.{get_or_read}
use Rattle.kept_sums.specs.Sums.{one_if}
use Rattle.kept_sums.proofs.Summing.{taken_more, taken_none}
use Rattle.kept_sums.proofs.sums.take_parts.Goals as goal

pub loop-part-init : goal.loop-part-init
loop-part-init c = taken_none c.args.shape.now c.args.row.now c.args.parts.now.items

pub loop-part-preserved : goal.loop-part-preserved
loop-part-preserved c =
    let parts = c.loop-part.parts.items in
    let k = c.loop-part.part in
    let long = c.loop-part.invariant.long in
    let inside : k < length parts = omega (arith, long, c.loop-part-test.true, c.len-part-end.ensures) in
    let read = get_or_read parts k c.index_mut.result.now inside c.index_mut.ensures.value (record { counts = []; bytes = 0 }) in
    taken_more c.args.shape.now c.args.row.now k c.args.parts.now.items parts c.index_mut.result.now c.take.new.self inside read c.loop-part.invariant
    (λ n. c.take.ensures.counts n ∙ ap (λ b. get_or c.index_mut.result.now.counts n 0 - one_if b n) c.bits_at.ensures.is)
    (c.take.ensures.bytes ∙ ap (λ b. c.index_mut.result.now.bytes - b) c.in_ok-bytes.ensures)
