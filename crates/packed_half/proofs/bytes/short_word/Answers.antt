use Rattle.std.proofs.Common.{◌≡◌, ◌-◌, length, get_or, arith}
use Rattle.packed_half.proofs.BytesPut.{word_begun, word_more, word_fits}
use Rattle.packed_half.proofs.bytes.short_word.Goals as goal

pub loop-step-init : goal.loop-step-init
loop-step-init c = word_begun c.args.bytes.now

pub overflow_mul-word : goal.overflow_mul-word
overflow_mul-word c = record { fits = (let all = word_fits c.args.bytes.now c.loop-step.step c.loop-step.word 0 c.loop-step.invariant (omega arith) c.requires (omega arith) in omega arith) }

pub overflow_add-word : goal.overflow_add-word
overflow_add-word c =
    let is : c.from.result ≡ get_or c.args.bytes.now (length c.args.bytes.now - 1 - c.loop-step.step) 0 = c.from.ensures in
    let fit = (c.type_inv.bytes (length c.args.bytes.now - 1 - c.loop-step.step)).fits in
    record { fits = word_fits c.args.bytes.now c.loop-step.step c.loop-step.word c.from.result c.loop-step.invariant (omega arith) c.requires (omega (arith, is, fit)) }

pub loop-step-preserved : goal.loop-step-preserved
loop-step-preserved c =
    let is : c.from.result ≡ get_or c.args.bytes.now (length c.args.bytes.now - 1 - c.loop-step.step) 0 = c.from.ensures in
    let fit = (c.type_inv.bytes (length c.args.bytes.now - 1 - c.loop-step.step)).fits in
    word_more c.args.bytes.now c.loop-step.step c.loop-step.word c.from.result c.loop-step.invariant (omega arith) is (omega (arith, is, fit))
