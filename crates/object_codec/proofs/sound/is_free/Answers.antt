use Rattle.std.proofs.Common.{◌≤◌, arith}
use Rattle.std.proofs.lemmas.Bool.{leb-true}
use Rattle.object_codec.proofs.Soundness.{free_reference, free_int, free_long}
use Rattle.object_codec.proofs.sound.is_free.Goals as goal

pub returns-in-Reference : goal.returns-in-Reference
returns-in-Reference c = λ test part of below.
    (let narrow : c.args.width ≤ 32 = omega (arith, leb-true) in
    free_reference c.args.kind.now c.args.width c.in-Reference.field-0 c.in-Reference.is narrow part of below)

pub returns-in-Int : goal.returns-in-Int
returns-in-Int c = λ test part of below.
    (let narrow : c.args.width ≤ 32 = omega (arith, leb-true) in free_int c.args.kind.now c.args.width c.in-Int.is narrow part of below)

pub returns-in-Long : goal.returns-in-Long
returns-in-Long c = λ test part of below. free_long c.args.kind.now c.args.width c.in-Long.is part of below
