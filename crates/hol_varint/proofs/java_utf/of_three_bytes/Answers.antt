use Rattle.std.proofs.Common.{arith}
use Rattle.hol_varint.proofs.JavaUnits.{refused, three_bytes}
use Rattle.hol_varint.proofs.java_utf.of_three_bytes.Goals as goal

pub returns-in_default : goal.returns-in_default
returns-in_default c = refused c.args.bytes.now (λ u w. omega arith) (λ u w. omega arith) (λ u w. omega (arith, c.in_default.ensures))

pub returns-in_default-low_bits : goal.returns-in_default-low_bits
returns-in_default-low_bits c = refused c.args.bytes.now (λ u w. omega arith) (λ u w. omega arith) (λ u w. omega (arith, c.in_default-low_bits.ensures))

pub returns-then-unit-lt2048 : goal.returns-then-unit-lt2048
returns-then-unit-lt2048 c =
    let second = c.in-Some.ensures in
    let third = c.in-Some-low_bits.ensures in
    refused c.args.bytes.now (λ u w. omega arith) (λ u w. omega arith) (λ u w. omega arith)

pub returns : goal.returns
returns c =
    let second = c.in-Some.ensures in
    let third = c.in-Some-low_bits.ensures in
    three_bytes c.args.bytes.now _ c.in-Some.middle c.in-Some-low_bits.bits (omega arith) (omega arith) second.0 second.1 third.0 third.1 (omega arith) (omega arith)
