use Rattle.std.proofs.Common.{inl, inr, arith}
use Rattle.hol_varint.proofs.JavaUnits.{refused, two_bytes}
use Rattle.hol_varint.proofs.java_utf.of_two_bytes.Goals as goal

pub returns-in_default : goal.returns-in_default
returns-in_default c = refused c.args.bytes.now (λ u w. omega arith) (λ u w. omega (arith, c.in_default.ensures)) (λ u w. omega arith)

pub returns-in-1-to-127 : goal.returns-in-1-to-127
returns-in-1-to-127 c =
    let second = c.in-Some.ensures in
    refused c.args.bytes.now (λ u w. omega arith) (λ u w. omega arith) (λ u w. omega arith)

pub returns-in_default-unit : goal.returns-in_default-unit
returns-in_default-unit c =
    let second = c.in-Some.ensures in
    two_bytes c.args.bytes.now _ c.in-Some.bits (omega arith) (omega arith) second.0 second.1 (omega arith) (inl (omega arith))

pub returns-in_default-unit-2 : goal.returns-in_default-unit-2
returns-in_default-unit-2 c =
    let second = c.in-Some.ensures in
    two_bytes c.args.bytes.now _ c.in-Some.bits (omega arith) (omega arith) second.0 second.1 (omega arith) (inr (omega arith))
