use Rattle.std.proofs.Common.{arith}
use Rattle.hol_varint.proofs.JavaUnits.{refused}
use Rattle.hol_varint.proofs.java_utf.first_unit.Goals as goal

pub returns-in_default : goal.returns-in_default
returns-in_default c = refused c.args.bytes.now (λ u w. omega arith) (λ u w. omega arith) (λ u w. omega arith)

pub returns-in_default-2 : goal.returns-in_default-2
returns-in_default-2 c = refused c.args.bytes.now (λ u w. omega arith) (λ u w. omega arith) (λ u w. omega arith)

pub returns-in_default-3 : goal.returns-in_default-3
returns-in_default-3 c = refused c.args.bytes.now (λ u w. omega arith) (λ u w. omega arith) (λ u w. omega arith)
