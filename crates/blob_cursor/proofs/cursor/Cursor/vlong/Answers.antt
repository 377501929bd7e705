use Rattle.std.proofs.Common.{◌^◌, ℕ, List, subst, ap, arith, inl, inr, Err}
use Rattle.hol_varint.specs.Varint.{VarStandsBelow, VarEndsInside, IsNullVar, IsLongVar}
use Rattle.blob_cursor.proofs.Numbers.{reads_number, reads_bad_number, reads_unended}
use Rattle.blob_cursor.proofs.cursor.Cursor.vlong.Goals as goal

pub returns-in-Ok-clause-reads : goal.returns-in-Ok-clause-reads
returns-in-Ok-clause-reads g c =
    reads_number (2 ^ 64) c.in_ok-want.ensures.fills
    (subst (λ (xs : List ℕ). VarStandsBelow (2 ^ 64) xs 0 c.in-Ok.number c.in-Ok.next) c.ahead.ensures.value c.in-Ok.ensures.tells) c.pass.ensures.moved

pub returns-in-Err-Null-clause-reads : goal.returns-in-Err-Null-clause-reads
returns-in-Err-Null-clause-reads g c =
    reads_bad_number (2 ^ 64) c.in_ok-want.ensures.fills (inl (subst (λ (xs : List ℕ). IsNullVar xs) c.ahead.ensures.value (c.in-Err-Null.ensures.null.0 (ap Err c.in-Err-Null.field-0-is)))) (ap Err c.bad.ensures)

pub returns-in-Err-Long-clause-reads : goal.returns-in-Err-Long-clause-reads
returns-in-Err-Long-clause-reads g c =
    reads_bad_number (2 ^ 64) c.in_ok-want.ensures.fills (inr (subst (λ (xs : List ℕ). IsLongVar (2 ^ 64) xs) c.ahead.ensures.value (c.in-Err-Long.ensures.long.0 (ap Err c.in-Err-Long.field-0-is)))) (ap Err c.bad-in-Err-Long.ensures)

pub returns-in_ok-stops-in-Err-Short-clause-reads : goal.returns-in_ok-stops-in-Err-Short-clause-reads
returns-in_ok-stops-in-Err-Short-clause-reads g c =
    reads_unended (2 ^ 64) (omega arith) c.in_ok-want.ensures.fills (subst (λ (xs : List ℕ). VarEndsInside xs) c.ahead.ensures.value (c.in-Err-Short.ensures.short.0 (ap Err c.in-Err-Short.field-0-is)))
    c.in_ok-stops-in-Err-Short.ensures.seeks (cc (c.at-at.ensures, c.unended.ensures))
