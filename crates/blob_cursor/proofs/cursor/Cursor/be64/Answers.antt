use Rattle.std.proofs.Common.{rules, ap, ◌∙◌, ℕ, List, take}
use Rattle.std.specs.Int.{w64, from_be_bytes}
use Rattle.blob_cursor.proofs.Fixed.{reads_fixed, reads_no_fixed}
use Rattle.blob_cursor.proofs.cursor.Cursor.be64.Goals as goal

pub returns-in_err-need-clause-reads : goal.returns-in_err-need-clause-reads
returns-in_err-need-clause-reads g c = reads_no_fixed w64 c.in_err-need.ensures.needs (search rules)

pub returns-clause-reads : goal.returns-clause-reads
returns-clause-reads g c =
    reads_fixed w64 c.in_ok-need.ensures.needs c.pass.ensures.moved (c.word_of-number.ensures ∙ ap (λ (xs : List ℕ). from_be_bytes w64 (take 8 xs)) c.ahead.ensures.value)
