use Rattle.std.proofs.Common.{rules}
use Rattle.std.specs.Int.{w8}
use Rattle.blob_cursor.proofs.Fixed.{reads_fixed, reads_no_fixed, value_one}
use Rattle.blob_cursor.proofs.cursor.Cursor.byte.Goals as goal

pub returns-in_err-need-clause-reads : goal.returns-in_err-need-clause-reads
returns-in_err-need-clause-reads g c = reads_no_fixed w8 c.in_err-need.ensures.needs (search rules)

pub returns-clause-reads : goal.returns-clause-reads
returns-clause-reads g c =
    reads_fixed w8 c.in_ok-need.ensures.needs c.pass.ensures.moved (value_one c.ahead.result.now c.need.new.self.ahead c.in_ok-need.ensures.needs.enough c.ahead.ensures.value)
