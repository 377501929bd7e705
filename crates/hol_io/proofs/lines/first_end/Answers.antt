use Rattle.std.proofs.Common.{None, Some, length, arith}
use Rattle.std.proofs.lemmas.Slice.{between_to_end}
use Rattle.hol_io.proofs.Finding.{first_behind}
use Rattle.hol_io.proofs.lines.first_end.Goals as goal

pub returns-in-Some : goal.returns-in-Some
returns-in-Some c =
    let bytes = c.args.bytes.now in
    first_behind bytes _ c.args.from (Some c.in-Some.count) c.requires.within (between_to_end bytes c.args.from (length bytes) (omega arith)) c.requires.before c.in-Some.ensures

pub returns-in-None : goal.returns-in-None
returns-in-None c =
    let bytes = c.args.bytes.now in
    first_behind bytes _ c.args.from None c.requires.within (between_to_end bytes c.args.from (length bytes) (omega arith)) c.requires.before c.in-None.ensures
