use Rattle.std.proofs.Common.{◌+◌, arith}
use Rattle.hol_varint.proofs.JavaTexts.{utf_found}
use Rattle.hol_varint.proofs.java_utf.utf.Goals as goal

pub returns : goal.returns
returns c =
    let bytes = c.args.bytes.now in
    let at = c.args.at in
    utf_found bytes at _ (omega arith) (omega arith) (omega (arith, c.type_inv.bytes at)) (omega (arith, c.type_inv.bytes (at + 1))) _ c.in_ok-units.ensures
