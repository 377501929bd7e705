use Rattle.std.proofs.Common.{ap, arith, length}
use Rattle.object_codec.proofs.BytesInWords.{bytes_long}
use Rattle.history_orders.proofs.key_columns.are_bytes.Goals as goal

pub returns-then-packed-bytes : goal.returns-then-packed-bytes
returns-then-packed-bytes c = λ same.
    let long = bytes_long c.args.packed.words.now c.args.packed.start c.args.packed.len in
    let also = ap length same in
    let apart = c.if-packed-bytes.true in
    absurd (omega (arith, long, also, apart))
