use Rattle.std.proofs.Common.{arith}
use Rattle.row_packing.proofs.Measuring.{tells_bytes, tells_words, tells_none}
use Rattle.row_packing.proofs.limit.limit_of.Goals as goal

pub returns-then-max-gt-MAX_BYTES : goal.returns-then-max-gt-MAX_BYTES
returns-then-max-gt-MAX_BYTES c old new t agree below is =
    tells_bytes c.args.shape.now old new t c.args.measured.now agree below is (omega (arith, c.if-measured-gt-MAX_ITEMS.false)) (omega (arith, c.max.ensures, c.if-max-gt-MAX_BYTES.true))

pub returns-then-max-from : goal.returns-then-max-from
returns-then-max-from c old new t agree below is =
    tells_words c.args.shape.now old new t c.args.measured.now agree below is (omega (arith, c.if-measured-gt-MAX_ITEMS.false)) (omega (arith, c.max.ensures, c.if-max-gt-MAX_BYTES.false))
    c.words-old_words.result c.words-new_words.result c.words-old_words.ensures c.words-new_words.ensures (omega (arith, c.max-2.ensures, c.from.ensures, c.if-max-from.true))

pub returns : goal.returns
returns c old new t agree below is =
    tells_none c.args.shape.now old new t c.args.measured.now agree below is (omega (arith, c.if-measured-gt-MAX_ITEMS.false)) (omega (arith, c.max.ensures, c.if-max-gt-MAX_BYTES.false))
    c.words-old_words.result c.words-new_words.result c.words-old_words.ensures c.words-new_words.ensures (omega (arith, c.max-2.ensures, c.from.ensures, c.if-max-from.false))
