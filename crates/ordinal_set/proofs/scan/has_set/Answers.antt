use Rattle.std.proofs.Common.{◌∙◌, ◌≤◌, ◌/◌, length, sym, arith}
use Rattle.std.proofs.lemmas.Bool.{le-ltb}
use Rattle.ordinal_set.proofs.Populations.{bit_read, bit_past}
use Rattle.ordinal_set.proofs.scan.has_set.Goals as goal

pub returns-then-place-words : goal.returns-then-place-words
returns-then-place-words c = bit_read c.args.words.now c.args.ordinal

pub returns-else-place-words : goal.returns-else-place-words
returns-else-place-words c =
    let past : length c.args.words.now ≤ c.args.ordinal / 64 = omega arith in
    le-ltb (c.args.ordinal / 64) (length c.args.words.now) past ∙ sym (bit_past c.args.words.now c.args.ordinal past)
