use Rattle.std.proofs.Common.{◌+◌, ◌*◌, ◌∙◌, ℕ, List, ap, arith}
use Rattle.bit_array.specs.Element.{words_of}
use Rattle.type_rows.specs.Layout.{item_bits, words_needed}
use Rattle.type_rows.proofs.Limits.{loads_summed, pass_bytes, pass_words}
use Rattle.type_rows.proofs.test.within_limits.Goals as goal

pub returns-then-words-from-clause-tells : goal.returns-then-words-from-clause-tells
returns-then-words-from-clause-tells c =
    let shape = c.args.shape.now in
    let section = c.args.section.now in
    let counted : List ℕ → ℕ = λ widths. words_needed shape (record { max = section.max; widths = widths }) + words_of (c.args.sums.items * item_bits shape widths) in
    pass_words shape section c.args.sums c.args.bytes c.fixed_words-words.result c.requires (c.fixed_words-words.ensures ∙ ap counted c.as_slice-widths.ensures) (omega (arith, c.if-words-from.true, c.from.ensures))

pub returns-then-bytes-gt-MAX_BYTES-clause-tells : goal.returns-then-bytes-gt-MAX_BYTES-clause-tells
returns-then-bytes-gt-MAX_BYTES-clause-tells c =
    let shape = c.args.shape.now in
    let section = c.args.section.now in
    let counted : List ℕ → ℕ = λ widths. words_needed shape (record { max = section.max; widths = widths }) + words_of (c.args.sums.items * item_bits shape widths) in
    pass_bytes shape section c.args.sums c.args.bytes c.fixed_words-words.result c.requires (c.fixed_words-words.ensures ∙ ap counted c.as_slice-widths.ensures) (omega (arith, c.if-words-from.false, c.from.ensures)) (omega (arith, c.if-bytes-gt-MAX_BYTES.true))

pub returns-clause-tells : goal.returns-clause-tells
returns-clause-tells c =
    let shape = c.args.shape.now in
    let section = c.args.section.now in
    let counted : List ℕ → ℕ = λ widths. words_needed shape (record { max = section.max; widths = widths }) + words_of (c.args.sums.items * item_bits shape widths) in
    loads_summed shape section c.args.sums c.args.bytes c.fixed_words-words.result c.requires (c.fixed_words-words.ensures ∙ ap counted c.as_slice-widths.ensures) (omega (arith, c.if-words-from.false, c.from.ensures)) (omega (arith, c.if-bytes-gt-MAX_BYTES.false))
