use Rattle.std.proofs.Common.{◌≤◌, arith}
use Rattle.packed_half.specs.Half.{words_for}
use Rattle.type_state.specs.Recorded.{kept_words}
use Rattle.type_state.proofs.FixedHalves.{few_copied}
use Rattle.type_state.proofs.turning.lay_copied_next.Goals as goal

pub kept_words-kept-requires : goal.kept_words-kept-requires
kept_words-kept-requires c =
    (few_copied c.args.schema.now.shape c.args.current.now c.args.next.now.half c.args.twin.now.current c.requires.copies.object c.requires.kept c.requires.copies.widths).counted

pub copy_next-requires-clause-within : goal.copy_next-requires-clause-within
copy_next-requires-clause-within c =
    let few = few_copied c.args.schema.now.shape c.args.current.now c.args.next.now.half c.args.twin.now.current c.requires.copies.object c.requires.kept c.requires.copies.widths in
    let within : kept_words c.args.current.now c.args.next.now.half ≤ words_for c.args.schema.now.shape c.args.next.now.half = omega (arith, few.within) in
    omega (arith, within, c.kept_words-kept.ensures, c.words_of_half-words.ensures)
