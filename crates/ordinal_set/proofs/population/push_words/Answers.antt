use Rattle.std.proofs.Common.{◌≡◌, subst, arith}
use Rattle.ordinal_set.proofs.PopulationBytes.{WordsSoFar, words_more, words_all, first_fit}
use Rattle.ordinal_set.proofs.population.push_words.Goals as goal

pub loop-place-preserved : goal.loop-place-preserved
loop-place-preserved c =
    words_more c.args.out.now.items c.loop-place.out.items c.extend_from_slice-in-loop-place.new.self.items c.args.words.now c.to_be_bytes-in-loop-place.result
    c.args.count c.loop-place.place c.word_at.result c.loop-place.invariant c.word_at.ensures c.to_be_bytes-in-loop-place.ensures c.in_ok-extend_from_slice-2.ensures.items

pub returns-clause-ok : goal.returns-clause-ok
returns-clause-ok c =
    let last : c.loop-place.place ≡ c.args.count = omega arith in
    words_all c.args.out.now.items c.loop-place.out.items c.args.words.now c.args.count
    (subst (WordsSoFar c.args.out.now.items c.loop-place.out.items c.args.words.now c.args.count) last c.loop-place.invariant)

pub returns-in_err-extend_from_slice-clause-range : goal.returns-in_err-extend_from_slice-clause-range
returns-in_err-extend_from_slice-clause-range c = first_fit c.args.words.now c.args.count c.type_inv.words

pub returns-in_err-extend_from_slice-2-clause-range : goal.returns-in_err-extend_from_slice-2-clause-range
returns-in_err-extend_from_slice-2-clause-range c = first_fit c.args.words.now c.args.count c.type_inv.words

pub returns-clause-range : goal.returns-clause-range
returns-clause-range c = first_fit c.args.words.now c.args.count c.type_inv.words
