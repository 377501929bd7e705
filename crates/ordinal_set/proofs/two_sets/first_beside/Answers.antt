use Rattle.std.proofs.Common.{◌≡◌, ◌+◌, ◌-◌, ◌*◌, ◌<◌, ◌^◌, get_or, None, subst, sym, ap, ◌∙◌, arith, w64}
use Rattle.std.specs.Int.{trailing_zeros}
use Rattle.std.specs.Int.Bits.{bit_and}
use Rattle.std.proofs.lemmas.Nat.{and_le_l}
use Rattle.ordinal_set.specs.Ordinals.{IsNextMember, TellsNext, lacking}
use Rattle.ordinal_set.specs.Population.{population_of}
use Rattle.ordinal_set.proofs.Beside.{beside, beside_read, length_beside, population_beside}
use Rattle.ordinal_set.proofs.Populations.{next_none, next_in_word, clear_past_word, whole_word}
use Rattle.ordinal_set.proofs.two_sets.first_beside.Goals as goal

pub returns-then-word-ne0 : goal.returns-then-word-ne0
returns-then-word-ne0 c =
    let words = c.args.words.now in
    let others = c.args.others.now in
    let low = c.args.from * 64 in
    let place = c.loop-place.place in
    let word = bit_and (get_or words place 0) (2 ^ 64 - 1 - c.word_at.result) in
    let is : get_or (beside words others) place 0 ≡ word = beside_read words others place ∙ ap (λ o. bit_and (get_or words place 0) (2 ^ 64 - 1 - o)) (sym c.word_at.ensures) in
    let least = and_le_l (get_or words place 0) (2 ^ 64 - 1 - c.word_at.result) in
    let fits : get_or words place 0 < 2 ^ 64 = (c.type_inv.words place).fits in
    let found = next_in_word (beside words others) low place (get_or (beside words others) place 0) (omega (arith, is)) (omega (arith, is)) (whole_word (beside words others) low place (omega arith)) c.loop-place.invariant.clear in
    subst (λ w. IsNextMember low (lacking (population_of words) (population_of others)) (place * 64 + trailing_zeros w64 w)) is
    (subst (λ set. IsNextMember low set (place * 64 + trailing_zeros w64 (get_or (beside words others) place 0))) (population_beside words others (λ k. (c.type_inv.others k).fits)) found)

pub loop-place-preserved : goal.loop-place-preserved
loop-place-preserved c =
    let words = c.args.words.now in
    let others = c.args.others.now in
    let low = c.args.from * 64 in
    let place = c.loop-place.place in
    let word = bit_and (get_or words place 0) (2 ^ 64 - 1 - c.word_at.result) in
    let is : get_or (beside words others) place 0 ≡ word = beside_read words others place ∙ ap (λ o. bit_and (get_or words place 0) (2 ^ 64 - 1 - o)) (sym c.word_at.ensures) in
    record {
      from = omega arith;
      clear = clear_past_word (beside words others) low place (get_or (beside words others) place 0) (omega (arith, is)) (whole_word (beside words others) low place (omega arith)) c.loop-place.invariant.clear;
    }

pub returns : goal.returns
returns c =
    let words = c.args.words.now in
    let others = c.args.others.now in
    subst (λ set. TellsNext (c.args.from * 64) set None) (population_beside words others (λ k. (c.type_inv.others k).fits))
    (next_none (beside words others) (c.args.from * 64) (λ o from within. c.loop-place.invariant.clear o from (omega (arith, length_beside words others))))
