use Rattle.std.proofs.Common.{◌≡◌, ◌+◌, ◌-◌, ◌*◌, ◌/◌, ◌%◌, ◌<◌, ◌^◌, get_or, None, subst, sym, ap, ◌∙◌, arith, w64}
use Rattle.std.specs.Int.{trailing_zeros}
use Rattle.std.specs.Int.Bits.{bit_and}
use Rattle.std.proofs.lemmas.Nat.{and_le_l}
use Rattle.ordinal_set.specs.Ordinals.{IsNextMember, TellsNext, lacking}
use Rattle.ordinal_set.specs.Population.{population_of}
use Rattle.ordinal_set.proofs.Beside.{beside, beside_read, length_beside, population_beside}
use Rattle.ordinal_set.proofs.Populations.{next_none, next_in_word, clear_past_word, masked_word, tells_earlier}
use Rattle.ordinal_set.proofs.two_sets.next_beside.Goals as goal

pub returns-then-place-words : goal.returns-then-place-words
returns-then-place-words c =
    let words = c.args.words.now in
    let others = c.args.others.now in
    subst (λ set. TellsNext c.args.ordinal set None) (population_beside words others (λ k. (c.type_inv.others k).fits))
    (next_none (beside words others) c.args.ordinal (λ m from within. absurd (omega (arith, length_beside words others))))

pub returns-then-word-ne0 : goal.returns-then-word-ne0
returns-then-word-ne0 c =
    let words = c.args.words.now in
    let others = c.args.others.now in
    let o = c.args.ordinal in
    let place = o / 64 in
    let mask = (2 ^ 64 - 1) * 2 ^ (o % 64) % 2 ^ 64 in
    let here = bit_and (get_or words place 0) (2 ^ 64 - 1 - c.word_at.result) in
    let is : get_or (beside words others) place 0 ≡ here = beside_read words others place ∙ ap (λ b. bit_and (get_or words place 0) (2 ^ 64 - 1 - b)) (sym c.word_at.ensures) in
    let masked = ap (λ w. bit_and w mask) is in
    let least = and_le_l (get_or words place 0) (2 ^ 64 - 1 - c.word_at.result) in
    let less = and_le_l here mask in
    let fits : get_or words place 0 < 2 ^ 64 = (c.type_inv.words place).fits in
    let found = next_in_word (beside words others) o place (bit_and (get_or (beside words others) place 0) mask) (omega (arith, masked)) (omega (arith, masked)) (masked_word (beside words others) o) (λ m from within. absurd (omega arith)) in
    subst (λ w. IsNextMember o (lacking (population_of words) (population_of others)) (place * 64 + trailing_zeros w64 w)) masked
    (subst (λ set. IsNextMember o set (place * 64 + trailing_zeros w64 (bit_and (get_or (beside words others) place 0) mask))) (population_beside words others (λ k. (c.type_inv.others k).fits)) found)

pub returns : goal.returns
returns c =
    let words = c.args.words.now in
    let others = c.args.others.now in
    let o = c.args.ordinal in
    let place = o / 64 in
    let mask = (2 ^ 64 - 1) * 2 ^ (o % 64) % 2 ^ 64 in
    let here = bit_and (get_or words place 0) (2 ^ 64 - 1 - c.word_at.result) in
    let is : get_or (beside words others) place 0 ≡ here = beside_read words others place ∙ ap (λ b. bit_and (get_or words place 0) (2 ^ 64 - 1 - b)) (sym c.word_at.ensures) in
    let masked = ap (λ w. bit_and w mask) is in
    let members = population_beside words others (λ k. (c.type_inv.others k).fits) in
    let clear = clear_past_word (beside words others) o place (bit_and (get_or (beside words others) place 0) mask) (omega (arith, masked)) (masked_word (beside words others) o) (λ m from within. absurd (omega arith)) in
    subst (λ set. TellsNext o set c.first_beside.result) members
    (tells_earlier (beside words others) o ((place + 1) * 64) c.first_beside.result (omega arith) clear (subst (λ set. TellsNext ((place + 1) * 64) set c.first_beside.result) (sym members) c.first_beside.ensures))
