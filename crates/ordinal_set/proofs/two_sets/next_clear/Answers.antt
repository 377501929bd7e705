use Rattle.std.proofs.Common.{◌≡◌, ◌+◌, ◌-◌, ◌^◌, ◌<◌, ◌*◌, ◌/◌, ◌%◌, bit_or, get_or, subst, sym, ap, ◌∙◌, arith, w64}
use Rattle.std.proofs.lemmas.Nat.Bits.{bit_at-trailing_ones}
use Rattle.std.specs.Int.{trailing_ones}
use Rattle.std.proofs.lemmas.Nat.{one_shl, or_lt}
use Rattle.ordinal_set.specs.Ordinals.{IsLeastFree}
use Rattle.ordinal_set.specs.Population.{population_of}
use Rattle.ordinal_set.proofs.LeastFree.{both_at, filled_words, least_from_later, least_in_word, least_past, not_all, taken_more}
use Rattle.ordinal_set.proofs.two_sets.next_clear.Goals as goal

pub returns-then-place-max : goal.returns-then-place-max
returns-then-place-max c = least_past c.args.words.now c.args.others.now c.args.ordinal c.args.ordinal (omega arith) (omega (arith, c.max.ensures)) (λ m from under. absurd (omega arith))

pub overflow_add-result : goal.overflow_add-result
overflow_add-result c =
    let o = c.args.ordinal in
    let both = bit_or c.word_at.result c.word_at-2.result in
    let below = 1 * 2 ^ (o % 64) % 2 ^ 64 - 1 in
    let fits : bit_or both below < 2 ^ 64 = or_lt 64 both below (or_lt 64 c.word_at.result c.word_at-2.result c.word_at.type_inv c.word_at-2.type_inv) (omega arith) in
    let ones = bit_at-trailing_ones w64 (bit_or both below) (omega arith) in
    record { fits = omega (arith, ones.0, c.trailing_ones.ensures) }

pub returns-then-word : goal.returns-then-word
returns-then-word c =
    let words = c.args.words.now in
    let others = c.args.others.now in
    let o = c.args.ordinal in
    let place = o / 64 in
    let both = bit_or c.word_at.result c.word_at-2.result in
    let below = 1 * 2 ^ (o % 64) % 2 ^ 64 - 1 in
    let filled = bit_or (both_at words others place) (2 ^ (o % 64) - 1) in
    let is : bit_or both below ≡ filled =
    ap (λ a. bit_or (bit_or a c.word_at-2.result) below) c.word_at.ensures ∙ ap (λ b. bit_or (bit_or (get_or words place 0) b) below) c.word_at-2.ensures ∙ ap (λ m. bit_or (both_at words others place) (m - 1)) (one_shl (o % 64) 64 (omega arith)) in
    let fits : bit_or both below < 2 ^ 64 = or_lt 64 both below (or_lt 64 c.word_at.result c.word_at-2.result c.word_at.type_inv c.word_at-2.type_inv) (omega arith) in
    let least = least_in_word words others o place filled (omega (arith, is)) (filled_words words others o) (λ m from under. absurd (omega arith)) in
    subst (λ ones. IsLeastFree o (population_of words) (population_of others) (place * 64 + ones)) (sym (c.trailing_ones.ensures ∙ ap (trailing_ones w64) is)) least

pub first_clear-requires-clause-few : goal.first_clear-requires-clause-few
first_clear-requires-clause-few c =
    let words = c.args.words.now in
    let others = c.args.others.now in
    let o = c.args.ordinal in
    let place = o / 64 in
    let below = 1 * 2 ^ (o % 64) % 2 ^ 64 - 1 in
    let filled = bit_or (both_at words others place) (2 ^ (o % 64) - 1) in
    let is : bit_or (bit_or c.word_at.result c.word_at-2.result) below ≡ filled =
    ap (λ a. bit_or (bit_or a c.word_at-2.result) below) c.word_at.ensures ∙ ap (λ b. bit_or (bit_or (get_or words place 0) b) below) c.word_at-2.ensures ∙ ap (λ m. bit_or (both_at words others place) (m - 1)) (one_shl (o % 64) 64 (omega arith)) in
    let taken = taken_more words others o place filled (sym is ∙ c.if-word.false) (filled_words words others o) (λ m from under. absurd (omega arith)) in
    let inside = not_all words others o ((place + 1) * 64) c.requires.words c.requires.others taken (omega arith) (omega arith) in
    omega arith

pub returns : goal.returns
returns c =
    let words = c.args.words.now in
    let others = c.args.others.now in
    let o = c.args.ordinal in
    let place = o / 64 in
    let below = 1 * 2 ^ (o % 64) % 2 ^ 64 - 1 in
    let filled = bit_or (both_at words others place) (2 ^ (o % 64) - 1) in
    let is : bit_or (bit_or c.word_at.result c.word_at-2.result) below ≡ filled =
    ap (λ a. bit_or (bit_or a c.word_at-2.result) below) c.word_at.ensures ∙ ap (λ b. bit_or (bit_or (get_or words place 0) b) below) c.word_at-2.ensures ∙ ap (λ m. bit_or (both_at words others place) (m - 1)) (one_shl (o % 64) 64 (omega arith)) in
    let taken = taken_more words others o place filled (sym is ∙ c.if-word.false) (filled_words words others o) (λ m from under. absurd (omega arith)) in
    least_from_later words others o ((place + 1) * 64) c.first_clear.result (omega arith) taken c.first_clear.ensures
