use Rattle.std.proofs.Common.{◌≡◌, ◌+◌, ◌^◌, ◌<◌, ◌*◌, bit_or, get_or, subst, sym, ap, ◌∙◌, arith, w64}
use Rattle.std.proofs.lemmas.Nat.Bits.{bit_at-trailing_ones}
use Rattle.std.specs.Int.{trailing_ones}
use Rattle.std.proofs.lemmas.Nat.{or_lt}
use Rattle.ordinal_set.specs.Ordinals.{IsLeastFree}
use Rattle.ordinal_set.specs.Population.{population_of}
use Rattle.ordinal_set.proofs.LeastFree.{both_at, least_in_word, least_past, not_all, taken_more, whole_words}
use Rattle.ordinal_set.proofs.two_sets.first_clear.Goals as goal

pub overflow_add-result : goal.overflow_add-result
overflow_add-result c =
    let few = c.requires.words.few in
    let others_few = c.requires.others.few in
    let fits : bit_or c.word_at.result c.word_at-in-loop-place.result < 2 ^ 64 =
    or_lt 64 c.word_at.result c.word_at-in-loop-place.result c.word_at.type_inv c.word_at-in-loop-place.type_inv in
    let zeros = bit_at-trailing_ones w64 (bit_or c.word_at.result c.word_at-in-loop-place.result) (omega arith) in
    record { fits = omega (arith, zeros.0, c.trailing_ones.ensures, c.max-len.ensures) }

pub returns-then-word : goal.returns-then-word
returns-then-word c =
    let words = c.args.words.now in
    let others = c.args.others.now in
    let low = c.args.from * 64 in
    let place = c.loop-place.place in
    let word : bit_or c.word_at.result c.word_at-in-loop-place.result ≡ both_at words others place =
    ap (λ a. bit_or a c.word_at-in-loop-place.result) c.word_at.ensures ∙ ap (λ b. bit_or (get_or words place 0) b) c.word_at-in-loop-place.ensures in
    let fits : bit_or c.word_at.result c.word_at-in-loop-place.result < 2 ^ 64 =
    or_lt 64 c.word_at.result c.word_at-in-loop-place.result c.word_at.type_inv c.word_at-in-loop-place.type_inv in
    let least = least_in_word words others low place (both_at words others place) (omega (arith, word)) (whole_words words others low place (omega arith)) c.loop-place.invariant in
    subst (λ ones. IsLeastFree low (population_of words) (population_of others) (place * 64 + ones)) (sym (c.trailing_ones.ensures ∙ ap (trailing_ones w64) word)) least

pub loop-place-preserved : goal.loop-place-preserved
loop-place-preserved c =
    let words = c.args.words.now in
    let others = c.args.others.now in
    let place = c.loop-place.place in
    let word : bit_or c.word_at.result c.word_at-in-loop-place.result ≡ both_at words others place =
    ap (λ a. bit_or a c.word_at-in-loop-place.result) c.word_at.ensures ∙ ap (λ b. bit_or (get_or words place 0) b) c.word_at-in-loop-place.ensures in
    taken_more words others (c.args.from * 64) place (both_at words others place) (sym word ∙ c.if-word.false) (whole_words words others (c.args.from * 64) place (omega arith)) c.loop-place.invariant

pub overflow_mul-result-2 : goal.overflow_mul-result-2
overflow_mul-result-2 c =
    let few = c.requires.words.few in
    let others_few = c.requires.others.few in
    record {
      fits = not_all c.args.words.now c.args.others.now (c.args.from * 64) (c.max-len.result * 64) c.requires.words c.requires.others
          (λ m from under. c.loop-place.invariant m from (omega arith)) (omega arith) (omega (arith, c.max-len.ensures));
    }

pub returns : goal.returns
returns c =
    least_past c.args.words.now c.args.others.now (c.args.from * 64) (c.max-len.result * 64) (omega (arith, c.max-len.ensures)) (omega (arith, c.max-len.ensures))
    (λ m from under. c.loop-place.invariant m from (omega arith))
