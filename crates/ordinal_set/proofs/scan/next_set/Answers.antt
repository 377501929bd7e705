use Rattle.std.proofs.Common.{◌≡◌, ◌+◌, ◌-◌, ◌*◌, ◌/◌, ◌%◌, ◌^◌, ◌<◌, get_or, bit_and, arith}
use Rattle.std.proofs.lemmas.Nat.{and_le_l}
use Rattle.ordinal_set.proofs.Populations.{next_none, next_in_word, clear_past_word, masked_word, tells_earlier}
use Rattle.ordinal_set.proofs.scan.next_set.Goals as goal

pub returns-then-place-words : goal.returns-then-place-words
returns-then-place-words c = next_none c.args.words.now c.args.ordinal (λ o from within. absurd (omega arith))

pub returns-then-word-ne0 : goal.returns-then-word-ne0
returns-then-word-ne0 c =
    let words = c.args.words.now in
    let o = c.args.ordinal in
    let mask = (2 ^ 64 - 1) * 2 ^ (o % 64) % 2 ^ 64 in
    let word = bit_and (get_or words (o / 64) 0) mask in
    let some : 0 < word = omega arith in
    let least = and_le_l (get_or words (o / 64) 0) mask in
    let fits : get_or words (o / 64) 0 < 2 ^ 64 = (c.type_inv.words (o / 64)).fits in
    next_in_word words o (o / 64) word some (omega arith) (masked_word words o) (λ m from within. absurd (omega arith))

pub returns : goal.returns
returns c =
    let words = c.args.words.now in
    let o = c.args.ordinal in
    let word = bit_and (get_or words (o / 64) 0) ((2 ^ 64 - 1) * 2 ^ (o % 64) % 2 ^ 64) in
    let none : word ≡ 0 = omega arith in
    let clear = clear_past_word words o (o / 64) word none (masked_word words o) (λ m from within. absurd (omega arith)) in
    tells_earlier words o ((o / 64 + 1) * 64) c.first_set.result (omega arith) clear c.first_set.ensures
