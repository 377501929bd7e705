use Rattle.std.proofs.Common.{◌≡◌, ◌*◌, ◌<◌, get_or, arith}
use Rattle.ordinal_set.proofs.Populations.{next_none, next_in_word, clear_past_word, whole_word}
use Rattle.ordinal_set.proofs.scan.first_set.Goals as goal

pub returns-then-word-ne0 : goal.returns-then-word-ne0
returns-then-word-ne0 c =
    let words = c.args.words.now in
    let place = c.loop-place.place in
    let word = get_or words place 0 in
    let some : 0 < word = omega arith in
    next_in_word words (c.args.from * 64) place word some (c.type_inv.words place).fits (whole_word words (c.args.from * 64) place (omega arith)) c.loop-place.invariant.clear

pub loop-place-preserved : goal.loop-place-preserved
loop-place-preserved c =
    let words = c.args.words.now in
    let place = c.loop-place.place in
    let none : get_or words place 0 ≡ 0 = omega arith in
    record {
      from = omega arith;
      clear = clear_past_word words (c.args.from * 64) place (get_or words place 0) none (whole_word words (c.args.from * 64) place (omega arith)) c.loop-place.invariant.clear;
    }

pub returns : goal.returns
returns c = next_none c.args.words.now (c.args.from * 64) (λ o from within. c.loop-place.invariant.clear o from (omega arith))
