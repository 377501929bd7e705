use Rattle.std.proofs.Common.{◌≡◌, ◌+◌, ◌-◌, ◌*◌, ◌<◌, length, get_or, arith, ◌∙◌, sym, inl, inr}
use Rattle.std.proofs.lemmas.Bool.{cases_lt}
use Rattle.ordinal_set.proofs.Populations.{AreClear, bound_in_word, bound_is, bound_none, clear_past_word, whole_word}
use Rattle.ordinal_set.proofs.scan.last_set.Goals as goal

pub overflow_add-result : goal.overflow_add-result
overflow_add-result c =
    let words = c.args.words.now in
    let place = c.loop-place.place - 1 in
    let some : 0 < get_or words place 0 = omega arith in
    let clear : AreClear words ((place + 1) * 64) (64 * length words) =
    λ o from within. c.loop-place.invariant.clear o (omega arith) within in
    let found = bound_in_word words place some (c.type_inv.words place).fits clear in
    let small = c.requires.small found.0 found.2 in
    let is = found.1 in
    omega arith

pub returns-then-word-ne0 : goal.returns-then-word-ne0
returns-then-word-ne0 c =
    let words = c.args.words.now in
    let place = c.loop-place.place - 1 in
    let some : 0 < get_or words place 0 = omega arith in
    let clear : AreClear words ((place + 1) * 64) (64 * length words) =
    λ o from within. c.loop-place.invariant.clear o (omega arith) within in
    let found = bound_in_word words place some (c.type_inv.words place).fits clear in
    found.1 ∙ sym (bound_is words found.0 found.2 found.3)

pub loop-place-preserved : goal.loop-place-preserved
loop-place-preserved c =
    let words = c.args.words.now in
    let place = c.loop-place.place - 1 in
    let none : get_or words place 0 ≡ 0 = omega arith in
    let here =
    clear_past_word words (place * 64) place (get_or words place 0) none (whole_word words (place * 64) place (omega arith)) (λ o from within. absurd (omega arith)) in
    record {
      within = omega arith;
      clear = λ o from within.
          elim (cases_lt o ((place + 1) * 64)) [
            | inl before ↦ here o from before
            | inr after ↦ c.loop-place.invariant.clear o (omega arith) within
          ];
    }

pub returns : goal.returns
returns c = sym (bound_none c.args.words.now (λ o from within. c.loop-place.invariant.clear o (omega arith) within))
