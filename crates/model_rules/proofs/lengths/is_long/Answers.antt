use Rattle.std.proofs.Common.{◌≡◌, ◌∙◌, sym, ap, arith, ◌+◌}
use Rattle.std.proofs.lemmas.Bool.{lt-ltb, le-ltb}
use Rattle.std.specs.Str.Iter.{chars_rest}
use Rattle.std.proofs.lemmas.Str.{IsUtf8-past_char}
use Rattle.model_rules.proofs.JavaSizes.{size_step, size_end, text_size}
use Rattle.model_rules.proofs.lengths.is_long.Goals as goal

pub returns-then-size-gt-MAX_NAME_BYTES : goal.returns-then-size-gt-MAX_NAME_BYTES
returns-then-size-gt-MAX_NAME_BYTES c =
    let rest = chars_rest c.loop-character.character-iterator in
    let steps = c.in-Some.ensures.steps.0 in
    let step : (c.loop-character.size + c.java_size-size.result) + text_size (chars_rest c.next.new.self) ≡ text_size c.args.text.now =
    ap (λ n. (c.loop-character.size + n) + text_size (chars_rest c.next.new.self)) c.java_size-size.ensures.size
    ∙ size_step rest (chars_rest c.next.new.self) c.in-Some.character c.loop-character.size (text_size c.args.text.now) c.loop-character.invariant.2 steps c.loop-character.invariant.4 in
    sym (lt-ltb 65535 (text_size c.args.text.now) (omega arith))

pub loop-character-preserved : goal.loop-character-preserved
loop-character-preserved c =
    let rest = chars_rest c.loop-character.character-iterator in
    let steps = c.in-Some.ensures.steps.0 in
    let step : (c.loop-character.size + c.java_size-size.result) + text_size (chars_rest c.next.new.self) ≡ text_size c.args.text.now =
    ap (λ n. (c.loop-character.size + n) + text_size (chars_rest c.next.new.self)) c.java_size-size.ensures.size
    ∙ size_step rest (chars_rest c.next.new.self) c.in-Some.character c.loop-character.size (text_size c.args.text.now) c.loop-character.invariant.2 steps c.loop-character.invariant.4 in
    (tt, tt, IsUtf8-past_char rest (chars_rest c.next.new.self) c.in-Some.character c.loop-character.invariant.2 steps, c.if-size-gt-MAX_NAME_BYTES.false, step)

pub returns : goal.returns
returns c =
    let none = size_end (chars_rest c.loop-character.character-iterator) c.in-None.ensures.steps.0.0 in
    let whole : c.loop-character.size + text_size (chars_rest c.loop-character.character-iterator) ≡ text_size c.args.text.now = c.loop-character.invariant.4 in
    let small = c.loop-character.invariant.3 in
    sym (le-ltb 65535 (text_size c.args.text.now) (omega arith))
