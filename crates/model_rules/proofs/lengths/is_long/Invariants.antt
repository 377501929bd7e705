use Rattle.std.proofs.Common.{◌≡◌, ◌≤◌, ◌+◌}
use Rattle.std.specs.Str.{IsUtf8}
use Rattle.std.specs.Str.Iter.{chars_rest}
use Rattle.model_rules.proofs.JavaSizes.{text_size}
use Rattle.model_rules.proofs.lengths.is_long.Given as goal

-- the bytes of the characters so far and those of the rest are those of the text
abbrev pub invariant-loop-character : goal.invariant-loop-character
invariant-loop-character l =
    (goal.iterator-loop-character).can_next l.character-iterator ×
    (goal.iterator-loop-character).is_finite l.character-iterator ×
    IsUtf8 (chars_rest l.character-iterator) × (l.size ≤ 65535) × (l.size + text_size (chars_rest l.character-iterator) ≡ text_size l.text)
