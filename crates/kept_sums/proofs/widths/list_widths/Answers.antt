use Rattle.std.proofs.Common.{◌≡◌, flat_map, length, max, ap, arith}
use Rattle.bit_array.specs.Digits.{digit_count}
use Rattle.schema_model.specs.declared.schema.Shape.{Shape}
use Rattle.list_codec.specs.Widths.{elements_of_row}
use Rattle.kept_sums.proofs.Reading.{element_width, two_widths}
use Rattle.kept_sums.proofs.widths.list_widths.Goals as goal

pub returns : goal.returns
returns c = λ element rows are is.
    let wide = c.max.ensures in
    let digits = c.digits.ensures.count in
    let same = ap (λ n. digit_count n) is in
    let first : c.max.result ≡ max 1 (digit_count (length (flat_map elements_of_row rows))) = omega (arith, wide, digits, same) in
    two_widths c.new-widths.result c.push.new.self c.push-2.new.self c.max.result c.part_width.result _ _ c.new-widths.ensures c.in_ok-push.ensures.ok c.in_ok-push-2.ensures.ok first
    (element_width element rows c.part_width.result (c.part_width.ensures (Shape.List element) rows are (omega arith)))
