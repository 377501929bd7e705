use Rattle.std.proofs.Common.{◌≡◌, max, ap, arith}
use Rattle.bit_array.specs.Digits.{digit_count}
use Rattle.bucket_codec.specs.Widths.{buckets_of_rows}
use Rattle.kept_sums.proofs.Reading.{has_two, key_width, size_width, three_widths}
use Rattle.kept_sums.proofs.widths.set_widths.Goals as goal

pub returns : goal.returns
returns c = λ shape rows has are is.
    let wide = c.max.ensures in
    let digits = c.digits.ensures.count in
    let same = ap (λ n. digit_count n) is in
    let first : c.max.result ≡ max 1 (digit_count (buckets_of_rows rows)) = omega (arith, wide, digits, same) in
    let two = has_two shape has in
    three_widths c.new-widths.result c.push.new.self c.push-2.new.self c.push-3.new.self c.max.result c.part_width.result c.part_width-2.result _ _ _ c.new-widths.ensures c.in_ok-push.ensures.ok c.in_ok-push-2.ensures.ok c.in_ok-push-3.ensures.ok
    first (size_width shape rows c.part_width.result has (c.part_width.ensures shape rows are (omega (arith, two)))) (key_width shape rows c.part_width-2.result has (c.part_width-2.ensures shape rows are two))
