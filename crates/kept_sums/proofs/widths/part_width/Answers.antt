use Rattle.std.proofs.Common.{[], arith}
use Rattle.std.proofs.lemmas.List.{get_or_read}
use Rattle.kept_sums.proofs.Reading.{IsLast, most_read}
use Rattle.kept_sums.proofs.widths.part_width.Goals as goal

pub returns : goal.returns
returns c = λ shape rows are inside.
    let part = c.index-parts-place.result in
    let read = get_or_read c.args.parts.now c.args.place part c.requires c.index-parts-place.is (record { counts = []; bytes = 0 }) in
    let last : IsLast part.counts c.most.result = record { none = c.most.ensures.none; some = c.most.ensures.some } in
    let most = most_read shape rows c.args.parts.now are c.args.place inside part c.most.result read last in
    let wide = c.max.ensures in
    omega (arith, most, wide)
