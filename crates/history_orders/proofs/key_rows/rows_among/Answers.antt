use Rattle.std.proofs.Common.{eqb}
use Rattle.std.proofs.lemmas.List.Filters.{dedup_is}
use Rattle.history_orders.proofs.Among.{rises, still_there}
use Rattle.history_orders.proofs.key_rows.rows_among.Goals as goal

pub matches_among-requires-clause-whole : goal.matches_among-requires-clause-whole
matches_among-requires-clause-whole g c =
    let sorted = c.sort_unstable.new.self.items in
    let apart = c.dedup.new.self.items in
    λ ordinal live key.
    still_there c.args.among.items sorted apart c.as_slice.result.now c.sort_unstable.ensures.permutation (dedup_is eqb sorted apart c.dedup.ensures.filtered) c.as_slice.ensures.value ordinal
    (c.requires.whole ordinal live key)

pub matches_among-requires-clause-rising : goal.matches_among-requires-clause-rising
matches_among-requires-clause-rising g c =
    let sorted = c.sort_unstable.new.self.items in
    let apart = c.dedup.new.self.items in
    rises sorted apart c.as_slice.result.now c.sort_unstable.ensures.sorted (dedup_is eqb sorted apart c.dedup.ensures.filtered) c.as_slice.ensures.value
