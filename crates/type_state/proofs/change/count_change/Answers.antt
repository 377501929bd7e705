use Rattle.std.proofs.Common.{◌∙◌, map, sym, subst, ap}
use Rattle.std.specs.List.Sorted.{IsStrictlySortedBy}
use Rattle.std.specs.Map.{keys_of}
use Rattle.std.specs.Ordering.{nat_cmp}
use Rattle.type_state.specs.Differences.{removal}
use Rattle.type_state.proofs.Changes.{both_counted, come_fitting}
use Rattle.type_state.proofs.change.count_change.Goals as goal

pub take_rows-requires-clause-rising : goal.take_rows-requires-clause-rising
take_rows-requires-clause-rising c = subst (λ os. IsStrictlySortedBy nat_cmp (keys_of (map removal os))) (sym c.as_slice-removed.ensures) c.requires.apart.removed

pub returns-clause-totals : goal.returns-clause-totals
returns-clause-totals c = λ t.
    both_counted c.args.rows.now.rows c.args.next.now.differences (map removal c.as_slice-removed.result.now) c.args.totals.now c.take_rows.new.totals c.add_rows.new.totals c.requires.apart (ap (map removal) c.as_slice-removed.ensures)
    c.take_rows.ensures.counted c.requires.totals (c.add_rows.ensures.counted t c.args.rows.now.rows c.requires.free)

pub returns-clause-fits : goal.returns-clause-fits
returns-clause-fits c = λ t. come_fitting c.args.next.now.differences.schema.now.shape c.args.next.now.outline c.args.next.now.differences c.requires.layout (c.add_rows.ensures.fits t)

pub returns-clause-long : goal.returns-clause-long
returns-clause-long c = λ t. c.add_rows.ensures.long t ∙ c.take_rows.ensures.long ∙ c.requires.long
