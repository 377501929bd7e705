use Rattle.std.proofs.Common.{rules, List, ℕ, ap, map, subst}
use Rattle.type_rows.specs.Differing.{Difference}
use Rattle.type_rows.specs.Outline.{layout_at}
use Rattle.type_state.specs.Differences.{removal, removed_of}
use Rattle.type_state.specs.Counted.{StayFitting}
use Rattle.type_state.proofs.Changes.{held_by_sums}
use Rattle.type_state.proofs.change.totals_by_change.Goals as goal

pub returns-clause-held : goal.returns-clause-held
returns-clause-held c =
    let told : StayFitting c.args.next.now.differences.schema.now.shape c.as_slice-widths.result.now (map removal c.as_slice-removed.result.now) c.args.rows.now.rows = c.stay_fitting.ensures (search rules) in
    let stay : StayFitting c.args.next.now.differences.schema.now.shape c.args.next.now.outline.widths (removed_of c.args.next.now.differences) c.args.rows.now.rows =
    subst (λ (removed : List Difference). StayFitting c.args.next.now.differences.schema.now.shape c.args.next.now.outline.widths removed c.args.rows.now.rows) (ap (map removal) c.as_slice-removed.ensures)
    (subst (λ (widths : List ℕ). StayFitting c.args.next.now.differences.schema.now.shape widths (map removal c.as_slice-removed.result.now) c.args.rows.now.rows) c.as_slice-widths.ensures told) in
    held_by_sums c.args.next.now.differences.schema.now.shape c.args.next.now.own (layout_at c.args.next.now.outline) c.args.rows.now.rows c.args.next.now.differences c.requires.apart stay (search rules)
    c.count_change.new.totals (search rules) (c.holds_sums.ensures (search rules))
