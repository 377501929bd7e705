use Rattle.std.proofs.Common.{◌∙◌, List, ap, length, subst, arith}
use Rattle.schema_model.specs.declared.schema.Schema.{Schema}
use Rattle.write_engine.specs.Cycle.{no_rows}
use Rattle.hol_incremental.specs.EditKeys.{no_counts}
use Rattle.hol_incremental.specs.Sums.{AreSums}
use Rattle.hol_incremental.proofs.AddedUp.{added_none}
use Rattle.hol_incremental.proofs.edits.Edits.build.Goals as goal

pub returns-clause-counted : goal.returns-clause-counted
returns-clause-counted g c =
    let S = g.R.Rows.schemas c.args.rows.now in
    let x = c.in_ok-count_all.ensures.ticked in
    let y = c.in_ok-keys.ensures.counted in
    let z = added_none (λ s r. 1) S (length S) in
    omega (arith, x, y, z)

pub count_all-requires-clause-none : goal.count_all-requires-clause-none
count_all-requires-clause-none g c = c.in_ok-tally.ensures.counts ∙ ap (λ (s : List Schema). no_counts (length s)) c.model.ensures.model

pub count_all-requires-clause-sums : goal.count_all-requires-clause-sums
count_all-requires-clause-sums g c = subst (λ (s : List Schema). AreSums s (no_rows (length s)) c.in_ok-tally.tally.sums.items) c.model.ensures.model c.in_ok-tally.ensures.sums
