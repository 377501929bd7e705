use Rattle.std.proofs.Common.{◌≡◌, List, ℕ}
use Rattle.std.proofs.lemmas.Result.{IfOk-weaker}
use Rattle.ordinal_set.specs.Ordinals.{lacking}
use Rattle.hol_incremental.specs.Keeping.{AreLacking}
use Rattle.hol_incremental.proofs.LackingRows.{lacking_all}
use Rattle.hol_incremental.proofs.key_indexes.lacking.Goals as goal

pub returns : goal.returns
returns g c =
    let rows = g.A.Rows.table c.args.rows.now in
    let other = g.B.Rows.table c.args.other.now in
    let set = c.ordinals.result.now in
    let beside = c.ordinals-2.result.now in
    IfOk-weaker c.without.result (λ (list : List ℕ). list ≡ lacking set beside) (AreLacking rows other c.args.type_index)
    (lacking_all rows other c.args.type_index set beside c.ordinals.ensures c.ordinals-2.ensures c.without.ensures.ordinals) c.without.ensures.members
