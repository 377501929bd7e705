use Rattle.std.proofs.Common.{List, length, subst, sym}
use Rattle.row_packing.specs.declared.chosen.Chosen.{Chosen}
use Rattle.row_packing.specs.Chosen.{shape_at, IsChosen}
use Rattle.blob_writing.specs.Plan.{AreByType}
use Rattle.blob_writing.proofs.Planning.{choices_kept}
use Rattle.blob_writing.proofs.plan.Plan.of.Goals as goal

pub gather-requires-clause-chosen : goal.gather-requires-clause-chosen
gather-requires-clause-chosen g c =
    let schemas = g.B.Rows.schemas c.args.new.now in
    let old = g.A.Rows.table c.args.old.now in
    let new = g.B.Rows.table c.args.new.now in
    subst (λ (chosen : List Chosen). AreByType (length schemas) (λ t. IsChosen (shape_at schemas t) old new t) chosen) (sym c.in_ok-chosen.ensures)
    (choices_kept schemas old new c.args.measured.now c.requires.states c.requires.measured)
