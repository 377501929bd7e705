use Rattle.std.proofs.Common.{◌≡◌, Some, slice_get, subst}
use Rattle.schema_model.specs.Model.{IsModel}
use Rattle.row_model.specs.PlainTree.{node_count}
use Rattle.row_model.specs.Unfold.{unfold_row, unfold_within}
use Rattle.record_json.specs.PrintTree.{PrintsWithin}
use Rattle.record_json.proofs.PrintingWhole.{model_shallow}
use Rattle.record_json.proofs.PuttingWhole.{put_nodes, put_prints, put_spends}
use Rattle.record_json.proofs.TreesPrint.{within_prints}
use Rattle.record_json.proofs.texts.put_tree.Goals as goal

pub put_row-requires-clause-shallow : goal.put_row-requires-clause-shallow
put_row-requires-clause-shallow g c =
    model_shallow (g.R.Rows.schemas c.args.rows.now) c.args.type_index c.schema-schema.result.now (subst IsModel c.model.ensures.model c.schema-schema.ensures.model)
    (subst (λ m. slice_get m c.args.type_index ≡ Some c.schema-schema.result.now) c.model.ensures.model c.schema-schema.ensures.value)

pub put_row-requires-clause-model : goal.put_row-requires-clause-model
put_row-requires-clause-model g c = subst IsModel c.model.ensures.model c.schema-schema.ensures.model

pub returns-clause-prints : goal.returns-clause-prints
unfolding unfold_row
returns-clause-prints g c =
    let S = g.R.Rows.schemas c.args.rows.now in
    let T = g.R.Rows.table c.args.rows.now in
    let tree = unfold_within S T 32 c.args.type_index c.args.ordinal in
    let shallow = model_shallow S c.args.type_index c.schema-schema.result.now (subst IsModel c.model.ensures.model c.schema-schema.ensures.model)
    (subst (λ m. slice_get m c.args.type_index ≡ Some c.schema-schema.result.now) c.model.ensures.model c.schema-schema.ensures.value) in
    put_prints (PrintsWithin S 32 c.args.type_index tree) (node_count tree) c.args.out.now.items c.put_row.new.out.items c.args.budget.now c.put_row.new.budget c.put_row.result
    (within_prints S T c.model.ensures.fits c.requires.closed 32 c.args.type_index c.args.ordinal c.requires.live shallow) c.put_row.ensures

pub returns-clause-budget : goal.returns-clause-budget
unfolding unfold_row
returns-clause-budget g c =
    let S = g.R.Rows.schemas c.args.rows.now in
    let tree = unfold_within S (g.R.Rows.table c.args.rows.now) 32 c.args.type_index c.args.ordinal in
    put_spends (PrintsWithin S 32 c.args.type_index tree) (node_count tree) c.args.out.now.items c.put_row.new.out.items c.args.budget.now c.put_row.new.budget c.put_row.result c.put_row.ensures

pub returns-clause-nodes : goal.returns-clause-nodes
unfolding unfold_row
returns-clause-nodes g c =
    let S = g.R.Rows.schemas c.args.rows.now in
    let tree = unfold_within S (g.R.Rows.table c.args.rows.now) 32 c.args.type_index c.args.ordinal in
    put_nodes (PrintsWithin S 32 c.args.type_index tree) (node_count tree) c.args.out.now.items c.put_row.new.out.items c.args.budget.now c.put_row.new.budget c.put_row.result c.put_row.ensures
