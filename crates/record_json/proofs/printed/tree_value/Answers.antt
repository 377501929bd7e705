use Rattle.std.proofs.Common.{◌≡◌, Some, slice_get, subst}
use Rattle.schema_model.specs.Model.{IsModel}
use Rattle.row_model.specs.Unfold.{unfold_row, unfold_within}
use Rattle.record_json.proofs.PrintingWhole.{answer_nodes, answer_plain, answer_prints, answer_spends, model_shallow}
use Rattle.record_json.proofs.printed.tree_value.Goals as goal

pub row_value-requires-clause-shallow : goal.row_value-requires-clause-shallow
row_value-requires-clause-shallow g c =
    model_shallow (g.R.Rows.schemas c.args.rows.now) c.args.type_index c.schema.result.now (subst IsModel c.model.ensures.model c.schema.ensures.model)
    (subst (λ m. slice_get m c.args.type_index ≡ Some c.schema.result.now) c.model.ensures.model c.schema.ensures.value)

pub returns-clause-prints : goal.returns-clause-prints
unfolding unfold_row
returns-clause-prints g c =
    answer_prints (g.R.Rows.schemas c.args.rows.now) c.args.type_index (unfold_within (g.R.Rows.schemas c.args.rows.now) (g.R.Rows.table c.args.rows.now) 32 c.args.type_index c.args.ordinal) c.args.budget.now c.row_value.new.budget c.row_value.result c.row_value.ensures

pub returns-clause-plain : goal.returns-clause-plain
returns-clause-plain g c =
    answer_plain (g.R.Rows.schemas c.args.rows.now) c.args.type_index (unfold_within (g.R.Rows.schemas c.args.rows.now) (g.R.Rows.table c.args.rows.now) 32 c.args.type_index c.args.ordinal) c.args.budget.now c.row_value.new.budget c.row_value.result c.row_value.ensures

pub returns-clause-budget : goal.returns-clause-budget
unfolding unfold_row
returns-clause-budget g c =
    answer_spends (g.R.Rows.schemas c.args.rows.now) c.args.type_index (unfold_within (g.R.Rows.schemas c.args.rows.now) (g.R.Rows.table c.args.rows.now) 32 c.args.type_index c.args.ordinal) c.args.budget.now c.row_value.new.budget c.row_value.result c.row_value.ensures

pub returns-clause-nodes : goal.returns-clause-nodes
unfolding unfold_row
returns-clause-nodes g c =
    answer_nodes (g.R.Rows.schemas c.args.rows.now) c.args.type_index (unfold_within (g.R.Rows.schemas c.args.rows.now) (g.R.Rows.table c.args.rows.now) 32 c.args.type_index c.args.ordinal) c.args.budget.now c.row_value.new.budget c.row_value.result c.row_value.ensures
