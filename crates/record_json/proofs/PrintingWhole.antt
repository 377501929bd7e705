-- What an answer tells of a live row, clause by clause.
use Rattle.std.proofs.Common.{◌≡◌, ℕ, ◌+◌, ◌<◌, List, Some, Result, Ok, Err, false, refl, inl, inr, arith}
use Rattle.std.specs.Prelude.{IfOk, slice_get}
use Rattle.hol_varint.specs.Yields.{Yields}
use Rattle.serde_json.specs.View.{view}
use Rattle.serde_json.specs.Written.{has_float}
use Rattle.serde_json.specs.declared.value.Value.{Value as Json}
use Rattle.schema_model.specs.declared.model.rule.Rule.TheVariants.{TooDeep}
use Rattle.schema_model.specs.declared.schema.Schema.{Schema}
use Rattle.schema_model.specs.Model.{IsModel}
use Rattle.row_model.specs.PlainTree.{PlainTree, node_count}
use Rattle.record_json.specs.PrintTree.{PrintsTree, PrintsWithin}
use Rattle.record_json.specs.Printing.{IsFreePrint, IsShallow, TellsPrinted}
use Rattle.record_json.specs.declared.print_fault.PrintFault.{PrintFault}
use Rattle.record_json.specs.declared.print_fault.PrintFault.TheVariants.{Nodes, Memory}
use Rattle.record_json.proofs.PlainPrints.{within_plain}

-- no type of a model is more than 32 types deep
pub model_shallow : (schemas : List Schema) (t : ℕ) (schema : Schema) → IsModel schemas → slice_get schemas t ≡ Some schema → IsShallow schemas 32 t
model_shallow schemas t schema model found = λ chain. model TooDeep t (schema, found, chain)

module _ (schemas : List Schema) (t : ℕ) (tree : PlainTree) (before after : ℕ) where
  pub answer_prints : (r : Result Json PrintFault) → TellsPrinted view (PrintsWithin schemas 32 t tree) (node_count tree) before after r → IfOk r (λ value. PrintsTree schemas t tree (view value))
  answer_prints (Ok value) told = told.0
  answer_prints (Err fault) told = tt

  pub answer_plain : (r : Result Json PrintFault) → TellsPrinted view (PrintsWithin schemas 32 t tree) (node_count tree) before after r → IfOk r (λ value. has_float (view value) ≡ false)
  answer_plain (Ok value) told = within_plain schemas 32 t tree (view value) told.0
  answer_plain (Err fault) told = tt

  pub answer_spends : (r : Result Json PrintFault) → TellsPrinted view (PrintsWithin schemas 32 t tree) (node_count tree) before after r → IfOk r (λ value. after + node_count tree ≡ before)
  answer_spends (Ok value) told = told.1
  answer_spends (Err fault) told = tt

  pub answer_nodes : (r : Result Json PrintFault) → TellsPrinted view (PrintsWithin schemas 32 t tree) (node_count tree) before after r → Yields IsFreePrint r (Err Nodes) (before < node_count tree)
  answer_nodes (Ok value) told = (λ e. absurd cc, λ less. absurd (let spent = told.1 in omega (arith, spent, less)))
  answer_nodes (Err Nodes) told = (λ e. told, λ less. inl refl)
  answer_nodes (Err Memory) told = (λ e. absurd (let same : Memory ≡ Nodes = cc in cc), λ less. inr tt)
