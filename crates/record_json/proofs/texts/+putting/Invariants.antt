-- The parts that were put, for their nodes; each call goes to a type less deep, or from a list of parts to one of them.
use Rattle.std.proofs.Common.{◌≡◌, ◌+◌, ◌*◌, ℕ, List, Some, zip}
use Rattle.schema_model.specs.declared.schema.Field.{Field}
use Rattle.row_model.specs.declared.row.Row.{Row}
use Rattle.row_model.specs.declared.row.Value.{Value}
use Rattle.row_model.specs.Table.{row_at}
use Rattle.row_model.specs.PlainTree.{node_count}
use Rattle.record_json.specs.PrintTree.{PrintsField, PrintsPair}
use Rattle.record_json.specs.Printing.{PrintsNamed, count_pair, tree_of_field, unfold_named, unfold_pair}
use Rattle.record_json.proofs.PuttingTexts.{IsPutItems, IsPutLeads}
use Rattle.record_json.proofs.texts.+putting.Given as goal

abbrev pub decreases-put_row : goal.decreases-put_row
decreases-put_row g l = 5 * l.depth + 4

abbrev pub decreases-put_items : goal.decreases-put_items
decreases-put_items g l = 5 * l.depth + 3

abbrev pub decreases-put_named : goal.decreases-put_named
decreases-put_named g l = 5 * l.depth

abbrev pub decreases-put_record : goal.decreases-put_record
decreases-put_record g l = 5 * l.depth + 2

abbrev pub decreases-put_member : goal.decreases-put_member
decreases-put_member g l = 5 * l.depth + 1

abbrev pub decreases-put_elements : goal.decreases-put_elements
decreases-put_elements g l = 5 * l.depth + 2

abbrev pub decreases-put_pairs : goal.decreases-put_pairs
decreases-put_pairs g l = 5 * l.depth + 2

abbrev pub decreases-put_pair : goal.decreases-put_pair
decreases-put_pair g l = 5 * l.depth + 1

abbrev pub invariant-put_elements-loop-index : goal.invariant-put_elements-loop-index
invariant-put_elements-loop-index g l =
    IsPutItems (λ ordinal part. PrintsNamed (g.R.Rows.schemas l.printer.rows.now) l.depth l.element (unfold_named (g.R.Rows.schemas l.printer.rows.now) (g.R.Rows.table l.printer.rows.now) l.depth l.element ordinal) part)
    (λ ordinal. node_count (unfold_named (g.R.Rows.schemas l.printer.rows.now) (g.R.Rows.table l.printer.rows.now) l.depth l.element ordinal)) l.ordinals l.index l.fn.budget l.budget l.fn.out.items l.out.items

abbrev pub invariant-put_pairs-loop-index : goal.invariant-put_pairs-loop-index
invariant-put_pairs-loop-index g l =
    IsPutItems (λ pair part. PrintsPair (PrintsNamed (g.R.Rows.schemas l.printer.rows.now) l.depth) l.key l.value (unfold_pair (g.R.Rows.schemas l.printer.rows.now) (g.R.Rows.table l.printer.rows.now) l.depth l.key l.value pair) part)
    (λ pair. count_pair (unfold_pair (g.R.Rows.schemas l.printer.rows.now) (g.R.Rows.table l.printer.rows.now) l.depth l.key l.value pair)) l.pairs l.index l.fn.budget l.budget l.fn.out.items l.out.items

abbrev pub invariant-put_record-loop-lead : goal.invariant-put_record-loop-lead
invariant-put_record-loop-lead g l =
    (values : List Value) → row_at (g.R.Rows.table l.printer.rows.now) l.type_index l.ordinal ≡ Some (Row.Object values)
    → IsPutLeads (λ (valued : Field × Value) part. PrintsField (PrintsNamed (g.R.Rows.schemas l.printer.rows.now) l.depth) valued.0.kind (tree_of_field (g.R.Rows.schemas l.printer.rows.now) (g.R.Rows.table l.printer.rows.now) l.depth valued) part)
    (λ valued. node_count (tree_of_field (g.R.Rows.schemas l.printer.rows.now) (g.R.Rows.table l.printer.rows.now) l.depth valued)) (zip l.fields values) l.leads l.lead-index l.fn.budget l.budget l.fn.out.items l.out.items
