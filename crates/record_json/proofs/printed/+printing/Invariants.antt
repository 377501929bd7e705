-- The parts that were printed, for their nodes; each call goes to a type less deep, or from a list of parts to one of them.
use Rattle.std.proofs.Common.{◌≡◌, ◌+◌, ◌*◌, List, map, take, zip, length}
use Rattle.serde_json.specs.Data.{Data}
use Rattle.serde_json.specs.View.{view, members_view}
use Rattle.schema_model.specs.Parts.{field_names}
use Rattle.row_model.specs.PlainTree.{node_count}
use Rattle.json_rows.specs.StoredRow.{members_of_fields}
use Rattle.record_json.specs.PrintTree.{PrintsField, PrintsPair}
use Rattle.record_json.specs.Printing.{PrintsNamed, count_pair, tree_of_field, unfold_named, unfold_pair}
use Rattle.record_json.proofs.PrintingFronts.{IsPrintedFront}
use Rattle.record_json.proofs.printed.+printing.Given as goal

abbrev pub decreases-row_value : goal.decreases-row_value
decreases-row_value g l = 5 * l.depth + 4

abbrev pub decreases-shaped_value : goal.decreases-shaped_value
decreases-shaped_value g l = 5 * l.depth + 3

abbrev pub decreases-named_value : goal.decreases-named_value
decreases-named_value g l = 5 * l.depth

abbrev pub decreases-record_value : goal.decreases-record_value
decreases-record_value g l = 5 * l.depth + 2

abbrev pub decreases-field_value : goal.decreases-field_value
decreases-field_value g l = 5 * l.depth + 1

abbrev pub decreases-elements_value : goal.decreases-elements_value
decreases-elements_value g l = 5 * l.depth + 2

abbrev pub decreases-pairs_value : goal.decreases-pairs_value
decreases-pairs_value g l = 5 * l.depth + 2

abbrev pub decreases-pair_value : goal.decreases-pair_value
decreases-pair_value g l = 5 * l.depth + 1

abbrev pub invariant-elements_value-loop-ordinal : goal.invariant-elements_value-loop-ordinal
invariant-elements_value-loop-ordinal g l =
    IsPrintedFront (λ ordinal part. PrintsNamed (g.R.Rows.schemas l.rows) l.depth l.element (unfold_named (g.R.Rows.schemas l.rows) (g.R.Rows.table l.rows) l.depth l.element ordinal) part)
    (λ ordinal. node_count (unfold_named (g.R.Rows.schemas l.rows) (g.R.Rows.table l.rows) l.depth l.element ordinal)) l.ordinals l.ordinal-index l.initial.budget l.budget (map view l.parts.items)

abbrev pub invariant-pairs_value-loop-pair : goal.invariant-pairs_value-loop-pair
invariant-pairs_value-loop-pair g l =
    IsPrintedFront (λ pair part. PrintsPair (PrintsNamed (g.R.Rows.schemas l.rows) l.depth) l.key l.value (unfold_pair (g.R.Rows.schemas l.rows) (g.R.Rows.table l.rows) l.depth l.key l.value pair) part)
    (λ pair. count_pair (unfold_pair (g.R.Rows.schemas l.rows) (g.R.Rows.table l.rows) l.depth l.key l.value pair)) l.pairs l.pair-index l.initial.budget l.budget (map view l.parts.items)

abbrev pub invariant-record_value-loop-place : goal.invariant-record_value-loop-place
invariant-record_value-loop-place g l =
    (parts : List Data)
    × IsPrintedFront (λ valued part. PrintsField (PrintsNamed (g.R.Rows.schemas l.rows) l.depth) valued.0.kind (tree_of_field (g.R.Rows.schemas l.rows) (g.R.Rows.table l.rows) l.depth valued) part)
    (λ valued. node_count (tree_of_field (g.R.Rows.schemas l.rows) (g.R.Rows.table l.rows) l.depth valued)) (zip l.fields l.values) l.place l.initial.budget l.budget parts
    × (length parts ≡ l.place) × (members_view l.members.entries ≡ members_of_fields (zip (field_names (take l.place l.fields)) parts))
