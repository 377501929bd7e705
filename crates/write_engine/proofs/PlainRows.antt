-- A record that refers to no others is added by putting its row.
use Rattle.std.proofs.Common.{◌≡◌, ◌∙◌, ℕ, List, [], ◌∷◌, Some, None, Option, refl, sym, ap, subst, arith}
use Rattle.std.specs.Prelude.{IfOk, IsSomeAnd, Result, Ok, Err, option_and_then, ◌^◌}
use Rattle.schema_model.specs.declared.schema.Field.{Field}
use Rattle.schema_model.specs.declared.schema.Schema.{Schema}
use Rattle.row_model.specs.declared.row.Row.{Row}
use Rattle.row_model.specs.declared.row.Value.{Value}
use Rattle.row_model.specs.PlainTree.{PlainTree, PlainTrees, leaf, object, list, set, map as map_tree, list_of_trees, no_trees, tree_then}
use Rattle.row_model.specs.Table.{Table}
use Rattle.record_trees.specs.FitsTree.{FitFields, FitsTree}
use Rattle.record_trees.specs.Rows.{AreStoredOf, IsRowOf}
use Rattle.record_trees.specs.Types.{object_fields, shape_at}
use Rattle.write_engine.specs.Cycle.{Adds, AddsFields, PutsRow, rows_in}
use Rattle.ordinal_map.specs.Assign.{IsPut}
use Rattle.ordinal_map.specs.States.{States}
use Rattle.ordinal_map.specs.declared.fault.PutRowFault.{PutRowFault}
use Rattle.ordinal_map.specs.declared.fault.PutRowFault.TheVariants.{Memory, TooMany}
use Rattle.ordinal_map.proofs.Puts.{put_once}
use Rattle.write_engine.specs.Agreement.{TablesAgree}
use Rattle.write_engine.specs.Production.{IsProducing, current_of, previous_of}
use Rattle.write_engine.specs.RowPuts.{TellsRowPut}
use Rattle.write_engine.proofs.Producing.{added_producing, same_producing}

-- ---- the fields add nothing

fields_added : (schemas : List Schema) (previous before : Table) (fields : List Field) (trees : PlainTrees) (values : List Value) → FitFields schemas fields trees → AreStoredOf (list_of_trees trees) values
    → AddsFields schemas previous fields trees before values before
fields_added schemas previous before fields no_trees [] fits stored = (fits, refl, refl)
fields_added schemas previous before fields no_trees (value ∷ values) fits stored = absurd stored
fields_added schemas previous before fields (tree_then tree trees) [] fits stored = absurd stored
fields_added schemas previous before [] (tree_then tree trees) (value ∷ values) fits stored = absurd fits
fields_added schemas previous before (field ∷ fields) (tree_then (leaf found) trees) (value ∷ values) fits stored =
    (field, fields, value, values, before, refl, refl, (fits.0, stored.0.0, stored.0.1, refl), fields_added schemas previous before fields trees values fits.1 stored.1)
fields_added schemas previous before (field ∷ fields) (tree_then (object parts) trees) (value ∷ values) fits stored = absurd stored.0
fields_added schemas previous before (field ∷ fields) (tree_then (list parts) trees) (value ∷ values) fits stored = absurd stored.0
fields_added schemas previous before (field ∷ fields) (tree_then (set parts) trees) (value ∷ values) fits stored = absurd stored.0
fields_added schemas previous before (field ∷ fields) (tree_then (map_tree parts) trees) (value ∷ values) fits stored = absurd stored.0

fields_once : (schemas : List Schema) (previous before middle : Table) (fields : List Field) (trees : PlainTrees) (values others : List Value) → AreStoredOf (list_of_trees trees) values → AddsFields schemas previous fields trees before others middle
    → (others ≡ values) × (middle ≡ before)
fields_once schemas previous before middle fields no_trees [] others stored adds = (adds.1, adds.2)
fields_once schemas previous before middle fields no_trees (value ∷ values) others stored adds = absurd stored
fields_once schemas previous before middle fields (tree_then tree trees) [] others stored adds = absurd stored
fields_once schemas previous before middle fields (tree_then (leaf found) trees) (value ∷ values) others stored (field, more, one, rest, between, split, is, (fit, range, same, stays), adds) =
    let behind = fields_once schemas previous between middle more trees values rest stored.1 adds in
    (is ∙ (λ i. (same ∙ sym stored.0.1) i ∷ behind.0 i), behind.1 ∙ stays)
fields_once schemas previous before middle fields (tree_then (object parts) trees) (value ∷ values) others stored adds = absurd stored.0
fields_once schemas previous before middle fields (tree_then (list parts) trees) (value ∷ values) others stored adds = absurd stored.0
fields_once schemas previous before middle fields (tree_then (set parts) trees) (value ∷ values) others stored adds = absurd stored.0
fields_once schemas previous before middle fields (tree_then (map_tree parts) trees) (value ∷ values) others stored adds = absurd stored.0

-- ---- the record is its row

asked_fields : (o : Option (List Field)) (P : List Field → Type 0) → IsSomeAnd o P → (fields : List Field) × (o ≡ Some fields) × P fields
asked_fields None P is = absurd is
asked_fields (Some fields) P is = (fields, refl, is)

pub row_added : (schemas : List Schema) (previous before after : Table) (t ordinal : ℕ) (tree : PlainTree) (row : Row) → FitsTree schemas t tree → IsRowOf tree row → PutsRow previous t row before ordinal after
    → Adds schemas previous t tree before ordinal after
row_added schemas previous before after t ordinal (object trees) (Row.Object values) fits is puts =
    let asked = asked_fields (option_and_then object_fields (shape_at schemas t)) (λ fields. FitFields schemas fields trees) fits in
    (asked.0, values, before, asked.1, fields_added schemas previous before asked.0 trees values asked.2 is, puts)
row_added schemas previous before after t ordinal tree row fits is puts = absurd is

pub row_put : (schemas : List Schema) (previous before after : Table) (t ordinal : ℕ) (tree : PlainTree) (row : Row) → IsRowOf tree row → Adds schemas previous t tree before ordinal after → PutsRow previous t row before ordinal after
row_put schemas previous before after t ordinal (object trees) (Row.Object values) is (fields, others, middle, asked, adds, puts) =
    let once = fields_once schemas previous before middle fields trees values others is adds in
    subst (λ (table : Table). PutsRow previous t (Row.Object values) table ordinal after) once.1 (subst (λ vs. PutsRow previous t (Row.Object vs) middle ordinal after) once.0 puts)
row_put schemas previous before after t ordinal tree row is adds = absurd is

-- ---- what putting it tells

pub plain_producing : (schemas : List Schema) (old new : List States) (t : ℕ) (row : Row) (tree : PlainTree) (result : Result ℕ PutRowFault) → IsProducing schemas old → previous_of new ≡ previous_of old → FitsTree schemas t tree → IsRowOf tree row
    → TellsRowPut (previous_of old) t row (current_of old) result (current_of new) → IsProducing schemas new
plain_producing schemas old new t row tree (Ok ordinal) producing before fits is tells =
    added_producing schemas old new t ordinal tree producing before (row_added schemas (previous_of old) (current_of old) (current_of new) t ordinal tree row fits is tells)
plain_producing schemas old new t row tree (Err TooMany) producing before fits is tells = same_producing schemas old new producing before tells.1
plain_producing schemas old new t row tree (Err Memory) producing before fits is tells = same_producing schemas old new producing before tells

pub plain_added : (schemas : List Schema) (previous before after : Table) (t : ℕ) (row : Row) (result : Result ℕ PutRowFault) → TellsRowPut previous t row before result after
    → (tree : PlainTree) → FitsTree schemas t tree → IsRowOf tree row → IfOk result (λ ordinal. Adds schemas previous t tree before ordinal after)
plain_added schemas previous before after t row (Ok ordinal) tells tree fits is = row_added schemas previous before after t ordinal tree row fits is tells
plain_added schemas previous before after t row (Err fault) tells tree fits is = tt

pub plain_too_many : (schemas : List Schema) (previous before after : Table) (t : ℕ) (row : Row) (result : Result ℕ PutRowFault) → TablesAgree previous before → TellsRowPut previous t row before result after
    → (tree : PlainTree) → IsRowOf tree row → result ≡ Err TooMany → (ordinal : ℕ) (last : Table) → ¬ Adds schemas previous t tree before ordinal last
plain_too_many schemas previous before after t row (Ok o) agree tells tree is e ordinal last adds = absurd cc
plain_too_many schemas previous before after t row (Err Memory) agree tells tree is e ordinal last adds = absurd cc
plain_too_many schemas previous before after t row (Err TooMany) agree tells tree is e ordinal last adds =
    let puts = row_put schemas previous before last t ordinal tree row is adds in
    let same = put_once (rows_in previous t) (rows_in before t) row (2 ^ 22) ordinal (agree t) tells.0 puts.put in
    omega (arith, same, puts.low)
