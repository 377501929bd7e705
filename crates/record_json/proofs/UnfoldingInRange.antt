-- The tree of a row has its values in range where those of the rows are.
use Rattle.std.proofs.Common.{◌≡◌, ℕ, zero, suc, refl, List, [], ◌∷◌, map, zip, slice_get, Option, Some, None}
use Rattle.std.specs.Prelude.{All}
use Rattle.std.proofs.lemmas.List.Elements.{All-head, All-tail}
use Rattle.schema_model.specs.declared.schema.name.Name.{Name}
use Rattle.schema_model.specs.declared.schema.Field.{Field}
use Rattle.schema_model.specs.declared.schema.FieldKind.{FieldKind}
use Rattle.schema_model.specs.declared.schema.Schema.{Schema}
use Rattle.schema_model.specs.declared.schema.Shape.{Shape}
use Rattle.row_model.specs.declared.row.Row.{Row}
use Rattle.row_model.specs.declared.row.Value.{Value}
use Rattle.schema_model.specs.Parts.{index_of_type}
use Rattle.row_model.specs.PlainTree.{PlainTree, pairs_of_list, trees_of_list}
use Rattle.row_model.specs.Table.{EachRow, Table, row_at}
use Rattle.row_model.specs.Unfold.{tree_of_live, tree_of_row, tree_of_type, tree_of_value, unfold_within}
use Rattle.record_json.specs.InRange.{ArePairsInRange, AreTreesInRange, HasValuesInRange, IsLeafInRange, IsTreeInRange}

module _ (follow : Name → ℕ → PlainTree) (each : (name : Name) (ordinal : ℕ) → IsTreeInRange (follow name ordinal)) where
  value_in_range : (kind : FieldKind) (value : Value) → IsLeafInRange value → IsTreeInRange (tree_of_value follow kind value)
  value_in_range (FieldKind.Reference name) (Value.Ref ordinal) range = each name ordinal
  value_in_range kind value range = range

  values_in_range : (fields : List Field) (values : List Value) → All IsLeafInRange values → AreTreesInRange (trees_of_list (map (λ part. tree_of_value follow part.0.kind part.1) (zip fields values)))
  values_in_range [] values range = tt
  values_in_range (field ∷ fields) [] range = tt
  values_in_range (field ∷ fields) (value ∷ values) range =
      (value_in_range field.kind value (All-head IsLeafInRange value values range), values_in_range fields values (All-tail IsLeafInRange value values range))

  elements_in_range : (element : Name) (ordinals : List ℕ) → AreTreesInRange (trees_of_list (map (follow element) ordinals))
  elements_in_range element [] = tt
  elements_in_range element (ordinal ∷ ordinals) = (each element ordinal, elements_in_range element ordinals)

  entries_in_range : (key value : Name) (pairs : List (ℕ × ℕ)) → ArePairsInRange (pairs_of_list (map (λ pair. (follow key pair.0, follow value pair.1)) pairs))
  entries_in_range key value [] = tt
  entries_in_range key value (pair ∷ pairs) = (each key pair.0, each value pair.1, entries_in_range key value pairs)

  row_in_range : (shape : Shape) (row : Row) → HasValuesInRange row → IsTreeInRange (tree_of_row follow shape row)
  row_in_range (Shape.Object key fields) (Row.Object values) range = values_in_range fields values range
  row_in_range (Shape.List element) (Row.List ordinals) range = elements_in_range element ordinals
  row_in_range (Shape.Set element) (Row.Set ordinals) range = elements_in_range element ordinals
  row_in_range (Shape.Map key value) (Row.Map pairs) range = entries_in_range key value pairs
  row_in_range shape row range = tt

  live_in_range : (schema : Option Schema) (row : Option Row) → ((s : Schema) (r : Row) → schema ≡ Some s → row ≡ Some r → HasValuesInRange r) → IsTreeInRange (tree_of_live follow schema row)
  live_in_range (Some schema) (Some row) range = row_in_range schema.shape row (range schema row refl refl)
  live_in_range (Some schema) None range = tt
  live_in_range None row range = tt

type_in_range : (type : Option ℕ) (follow : ℕ → PlainTree) → ((t : ℕ) → IsTreeInRange (follow t)) → IsTreeInRange (tree_of_type type follow)
type_in_range None follow each = tt
type_in_range (Some t) follow each = each t

-- by induction on how deep the type may be
pub within_in_range : (schemas : List Schema) (table : Table) → EachRow schemas table (λ schema row. HasValuesInRange row) → (depth t ordinal : ℕ) → IsTreeInRange (unfold_within schemas table depth t ordinal)
within_in_range schemas table ranges zero t ordinal = tt
within_in_range schemas table ranges (suc depth) t ordinal =
    live_in_range (λ name named. tree_of_type (index_of_type schemas name) (λ u. unfold_within schemas table depth u named))
    (λ name named. type_in_range (index_of_type schemas name) (λ u. unfold_within schemas table depth u named) (λ u. within_in_range schemas table ranges depth u named))
    (slice_get schemas t) (row_at table t ordinal) (λ schema row found at. ranges t ordinal schema row found at)
