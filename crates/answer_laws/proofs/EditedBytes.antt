-- The edited list of a state whose rows have bytes, and of records that have: what its records hold in BYTES are bytes.
use Rattle.std.proofs.Common.{◌≡◌, ℕ, zero, suc, List, [], ◌∷◌, ◌++◌, Bool, true, false, Option, None, Some, cond, map, refl, sym, subst}
use Rattle.std.specs.Prelude.{All, nat_eq, slice_get}
use Rattle.std.specs.List.{flat_map, zip}
use Rattle.std.proofs.lemmas.List.Elements.{All-cons, All-head, All-nil, All-tail}
use Rattle.schema_model.specs.declared.schema.Field.{Field}
use Rattle.schema_model.specs.declared.schema.FieldKind.{FieldKind}
use Rattle.schema_model.specs.declared.schema.name.Name.{Name}
use Rattle.schema_model.specs.declared.schema.Schema.{Schema}
use Rattle.schema_model.specs.declared.schema.Shape.{Shape}
use Rattle.schema_model.specs.Parts.{index_of_type}
use Rattle.row_model.specs.declared.row.Row.{Row}
use Rattle.row_model.specs.declared.row.Value.{Value}
use Rattle.row_model.specs.PlainTree.{PlainTree, pairs_of_list, trees_of_list}
use Rattle.row_model.specs.Table.{Table, row_at}
use Rattle.row_model.specs.Unfold.{tree_of_live, tree_of_row, tree_of_type, tree_of_value, unfold_row, unfold_within}
use Rattle.hol_incremental.specs.Edited.{IsEdited, IsEditedType, Keys, Records, of_type, records_of}
use Rattle.byte_laws.specs.Bytes.{AreBytePairs, AreByteTrees, IsByteRow, IsByteTable, IsByteTree, IsByteValue}

-- ---- the tree of a row

module _ (follow : Name → ℕ → PlainTree) (all : (name : Name) (ordinal : ℕ) → IsByteTree (follow name ordinal)) where
  value_bytes : (kind : FieldKind) (value : Value) → IsByteValue value → IsByteTree (tree_of_value follow kind value)
  value_bytes (FieldKind.Reference name) (Value.Ref ordinal) bytes = all name ordinal
  value_bytes (FieldKind.Reference name) _ bytes = bytes
  value_bytes _ _ bytes = bytes

  fields_bytes : (fields : List Field) (values : List Value) → All IsByteValue values → AreByteTrees (trees_of_list (map (λ part. tree_of_value follow part.0.kind part.1) (zip fields values)))
  fields_bytes [] [] bytes = tt
  fields_bytes [] (value ∷ values) bytes = tt
  fields_bytes (field ∷ fields) [] bytes = tt
  fields_bytes (field ∷ fields) (value ∷ values) bytes =
      (value_bytes field.kind value (All-head IsByteValue value values bytes), fields_bytes fields values (All-tail IsByteValue value values bytes))

  elements_bytes : (element : Name) (ordinals : List ℕ) → AreByteTrees (trees_of_list (map (follow element) ordinals))
  elements_bytes element [] = tt
  elements_bytes element (ordinal ∷ ordinals) = (all element ordinal, elements_bytes element ordinals)

  pairs_bytes : (key value : Name) (pairs : List (ℕ × ℕ)) → AreBytePairs (pairs_of_list (map (λ pair. (follow key pair.0, follow value pair.1)) pairs))
  pairs_bytes key value [] = tt
  pairs_bytes key value (pair ∷ pairs) = (all key pair.0, all value pair.1, pairs_bytes key value pairs)

  row_bytes : (shape : Shape) (row : Row) → IsByteRow row → IsByteTree (tree_of_row follow shape row)
  row_bytes (Shape.Object key fields) (Row.Object values) bytes = fields_bytes fields values bytes
  row_bytes (Shape.List element) (Row.List ordinals) bytes = elements_bytes element ordinals
  row_bytes (Shape.Set element) (Row.Set ordinals) bytes = elements_bytes element ordinals
  row_bytes (Shape.Map key value) (Row.Map pairs) bytes = pairs_bytes key value pairs
  row_bytes _ _ bytes = tt

module _ (schemas : List Schema) (table : Table) (bytes : IsByteTable table) where
  module _ (depth : ℕ) (all : (t ordinal : ℕ) → IsByteTree (unfold_within schemas table depth t ordinal)) where
    abbrev follow : Name → ℕ → PlainTree
    follow name named = tree_of_type (index_of_type schemas name) (λ u. unfold_within schemas table depth u named)

    of_type_bytes : (found : Option ℕ) (named : ℕ) → IsByteTree (tree_of_type found (λ u. unfold_within schemas table depth u named))
    of_type_bytes None named = tt
    of_type_bytes (Some u) named = all u named

    deeper : (t ordinal : ℕ) (schema : Option Schema) (row : Option Row) → row_at table t ordinal ≡ row → IsByteTree (tree_of_live follow schema row)
    deeper t ordinal None row is = tt
    deeper t ordinal (Some schema) None is = tt
    deeper t ordinal (Some schema) (Some row) is = row_bytes follow (λ name named. of_type_bytes (index_of_type schemas name) named) schema.shape row (bytes t ordinal row is)

  within_bytes : (depth t ordinal : ℕ) → IsByteTree (unfold_within schemas table depth t ordinal)
  within_bytes zero t ordinal = tt
  within_bytes (suc depth) t ordinal = deeper depth (within_bytes depth) t ordinal (slice_get schemas t) (row_at table t ordinal) refl

  unfolded : (t ordinal : ℕ) → IsByteTree (unfold_row schemas table t ordinal)
  unfolding unfold_row
  unfolded t ordinal = within_bytes 32 t ordinal

-- ---- the edited list

-- What a record holds in BYTES are bytes.
abbrev pub IsByteRecord : ℕ × PlainTree → Type 0
IsByteRecord entry = IsByteTree entry.1

both_parts : (xs ys : Records) → All IsByteRecord xs → All IsByteRecord ys → All IsByteRecord (xs ++ ys)
both_parts [] ys one other = other
both_parts (x ∷ xs) ys one other = All-cons IsByteRecord x (xs ++ ys) (All-head IsByteRecord x xs one) (both_parts xs ys (All-tail IsByteRecord x xs one) other)

picked : (t : ℕ) (puts : Records) → All IsByteRecord puts → All IsByteRecord (of_type t puts)
picked t [] bytes = All-nil IsByteRecord
picked t (put ∷ puts) bytes = by_test (nat_eq put.0 t) (picked t puts (All-tail IsByteRecord put puts bytes))
  where
    by_test : (b : Bool) → All IsByteRecord (of_type t puts) → All IsByteRecord (cond b (put ∷ of_type t puts) (of_type t puts))
    by_test true rest = All-cons IsByteRecord put (of_type t puts) (All-head IsByteRecord put puts bytes) rest
    by_test false rest = rest

module _ (schemas : List Schema) (previous : Table) (bytes : IsByteTable previous) (puts : Records) (removes : Keys) (put_bytes : All IsByteRecord puts) where
  kept_bytes : (t : ℕ) (ordinals : List ℕ) → All IsByteRecord (records_of schemas previous t ordinals)
  kept_bytes t [] = All-nil IsByteRecord
  kept_bytes t (ordinal ∷ ordinals) =
      All-cons IsByteRecord (t, unfold_row schemas previous t ordinal) (records_of schemas previous t ordinals) (unfolded schemas previous bytes t ordinal) (kept_bytes t ordinals)

  type_bytes : (t : ℕ) (part : Records) → IsEditedType schemas previous puts removes t part → All IsByteRecord part
  type_bytes t part is = subst (All IsByteRecord) (sym is.records_are) (both_parts (records_of schemas previous t is.roots) (of_type t puts) (kept_bytes t is.roots) (picked t puts put_bytes))

  all_parts : (parts : List Records) → ((t : ℕ) (part : Records) → slice_get parts t ≡ Some part → All IsByteRecord part) → All IsByteRecord (flat_map (λ part. part) parts)
  all_parts [] each = All-nil IsByteRecord
  all_parts (part ∷ parts) each = both_parts part (flat_map (λ p. p) parts) (each 0 part refl) (all_parts parts (λ t. each (suc t)))

  pub edited_bytes : (records : Records) → IsEdited schemas previous puts removes records → All IsByteRecord records
  edited_bytes records is = subst (All IsByteRecord) (sym is.records_are) (all_parts is.parts (λ t part at. type_bytes t part (is.each t part at)))
