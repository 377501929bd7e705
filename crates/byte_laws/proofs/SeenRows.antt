-- What is seen of rows through another model has their bytes.
use Rattle.std.proofs.Common.{◌≡◌, ◌∙◌, ℕ, zero, suc, List, [], ◌∷◌, Bool, true, false, if◌then◌else◌, Option, None, Some, refl, sym, subst}
use Rattle.std.specs.Prelude.{All, slice_index_or}
use Rattle.std.specs.FinMap.{empty, get, get-empty}
use Rattle.std.specs.Option.{option_map, option_map_or}
use Rattle.std.specs.Ordering.{nat_cmp}
use Rattle.std.specs.Str.{bytes_eq}
use Rattle.std.proofs.lemmas.List.Elements.{All-head, All-map, All-tail}
use Rattle.schema_model.specs.declared.schema.Field.{Field}
use Rattle.schema_model.specs.declared.schema.Schema.{Schema}
use Rattle.schema_model.specs.declared.schema.Shape.{Shape}
use Rattle.schema_model.specs.Parts.{index_of_type, shape_fields}
use Rattle.row_model.specs.declared.row.Row.{Row}
use Rattle.row_model.specs.declared.row.Value.{Value}
use Rattle.row_model.specs.BothStates.{rows_in}
use Rattle.row_model.specs.Table.{Table}
use Rattle.row_model.specs.View.{seen_map, seen_row, value_named, view}
use Rattle.row_model.proofs.RowsFrom.{get_in}
use Rattle.seen_rows.proofs.Views.{get_seen}
use Rattle.byte_laws.specs.Bytes.{IsByteRow, IsByteTable, IsByteValue}

value_bytes : (fields : List Field) (values : List Value) (name : List ℕ) → All IsByteValue values → IsByteValue (value_named fields values name)
unfolding value_named
value_bytes [] values name all = tt
value_bytes (field ∷ fields) [] name all = tt
value_bytes (field ∷ fields) (value ∷ values) name all =
    elim (bytes_eq field.name name) as (λ (here : Bool). IsByteValue (if here then value else value_named fields values name)) [
      | true ↦ All-head IsByteValue value values all
      | false ↦ value_bytes fields values name (All-tail IsByteValue value values all)
    ]

row_bytes : (own mine : Shape) (row : Row) → IsByteRow row → IsByteRow (seen_row own mine row)
row_bytes own mine (Row.Object values) all = All-map IsByteValue (λ (field : Field). value_named (shape_fields own) values field.name) (shape_fields mine) (λ k d below. value_bytes (shape_fields own) values _ all)
row_bytes own mine (Row.List ordinals) all = tt
row_bytes own mine (Row.Set ordinals) all = tt
row_bytes own mine (Row.Map pairs) all = tt

seen_bytes : (own mine : Shape) (found : Option Row) (row : Row) → ((old : Row) → found ≡ Some old → IsByteRow old) → option_map (seen_row own mine) found ≡ Some row → IsByteRow row
seen_bytes own mine None row each is = absurd cc
seen_bytes own mine (Some old) row each is = let one : seen_row own mine old ≡ row = cc in subst IsByteRow one (row_bytes own mine old (each old refl))

module _ (own : List Schema) (table : Table) (bytes : IsByteTable table) where
  type_bytes : (schema : Schema) (found : Option ℕ) (ordinal : ℕ) (row : Row)
      → get (option_map_or (λ type_index. seen_map (slice_index_or own type_index schema).shape schema.shape (rows_in table type_index)) found (empty {R = nat_cmp})) ordinal ≡ Some row → IsByteRow row
  type_bytes schema None ordinal row is = let none = sym (get-empty nat_cmp ordinal) ∙ is in absurd cc
  type_bytes schema (Some t) ordinal row is =
      let own_shape = (slice_index_or own t schema).shape in
      seen_bytes own_shape schema.shape (get (rows_in table t) ordinal) row (λ old there. bytes t ordinal old (sym (get_in table t ordinal) ∙ there)) (sym (get_seen own_shape schema.shape (rows_in table t) ordinal) ∙ is)

  -- a table that is seen through another model
  pub view_bytes : (mine : List Schema) → IsByteTable (view mine own table)
  view_bytes [] t ordinal row is = absurd cc
  view_bytes (schema ∷ mine) zero ordinal row is = type_bytes schema (index_of_type own schema.name) ordinal row is
  view_bytes (schema ∷ mine) (suc t) ordinal row is = view_bytes mine t ordinal row is
