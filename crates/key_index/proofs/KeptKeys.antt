-- A row that stays has its key: what its paths lead through stays too.
use Rattle.std.proofs.Common.{◌≡◌, ℕ, zero, suc, ◌<◌, List, [], ◌∷◌, ◌++◌, Option, Some, None, length, refl, sym, ap, subst, ◌∙◌, arith}
use Rattle.std.specs.Prelude.{All, IsSome, IsSomeAnd, slice_get, option_and_then, flat_map, zip}
use Rattle.std.specs.Option.{option_map}
use Rattle.std.specs.FinMap.{get}
use Rattle.std.proofs.lemmas.Option.{slice_get_within}
use Rattle.schema_model.specs.declared.model.path.Path.{Path}
use Rattle.schema_model.specs.declared.schema.Field.{Field}
use Rattle.schema_model.specs.declared.schema.FieldKind.{FieldKind}
use Rattle.schema_model.specs.declared.schema.Schema.{Schema}
use Rattle.schema_model.specs.declared.schema.Shape.{Shape}
use Rattle.row_model.specs.declared.row.Value.{Value}
use Rattle.row_model.specs.declared.row.Row.{Row}
use Rattle.row_model.specs.Key.{type_behind, target_of, ordinal_in, value_in, unless_null, value_along, with_first, key_of}
use Rattle.schema_model.specs.Parts.{fields_of, shape_fields}
use Rattle.row_model.specs.Row.{references_of_value, references_of_row}
use Rattle.row_model.specs.Table.{RowMap, Table, IsClosed, IsLive, IsLiveByName, IsTableOf, row_at}
use Rattle.key_index.specs.Indexed.{HaveOneRow}

module _ (schemas : List Schema) (table : Table) where
  abbrev AreLive : List (List ℕ × ℕ) → Type 0
  AreLive named = All (λ (n : List ℕ × ℕ). IsLiveByName schemas table n.0 n.1) named

  behind : (xs ys : List (List ℕ × ℕ)) → AreLive (xs ++ ys) → AreLive ys
  behind [] ys all = all
  behind (x ∷ xs) ys all = behind xs ys (λ k d within. all (suc k) d (omega arith))

  at_value : (kind : FieldKind) (value : Value) (u named : ℕ) (rest : List (List ℕ × ℕ)) → AreLive (references_of_value kind value ++ rest) → target_of schemas kind ≡ Some u → ordinal_in (Some value) ≡ Some named → IsLive table u named
  at_value (FieldKind.Reference name) (Value.Ref ordinal) u named rest all target names =
      let first : IsLiveByName schemas table name ordinal = all 0 (name, ordinal) (omega arith) in
      let there : IsLive table u ordinal = subst (λ (i : Option ℕ). IsSomeAnd i (λ t. IsLive table t ordinal)) target first in
      let same : ordinal ≡ named = cc in
      subst (λ (o : ℕ). IsLive table u o) same there
  at_value _ _ u named rest all target names = absurd cc

  at_field : (fields : List Field) (values : List Value) (field u named : ℕ) → AreLive (flat_map (λ part. references_of_value part.0.kind part.1) (zip fields values))
      → option_and_then (λ kind. target_of schemas kind) (option_map (λ f. f.kind) (slice_get fields field)) ≡ Some u → ordinal_in (slice_get values field) ≡ Some named → IsLive table u named
  at_field [] values field u named all target names = absurd cc
  at_field (f ∷ fields) [] field u named all target names = absurd cc
  at_field (f ∷ fields) (v ∷ values) zero u named all target names = at_value f.kind v u named _ all target names
  at_field (f ∷ fields) (v ∷ values) (suc field) u named all target names =
      at_field fields values field u named (behind (references_of_value f.kind v) (flat_map (λ part. references_of_value part.0.kind part.1) (zip fields values)) all) target names

  at_row : (shape : Shape) (row : Row) (field u named : ℕ) → AreLive (references_of_row shape row)
      → option_and_then (λ kind. target_of schemas kind) (option_map (λ f. f.kind) (slice_get (shape_fields shape) field)) ≡ Some u → ordinal_in (value_in (Some row) field) ≡ Some named → IsLive table u named
  at_row (Shape.Object key fields) (Row.Object values) field u named all target names = at_field fields values field u named all target names
  at_row _ _ field u named all target names = absurd cc

  module _ (t o : ℕ) (closed : IsClosed schemas table) where
    at_schema : (schema : Option Schema) (row : Option Row) (field u named : ℕ) → slice_get schemas t ≡ schema → row_at table t o ≡ row
        → option_and_then (λ kind. target_of schemas kind) (option_and_then (λ s. option_map (λ f. f.kind) (slice_get (fields_of s) field)) schema) ≡ Some u
        → ordinal_in (value_in row field) ≡ Some named → IsLive table u named
    at_schema (Some schema) (Some row) field u named is stands target names = at_row schema.shape row field u named (closed t o schema row is stands) target names
    at_schema _ _ field u named is stands target names = absurd cc

    -- the row that a REFERENCE of a row names is live
    pub named_live : (field u named : ℕ) → type_behind schemas t field ≡ Some u → ordinal_in (value_in (row_at table t o) field) ≡ Some named → IsLive table u named
    named_live field u named target names = at_schema (slice_get schemas t) (row_at table t o) field u named refl refl target names

-- a type that has a live row is one of the types
pub live_type : (schemas : List Schema) (table : Table) (u o : ℕ) → IsTableOf schemas table → IsLive table u o → u < length schemas
live_type schemas table u o fits live = found (slice_get table u) refl live
  where
    found : (rows : Option RowMap) → slice_get table u ≡ rows → IsSome (option_and_then (λ (m : RowMap). get m o) rows) → u < length schemas
    found None is live = absurd cc
    found (Some rows) is live = let inside = slice_get_within table u rows is in omega (arith, inside, fits.types)

module _ (schemas : List Schema) (old new : Table) (closed_old : IsClosed schemas old) (closed_new : IsClosed schemas new) (one : HaveOneRow old new) where
  value_kept : (fields : List ℕ) (t o : ℕ) → IsLive old t o → IsLive new t o → value_along schemas new t o fields ≡ value_along schemas old t o fields
  value_kept [] t o was is = refl
  value_kept (field ∷ []) t o was is = ap (λ (row : Option Row). unless_null (value_in row field)) (sym (one t o was is))
  value_kept (field ∷ next ∷ rest) t o was is =
      let same : row_at new t o ≡ row_at old t o = sym (one t o was is) in
      let along = λ (table : Table) (u : ℕ) (n : ℕ). value_along schemas table u n (next ∷ rest) in
      elim (type_behind schemas t field) as (λ b. type_behind schemas t field ≡ b
      → option_and_then (λ u. option_and_then (along new u) (ordinal_in (value_in (row_at new t o) field))) b
      ≡ option_and_then (λ u. option_and_then (along old u) (ordinal_in (value_in (row_at old t o) field))) b) [
        | None ↦ λ e. refl
        | Some u ↦ λ target.
            ap (λ (row : Option Row). option_and_then (along new u) (ordinal_in (value_in row field))) same
            ∙ elim (ordinal_in (value_in (row_at old t o) field)) as (λ b. ordinal_in (value_in (row_at old t o) field) ≡ b → option_and_then (along new u) b ≡ option_and_then (along old u) b) [
              | None ↦ λ e. refl
              | Some named ↦ λ names.
                  value_kept (next ∷ rest) u named (named_live schemas old t o closed_old field u named target names)
                  (named_live schemas new t o closed_new field u named target (ap (λ (row : Option Row). ordinal_in (value_in row field)) same ∙ names))
            ] refl
      ] refl

  pub key_kept : (paths : List Path) (t o : ℕ) → IsLive old t o → IsLive new t o → key_of schemas new t paths o ≡ key_of schemas old t paths o
  key_kept [] t o was is = refl
  key_kept (path ∷ paths) t o was is = λ i. with_first (value_kept path.fields t o was is i) (key_kept paths t o was is i)
