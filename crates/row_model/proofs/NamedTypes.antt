-- What holds of the types that a shape names holds of those that its rows name.
use Rattle.std.proofs.Common.{ℕ, List, [], ◌∷◌, Option, Some, None, flat_map}
use Rattle.std.specs.Prelude.{All, IfSome, zip}
use Rattle.std.specs.List.{cons_option}
use Rattle.std.proofs.lemmas.List.Elements.{All-append, All-cons, All-head, All-map, All-nil, All-tail}
use Rattle.schema_model.specs.Parts.{referenced, referenced_names, shape_names}
use Rattle.schema_model.specs.declared.schema.name.Name.{Name}
use Rattle.schema_model.specs.declared.schema.Field.{Field}
use Rattle.schema_model.specs.declared.schema.FieldKind.{FieldKind}
use Rattle.schema_model.specs.declared.schema.Shape.{Shape}
use Rattle.row_model.specs.declared.row.Row.{Row}
use Rattle.row_model.specs.declared.row.Value.{Value}
use Rattle.row_model.specs.Row.{references_of_row, references_of_value}

module _ (P : Name → Type 0) where
  found_first : (name : Option Name) (names : List Name) → IfSome name P → All P names → All P (cons_option name names)
  found_first None names holds rest = rest
  found_first (Some name) names holds rest = All-cons P name names holds rest

  first_found : (name : Option Name) (names : List Name) → All P (cons_option name names) → IfSome name P × All P names
  first_found None names all = (tt, all)
  first_found (Some name) names all = (All-head P name names all, All-tail P name names all)

  -- A fact holds of the type that each field refers to.
  abbrev pub EachReferred : List Field → Type 0
  EachReferred fields = All (λ field. IfSome (referenced field.kind) P) fields

  pub fields_named : (fields : List Field) → EachReferred fields → All P (referenced_names fields)
  fields_named [] all = All-nil P
  fields_named (field ∷ fields) all =
      found_first (referenced field.kind) (referenced_names fields) (All-head (λ (f : Field). IfSome (referenced f.kind) P) field fields all) (fields_named fields (All-tail (λ (f : Field). IfSome (referenced f.kind) P) field fields all))

  pub named_fields : (fields : List Field) → All P (referenced_names fields) → EachReferred fields
  named_fields [] all = All-nil (λ (f : Field). IfSome (referenced f.kind) P)
  named_fields (field ∷ fields) all =
      let both = first_found (referenced field.kind) (referenced_names fields) all in
      All-cons (λ (f : Field). IfSome (referenced f.kind) P) field fields both.0 (named_fields fields both.1)

  abbrev pub OfType : Name × ℕ → Type 0
  OfType named = P named.0

  value_named : (kind : FieldKind) (value : Value) → IfSome (referenced kind) P → All OfType (references_of_value kind value)
  value_named (FieldKind.Reference name) (Value.Ref ordinal) holds = All-cons OfType (name, ordinal) [] holds (All-nil OfType)
  value_named (FieldKind.Reference name) _ holds = All-nil OfType
  value_named _ value holds = All-nil OfType

  values_named : (fields : List Field) (values : List Value) → EachReferred fields → All OfType (flat_map (λ part. references_of_value part.0.kind part.1) (zip fields values))
  values_named [] values all = All-nil OfType
  values_named (field ∷ fields) [] all = All-nil OfType
  values_named (field ∷ fields) (value ∷ values) all =
      All-append OfType (references_of_value field.kind value) (flat_map (λ part. references_of_value part.0.kind part.1) (zip fields values))
      (value_named field.kind value (All-head (λ (f : Field). IfSome (referenced f.kind) P) field fields all))
      (values_named fields values (All-tail (λ (f : Field). IfSome (referenced f.kind) P) field fields all))

  pairs_named : (key value : Name) (pairs : List (ℕ × ℕ)) → P key → P value → All OfType (flat_map (λ pair. (key, pair.0) ∷ (value, pair.1) ∷ []) pairs)
  pairs_named key value [] of_key of_value = All-nil OfType
  pairs_named key value (pair ∷ pairs) of_key of_value =
      let rest = flat_map (λ (p : ℕ × ℕ). (key, p.0) ∷ (value, p.1) ∷ []) pairs in
      All-cons OfType (key, pair.0) ((value, pair.1) ∷ rest) of_key (All-cons OfType (value, pair.1) rest of_value (pairs_named key value pairs of_key of_value))

  -- what holds of the types that a shape names holds of those that its rows name
  pub row_named : (shape : Shape) (row : Row) → All P (shape_names shape) → All OfType (references_of_row shape row)
  row_named (Shape.Object key fields) (Row.Object values) all = values_named fields values (named_fields fields all)
  row_named (Shape.List element) (Row.List ordinals) all = All-map OfType (λ ordinal. (element, ordinal)) ordinals (λ k d inside. All-head P element [] all)
  row_named (Shape.Set element) (Row.Set ordinals) all = All-map OfType (λ ordinal. (element, ordinal)) ordinals (λ k d inside. All-head P element [] all)
  row_named (Shape.Map key value) (Row.Map pairs) all = pairs_named key value pairs (All-head P key (value ∷ []) all) (All-head P value [] (All-tail P key (value ∷ []) all))
  row_named (Shape.Object key fields) _ all = All-nil OfType
  row_named (Shape.List element) _ all = All-nil OfType
  row_named (Shape.Set element) _ all = All-nil OfType
  row_named (Shape.Map key value) _ all = All-nil OfType
