-- The value of the field of a name, found from the front.
use Rattle.std.proofs.Common.{◌≡◌, ℕ, ◌<◌, List, [], ◌∷◌, ◌-◌, length, drop, take, refl, sym, ap, ap₂, ◌∙◌, arith, slice_index_or}
use Rattle.std.specs.Str.{bytes_eq}
use Rattle.std.proofs.lemmas.List.{length-drop, take_all}
use Rattle.std.proofs.lemmas.Slice.Eq.{bytes_eq-Decides}
use Rattle.schema_model.specs.declared.schema.Field.{Field}
use Rattle.row_model.specs.declared.row.Value.{Value}
use Rattle.row_model.specs.View.{value_named}
use Rattle.seen_rows.proofs.Views.{cond_not, cond_yes}

-- all behind the first
behind : {X : Type 0} (xs : List X) → take (length xs - 1) (drop 1 xs) ≡ drop 1 xs
behind xs = take_all (length xs - 1) (drop 1 xs) (omega (arith, length-drop 1 xs))

module _ (name : List ℕ) where
  pub no_fields : (fields : List Field) (values : List Value) → length fields < 1 → value_named fields values name ≡ Value.Null
  unfolding value_named
  no_fields [] values none = refl
  no_fields (f ∷ fields) values none = absurd (omega (arith, none))

  pub no_values : (fields : List Field) (values : List Value) → length values < 1 → value_named fields values name ≡ Value.Null
  unfolding value_named
  no_values [] values none = refl
  no_values (f ∷ fields) [] none = refl
  no_values (f ∷ fields) (v ∷ values) none = absurd (omega (arith, none))

  pub named_first : (fields : List Field) (values : List Value) (field : Field) (value : Value) → 0 < length fields → 0 < length values
      → field ≡ slice_index_or fields 0 field → value ≡ slice_index_or values 0 value → field.name ≡ name → value_named fields values name ≡ value
  unfolding value_named
  named_first [] values field value some more is_field is_value same = absurd (omega (arith, some))
  named_first (f ∷ fields) [] field value some more is_field is_value same = absurd (omega (arith, more))
  named_first (f ∷ fields) (v ∷ values) field value some more is_field is_value same =
      cond_yes (bytes_eq f.name name) v (value_named fields values name) ((bytes_eq-Decides f.name name).1 (ap (λ (g : Field). g.name) (sym is_field) ∙ same)) ∙ sym is_value

  later : (fields : List Field) (values : List Value) (field : Field) → 0 < length fields → 0 < length values → field ≡ slice_index_or fields 0 field → (field.name ≡ name → ⊥)
      → value_named fields values name ≡ value_named (drop 1 fields) (drop 1 values) name
  unfolding value_named
  later [] values field some more is_field other = absurd (omega (arith, some))
  later (f ∷ fields) [] field some more is_field other = absurd (omega (arith, more))
  later (f ∷ fields) (v ∷ values) field some more is_field other =
      cond_not (bytes_eq f.name name) v (value_named fields values name) (λ e. other (ap (λ (g : Field). g.name) is_field ∙ (bytes_eq-Decides f.name name).0 e))

  pub named_later : (fields : List Field) (values : List Value) (field : Field) → 0 < length fields → 0 < length values → field ≡ slice_index_or fields 0 field → (field.name ≡ name → ⊥)
      → value_named fields values name ≡ value_named (take (length fields - 1) (drop 1 fields)) (take (length values - 1) (drop 1 values)) name
  named_later fields values field some more is_field other =
      later fields values field some more is_field other ∙ ap₂ (λ fs vs. value_named fs vs name) (sym (behind fields)) (sym (behind values))
