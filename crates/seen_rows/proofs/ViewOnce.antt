-- Through a model that grows the own one no two rows become one.
use Rattle.std.proofs.Common.{◌≡◌, ◌<◌, ℕ, List, [], ◌++◌, arith, map, length, take, Option, Some, None, option_map, refl, sym, ap, ◌∙◌, slice_get, slice_index_or}
use Rattle.std.specs.FinMap.{get}
use Rattle.std.specs.Prelude.{option_and_then}
use Rattle.std.proofs.Math.Seq.{take-append_seam}
use Rattle.std.proofs.lemmas.List.{length-map, map-append}
use Rattle.std.proofs.lemmas.Option.{get_or_from_slice_get, same_Some, slice_get-get_or, slice_get_within}
use Rattle.schema_model.specs.declared.schema.Field.{Field}
use Rattle.schema_model.specs.declared.schema.Schema.{Schema}
use Rattle.schema_model.specs.declared.schema.Shape.{Shape}
use Rattle.schema_model.specs.declared.model.rule.Rule.TheVariants.{DuplicateName}
use Rattle.schema_model.specs.Growth.{AreInFront, Grows, GrowsShape, GrowsType}
use Rattle.schema_model.specs.Model.{IsModel}
use Rattle.schema_model.specs.Parts.{AreApart, index_of_type, shape_fields}
use Rattle.schema_growth.proofs.Growths.{fields_apart, name_there, one_of}
use Rattle.schema_model.proofs.ModelFacts.{index_at}
use Rattle.row_model.specs.declared.row.Row.{Row}
use Rattle.row_model.specs.declared.row.Value.{Value}
use Rattle.row_model.specs.Row.{FitsShape}
use Rattle.row_model.specs.Table.{RowMap, Table, IsTableOf, row_at}
use Rattle.row_model.specs.View.{seen_row, seen_values, value_named, view}
use Rattle.seen_rows.proofs.ViewClosed.{row_seen}
use Rattle.seen_rows.proofs.ViewTwice.{fields_in_front}
use Rattle.seen_rows.proofs.Views.{as_many_fields, seen_own}

-- the own values stand in front of the others
own_front : (own grown : List Field) (values : List Value) → AreInFront own grown → length own ≡ length values → AreApart own → take (length own) (seen_values own grown values) ≡ values
own_front own grown values (more, is) many apart =
    let named : Field → Value = λ field. value_named own values field.name in
    ap (λ fs. take (length own) (map named fs)) is ∙ ap (take (length own)) (map-append named own more)
    ∙ ap (λ n. take n (map named own ++ map named more)) (sym (length-map own named)) ∙ take-append_seam (map named own) (map named more) ∙ seen_own own values many apart

values_once : (own grown : List Field) (a b : List Value) → AreInFront own grown → length own ≡ length a → length own ≡ length b → AreApart own → seen_values own grown a ≡ seen_values own grown b → a ≡ b
values_once own grown a b front many as_many apart same = sym (own_front own grown a front many apart) ∙ ap (take (length own)) same ∙ own_front own grown b front as_many apart

record_once : (own mine : Shape) (a b : List Value) → GrowsShape own mine → AreApart (shape_fields own) → FitsShape own (Row.Object a) → FitsShape own (Row.Object b)
    → Row.Object (seen_values (shape_fields own) (shape_fields mine) a) ≡ Row.Object (seen_values (shape_fields own) (shape_fields mine) b) → Row.Object a ≡ Row.Object b
record_once own mine a b grows apart fits fits_too same =
    ap Row.Object (values_once (shape_fields own) (shape_fields mine) a b (fields_in_front own mine grows) (as_many_fields own a fits) (as_many_fields own b fits_too) apart cc)

-- rows that are one where they are seen are one
pub row_once : (own mine : Shape) (a b : Row) → GrowsShape own mine → AreApart (shape_fields own) → FitsShape own a → FitsShape own b → seen_row own mine a ≡ seen_row own mine b → a ≡ b
row_once own mine (Row.Object a) (Row.Object b) grows apart fits fits_too same = record_once own mine a b grows apart fits fits_too same
row_once own mine (Row.Object a) (Row.List b) grows apart fits fits_too same = absurd cc
row_once own mine (Row.Object a) (Row.Set b) grows apart fits fits_too same = absurd cc
row_once own mine (Row.Object a) (Row.Map b) grows apart fits fits_too same = absurd cc
row_once own mine (Row.List a) (Row.Object b) grows apart fits fits_too same = absurd cc
row_once own mine (Row.List a) (Row.List b) grows apart fits fits_too same = same
row_once own mine (Row.List a) (Row.Set b) grows apart fits fits_too same = same
row_once own mine (Row.List a) (Row.Map b) grows apart fits fits_too same = same
row_once own mine (Row.Set a) (Row.Object b) grows apart fits fits_too same = absurd cc
row_once own mine (Row.Set a) (Row.List b) grows apart fits fits_too same = same
row_once own mine (Row.Set a) (Row.Set b) grows apart fits fits_too same = same
row_once own mine (Row.Set a) (Row.Map b) grows apart fits fits_too same = same
row_once own mine (Row.Map a) (Row.Object b) grows apart fits fits_too same = absurd cc
row_once own mine (Row.Map a) (Row.List b) grows apart fits fits_too same = same
row_once own mine (Row.Map a) (Row.Set b) grows apart fits fits_too same = same
row_once own mine (Row.Map a) (Row.Map b) grows apart fits fits_too same = same

mapped_once : (f : Row → Row) (o p : Option Row) (row : Row) → option_map f o ≡ Some row → option_map f p ≡ Some row → ((a b : Row) → o ≡ Some a → p ≡ Some b → f a ≡ f b → a ≡ b) → o ≡ p
mapped_once f None p row is is_too once = absurd cc
mapped_once f (Some a) None row is is_too once = absurd cc
mapped_once f (Some a) (Some b) row is is_too once = ap Some (once a b refl refl (same_Some _ _ (is ∙ sym is_too)))

module _ (own grown : List Schema) (table : Table) (model : IsModel own) (grows : Grows own grown) where
  -- a type stands at its own index, and has its rows
  pub grown_there : (t ordinal : ℕ) (schema other : Schema) → slice_get own t ≡ Some schema → slice_get grown t ≡ Some other
      → row_at (view grown own table) t ordinal ≡ option_map (seen_row schema.shape other.shape) (row_at table t ordinal)
  grown_there t ordinal schema other at there =
      let later = one_of (GrowsType schema) (slice_get grown t) (grows t schema at) in
      let is : later.0 ≡ other = same_Some _ _ (sym later.1 ∙ there) in
      let named : other.name ≡ schema.name = ap (λ (s : Schema). s.name) (sym is) ∙ later.2.named in
      let index : index_of_type own other.name ≡ Some t = ap (index_of_type own) named ∙ (index_at own schema.name (model DuplicateName) t).1 (name_there own t schema at) in
      row_seen own table grown t ordinal other there
      ∙ ap (option_and_then (λ u. option_map (seen_row (slice_index_or own u other).shape other.shape) (row_at table u ordinal))) index
      ∙ ap (λ (s : Schema). option_map (seen_row s.shape other.shape) (row_at table t ordinal)) (get_or_from_slice_get own t schema other at)

  none_there : (t ordinal another : ℕ) → IsTableOf own table → slice_get own t ≡ None → (rows : Option RowMap) → slice_get table t ≡ rows
      → option_and_then (λ (m : RowMap). get m ordinal) rows ≡ option_and_then (λ (m : RowMap). get m another) rows
  none_there t ordinal another fits none None is = refl
  none_there t ordinal another fits none (Some rows) is =
      let inside : t < length own = omega (arith, slice_get_within table t rows is, fits.types) in
      let d : Schema = record { name = []; shape = Shape.Set [] } in
      let bad : None ≡ Some (slice_index_or own t d) = sym none ∙ slice_get-get_or own t d inside in absurd cc

  of_here : (t ordinal another : ℕ) (row : Row) → IsTableOf own table → (schema : Option Schema) → slice_get own t ≡ schema → row_at (view grown own table) t ordinal ≡ Some row
      → row_at (view grown own table) t another ≡ Some row → row_at table t ordinal ≡ row_at table t another
  of_here t ordinal another row fits None at is is_too = none_there t ordinal another fits at (slice_get table t) refl
  of_here t ordinal another row fits (Some schema) at is is_too =
      let later = one_of (GrowsType schema) (slice_get grown t) (grows t schema at) in
      mapped_once (seen_row schema.shape later.0.shape) (row_at table t ordinal) (row_at table t another) row
      (sym (grown_there t ordinal schema later.0 at later.1) ∙ is) (sym (grown_there t another schema later.0 at later.1) ∙ is_too)
      (λ a b is_a is_b same. row_once schema.shape later.0.shape a b later.2.shape (fields_apart own t schema model at) (fits.rows t ordinal schema a at is_a) (fits.rows t another schema b at is_b) same)

  -- rows that are one where they are seen are one
  pub view_once : IsTableOf own table → (t ordinal another : ℕ) (row : Row) → row_at (view grown own table) t ordinal ≡ Some row → row_at (view grown own table) t another ≡ Some row
      → row_at table t ordinal ≡ row_at table t another
  view_once fits t ordinal another row is is_too = of_here t ordinal another row fits (slice_get own t) refl is is_too
