-- A table is quiet for a model exactly where it is so as it is seen through a model that grows its own one.
use Rattle.std.proofs.Common.{◌≡◌, ◌∙◌, ◌⊎◌, ◌<◌, ℕ, suc, true, false, cond, List, [], ◌∷◌, length, Option, Some, None, option_map, inl, inr, arith, refl, subst, sym, ap, slice_get, slice_index_or}
use Rattle.std.specs.Str.{bytes_eq}
use Rattle.std.proofs.lemmas.List.{get_or_append_left, length-append}
use Rattle.std.proofs.lemmas.Option.{get_or_from_slice_get, same_Some, slice_get_within}
use Rattle.std.proofs.lemmas.Slice.Eq.{bytes_eq-Decides}
use Rattle.schema_model.specs.declared.schema.Field.{Field}
use Rattle.schema_model.specs.declared.schema.Schema.{Schema}
use Rattle.schema_model.specs.declared.schema.Shape.{Shape}
use Rattle.schema_model.specs.declared.model.rule.Rule.TheVariants.{DuplicateName}
use Rattle.schema_model.specs.Growth.{Grows, GrowsShape, GrowsType, IsOneKind}
use Rattle.schema_model.specs.Model.{IsModel}
use Rattle.schema_model.specs.Parts.{AreApart, shape_fields}
use Rattle.schema_growth.proofs.Growths.{fields_apart, one_kind_at, one_of}
use Rattle.row_model.specs.declared.row.Row.{Row}
use Rattle.row_model.specs.declared.row.Value.{Value}
use Rattle.row_model.specs.Row.{FitsShape}
use Rattle.row_model.specs.Table.{IsTableOf, Table, row_at}
use Rattle.row_model.specs.View.{seen_row, seen_values, value_named, view}
use Rattle.seen_rows.proofs.ViewClosed.{came_from}
use Rattle.seen_rows.proofs.ViewOnce.{grown_there}
use Rattle.seen_rows.proofs.ViewTwice.{row_twice}
use Rattle.delta_blob.proofs.Indexed.{one_index}
use Rattle.written_laws.specs.Quiet.{IsQuietField, IsQuietRow, IsQuietTable}

-- ---- records

-- some field has the name, or there is null under it
Named : List Field → List ℕ → Type 0
Named own name = (k : ℕ) × (field : Field) × (slice_get own k ≡ Some field) × (field.name ≡ name)

named_behind : (f : Field) (own : List Field) (name : List ℕ) → Named own name → Named (f ∷ own) name
unfolding Named
named_behind f own name (k, field, at, is) = (suc k, field, at, is)

named_or_null : (own : List Field) (values : List Value) (name : List ℕ) → Named own name ⊎ (value_named own values name ≡ Value.Null)
unfolding value_named Named
named_or_null [] values name = inr refl
named_or_null (f ∷ own) [] name = inr refl
named_or_null (f ∷ own) (v ∷ values) name =
    elim (bytes_eq f.name name) as (λ t. bytes_eq f.name name ≡ t → Named (f ∷ own) name ⊎ (cond t v (value_named own values name) ≡ Value.Null)) [
      | true ↦ λ e. inl (0, f, refl, (bytes_eq-Decides f.name name).0 e)
      | false ↦ λ e. elim (named_or_null own values name) [ inl there ↦ inl (named_behind f own name there) | inr null ↦ inr null ]
    ] refl

module _ (key grown_key : Option (List (List ℕ))) (own grown : List Field) (grows : GrowsShape (Shape.Object key own) (Shape.Object grown_key grown)) (values : List Value) (m : Field) where
  -- the value of a name is the same behind
  value_twice : value_named grown (seen_values own grown values) m.name ≡ value_named own values m.name
  value_twice =
      let twice : Row.Object (value_named grown (seen_values own grown values) m.name ∷ []) ≡ Row.Object (value_named own values m.name ∷ [])
      = row_twice (Shape.Object key own) (Shape.Object grown_key grown) (Shape.Object None (m ∷ [])) (Row.Object values) grows in
      cc

  -- the fields stand at their places
  field_there : (k : ℕ) (d : Field) → k < length own → slice_index_or grown k d ≡ slice_index_or own k d
  field_there k d below = ap (λ (fs : List Field). slice_index_or fs k d) grows.1.1 ∙ get_or_append_left own grows.1.0 d k below

  field_within : (k : ℕ) → k < length own → k < length grown
  field_within k below = subst (λ (fs : List Field). k < length fs) (sym grows.1.1) (omega (arith, below, length-append own grows.1.0))

  field_later : AreApart grown → IsQuietField own values m → IsQuietField grown (seen_values own grown values) m
  unfolding Named
  field_later apart (inr null) = inr (value_twice ∙ null)
  field_later apart (inl same) =
      elim (named_or_null own values m.name) [
        | inr null ↦ inr (value_twice ∙ null)
        | inl there ↦
            let (k, field, at, named) = there in
            let below : k < length own = slice_get_within own k field at in
            let is : slice_index_or own k field ≡ field = get_or_from_slice_get own k field field at in
            let kinds : m.kind ≡ field.kind = same k field below (sym named ∙ ap (λ (f : Field). f.name) (sym is)) ∙ ap (λ (f : Field). f.kind) is in
            inl (one_kind_at m grown k field apart (field_within k below) (sym (field_there k field below ∙ is)) (sym named) kinds)
      ]

  field_earlier : IsQuietField grown (seen_values own grown values) m → IsQuietField own values m
  field_earlier (inr null) = inr (sym value_twice ∙ null)
  field_earlier (inl same) = inl (λ k d below. subst (IsOneKind m) (field_there k d below) (same k d (field_within k below)))

-- ---- rows

row_later : (own grown mine : Shape) (row : Row) → GrowsShape own grown → AreApart (shape_fields grown) → FitsShape own row → IsQuietRow own mine row → IsQuietRow grown mine (seen_row own grown row)
row_later (Shape.Object key own) (Shape.Object grown_key grown) (Shape.Object other mine) (Row.Object values) grows apart fits quiet =
    λ k d below. field_later key grown_key own grown grows values (slice_index_or mine k d) apart (quiet k d below)
row_later (Shape.Object key own) (Shape.Object grown_key grown) (Shape.Object other mine) (Row.List ordinals) grows apart fits quiet = absurd fits
row_later (Shape.Object key own) (Shape.Object grown_key grown) (Shape.Object other mine) (Row.Set ordinals) grows apart fits quiet = absurd fits
row_later (Shape.Object key own) (Shape.Object grown_key grown) (Shape.Object other mine) (Row.Map pairs) grows apart fits quiet = absurd fits
row_later (Shape.Object key own) (Shape.Object grown_key grown) (Shape.List element) row grows apart fits quiet = absurd cc
row_later (Shape.Object key own) (Shape.Object grown_key grown) (Shape.Set element) row grows apart fits quiet = absurd cc
row_later (Shape.Object key own) (Shape.Object grown_key grown) (Shape.Map from to) row grows apart fits quiet = absurd cc
row_later (Shape.Object key own) (Shape.List element) mine row grows apart fits quiet = absurd cc
row_later (Shape.Object key own) (Shape.Set element) mine row grows apart fits quiet = absurd cc
row_later (Shape.Object key own) (Shape.Map from to) mine row grows apart fits quiet = absurd cc
row_later (Shape.List element) grown mine row grows apart fits quiet = subst (λ (s : Shape). IsQuietRow s mine (seen_row (Shape.List element) s row)) (sym grows) quiet
row_later (Shape.Set element) grown mine row grows apart fits quiet = subst (λ (s : Shape). IsQuietRow s mine (seen_row (Shape.Set element) s row)) (sym grows) quiet
row_later (Shape.Map from to) grown mine row grows apart fits quiet = subst (λ (s : Shape). IsQuietRow s mine (seen_row (Shape.Map from to) s row)) (sym grows) quiet

row_earlier : (own grown mine : Shape) (row : Row) → GrowsShape own grown → FitsShape own row → IsQuietRow grown mine (seen_row own grown row) → IsQuietRow own mine row
row_earlier (Shape.Object key own) (Shape.Object grown_key grown) (Shape.Object other mine) (Row.Object values) grows fits quiet =
    λ k d below. field_earlier key grown_key own grown grows values (slice_index_or mine k d) (quiet k d below)
row_earlier (Shape.Object key own) (Shape.Object grown_key grown) (Shape.Object other mine) (Row.List ordinals) grows fits quiet = absurd fits
row_earlier (Shape.Object key own) (Shape.Object grown_key grown) (Shape.Object other mine) (Row.Set ordinals) grows fits quiet = absurd fits
row_earlier (Shape.Object key own) (Shape.Object grown_key grown) (Shape.Object other mine) (Row.Map pairs) grows fits quiet = absurd fits
row_earlier (Shape.Object key own) (Shape.Object grown_key grown) (Shape.List element) row grows fits quiet = absurd cc
row_earlier (Shape.Object key own) (Shape.Object grown_key grown) (Shape.Set element) row grows fits quiet = absurd cc
row_earlier (Shape.Object key own) (Shape.Object grown_key grown) (Shape.Map from to) row grows fits quiet = absurd cc
row_earlier (Shape.Object key own) (Shape.List element) mine row grows fits quiet = absurd cc
row_earlier (Shape.Object key own) (Shape.Set element) mine row grows fits quiet = absurd cc
row_earlier (Shape.Object key own) (Shape.Map from to) mine row grows fits quiet = absurd cc
row_earlier (Shape.List element) grown mine row grows fits quiet = subst (λ (s : Shape). IsQuietRow s mine (seen_row (Shape.List element) s row)) grows quiet
row_earlier (Shape.Set element) grown mine row grows fits quiet = subst (λ (s : Shape). IsQuietRow s mine (seen_row (Shape.Set element) s row)) grows quiet
row_earlier (Shape.Map from to) grown mine row grows fits quiet = subst (λ (s : Shape). IsQuietRow s mine (seen_row (Shape.Map from to) s row)) grows quiet

-- ---- tables

module _ (own grown mine : List Schema) (table : Table) (model : IsModel own) (grown_model : IsModel grown) (grows : Grows own grown) (fits : IsTableOf own table) where
  -- the type to which a type grew
  grown_type : (place t : ℕ) (schema other : Schema) → slice_get own place ≡ Some schema → slice_get grown t ≡ Some other → schema.name ≡ other.name → GrowsShape schema.shape other.shape
  grown_type place t schema other at there named =
      let later = one_of (GrowsType schema) (slice_get grown place) (grows place schema at) in
      let here : place ≡ t = one_index grown (grown_model DuplicateName) place t later.0 other later.1 there (later.2.named ∙ named) in
      let same : later.0 ≡ other = same_Some _ _ (sym later.1 ∙ ap (slice_get grown) here ∙ there) in
      subst (λ (s : Schema). GrowsShape schema.shape s.shape) same later.2.shape

  pub quiet_later : IsQuietTable mine own table → IsQuietTable mine grown (view grown own table)
  quiet_later quiet t u ordinal schema other row at at_mine named found =
      let from = came_from own grown table (model DuplicateName) t ordinal schema row at found in
      subst (λ (r : Row). IsQuietRow schema.shape other.shape r) (sym from.is)
      (row_later from.other.shape schema.shape other.shape from.stored (grown_type from.place t from.other schema from.at at from.named) (fields_apart grown t schema grown_model at)
      (fits.rows from.place ordinal from.other from.stored from.at from.there) (quiet from.place u ordinal from.other other from.stored from.at at_mine (from.named ∙ named) from.there))

  pub quiet_earlier : IsQuietTable mine grown (view grown own table) → IsQuietTable mine own table
  quiet_earlier quiet t u ordinal schema other row at at_mine named found =
      let later = one_of (GrowsType schema) (slice_get grown t) (grows t schema at) in
      let seen : row_at (view grown own table) t ordinal ≡ Some (seen_row schema.shape later.0.shape row)
      = grown_there own grown table model grows t ordinal schema later.0 at later.1 ∙ ap (option_map (seen_row schema.shape later.0.shape)) found in
      row_earlier schema.shape later.0.shape other.shape row later.2.shape (fits.rows t ordinal schema row at found)
      (quiet t u ordinal later.0 other (seen_row schema.shape later.0.shape row) later.1 at_mine (later.2.named ∙ named) seen)
