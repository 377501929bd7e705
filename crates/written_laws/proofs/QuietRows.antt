-- What is seen of a closed table is a closed table, where nothing is seen of what has one name and two kinds.
use Rattle.std.proofs.Common.{ℕ, zero, suc, List, [], ◌∷◌, append-nil, None, inl, inr, arith, refl, subst, sym, slice_index_or}
use Rattle.std.specs.Prelude.{All}
use Rattle.std.specs.List.{AllZip}
use Rattle.std.proofs.lemmas.List.{length-map}
use Rattle.std.proofs.lemmas.List.Elements.{All-append, All-head, All-nil, All-tail}
use Rattle.schema_model.specs.declared.schema.Field.{Field}
use Rattle.schema_model.specs.declared.schema.name.Name.{Name}
use Rattle.schema_model.specs.declared.schema.Schema.{Schema}
use Rattle.schema_model.specs.declared.schema.Shape.{Shape}
use Rattle.schema_model.specs.declared.model.rule.Rule.TheVariants.{DuplicateName}
use Rattle.schema_model.specs.Growth.{IsOneKind, KindsAgree, ModelsAgree, ShapesAgree}
use Rattle.schema_model.specs.Model.{IsKept, IsModel}
use Rattle.schema_growth.proofs.Growths.{grown_agrees, grows_itself}
use Rattle.row_model.specs.declared.row.Row.{Row}
use Rattle.row_model.specs.declared.row.Value.{Value}
use Rattle.row_model.specs.Row.{FitsKind, FitsShape, IsRowInRange, references_of_row, references_of_value}
use Rattle.row_model.specs.Table.{IsClosed, IsLiveByName, IsTableOf, Table}
use Rattle.row_model.specs.View.{seen_row, seen_type, seen_values, value_named, view}
use Rattle.seen_rows.proofs.KnownTypes.{types_known}
use Rattle.seen_rows.proofs.ViewClosed.{came_from, null_names_none, row_names, seen_live}
use Rattle.seen_rows.proofs.ViewFits.{row_fits, row_in_range}
use Rattle.written_laws.specs.Quiet.{IsQuietField, IsQuietRow, IsQuietTable}

-- ---- what agrees is quiet

agree_quiet : (own mine : List Field) (values : List Value) → KindsAgree own mine → All (IsQuietField own values) mine
agree_quiet own mine values agree = λ j e less. inl (λ k d below named. sym (agree k d below j e less (sym named)))

pub row_agrees : (own mine : Shape) (row : Row) → FitsShape own row → ShapesAgree own mine → IsQuietRow own mine row
row_agrees (Shape.Object key own) (Shape.Object other mine) (Row.Object values) fits agree = agree_quiet own mine values agree.1
row_agrees (Shape.Object key own) (Shape.Object other mine) (Row.List ordinals) fits agree = absurd fits
row_agrees (Shape.Object key own) (Shape.Object other mine) (Row.Set ordinals) fits agree = absurd fits
row_agrees (Shape.Object key own) (Shape.Object other mine) (Row.Map pairs) fits agree = absurd fits
row_agrees (Shape.Object key own) (Shape.List element) row fits agree = agree
row_agrees (Shape.Object key own) (Shape.Set element) row fits agree = agree
row_agrees (Shape.Object key own) (Shape.Map from to) row fits agree = agree
row_agrees (Shape.List element) mine row fits agree = agree
row_agrees (Shape.Set element) mine row fits agree = agree
row_agrees (Shape.Map from to) mine row fits agree = agree

pub models_quiet : (own mine : List Schema) (table : Table) → IsTableOf own table → ModelsAgree own mine → IsQuietTable mine own table
models_quiet own mine table fits agree t u ordinal schema other row at at_mine named found =
    row_agrees schema.shape other.shape row (fits.rows t ordinal schema row at found) (agree t u schema other at at_mine named)

-- so is a table through its own model
pub own_quiet : (own : List Schema) (table : Table) → IsModel own → IsTableOf own table → IsQuietTable own own table
own_quiet own table model fits = models_quiet own own table fits (grown_agrees own own model (grows_itself own))

-- ---- what is seen of it fits the other model

-- a field of one kind alone agrees
one_agrees : (own : List Field) (m : Field) → All (IsOneKind m) own → KindsAgree own (m ∷ [])
one_agrees own m same k d below zero e less = λ named. sym (same k d below (sym named))
one_agrees own m same k d below (suc j) e less = absurd (omega (arith, less))

-- a value that is quiet fits the kind of its field
field_fits : (own : List Field) (values : List Value) (m : Field) → AllZip (λ field value. FitsKind field.kind value) own values → IsQuietField own values m → FitsKind m.kind (value_named own values m.name)
field_fits own values m fits (inl same) =
    (row_fits (Shape.Object None own) (Shape.Object None (m ∷ [])) (Row.Object values) (refl, one_agrees own m same) fits).0
field_fits own values m fits (inr null) = subst (FitsKind m.kind) (sym null) tt

fields_fit : (own : List Field) (values : List Value) → AllZip (λ field value. FitsKind field.kind value) own values → (mine : List Field) → All (IsQuietField own values) mine
    → AllZip (λ field value. FitsKind field.kind value) mine (seen_values own mine values)
fields_fit own values fits [] quiet = tt
fields_fit own values fits (m ∷ mine) quiet =
    (field_fits own values m fits (All-head (IsQuietField own values) m mine quiet), fields_fit own values fits mine (All-tail (IsQuietField own values) m mine quiet))

quiet_fits : (own mine : Shape) (row : Row) → FitsShape own row → IsQuietRow own mine row → FitsShape mine (seen_row own mine row)
quiet_fits (Shape.Object key own) (Shape.Object other mine) (Row.Object values) fits quiet = fields_fit own values fits mine quiet
quiet_fits (Shape.Object key own) (Shape.Object other mine) (Row.List ordinals) fits quiet = absurd fits
quiet_fits (Shape.Object key own) (Shape.Object other mine) (Row.Set ordinals) fits quiet = absurd fits
quiet_fits (Shape.Object key own) (Shape.Object other mine) (Row.Map pairs) fits quiet = absurd fits
quiet_fits (Shape.Object key own) (Shape.List element) row fits quiet = absurd cc
quiet_fits (Shape.Object key own) (Shape.Set element) row fits quiet = absurd cc
quiet_fits (Shape.Object key own) (Shape.Map from to) row fits quiet = absurd cc
quiet_fits (Shape.List element) mine row fits quiet = row_fits (Shape.List element) mine row quiet fits
quiet_fits (Shape.Set element) mine row fits quiet = row_fits (Shape.Set element) mine row quiet fits
quiet_fits (Shape.Map from to) mine row fits quiet = row_fits (Shape.Map from to) mine row quiet fits

pub quiet_table : (own mine : List Schema) (table : Table) → IsKept own DuplicateName → IsTableOf own table → IsQuietTable mine own table → IsTableOf mine (view mine own table)
quiet_table own mine table once fits quiet = record {
  types = length-map mine (seen_type own table);
  rows = λ t ordinal schema row at found.
      let from = came_from own mine table once t ordinal schema row at found in
      subst (FitsShape schema.shape) (sym from.is)
      (quiet_fits from.other.shape schema.shape from.stored (fits.rows from.place ordinal from.other from.stored from.at from.there) (quiet from.place t ordinal from.other schema from.stored from.at at from.named from.there));
  ranges = λ t ordinal schema row at found.
      let from = came_from own mine table once t ordinal schema row at found in
      subst IsRowInRange (sym from.is) (row_in_range from.other.shape schema.shape from.stored (fits.ranges from.place ordinal from.other from.stored from.at from.there));
}

-- ---- and is closed

module _ (P : Name × ℕ → Type 0) where
  -- the rows that the values of a record name
  abbrev AllNamed : List Field → List Value → Type 0
  AllNamed fields values = All P (references_of_row (Shape.Object None fields) (Row.Object values))

  field_names : (own : List Field) (values : List Value) (m : Field) → AllZip (λ field value. FitsKind field.kind value) own values → AllNamed own values → IsQuietField own values m
      → All P (references_of_value m.kind (value_named own values m.name))
  field_names own values m fits all (inl same) =
      subst (All P) (append-nil (references_of_value m.kind (value_named own values m.name)))
      (row_names P (Shape.Object None own) (Shape.Object None (m ∷ [])) (Row.Object values) (refl, one_agrees own m same) fits all)
  field_names own values m fits all (inr null) = subst (λ value. All P (references_of_value m.kind value)) (sym null) (subst (All P) (sym (null_names_none m.kind)) (All-nil P))

  fields_name : (own : List Field) (values : List Value) → AllZip (λ field value. FitsKind field.kind value) own values → AllNamed own values → (mine : List Field) → All (IsQuietField own values) mine
      → AllNamed mine (seen_values own mine values)
  fields_name own values fits all [] quiet = All-nil P
  fields_name own values fits all (m ∷ mine) quiet =
      All-append P (references_of_value m.kind (value_named own values m.name)) (references_of_row (Shape.Object None mine) (Row.Object (seen_values own mine values)))
      (field_names own values m fits all (All-head (IsQuietField own values) m mine quiet)) (fields_name own values fits all mine (All-tail (IsQuietField own values) m mine quiet))

  quiet_names : (own mine : Shape) (row : Row) → FitsShape own row → IsQuietRow own mine row → All P (references_of_row own row) → All P (references_of_row mine (seen_row own mine row))
  quiet_names (Shape.Object key own) (Shape.Object other mine) (Row.Object values) fits quiet all = fields_name own values fits all mine quiet
  quiet_names (Shape.Object key own) (Shape.Object other mine) (Row.List ordinals) fits quiet all = absurd fits
  quiet_names (Shape.Object key own) (Shape.Object other mine) (Row.Set ordinals) fits quiet all = absurd fits
  quiet_names (Shape.Object key own) (Shape.Object other mine) (Row.Map pairs) fits quiet all = absurd fits
  quiet_names (Shape.Object key own) (Shape.List element) row fits quiet all = absurd cc
  quiet_names (Shape.Object key own) (Shape.Set element) row fits quiet all = absurd cc
  quiet_names (Shape.Object key own) (Shape.Map from to) row fits quiet all = absurd cc
  quiet_names (Shape.List element) mine row fits quiet all = row_names P (Shape.List element) mine row quiet fits all
  quiet_names (Shape.Set element) mine row fits quiet all = row_names P (Shape.Set element) mine row quiet fits all
  quiet_names (Shape.Map from to) mine row fits quiet all = row_names P (Shape.Map from to) mine row quiet fits all

pub quiet_closed : (own mine : List Schema) (table : Table) → IsModel own → IsModel mine → IsTableOf own table → IsClosed own table → IsQuietTable mine own table → IsClosed mine (view mine own table)
quiet_closed own mine table own_model model fits closed quiet t ordinal schema row at found =
    let from = came_from own mine table (own_model DuplicateName) t ordinal schema row at found in
    let names : All (λ (named : Name × ℕ). IsLiveByName own table named.0 named.1) (references_of_row schema.shape row)
    = subst (λ r. All (λ (named : Name × ℕ). IsLiveByName own table named.0 named.1) (references_of_row schema.shape r)) (sym from.is)
    (quiet_names (λ named. IsLiveByName own table named.0 named.1) from.other.shape schema.shape from.stored (fits.rows from.place ordinal from.other from.stored from.at from.there)
    (quiet from.place t ordinal from.other schema from.stored from.at at from.named from.there) (closed from.place ordinal from.other from.stored from.at from.there)) in
    λ k d below. seen_live own mine table (model DuplicateName) (slice_index_or (references_of_row schema.shape row) k d).0 (slice_index_or (references_of_row schema.shape row) k d).1 (names k d below)
    (types_known mine t schema row model at k d below)
