-- Which rows that stay fit other widths: those of OBJECT types by the numbers of their fields, where these stand packed.
use Rattle.std.proofs.Common.{◌≡◌, ℕ, ◌+◌, ◌<◌, ◌≤◌, inl, inr, zero, suc, List, [], ◌∷◌, length, map, get_or, Option, None, Some, refl, sym, ap, subst, ◌∙◌, arith}
use Rattle.std.specs.Prelude.{IsSome, is_some, slice_get, slice_index}
use Rattle.std.specs.Ordering.{nat_cmp}
use Rattle.std.specs.FinMap.{entries, find, get, get-entries, values}
use Rattle.std.proofs.lemmas.Bool.{cases_eq, cases_lt}
use Rattle.std.proofs.lemmas.List.{length-map}
use Rattle.schema_model.specs.declared.schema.Field.{Field}
use Rattle.schema_model.specs.declared.schema.FieldKind.{FieldKind}
use Rattle.schema_model.specs.declared.schema.Shape.{Shape}
use Rattle.row_model.specs.declared.row.Row.{Row}
use Rattle.row_model.specs.declared.row.Value.{Value}
use Rattle.row_model.specs.Table.{RowMap}
use Rattle.object_codec.specs.ObjectPlace.{IsObject}
use Rattle.type_rows.specs.Differing.{Difference}
use Rattle.type_rows.specs.Holds.{FitsWidth, HoldsRows}
use Rattle.column_rows.specs.OneType.{IsRowsBound}
use Rattle.type_state.specs.Counted.{FitsSomewhere, IsNoNarrower, StayFitting}
use Rattle.type_state.specs.Staying.{FieldStays, FitsBesideNull, FitsUnder}
use Rattle.type_state.specs.Differences.{removal}
use Rattle.type_state.proofs.Comings.{marked}
use Rattle.type_state.proofs.Lookups.{found, skipped}
use Rattle.type_state.proofs.Widening.{below_more_ones, fits_wider, held_found}

-- ---- the rows up to an ordinal that no difference is under

-- Each of them fits.
abbrev pub StayUpTo : RowMap → ℕ → ℕ → List Difference → ℕ → Type 0
StayUpTo rows field width differences from = (ordinal : ℕ) → ordinal < from → find nat_cmp ordinal differences ≡ None → FitsUnder rows field width ordinal

-- With one more ordinal in a run of them.
pub fit_more : (rows : RowMap) (field width from to : ℕ) → ((o : ℕ) → from ≤ o → o < to → FitsUnder rows field width o) → FitsUnder rows field width to → (o : ℕ) → from ≤ o → o < to + 1 → FitsUnder rows field width o
fit_more rows field width from to fit here o above below = elim (cases_lt o to) [
  | inl lt ↦ fit o above lt
  | inr le ↦ subst (FitsUnder rows field width) (omega arith) here
]

-- A difference is found under its ordinal.
under_own : {X : Type 0} (es : List (ℕ × X)) (k : ℕ) (d : ℕ × X) → k < length es → IsSome (find nat_cmp (get_or es k d).0 es)
under_own [] k d inside = absurd (omega arith)
under_own (first ∷ es) zero d inside = ap is_some (found first.0 first es refl)
under_own (first ∷ es) (suc k) d inside = elim (cases_eq (get_or es k d).0 first.0) [
  | inl same ↦ ap is_some (found (get_or es k d).0 first es same)
  | inr other ↦ subst IsSome (sym (skipped (get_or es k d).0 first es other)) (under_own es k d (omega arith))
]

some_not_none : {X : Type 0} (o : Option X) → IsSome o → o ≡ None → ⊥
some_not_none None some none = absurd cc
some_not_none (Some x) some none = absurd cc

-- Behind the next difference, where all in front of it fit.
pub stay_more : (rows : RowMap) (field width : ℕ) (ds : List Difference) (from next k : ℕ) (d : Difference) → StayUpTo rows field width ds from → ((o : ℕ) → from ≤ o → o < d.0 → FitsUnder rows field width o) → d ≡ get_or ds k d → k < length ds → next ≤ d.0 + 1
    → StayUpTo rows field width ds next
stay_more rows field width ds from next k d before run is inside low o below none = elim (cases_lt o from) [
  | inl lt ↦ before o lt none
  | inr le ↦ elim (cases_lt o d.0) [
    | inl lt ↦ run o le lt
    | inr ge ↦ (let same : d.0 ≡ o = omega (arith, ge, below, low) in
        absurd (some_not_none (find nat_cmp o ds) (subst (λ q. IsSome (find nat_cmp q ds)) (sym (ap (λ (e : Difference). e.0) is) ∙ same) (under_own ds k d inside)) none))
  ]
]

-- The same of ordinals that are removed.
pub stay_marked : (rows : RowMap) (field width : ℕ) (os : List ℕ) (from next k o : ℕ) → StayUpTo rows field width (map removal os) from → ((p : ℕ) → from ≤ p → p < o → FitsUnder rows field width p) → o ≡ get_or os k 0 → k < length os
    → next ≤ o + 1 → StayUpTo rows field width (map removal os) next
stay_marked rows field width os from next k o before run is inside =
    stay_more rows field width (map removal os) from next k (removal o) before run (marked os k o is inside) (omega (arith, inside, length-map os removal))

-- All of them, where those from the last difference on fit.
pub stay_all : (rows : RowMap) (field width : ℕ) (ds : List Difference) (from bound : ℕ) → IsRowsBound rows bound → StayUpTo rows field width ds from → ((o : ℕ) → from ≤ o → o < bound → FitsUnder rows field width o)
    → (o : ℕ) → find nat_cmp o ds ≡ None → FitsUnder rows field width o
stay_all rows field width ds from bound is before run o none row value at has = elim (cases_lt o from) [
  | inl lt ↦ before o lt none row value at has
  | inr le ↦ run o le (is.above o (ap is_some at)) row value at has
]

-- ---- fields

-- The kinds whose elements are numbers beside null.
abbrev pub IsNumbers : FieldKind → Type 0
IsNumbers (FieldKind.Reference name) = Unit {0}
IsNumbers FieldKind.Int = Unit {0}
IsNumbers FieldKind.Long = Unit {0}
IsNumbers _ = ⊥

pub numbers_kind : (kind : FieldKind) → (kind ≡ FieldKind.Boolean → ⊥) → (kind ≡ FieldKind.Text → ⊥) → (kind ≡ FieldKind.Bytes → ⊥) → IsNumbers kind
numbers_kind (FieldKind.Reference name) b t o = tt
numbers_kind FieldKind.Int b t o = tt
numbers_kind FieldKind.Long b t o = tt
numbers_kind FieldKind.Boolean b t o = absurd (b refl)
numbers_kind FieldKind.Text b t o = absurd (t refl)
numbers_kind FieldKind.Bytes b t o = absurd (o refl)

beside_null : (kind : FieldKind) (before width end : ℕ) (value : Value) → IsNumbers kind → FitsBesideNull width value → FitsWidth kind before end value → FitsWidth kind width 0 value
beside_null (FieldKind.Reference name) before width end Value.Null is fits was = tt
beside_null (FieldKind.Reference name) before width end (Value.Ref o) is fits was = fits
beside_null (FieldKind.Reference name) before width end _ is fits was = absurd was
beside_null FieldKind.Int before width end Value.Null is fits was = tt
beside_null FieldKind.Int before width end (Value.Int n) is fits was = fits
beside_null FieldKind.Int before width end _ is fits was = absurd was
beside_null FieldKind.Long before width end Value.Null is fits was = tt
beside_null FieldKind.Long before width end (Value.Long n) is fits was = fits
beside_null FieldKind.Long before width end _ is fits was = absurd was
beside_null FieldKind.Boolean before width end value is fits was = absurd is
beside_null FieldKind.Text before width end value is fits was = absurd is
beside_null FieldKind.Bytes before width end value is fits was = absurd is

wider_number : (kind : FieldKind) (before width end : ℕ) (value : Value) → IsNumbers kind → before ≤ width → FitsWidth kind before end value → FitsWidth kind width 0 value
wider_number (FieldKind.Reference name) before width end Value.Null is le was = tt
wider_number (FieldKind.Reference name) before width end (Value.Ref o) is le was = below_more_ones before width o le was
wider_number (FieldKind.Reference name) before width end _ is le was = absurd was
wider_number FieldKind.Int before width end Value.Null is le was = tt
wider_number FieldKind.Int before width end (Value.Int n) is le was = below_more_ones before width _ le was
wider_number FieldKind.Int before width end _ is le was = absurd was
wider_number FieldKind.Long before width end Value.Null is le was = tt
wider_number FieldKind.Long before width end (Value.Long n) is le was = below_more_ones before width _ le was
wider_number FieldKind.Long before width end _ is le was = absurd was
wider_number FieldKind.Boolean before width end value is le was = absurd is
wider_number FieldKind.Text before width end value is le was = absurd is
wider_number FieldKind.Bytes before width end value is le was = absurd is

-- The numbers of a field stay where the width is no narrower, and where each fits it.
pub wider_stays : (rows : RowMap) (ds : List Difference) (field : ℕ) (kind : FieldKind) (before width : ℕ) → IsNumbers kind → before ≤ width → FieldStays rows ds field kind before width
wider_stays rows ds field kind before width is le o row value end at gone has was = wider_number kind before width end value is le was

pub numbers_stay : (rows : RowMap) (ds : List Difference) (field : ℕ) (kind : FieldKind) (before width : ℕ) → IsNumbers kind → ((o : ℕ) → find nat_cmp o ds ≡ None → FitsUnder rows field width o) → FieldStays rows ds field kind before width
numbers_stay rows ds field kind before width is fit o row value end at gone has was = beside_null kind before width end value is (fit o gone row value at has) was

-- ---- rows

-- The records stay where their fields do.
pub records_stay : (shape : Shape) (before widths : List ℕ) (ds : List Difference) (rows : RowMap) (key : Option (List (List ℕ))) (fields : List Field) → shape ≡ Shape.Object key fields
    → ((index : ℕ) (field : Field) → slice_get fields index ≡ Some field → FieldStays rows ds index field.kind (slice_index before index) (slice_index widths index)) → HoldsRows shape before [] (values rows) → StayFitting shape widths ds rows
records_stay shape before widths ds rows key fields is stay held =
    subst (λ (s : Shape). HoldsRows s before [] (values rows) → StayFitting s widths ds rows) (sym is)
    (λ held o row at gone. by_row o row at gone (held_found (Shape.Object key fields) before [] (entries rows) o row (sym (get-entries rows o) ∙ at) held)) held
  where
    by_row : (o : ℕ) (row : Row) → get rows o ≡ Some row → find nat_cmp o ds ≡ None → FitsSomewhere (Shape.Object key fields) before row → FitsSomewhere (Shape.Object key fields) widths row
    by_row o (Row.Object vs) at gone was = record { ends = λ f. 0; items = 0; fits = λ f field value gf gv. stay f field gf o (Row.Object vs) value (was.ends f) at gone gv (was.fits f field value gf gv) }
    by_row o (Row.List ordinals) at gone was = absurd was.fits
    by_row o (Row.Set ordinals) at gone was = absurd was.fits
    by_row o (Row.Map pairs) at gone was = absurd was.fits

pub no_record : (shape : Shape) → ((key : Option (List (List ℕ))) (fields : List Field) → shape ≡ Shape.Object key fields → ⊥) → IsObject shape → ⊥
no_record (Shape.Object key fields) other object = other key fields refl
no_record (Shape.List element) other object = object
no_record (Shape.Set element) other object = object
no_record (Shape.Map key value) other object = object

-- The rows of the other kinds stay where no width is narrower.
pub others_stay : (shape : Shape) (before widths : List ℕ) (ds : List Difference) (rows : RowMap) → (IsObject shape → ⊥) → IsNoNarrower before widths → HoldsRows shape before [] (values rows) → StayFitting shape widths ds rows
others_stay shape before widths ds rows other le held o row at gone =
    let was = held_found shape before [] (entries rows) o row (sym (get-entries rows o) ∙ at) held in
    record { ends = was.ends; items = was.items; fits = fits_wider shape before widths was.ends was.items row other le was.fits }
