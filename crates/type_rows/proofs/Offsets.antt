-- End offsets that grow value by value.
use Rattle.std.proofs.Common.{◌≡◌, ◌≢◌, inl, inr, set, add-zero, get_or-set_other, get_or-set_same, below_more, ℕ, ◌+◌, ◌-◌, ◌^◌, ◌<◌, ◌≤◌, min, List, length, get_or, Some, refl, ap, sym, ◌∙◌, subst, arith}
use Rattle.std.specs.Prelude.{◌↔◌, Bool, IsTrue, Option, slice_get, slice_index}
use Rattle.std.specs.Option.{option_map_or}
use Rattle.std.proofs.lemmas.List.{length-set}
use Rattle.std.proofs.lemmas.Option.{slice_get_read, get_or_from_slice_get, slice_get_past}
use Rattle.std.proofs.lemmas.Bool.{cases_lt}
use Rattle.std.proofs.Math.Pow.{pow_mono}
use Rattle.schema_model.specs.declared.schema.FieldKind.{FieldKind}
use Rattle.schema_model.specs.declared.schema.name.Name.{Name}
use Rattle.schema_model.specs.declared.schema.Field.{Field}
use Rattle.schema_model.specs.declared.schema.Shape.{Shape}
use Rattle.row_model.specs.declared.row.Row.{Row}
use Rattle.row_model.specs.declared.row.Value.{Value}
use Rattle.type_rows.specs.WordsHeld.{value_bytes}
use Rattle.type_rows.specs.Holds.{FitsWidth, FitsWidths}
use Rattle.type_rows.specs.Ends.{end_after, FitsBehind}

-- Below a null bit no number is cut off.
below : (width end exact : ℕ) → width ≤ 64 → end ≡ min exact (2 ^ 64 - 1) → end < 2 ^ (width - 1) → end ≡ exact
below width end exact narrow is small =
    let top : 2 ^ (width - 1) ≤ 2 ^ 63 = pow_mono {i = width - 1} {j = 63} (omega arith) in omega arith

-- Of a value that fits, the end offset is the exact one.
pub same_end : (kind : FieldKind) (width end before count : ℕ) (value : Value) → width ≤ 64 → before < 2 ^ 64 → count ≡ min (value_bytes value) (2 ^ 64 - 1) → end ≡ min (before + count) (2 ^ 64 - 1)
    → FitsWidth kind width end value → end ≡ before + value_bytes value
same_end FieldKind.Text width end before count value narrow fits counted is h = below width end _ narrow (omega arith) h
same_end FieldKind.Bytes width end before count value narrow fits counted is h = below width end _ narrow (omega arith) h
same_end (FieldKind.Reference name) width end before count Value.Null narrow fits counted is h = omega arith
same_end (FieldKind.Reference name) width end before count (Value.Ref o) narrow fits counted is h = omega arith
same_end (FieldKind.Reference name) width end before count _ narrow fits counted is h = absurd h
same_end FieldKind.Int width end before count Value.Null narrow fits counted is h = omega arith
same_end FieldKind.Int width end before count (Value.Int n) narrow fits counted is h = omega arith
same_end FieldKind.Int width end before count _ narrow fits counted is h = absurd h
same_end FieldKind.Long width end before count Value.Null narrow fits counted is h = omega arith
same_end FieldKind.Long width end before count (Value.Long n) narrow fits counted is h = omega arith
same_end FieldKind.Long width end before count _ narrow fits counted is h = absurd h
same_end FieldKind.Boolean width end before count Value.Null narrow fits counted is h = omega arith
same_end FieldKind.Boolean width end before count (Value.Bool b) narrow fits counted is h = omega arith
same_end FieldKind.Boolean width end before count _ narrow fits counted is h = absurd h

-- A value that fits with its exact end offset fits with the one that was counted.
pub fits_back : (kind : FieldKind) (width end before count : ℕ) (value : Value) → width ≤ 64 → before < 2 ^ 64 → count ≡ min (value_bytes value) (2 ^ 64 - 1) → end ≡ min (before + count) (2 ^ 64 - 1)
    → FitsWidth kind width (before + value_bytes value) value → FitsWidth kind width end value
fits_back FieldKind.Text width end before count value narrow fits counted is h = omega arith
fits_back FieldKind.Bytes width end before count value narrow fits counted is h = omega arith
fits_back (FieldKind.Reference name) width end before count Value.Null narrow fits counted is h = tt
fits_back (FieldKind.Reference name) width end before count (Value.Ref o) narrow fits counted is h = h
fits_back (FieldKind.Reference name) width end before count _ narrow fits counted is h = absurd h
fits_back FieldKind.Int width end before count Value.Null narrow fits counted is h = tt
fits_back FieldKind.Int width end before count (Value.Int n) narrow fits counted is h = h
fits_back FieldKind.Int width end before count _ narrow fits counted is h = absurd h
fits_back FieldKind.Long width end before count Value.Null narrow fits counted is h = tt
fits_back FieldKind.Long width end before count (Value.Long n) narrow fits counted is h = h
fits_back FieldKind.Long width end before count _ narrow fits counted is h = absurd h
fits_back FieldKind.Boolean width end before count Value.Null narrow fits counted is h = h
fits_back FieldKind.Boolean width end before count (Value.Bool b) narrow fits counted is h = h
fits_back FieldKind.Boolean width end before count _ narrow fits counted is h = absurd h

-- The value of a field fits behind the end offsets before.
abbrev pub FitsAt : List Field → List ℕ → List Value → List ℕ → ℕ → Type 0
FitsAt fields widths values ends f =
    (field : Field) (value : Value) → slice_get fields f ≡ Some field → slice_get values f ≡ Some value → FitsWidth field.kind (slice_index widths f) (end_after ends values f) value

-- The fields below an index are done.
pub record Progress (fields : List Field) (widths : List ℕ) (values : List Value) (ends now : List ℕ) (index : ℕ) : Type 0 where
  pub fits : (f : ℕ) → f < index → FitsAt fields widths values ends f
  pub done : (f : ℕ) → f < index → slice_index now f ≡ end_after ends values f
  pub rest : (f : ℕ) → index ≤ f → slice_index now f ≡ slice_index ends f
  pub long : length now ≡ length ends

-- What an index adds.
pub record Turn (fields : List Field) (widths : List ℕ) (values : List Value) (now : List ℕ) (index : ℕ) (field : Field) (value : Value) (count end : ℕ) : Type 0 where
  pub inside : index < length fields
  pub inside_values : index < length values
  pub inside_ends : index < length now
  pub field_is : field ≡ get_or fields index field
  pub value_is : value ≡ get_or values index value
  pub narrow : get_or widths index 0 ≤ 64
  pub small : get_or now index 0 < 2 ^ 64
  pub counted : count ≡ min (value_bytes value) (2 ^ 64 - 1)
  pub added : end ≡ min (get_or now index 0 + count) (2 ^ 64 - 1)

gain : (values : List Value) (ends : List ℕ) (index : ℕ) (value : Value) → index < length values → value ≡ get_or values index value → end_after ends values index ≡ get_or ends index 0 + value_bytes value
gain values ends index value inside is =
    ap (λ o. get_or ends index 0 + option_map_or value_bytes o 0) (slice_get_read values (length values) index value refl inside is)

pub stepped : (fields : List Field) (widths : List ℕ) (values : List Value) (ends now : List ℕ) (index : ℕ) (field : Field) (value : Value) (count end : ℕ) → Progress fields widths values ends now index
    → Turn fields widths values now index field value count end → FitsWidth field.kind (get_or widths index 0) end value → Progress fields widths values ends (set now index end) (index + 1)
stepped fields widths values ends now index field value count end p t h =
    let before : get_or now index 0 ≡ get_or ends index 0 = p.rest index (omega arith) in
    let exact = same_end field.kind (get_or widths index 0) end (get_or now index 0) count value t.narrow t.small t.counted t.added h in
    let is : end ≡ end_after ends values index = exact ∙ ap (λ n. n + value_bytes value) before ∙ sym (gain values ends index value t.inside_values t.value_is) in
    let here : FitsAt fields widths values ends index =
    λ other found gf gv. let one : field ≡ other = t.field_is ∙ get_or_from_slice_get fields index other field gf in
    let two : value ≡ found = t.value_is ∙ get_or_from_slice_get values index found value gv in
    subst (λ x. FitsWidth x.kind (get_or widths index 0) (end_after ends values index) found) one
    (subst (λ y. FitsWidth field.kind (get_or widths index 0) (end_after ends values index) y) two
    (subst (λ e. FitsWidth field.kind (get_or widths index 0) e value) is h)) in
    record {
      fits = below_more _ _ p.fits here;
      done = below_more _ _ (λ f lt. let ne : f ≢ index = omega arith in get_or-set_other now index f end 0 ne ∙ p.done f lt) (get_or-set_same now index end 0 t.inside_ends ∙ is);
      rest = λ f le. let ne : f ≢ index = omega arith in get_or-set_other now index f end 0 ne ∙ p.rest f (omega arith);
      long = length-set now index end ∙ p.long;
    }

pub refused : (fields : List Field) (widths : List ℕ) (values : List Value) (ends now : List ℕ) (index : ℕ) (field : Field) (value : Value) (count end : ℕ) → Progress fields widths values ends now index
    → Turn fields widths values now index field value count end → (FitsWidth field.kind (get_or widths index 0) end value → ⊥) → FitsWidths fields widths (end_after ends values) values → ⊥
refused fields widths values ends now index field value count end p t misfit all =
    let before : get_or now index 0 ≡ get_or ends index 0 = p.rest index (omega arith) in
    let is : end_after ends values index ≡ get_or now index 0 + value_bytes value = gain values ends index value t.inside_values t.value_is ∙ ap (λ n. n + value_bytes value) (sym before) in
    let one = slice_get_read fields (length fields) index field refl t.inside t.field_is in
    let two = slice_get_read values (length values) index value refl t.inside_values t.value_is in
    misfit (fits_back field.kind (get_or widths index 0) end (get_or now index 0) count value t.narrow t.small t.counted t.added
    (subst (λ e. FitsWidth field.kind (get_or widths index 0) e value) is (all index field value one two)))

past : {A : Type 0} (xs : List A) (i : ℕ) (x : A) → slice_get xs i ≡ Some x → length xs ≤ i → ⊥
past xs i x found over = let none = slice_get_past xs i over in cc

pub finished : (fields : List Field) (widths : List ℕ) (values : List Value) (ends now : List ℕ) (index : ℕ) → Progress fields widths values ends now index → length fields ≤ index → FitsWidths fields widths (end_after ends values) values
finished fields widths values ends now index p over f field value gf gv =
    elim (cases_lt f index) [ inl lt ↦ p.fits f lt field value gf gv | inr le ↦ absurd (past fields f field gf (omega arith)) ]

pub all_ends : (fields : List Field) (widths : List ℕ) (values : List Value) (ends now : List ℕ) (index : ℕ) → Progress fields widths values ends now index → length values ≤ index → (f : ℕ) → slice_index now f ≡ end_after ends values f
all_ends fields widths values ends now index p over f =
    elim (cases_lt f index) [
      | inl lt ↦ p.done f lt
      | inr le ↦ p.rest f le ∙ sym (ap (λ o. get_or ends f 0 + option_map_or value_bytes o 0) (slice_get_past values f (omega arith)) ∙ add-zero (get_or ends f 0))
    ]

-- A record fits behind the ends of others where each of its values does.
pub fits_object : (shape : Shape) (row : Row) (key : Option (List Name)) (fields shown : List Field) (values listed : List Value) (widths ends lent : List ℕ) (items : ℕ) (fits : Bool) → shape ≡ Shape.Object key fields → row ≡ Row.Object values
    → shown ≡ fields → listed ≡ values → lent ≡ ends → IsTrue fits ↔ FitsWidths shown widths (end_after lent listed) listed → IsTrue fits ↔ FitsBehind shape widths ends items row
fits_object shape row key fields shown values listed widths ends lent items fits is_shape is_row f v e h =
    subst (λ s. IsTrue fits ↔ FitsBehind s widths ends items row) (sym is_shape)
    (subst (λ r. IsTrue fits ↔ FitsBehind (Shape.Object key fields) widths ends items r) (sym is_row)
    (subst (λ fs. IsTrue fits ↔ FitsWidths fs widths (end_after ends values) values) f
    (subst (λ vs. IsTrue fits ↔ FitsWidths shown widths (end_after ends vs) vs) v
    (subst (λ es. IsTrue fits ↔ FitsWidths shown widths (end_after es listed) listed) e h))))
