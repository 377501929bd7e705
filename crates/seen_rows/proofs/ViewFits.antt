-- Rows that are seen through a model whose schemas agree with those of their own one fit it.
use Rattle.std.proofs.Common.{◌≡◌, ℕ, zero, suc, Bool, true, false, cond, List, [], ◌∷◌, refl, sym, subst, arith}
use Rattle.std.specs.Prelude.{All}
use Rattle.std.specs.List.{AllZip}
use Rattle.std.specs.Str.{bytes_eq}
use Rattle.std.proofs.lemmas.Slice.Eq.{bytes_eq-Decides}
use Rattle.schema_model.specs.declared.schema.name.Name.{Name}
use Rattle.schema_model.specs.declared.schema.Field.{Field}
use Rattle.schema_model.specs.declared.schema.FieldKind.{FieldKind}
use Rattle.schema_model.specs.declared.schema.Shape.{Shape}
use Rattle.schema_model.specs.Growth.{KindsAgree, ShapesAgree}
use Rattle.schema_model.specs.Parts.{shape_fields}
use Rattle.row_model.specs.declared.row.Row.{Row}
use Rattle.row_model.specs.declared.row.Value.{Value}
use Rattle.row_model.specs.Row.{FitsKind, FitsShape, IsRowInRange, IsValueInRange}
use Rattle.row_model.specs.View.{seen_row, seen_values, value_named}

-- what holds of the value of the first field with the name, and of null, holds of the value named
pub chosen : (P : Value → Type 0) (b : Bool) (v w : Value) → (b ≡ true → P v) → P w → P (cond b v w)
chosen P true v w first later = first refl
chosen P false v w first later = later

value_fits : (kind : FieldKind) (name : List ℕ) (own : List Field) (values : List Value) → AllZip (λ field value. FitsKind field.kind value) own values
    → All (λ field. field.name ≡ name → field.kind ≡ kind) own → FitsKind kind (value_named own values name)
unfolding value_named
value_fits kind name [] values fits same = tt
value_fits kind name (f ∷ own) [] fits same = tt
value_fits kind name (f ∷ own) (v ∷ values) fits same =
    chosen (FitsKind kind) (bytes_eq f.name name) v (value_named own values name)
    (λ e. subst (λ k. FitsKind k v) (same 0 f (omega arith) ((bytes_eq-Decides f.name name).0 e)) fits.0)
    (value_fits kind name own values fits.1 (λ k d below. same (suc k) d (omega (arith, below))))

value_in_range : (name : List ℕ) (own : List Field) (values : List Value) → All IsValueInRange values → IsValueInRange (value_named own values name)
unfolding value_named
value_in_range name [] values all = tt
value_in_range name (f ∷ own) [] all = tt
value_in_range name (f ∷ own) (v ∷ values) all =
    chosen IsValueInRange (bytes_eq f.name name) v (value_named own values name) (λ e. all 0 v (omega arith)) (value_in_range name own values (λ k d below. all (suc k) d (omega (arith, below))))

values_fit : (own : List Field) (values : List Value) → AllZip (λ field value. FitsKind field.kind value) own values
    → (mine : List Field) → KindsAgree own mine → AllZip (λ field value. FitsKind field.kind value) mine (seen_values own mine values)
values_fit own values fits [] agree = tt
values_fit own values fits (m ∷ mine) agree = (
  value_fits m.kind m.name own values fits (λ k d below. agree k d below 0 m (omega arith)),
  values_fit own values fits mine (λ k d below j e less. agree k d below (suc j) e (omega (arith, less))),
)

values_in_range : (own : List Field) (values : List Value) → All IsValueInRange values → (mine : List Field) → All IsValueInRange (seen_values own mine values)
values_in_range own values all [] k d below = absurd (omega (arith, below))
values_in_range own values all (m ∷ mine) zero d below = value_in_range m.name own values all
values_in_range own values all (m ∷ mine) (suc k) d below = values_in_range own values all mine k d (omega (arith, below))

-- a row that is no record stays as it is
pub list_stays : (element : Name) (mine : Shape) (row : Row) → FitsShape (Shape.List element) row → seen_row (Shape.List element) mine row ≡ row
list_stays element mine (Row.List ordinals) fits = refl
list_stays element mine (Row.Object values) fits = absurd fits
list_stays element mine (Row.Set ordinals) fits = absurd fits
list_stays element mine (Row.Map pairs) fits = absurd fits

pub set_stays : (element : Name) (mine : Shape) (row : Row) → FitsShape (Shape.Set element) row → seen_row (Shape.Set element) mine row ≡ row
set_stays element mine (Row.Set ordinals) fits = refl
set_stays element mine (Row.Object values) fits = absurd fits
set_stays element mine (Row.List ordinals) fits = absurd fits
set_stays element mine (Row.Map pairs) fits = absurd fits

pub map_stays : (from to : Name) (mine : Shape) (row : Row) → FitsShape (Shape.Map from to) row → seen_row (Shape.Map from to) mine row ≡ row
map_stays from to mine (Row.Map pairs) fits = refl
map_stays from to mine (Row.Object values) fits = absurd fits
map_stays from to mine (Row.List ordinals) fits = absurd fits
map_stays from to mine (Row.Set ordinals) fits = absurd fits

-- a row that fits its shape fits each shape that agrees with it, seen so
pub row_fits : (own mine : Shape) (row : Row) → ShapesAgree own mine → FitsShape own row → FitsShape mine (seen_row own mine row)
row_fits (Shape.Object key own) (Shape.Object mine_key mine) (Row.Object values) agree fits = values_fit own values fits mine agree.1
row_fits (Shape.Object key own) (Shape.Object mine_key mine) (Row.List ordinals) agree fits = absurd fits
row_fits (Shape.Object key own) (Shape.Object mine_key mine) (Row.Set ordinals) agree fits = absurd fits
row_fits (Shape.Object key own) (Shape.Object mine_key mine) (Row.Map pairs) agree fits = absurd fits
row_fits (Shape.Object key own) (Shape.List element) row agree fits = absurd cc
row_fits (Shape.Object key own) (Shape.Set element) row agree fits = absurd cc
row_fits (Shape.Object key own) (Shape.Map from to) row agree fits = absurd cc
row_fits (Shape.List element) mine row agree fits = subst (FitsShape mine) (sym (list_stays element mine row fits)) (subst (λ s. FitsShape s row) agree fits)
row_fits (Shape.Set element) mine row agree fits = subst (FitsShape mine) (sym (set_stays element mine row fits)) (subst (λ s. FitsShape s row) agree fits)
row_fits (Shape.Map from to) mine row agree fits = subst (FitsShape mine) (sym (map_stays from to mine row fits)) (subst (λ s. FitsShape s row) agree fits)

-- and its numbers stay in range
pub row_in_range : (own mine : Shape) (row : Row) → IsRowInRange row → IsRowInRange (seen_row own mine row)
row_in_range own mine (Row.Object values) all = values_in_range (shape_fields own) values all (shape_fields mine)
row_in_range own mine (Row.List ordinals) all = all
row_in_range own mine (Row.Set ordinals) all = all
row_in_range own mine (Row.Map pairs) all = all
