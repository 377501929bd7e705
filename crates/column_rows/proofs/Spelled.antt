-- Lemmas on the value of one field of a record that is spelled.
use Rattle.std.proofs.Common.{◌≡◌, ℕ, zero, suc, ◌+◌, ◌*◌, ◌^◌, ◌<◌, ◌≤◌, List, [], ◌∷◌, length, take, get_or, Some, slice_get, arith, sym, refl, ◌∙◌, subst}
use Rattle.std.specs.Prelude.{sum}
use Rattle.std.proofs.lemmas.List.Sums.{sum_by-cons}
use Rattle.row_model.specs.Areas.{area_of}
use Rattle.schema_model.specs.declared.schema.Field.{Field}
use Rattle.row_model.specs.declared.row.Value.{Value}
use Rattle.object_codec.specs.Part.{SpellsValue}
use Rattle.object_codec.specs.ObjectPlace.{part_at, parts_from, HoldsPlace, IsKindWidth, SpellsFields, SpellsObject}
use Rattle.object_codec.proofs.FieldWidths.{within, wide_at}
use Rattle.object_codec.specs.declared.column.Column.{Column}
use Rattle.object_codec.specs.Bytes.{bytes_of}
use Rattle.column_rows.specs.Columns.{HasValueOf}

sum-cons : (width : ℕ) (widths : List ℕ) → sum (width ∷ widths) ≡ width + sum widths
sum-cons width widths = sum_by-cons (λ (w : ℕ). w) width widths

-- the value at an index is that of the part there
pub spelled_at : (fields : List Field) (widths first : List ℕ) (areas : List (List ℕ)) (size place before k : ℕ) (field : Field) (values : List Value)
    → SpellsFields fields (parts_from first size place before widths areas) values → k < length fields → field ≡ get_or fields k field
    → (value : Value) × (slice_get values k ≡ Some value) × SpellsValue field.kind (part_at first size place (before + sum (take k widths)) (get_or widths k 0) (area_of areas k)) value
spelled_at [] widths first areas size place before k field values spelled inside is = absurd (omega arith)
spelled_at (f ∷ fields) [] first areas size place before k field values spelled inside is = absurd spelled
spelled_at (f ∷ fields) (width ∷ widths) first [] size place before k field values spelled inside is = absurd spelled
spelled_at (f ∷ fields) (width ∷ widths) first (area ∷ areas) size place before k field [] spelled inside is = absurd spelled
spelled_at (f ∷ fields) (width ∷ widths) first (area ∷ areas) size place before zero field (value ∷ values) spelled inside is =
    let none : before ≡ before + 0 = omega arith in (
      value,
      refl,
      subst (λ (b : ℕ). SpellsValue field.kind (part_at first size place b width area) value) none
          (subst (λ (g : Field). SpellsValue g.kind (part_at first size place before width area) value) (sym is) spelled.0),
    )
spelled_at (f ∷ fields) (width ∷ widths) first (area ∷ areas) size place before (suc k) field (value ∷ values) spelled inside is =
    let e : before + width + sum (take k widths) ≡ before + sum (width ∷ take k widths) = omega (arith, sum-cons width (take k widths)) in
    let rest = spelled_at fields widths first areas size place (before + width) k field values spelled.1 (omega arith) is in
    (rest.0, rest.1, subst (λ (b : ℕ). SpellsValue field.kind (part_at first size place b (get_or widths k 0) (area_of areas k)) rest.0) e rest.2)

-- a column that is that of a field has the value of the field under each place
pub has_value : (column : Column) (fields : List Field) (widths : List ℕ) (areas : List (List ℕ)) (place index : ℕ) (field : Field) (values : List Value)
    → HoldsPlace fields widths column.first.now areas place → index < length fields → field ≡ get_or fields index field → column.kind.now ≡ field.kind → column.width ≡ get_or widths index 0
    → column.before ≡ sum (take index widths) → column.size ≡ sum widths → area_of areas index ≡ bytes_of column.area
    → SpellsObject fields widths column.first.now areas place values → HasValueOf column place values index
has_value column fields widths areas place index field values holds inside is kind width before size area spelled =
    let first = column.first.now in
    let r = spelled_at fields widths first areas (sum widths) place 0 index field values spelled inside is in
    let w = within fields widths first areas place index (sum (take index widths)) holds inside refl in
    let front : 0 + sum (take index widths) ≡ column.before = omega arith in
    let spells : SpellsValue column.kind.now (part_at first column.size place column.before column.width (bytes_of column.area)) r.0 =
    subst (λ k. SpellsValue k (part_at first column.size place column.before column.width (bytes_of column.area)) r.0) (sym kind)
    (subst (λ s. SpellsValue field.kind (part_at first s place column.before column.width (bytes_of column.area)) r.0) (sym size)
    (subst (λ b. SpellsValue field.kind (part_at first (sum widths) place b column.width (bytes_of column.area)) r.0) front
    (subst (λ v. SpellsValue field.kind (part_at first (sum widths) place (0 + sum (take index widths)) v (bytes_of column.area)) r.0) (sym width)
    (subst (λ a. SpellsValue field.kind (part_at first (sum widths) place (0 + sum (take index widths)) (get_or widths index 0) a) r.0) area r.2)))) in
    let words : place * column.size + column.before + column.width ≤ 64 * length first =
    subst (λ s. place * s + column.before + column.width ≤ 64 * length first) (sym size) (omega (arith, w.words_hold)) in
    let fits : place * column.size + column.before + column.width < 2 ^ 64 = subst (λ s. place * s + column.before + column.width < 2 ^ 64) (sym size) (omega (arith, w.fits)) in (
      r.0,
      r.1,
      record {
        reads = record {
          narrow = omega (arith, w.narrow);
          wide = subst (λ k. IsKindWidth k column.width) (sym kind) (subst (λ v. IsKindWidth field.kind v) (sym width) (wide_at fields widths first areas place index field holds inside is));
          record_holds = omega (arith, w.record_holds);
          words_hold = words;
          fits = fits;
        };
        spells = spells;
      },
    )

-- the same, of the words that the column has
pub has_value_of : (column : Column) (fields : List Field) (widths first : List ℕ) (areas : List (List ℕ)) (place index : ℕ) (field : Field) (values : List Value) (bytes : List ℕ)
    → HoldsPlace fields widths first areas place → index < length fields → field ≡ get_or fields index field → column.kind.now ≡ field.kind → column.width ≡ get_or widths index 0
    → column.before ≡ sum (take index widths) → column.size ≡ sum widths → column.first.now ≡ first → bytes_of column.area ≡ bytes → area_of areas index ≡ bytes
    → SpellsObject fields widths first areas place values → HasValueOf column place values index
has_value_of column fields widths first areas place index field values bytes holds inside is kind width before size words lent area spelled =
    has_value column fields widths areas place index field values (subst (λ f. HoldsPlace fields widths f areas place) (sym words) holds) inside is kind width before size
    (area ∙ sym lent) (subst (λ f. SpellsObject fields widths f areas place values) (sym words) spelled)
