-- Which rows fit where all end, and at widths that are no narrower than those that they fit.
use Rattle.std.proofs.Common.{◌≡◌, ℕ, zero, suc, ◌^◌, ◌<◌, ◌≤◌, inl, inr, List, [], ◌∷◌, ◌++◌, length, get_or, Some, refl, sym, subst, ◌∙◌, append_assoc, arith}
use Rattle.std.specs.Prelude.{slice_index, sum_by}
use Rattle.std.specs.Ordering.{nat_cmp}
use Rattle.std.specs.FinMap.{find}
use Rattle.std.specs.Map.{values_of}
use Rattle.std.proofs.Math.Pow.{pow_mono}
use Rattle.std.proofs.lemmas.Bool.{cases_eq, cases_lt}
use Rattle.std.proofs.lemmas.List.Sums.{sum_by-append, sum_by-cons, sum_by_push}
use Rattle.std.proofs.lemmas.Option.{slice_get_within}
use Rattle.schema_model.specs.declared.schema.FieldKind.{FieldKind}
use Rattle.schema_model.specs.declared.schema.Shape.{Shape}
use Rattle.row_model.specs.declared.row.Value.{Value}
use Rattle.row_model.specs.declared.row.Row.{Row}
use Rattle.object_codec.specs.ObjectPlace.{IsObject}
use Rattle.type_rows.specs.FieldEnds.{EndFits}
use Rattle.type_rows.specs.Holds.{FitsRow, FitsWidth, HoldsRows, IsBelowOnes}
use Rattle.type_rows.specs.Layout.{item_count, items_of_row}
use Rattle.type_rows.specs.WordsHeld.{field_bytes, part_bytes}
use Rattle.type_state.specs.Counted.{AreEndsHeld, FitsSomewhere, IsNoNarrower}
use Rattle.type_state.proofs.Lookups.{found, skipped}

abbrev Entry : Type 0
Entry = ℕ × Row

pub below_more_ones : (old new number : ℕ) → old ≤ new → IsBelowOnes old number → IsBelowOnes new number
below_more_ones old new number le h = let top : 2 ^ old ≤ 2 ^ new = pow_mono {i = old} {j = new} le in omega arith

below_more : (old new number : ℕ) → old ≤ new → number < 2 ^ old → number < 2 ^ new
below_more old new number le h = let top : 2 ^ old ≤ 2 ^ new = pow_mono {i = old} {j = new} le in omega arith

-- A value fits at an end that its element holds.
reached : (kind : FieldKind) (width end top : ℕ) (value : Value) → EndFits kind width top → FitsWidth kind width end value → FitsWidth kind width top value
reached FieldKind.Text width end top value held was = held
reached FieldKind.Bytes width end top value held was = held
reached (FieldKind.Reference name) width end top Value.Null held was = tt
reached (FieldKind.Reference name) width end top (Value.Ref o) held was = was
reached (FieldKind.Reference name) width end top _ held was = absurd was
reached FieldKind.Int width end top Value.Null held was = tt
reached FieldKind.Int width end top (Value.Int n) held was = was
reached FieldKind.Int width end top _ held was = absurd was
reached FieldKind.Long width end top Value.Null held was = tt
reached FieldKind.Long width end top (Value.Long n) held was = was
reached FieldKind.Long width end top _ held was = absurd was
reached FieldKind.Boolean width end top Value.Null held was = was
reached FieldKind.Boolean width end top (Value.Bool flag) held was = was
reached FieldKind.Boolean width end top _ held was = absurd was

-- A row fits where it ends at ends that the widths hold.
pub fits_where : (shape : Shape) (widths : List ℕ) (ends : ℕ → ℕ) (tops : List ℕ) (items top : ℕ) (row : Row) → AreEndsHeld shape widths tops top → FitsRow shape widths ends items row → FitsRow shape widths (λ f. slice_index tops f) top row
fits_where (Shape.Object key fields) widths ends tops items top (Row.Object values) held was =
    λ f field value gf gv. reached field.kind (slice_index widths f) (ends f) (slice_index tops f) value (held f field (slice_get_within fields f field gf) gf) (was f field value gf gv)
fits_where (Shape.Object key fields) widths ends tops items top _ held was = absurd was
fits_where (Shape.List element) widths ends tops items top (Row.List ordinals) held was = record { pointer = held; elements = was.elements }
fits_where (Shape.List element) widths ends tops items top _ held was = absurd was
fits_where (Shape.Set element) widths ends tops items top (Row.Set ordinals) held was = record { pointer = held; size = was.size; elements = was.elements }
fits_where (Shape.Set element) widths ends tops items top _ held was = absurd was
fits_where (Shape.Map key value) widths ends tops items top (Row.Map pairs) held was = record { pointer = held; size = was.size; parts = was.parts }
fits_where (Shape.Map key value) widths ends tops items top _ held was = absurd was

-- ---- rows of the kinds other than OBJECT, at widths that are no narrower

-- Such a row fits where it fitted.
pub fits_wider : (shape : Shape) (old new : List ℕ) (ends : ℕ → ℕ) (items : ℕ) (row : Row) → (IsObject shape → ⊥) → IsNoNarrower old new → FitsRow shape old ends items row → FitsRow shape new ends items row
fits_wider (Shape.Object key fields) old new ends items row other le was = absurd (other tt)
fits_wider (Shape.List element) old new ends items (Row.List ordinals) other le was =
    record { pointer = below_more (slice_index old 0) (slice_index new 0) items (le 0) was.pointer; elements = λ k d inside. below_more (slice_index old 1) (slice_index new 1) (get_or ordinals k d) (le 1) (was.elements k d inside) }
fits_wider (Shape.List element) old new ends items _ other le was = absurd was
fits_wider (Shape.Set element) old new ends items (Row.Set ordinals) other le was = record {
  pointer = below_more (slice_index old 0) (slice_index new 0) items (le 0) was.pointer;
  size = below_more (slice_index old 1) (slice_index new 1) (length ordinals) (le 1) was.size;
  elements = λ k d inside. below_more_ones (slice_index old 2) (slice_index new 2) (get_or ordinals k d) (le 2) (was.elements k d inside);
}
fits_wider (Shape.Set element) old new ends items _ other le was = absurd was
fits_wider (Shape.Map key value) old new ends items (Row.Map pairs) other le was = record {
  pointer = below_more (slice_index old 0) (slice_index new 0) items (le 0) was.pointer;
  size = below_more (slice_index old 1) (slice_index new 1) (length pairs) (le 1) was.size;
  parts = λ k d inside.
      (let parts = was.parts k d inside in
      (below_more_ones (slice_index old 2) (slice_index new 2) (get_or pairs k d).0 (le 2) parts.0, below_more (slice_index old 3) (slice_index new 3) (get_or pairs k d).1 (le 3) parts.1));
}
fits_wider (Shape.Map key value) old new ends items _ other le was = absurd was

-- ---- rows that end before

earlier : (kind : FieldKind) (width end top : ℕ) (value : Value) → end ≤ top → FitsWidth kind width top value → FitsWidth kind width end value
earlier FieldKind.Text width end top value le h = omega arith
earlier FieldKind.Bytes width end top value le h = omega arith
earlier (FieldKind.Reference name) width end top Value.Null le h = tt
earlier (FieldKind.Reference name) width end top (Value.Ref o) le h = h
earlier (FieldKind.Reference name) width end top _ le h = absurd h
earlier FieldKind.Int width end top Value.Null le h = tt
earlier FieldKind.Int width end top (Value.Int n) le h = h
earlier FieldKind.Int width end top _ le h = absurd h
earlier FieldKind.Long width end top Value.Null le h = tt
earlier FieldKind.Long width end top (Value.Long n) le h = h
earlier FieldKind.Long width end top _ le h = absurd h
earlier FieldKind.Boolean width end top Value.Null le h = h
earlier FieldKind.Boolean width end top (Value.Bool flag) le h = h
earlier FieldKind.Boolean width end top _ le h = absurd h

-- A row that fits fits where it ends before.
fits_before : (shape : Shape) (widths : List ℕ) (ends tops : ℕ → ℕ) (items top : ℕ) (row : Row) → ((f : ℕ) → ends f ≤ tops f) → items ≤ top → FitsRow shape widths tops top row → FitsRow shape widths ends items row
fits_before (Shape.Object key fields) widths ends tops items top (Row.Object values) le few h = λ f field value gf gv. earlier field.kind (slice_index widths f) (ends f) (tops f) value (le f) (h f field value gf gv)
fits_before (Shape.Object key fields) widths ends tops items top _ le few h = absurd h
fits_before (Shape.List element) widths ends tops items top (Row.List ordinals) le few h = record { pointer = omega (arith, h.pointer); elements = h.elements }
fits_before (Shape.List element) widths ends tops items top _ le few h = absurd h
fits_before (Shape.Set element) widths ends tops items top (Row.Set ordinals) le few h = record { pointer = omega (arith, h.pointer); size = h.size; elements = h.elements }
fits_before (Shape.Set element) widths ends tops items top _ le few h = absurd h
fits_before (Shape.Map key value) widths ends tops items top (Row.Map pairs) le few h = record { pointer = omega (arith, h.pointer); size = h.size; parts = h.parts }
fits_before (Shape.Map key value) widths ends tops items top _ le few h = absurd h

-- The rows in front take no more than all.
front : (measure : Row → ℕ) (before : List Row) (row : Row) (rest : List Row) → sum_by measure (before ++ row ∷ []) ≤ sum_by measure (before ++ row ∷ rest)
front measure before row rest =
    let one = sum_by_push measure before row in
    let all = sum_by-append measure before (row ∷ rest) in
    let first = sum_by-cons measure row rest in
    omega (arith, one, all, first)

-- Rows that all fit where the last one ends are held.
pub all_held : (shape : Shape) (widths : List ℕ) (tops : ℕ → ℕ) (top : ℕ) (before : List Row) (es : List Entry) → ((k : ℕ) (d : Entry) → k < length es → FitsRow shape widths tops top (get_or es k d).1)
    → ((f : ℕ) → field_bytes f (before ++ values_of es) ≤ tops f) → item_count (before ++ values_of es) ≤ top → HoldsRows shape widths before (values_of es)
all_held shape widths tops top before [] fits ends items = tt
all_held shape widths tops top before (e ∷ es) fits ends items =
    let rest = values_of es in
    let shift : (before ++ e.1 ∷ []) ++ rest ≡ before ++ e.1 ∷ rest = append_assoc before (e.1 ∷ []) rest in (
      fits_before shape widths (λ f. field_bytes f (before ++ e.1 ∷ [])) tops (item_count (before ++ e.1 ∷ [])) top e.1
          (λ f. let low = front (part_bytes f) before e.1 rest in let high = ends f in omega (arith, low, high)) (let low = front items_of_row before e.1 rest in omega (arith, low, items)) (fits 0 e (omega arith)),
      all_held shape widths tops top (before ++ e.1 ∷ []) es (λ k d inside. fits (suc k) d (omega arith))
          (λ f. subst (λ (rows : List Row). field_bytes f rows ≤ tops f) (sym shift) (ends f)) (subst (λ (rows : List Row). item_count rows ≤ top) (sym shift) items),
    )

-- Each row that is held fits somewhere.
pub held_found : (shape : Shape) (widths : List ℕ) (before : List Row) (es : List Entry) (o : ℕ) (row : Row) → find nat_cmp o es ≡ Some row → HoldsRows shape widths before (values_of es) → FitsSomewhere shape widths row
held_found shape widths before [] o row at h = absurd cc
held_found shape widths before (e ∷ es) o row at h = elim (cases_eq o e.0) [
  | inl same ↦
      let is : Some e.1 ≡ Some row = sym (found o e es same) ∙ at in
      let value : e.1 ≡ row = cc in
      subst (FitsSomewhere shape widths) value record { ends = λ f. field_bytes f (before ++ e.1 ∷ []); items = item_count (before ++ e.1 ∷ []); fits = h.0 }
  | inr other ↦ held_found shape widths (before ++ e.1 ∷ []) es o row (sym (skipped o e es other) ∙ at) h.1
]

-- ---- widths that are compared

past : (numbers : List ℕ) (k : ℕ) → length numbers ≤ k → get_or numbers k 0 ≡ 0
past [] k over = refl
past (n ∷ numbers) zero over = absurd (omega arith)
past (n ∷ numbers) (suc k) over = past numbers k (omega arith)

pub all_compared : (before widths : List ℕ) (index : ℕ) → ((k : ℕ) → k < index → get_or before k 0 ≤ get_or widths k 0) → length before ≤ index → IsNoNarrower before widths
all_compared before widths index below over = λ part. elim (cases_lt part index) [
  | inl lt ↦ below part lt
  | inr le ↦ (let none = past before part (omega arith) in omega (arith, none))
]
