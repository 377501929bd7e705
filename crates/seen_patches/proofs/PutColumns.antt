-- Columns that are written one behind the other.
use Rattle.std.proofs.Common.{◌≡◌, ℕ, ◌+◌, ◌-◌, ◌*◌, ◌^◌, ◌<◌, ◌≤◌, List, [], ◌∷◌, ◌++◌, length, map, sum, take, get_or, zero, suc, Option, None, Some, refl, sym, ap, subst, ◌∙◌, arith}
use Rattle.std.specs.Prelude.{All, IfSome, option_and_then, option_map, slice_get, unwrap_or}
use Rattle.std.proofs.Math.Nat.{mul-le-mul}
use Rattle.std.proofs.lemmas.List.{length-map, map-append, take_more, take_all}
use Rattle.std.proofs.lemmas.List.Elements.{All-cons, All-head, All-nil, All-tail}
use Rattle.std.proofs.lemmas.List.Sums.{sum_by_more_le, sum_by_more}
use Rattle.std.proofs.lemmas.Option.{slice_get_within, get_or_from_slice_get, slice_get-map}
use Rattle.bit_array.specs.Element.{element_of}
use Rattle.schema_model.specs.declared.schema.Field.{Field}
use Rattle.schema_model.specs.declared.schema.FieldKind.{FieldKind}
use Rattle.seen_patches.specs.declared.column.Column.{Column}
use Rattle.seen_patches.specs.ByName.{field_in, item_named}
use Rattle.seen_patches.specs.Elements.{IsHeld, column_element, columns_from, element_or, elements_in}
use Rattle.seen_patches.specs.Nulls.{null_element, null_width}
use Rattle.seen_patches.specs.Seen.{seen_element, seen_elements, seen_width, seen_widths}
use Rattle.seen_patches.proofs.ColumnElements.{columns_more, named_map, same_elements}

abbrev pub width_of : Column → ℕ
width_of column = column.width

-- the columns of the first fields are written
pub record PutSoFar (mine theirs : List Field) (columns : List Column) (from widths old to : List ℕ) (places size before index : ℕ) : Type 0 where
  pub summed : before ≡ sum (take index widths)
  pub put : (place : ℕ) → place < places → elements_in to place (columns_from size 0 (take index widths)) ≡ seen_elements (take index mine) theirs (elements_in from place columns)
  pub behind : (at v : ℕ) → places * size ≤ at → element_of to at v ≡ element_of old at v
  pub long : length to ≡ length old

pub put_none : (mine theirs : List Field) (columns : List Column) (from widths old : List ℕ) (places size : ℕ) → PutSoFar mine theirs columns from widths old old places size 0 0
put_none mine theirs columns from widths old places size = record {
  summed = refl;
  put = λ place less. refl;
  behind = λ at v behind. refl;
  long = refl;
}

-- ---- the column of a field

-- the width of the field is that of its column, and that of a null where it has none
width_for : (theirs : List Field) (columns : List Column) (field : Field) → seen_width theirs (map width_of columns) field ≡ unwrap_or (option_map width_of (item_named theirs columns field.name)) (null_width field.kind)
width_for theirs columns field = ap (λ (o : Option ℕ). unwrap_or o (null_width field.kind)) (named_map width_of theirs columns field.name)

pub null_or_column : (from : List ℕ) (place width : ℕ) (kind_width : ℕ) (source : Option Column) → width ≡ unwrap_or (option_map width_of source) kind_width
    → element_or from place source (2 ^ width - 1) ≡ unwrap_or (option_map (column_element from place) source) (2 ^ kind_width - 1)
null_or_column from place width kind_width None is = ap (λ (w : ℕ). 2 ^ w - 1) is
null_or_column from place width kind_width (Some column) is = refl

pub element_for : (theirs : List Field) (columns : List Column) (from : List ℕ) (place width : ℕ) (field : Field) (source : Option Column) → source ≡ item_named theirs columns field.name
    → width ≡ seen_width theirs (map width_of columns) field → element_or from place source (2 ^ width - 1) ≡ seen_element theirs (elements_in from place columns) field
element_for theirs columns from place width field source is wide =
    let wide' : width ≡ unwrap_or (option_map width_of source) (null_width field.kind) =
    wide ∙ width_for theirs columns field ∙ ap (λ (o : Option Column). unwrap_or (option_map width_of o) (null_width field.kind)) (sym is) in
    null_or_column from place width (null_width field.kind) source wide'
    ∙ ap (λ (o : Option Column). unwrap_or (option_map (column_element from place) o) (null_element field.kind)) is
    ∙ ap (λ (o : Option ℕ). unwrap_or o (null_element field.kind)) (sym (named_map (column_element from place) theirs columns field.name))

pub all_get : {X : Type 0} (P : X → Type 0) (xs : List X) (k : ℕ) → All P xs → IfSome (slice_get xs k) P
all_get P [] k all = tt
all_get P (x ∷ xs) zero all = All-head P x xs all
all_get P (x ∷ xs) (suc k) all = all_get P xs k (All-tail P x xs all)

pub named_all : {X : Type 0} (P : X → Type 0) (xs : List X) (index : Option ℕ) → All P xs → IfSome (option_and_then (slice_get xs) index) P
named_all P xs None all = tt
named_all P xs (Some k) all = all_get P xs k all

with_width : (from : List ℕ) (places width kind_width : ℕ) (source : Option Column) → IfSome source (IsHeld from places) → width ≡ unwrap_or (option_map width_of source) kind_width
    → IfSome source (λ column. IsHeld from places column × (column.width ≡ width))
with_width from places width kind_width None held is = tt
with_width from places width kind_width (Some column) held is = (held, sym is)

-- the column of a field is held, and has the field's width
pub source_held : (theirs : List Field) (columns : List Column) (from : List ℕ) (places width : ℕ) (field : Field) (source : Option Column) → All (IsHeld from places) columns
    → source ≡ item_named theirs columns field.name → width ≡ seen_width theirs (map width_of columns) field → IfSome source (λ column. IsHeld from places column × (column.width ≡ width))
source_held theirs columns from places width field source held is wide =
    with_width from places width (null_width field.kind) source
    (subst (λ (o : Option Column). IfSome o (IsHeld from places)) (sym is) (named_all (IsHeld from places) columns (field_in theirs field.name) held))
    (wide ∙ width_for theirs columns field ∙ ap (λ (o : Option Column). unwrap_or (option_map width_of o) (null_width field.kind)) (sym is))

null_narrow : (kind : FieldKind) → null_width kind ≤ 2
null_narrow (FieldKind.Reference name) = omega arith
null_narrow FieldKind.Int = omega arith
null_narrow FieldKind.Long = omega arith
null_narrow FieldKind.Boolean = omega arith
null_narrow FieldKind.Text = omega arith
null_narrow FieldKind.Bytes = omega arith

narrow_or : (width kind_width : ℕ) (other : Option ℕ) → kind_width ≤ 2 → IfSome other (λ w. w ≤ 64) → width ≡ unwrap_or other kind_width → width ≤ 64
narrow_or width kind_width None small held is = omega (arith, is)
narrow_or width kind_width (Some w) small held is = omega (arith, is, held)

-- each width of the consumer has 64 bits at most
pub width_narrow : (theirs : List Field) (widths : List ℕ) (field : Field) → All (λ width. width ≤ 64) widths → seen_width theirs widths field ≤ 64
width_narrow theirs widths field narrow = narrow_or _ (null_width field.kind) (item_named theirs widths field.name) (null_narrow field.kind) (named_all (λ width. width ≤ 64) widths (field_in theirs field.name) narrow) refl

-- the columns' widths have 64 bits at most
columns_narrow : (from : List ℕ) (places : ℕ) (columns : List Column) → All (IsHeld from places) columns → All (λ width. width ≤ 64) (map width_of columns)
columns_narrow from places [] held = All-nil (λ width. width ≤ 64)
columns_narrow from places (column ∷ columns) held =
    let head = All-head (IsHeld from places) column columns held in
    All-cons (λ width. width ≤ 64) column.width (map width_of columns) head.narrow (columns_narrow from places columns (All-tail (IsHeld from places) column columns held))

-- ---- one column more

pub take_field : {X : Type 0} (xs : List X) (index : ℕ) (x : X) → slice_get xs index ≡ Some x → take (index + 1) xs ≡ take index xs ++ x ∷ []
take_field xs index x there =
    take_more xs index x (slice_get_within xs index x there) ∙ ap (λ y. take index xs ++ y ∷ []) (get_or_from_slice_get xs index x x there)

module _ (mine theirs : List Field) (columns : List Column) (from widths old to new : List ℕ) (places size before index width : ℕ) (field : Field) (source : Option Column)
    (at : width ≡ get_or widths index 0) (wide : widths ≡ seen_widths mine theirs (map width_of columns)) (whole : size ≡ sum widths) (there : slice_get mine index ≡ Some field)
    (so_far : PutSoFar mine theirs columns from widths old to places size before index) where
  pub inside : index < length widths
  inside = omega (arith, ap length wide, length-map mine (seen_width theirs (map width_of columns)), slice_get_within mine index field there)

  -- the width at the index is that of the field
  pub width_there : get_or widths index 0 ≡ seen_width theirs (map width_of columns) field
  width_there =
      get_or_from_slice_get widths index (seen_width theirs (map width_of columns) field) 0
      (ap (λ (ws : List ℕ). slice_get ws index) wide ∙ slice_get-map (seen_width theirs (map width_of columns)) mine index ∙ ap (option_map (seen_width theirs (map width_of columns))) there)

  pub ends_within : before + width ≤ size
  ends_within = let more = sum_by_more_le (λ (w : ℕ). w) widths index 0 inside in let sum_is = so_far.summed in omega (arith, more, sum_is, whole, at)

  pub summed_more : before + width ≡ sum (take (index + 1) widths)
  summed_more = let more = sum_by_more (λ (w : ℕ). w) widths index 0 inside in let sum_is = so_far.summed in omega (arith, more, sum_is, at)

  -- the column that is written lies within the words
  pub target_held : All (IsHeld from places) columns → places * sum widths ≤ 64 * length old → sum widths ≤ 2 ^ 17 → places ≤ 2 ^ 32
      → IsHeld to places (record { size = size; before = before; width = width })
  target_held held room few short =
      let small : sum widths ≤ 2 ^ 17 = few in
      let product : places * sum widths ≤ 2 ^ 32 * 2 ^ 17 = mul-le-mul short small in
      let same : places * size ≡ places * sum widths = ap (λ (n : ℕ). places * n) whole in
      let long = so_far.long in
      let narrow : width ≤ 64 = subst (λ (w : ℕ). w ≤ 64) (sym (at ∙ width_there)) (width_narrow theirs (map width_of columns) field (columns_narrow from places columns held)) in
      record { narrow = narrow; inside = ends_within; held = omega (arith, room, same, long); fits = omega (arith, product, same) }

  elements_more : (place : ℕ) → place < places
      → ((p at v : ℕ) → at + v ≤ before → element_of new (p * size + at) v ≡ element_of to (p * size + at) v)
      → column_element new place (record { size = size; before = before; width = width }) ≡ seen_element theirs (elements_in from place columns) field
      → elements_in new place (columns_from size 0 (take (index + 1) widths)) ≡ seen_elements (take (index + 1) mine) theirs (elements_in from place columns)
  elements_more place less earlier is =
      let sum_is = so_far.summed in
      let column : ℕ → Column = λ b. record { size = size; before = b; width = width } in
      ap (elements_in new place) (columns_more size widths index inside ∙ ap (λ (w : ℕ). columns_from size 0 (take index widths) ++ record { size = size; before = sum (take index widths); width = w } ∷ []) (sym at))
      ∙ map-append (column_element new place) (columns_from size 0 (take index widths)) (column (sum (take index widths)) ∷ [])
      ∙ ap (λ (b : ℕ). elements_in new place (columns_from size 0 (take index widths)) ++ column_element new place (column b) ∷ []) (sym sum_is)
      ∙ ap (λ (e : ℕ). elements_in new place (columns_from size 0 (take index widths)) ++ e ∷ []) is
      ∙ ap (λ (es : List ℕ). es ++ seen_element theirs (elements_in from place columns) field ∷ [])
      (same_elements to new place size 0 before (take index widths) (omega (arith, sum_is)) (λ a v within. earlier place a v within) ∙ so_far.put place less)
      ∙ sym (map-append (seen_element theirs (elements_in from place columns)) (take index mine) (field ∷ []))
      ∙ ap (λ (fields : List Field). seen_elements fields theirs (elements_in from place columns)) (sym (take_field mine index field there))

  pub put_more : ((place : ℕ) → place < places → column_element new place (record { size = size; before = before; width = width }) ≡ element_or from place source (2 ^ width - 1))
      → source ≡ item_named theirs columns field.name
      → ((p at v : ℕ) → at + v ≤ before → element_of new (p * size + at) v ≡ element_of to (p * size + at) v)
      → ((at v : ℕ) → places * size ≤ at → element_of new at v ≡ element_of to at v) → length new ≡ length to
      → PutSoFar mine theirs columns from widths old new places size (before + width) (index + 1)
  put_more put is earlier behind long = record {
    summed = summed_more;
    put = λ place less. elements_more place less earlier (put place less ∙ element_for theirs columns from place width field source is (at ∙ width_there));
    behind = λ at v from_there. behind at v from_there ∙ so_far.behind at v from_there;
    long = long ∙ so_far.long;
  }

-- all columns are written
pub put_all : (mine theirs : List Field) (columns : List Column) (from widths old to : List ℕ) (places size before index : ℕ) → widths ≡ seen_widths mine theirs (map width_of columns)
    → length mine ≤ index → PutSoFar mine theirs columns from widths old to places size before index → (place : ℕ) → place < places
    → elements_in to place (columns_from size 0 widths) ≡ seen_elements mine theirs (elements_in from place columns)
put_all mine theirs columns from widths old to places size before index wide done so_far place less =
    let long : length widths ≡ length mine = ap length wide ∙ length-map mine (seen_width theirs (map width_of columns)) in
    ap (λ (ws : List ℕ). elements_in to place (columns_from size 0 ws)) (sym (take_all index widths (omega (arith, long, done))))
    ∙ so_far.put place less
    ∙ ap (λ (fields : List Field). seen_elements fields theirs (elements_in from place columns)) (take_all index mine done)
