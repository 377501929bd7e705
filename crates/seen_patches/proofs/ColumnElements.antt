-- Columns of records and their elements.
use Rattle.std.proofs.Common.{◌≡◌, ℕ, ◌+◌, ◌*◌, ◌^◌, ◌<◌, ◌≤◌, List, [], ◌∷◌, ◌++◌, length, map, sum, take, get_or, suc, Option, None, Some, refl, sym, ap, ◌∙◌, arith}
use Rattle.std.specs.Prelude.{All, option_and_then, option_map, slice_get, unwrap_or}
use Rattle.std.proofs.lemmas.List.{take_more}
use Rattle.std.proofs.Math.Nat.{mul-le-mul}
use Rattle.std.proofs.lemmas.List.Elements.{All-cons, All-head, All-nil, All-tail}
use Rattle.std.proofs.lemmas.List.Sums.{sum_by-cons, sum_by_more}
use Rattle.std.proofs.lemmas.Option.{slice_get-map}
use Rattle.bit_array.specs.Element.{element_of}
use Rattle.schema_model.specs.declared.schema.Field.{Field}
use Rattle.seen_patches.specs.declared.column.Column.{Column}
use Rattle.seen_patches.specs.ByName.{field_in, item_named}
use Rattle.seen_patches.specs.Elements.{IsHeld, columns_from, column_element, element_or, elements_in}

pub sum-cons : (width : ℕ) (widths : List ℕ) → sum (width ∷ widths) ≡ width + sum widths
sum-cons width widths = sum_by-cons (λ (w : ℕ). w) width widths

-- one column more
columns_push : (size before : ℕ) (widths : List ℕ) (width : ℕ)
    → columns_from size before (widths ++ width ∷ []) ≡ columns_from size before widths ++ record { size = size; before = before + sum widths; width = width } ∷ []
columns_push size before [] width = let none : before ≡ before + 0 = omega arith in ap (λ (b : ℕ). record { size = size; before = b; width = width } ∷ []) none
columns_push size before (first ∷ widths) width =
    let e : before + first + sum widths ≡ before + sum (first ∷ widths) = omega (arith, sum-cons first widths) in
    ap (λ (columns : List Column). record { size = size; before = before; width = first } ∷ columns)
    (columns_push size (before + first) widths width ∙ ap (λ (b : ℕ). columns_from size (before + first) widths ++ record { size = size; before = b; width = width } ∷ []) e)

pub columns_more : (size : ℕ) (widths : List ℕ) (index : ℕ) → index < length widths
    → columns_from size 0 (take (index + 1) widths) ≡ columns_from size 0 (take index widths) ++ record { size = size; before = sum (take index widths); width = get_or widths index 0 } ∷ []
columns_more size widths index inside =
    let none : 0 + sum (take index widths) ≡ sum (take index widths) = omega arith in
    ap (columns_from size 0) (take_more widths index 0 inside)
    ∙ columns_push size 0 (take index widths) (get_or widths index 0)
    ∙ ap (λ (b : ℕ). columns_from size 0 (take index widths) ++ record { size = size; before = b; width = get_or widths index 0 } ∷ []) none

-- columns whose bits are the same have the same elements
pub same_elements : (old new : List ℕ) (place size before limit : ℕ) (widths : List ℕ) → before + sum widths ≤ limit
    → ((at v : ℕ) → at + v ≤ limit → element_of new (place * size + at) v ≡ element_of old (place * size + at) v)
    → elements_in new place (columns_from size before widths) ≡ elements_in old place (columns_from size before widths)
same_elements old new place size before limit [] within same = refl
same_elements old new place size before limit (width ∷ widths) within same =
    let whole = sum-cons width widths in
    ap (λ (element : ℕ). element ∷ elements_in new place (columns_from size (before + width) widths)) (same before width (omega arith))
    ∙ ap (λ (rest : List ℕ). element_of old (place * size + before) width ∷ rest) (same_elements old new place size (before + width) limit widths (omega arith) same)

-- what stands for a name in a list that is made of another one item by item
pub named_map : {A B : Type 0} (f : A → B) (fields : List Field) (items : List A) (name : List ℕ) → item_named fields (map f items) name ≡ option_map f (item_named fields items name)
named_map f fields items name = elim (field_in fields name) as (λ o. option_and_then (slice_get (map f items)) o ≡ option_map f (option_and_then (slice_get items) o)) [
  | None ↦ refl
  | Some index ↦ slice_get-map f items index
]

pub unwrapped : (words : List ℕ) (place : ℕ) (source : Option Column) (other : ℕ) → element_or words place source other ≡ unwrap_or (option_map (column_element words place) source) other
unwrapped words place None other = refl
unwrapped words place (Some column) other = refl

-- the columns up to a width, with it
pub columns_step : (size before : ℕ) (widths : List ℕ) (index : ℕ) (columns : List Column) → index < length widths → columns ≡ columns_from size 0 (take index widths) → before ≡ sum (take index widths)
    → (columns ++ record { size = size; before = before; width = get_or widths index 0 } ∷ [] ≡ columns_from size 0 (take (index + 1) widths)) × (before + get_or widths index 0 ≡ sum (take (index + 1) widths))
columns_step size before widths index columns inside so_far summed =
    let more = sum_by_more (λ (w : ℕ). w) widths index 0 inside in (
      ap (λ (cs : List Column). cs ++ record { size = size; before = before; width = get_or widths index 0 } ∷ []) so_far
          ∙ ap (λ (b : ℕ). columns_from size 0 (take index widths) ++ record { size = size; before = b; width = get_or widths index 0 } ∷ []) summed
          ∙ sym (columns_more size widths index inside),
      omega (arith, more, summed),
    )

pub columns_long : (size before : ℕ) (widths : List ℕ) → length (columns_from size before widths) ≡ length widths
columns_long size before [] = refl
columns_long size before (width ∷ widths) = ap suc (columns_long size (before + width) widths)

pub columns_widths : (size before : ℕ) (widths : List ℕ) → map (λ (column : Column). column.width) (columns_from size before widths) ≡ widths
columns_widths size before [] = refl
columns_widths size before (width ∷ widths) = ap (λ (ws : List ℕ). width ∷ ws) (columns_widths size (before + width) widths)

each_held : (words : List ℕ) (places size before : ℕ) (widths : List ℕ) → All (λ width. width ≤ 64) widths → before + sum widths ≤ size → places * size ≤ 64 * length words → places * size < 2 ^ 64
    → All (IsHeld words places) (columns_from size before widths)
each_held words places size before [] narrow within held fits = All-nil (IsHeld words places)
each_held words places size before (width ∷ widths) narrow within held fits =
    let whole = sum-cons width widths in
    let head = All-head (λ w. w ≤ 64) width widths narrow in
    All-cons (IsHeld words places) (record { size = size; before = before; width = width }) (columns_from size (before + width) widths)
    (record { narrow = head; inside = omega (arith, whole, within); held = held; fits = fits })
    (each_held words places size (before + width) widths (All-tail (λ w. w ≤ 64) width widths narrow) (omega (arith, whole, within)) held fits)

-- the columns of a blob's records lie within its words
pub columns_held : (words : List ℕ) (places : ℕ) (widths : List ℕ) → All (λ width. width ≤ 64) widths → sum widths ≤ 2 ^ 16 → places ≤ 2 ^ 32 → places * sum widths ≤ 64 * length words
    → All (IsHeld words places) (columns_from (sum widths) 0 widths)
columns_held words places widths narrow small few held =
    let product : places * sum widths ≤ 2 ^ 32 * 2 ^ 16 = mul-le-mul few small in
    each_held words places (sum widths) 0 widths narrow (omega arith) held (omega (arith, product))
