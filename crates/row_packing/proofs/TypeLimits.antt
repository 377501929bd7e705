-- Lemmas on the limits of a type: what is counted of its items and bytes, and of its words as they are laid out.
use Rattle.std.proofs.Common.{◌≡◌, ℕ, ◌+◌, ◌-◌, ◌^◌, ◌<◌, ◌≤◌, max, min, inr, List, [], ◌∷◌, ◌++◌, Option, Some, None, refl, ap, ◌∙◌, subst, arith, append-nil}
use Rattle.std.specs.Prelude.{All, is_some, sum_by}
use Rattle.std.specs.FinMap.{get}
use Rattle.std.proofs.lemmas.List.Sums.{sum_by-cons}
use Rattle.row_model.specs.Table.{Table, row_at}
use Rattle.row_model.specs.declared.row.Row.{Row}
use Rattle.schema_model.specs.declared.schema.Shape.{Shape}
use Rattle.row_model.specs.BothStates.{rows_in, rows_added, rows_from, rows_of_both}
use Rattle.row_model.proofs.RowsFrom.{rows_past, added_none, added_live}
use Rattle.object_codec.specs.Widths.{live_rows, bytes_for}
use Rattle.type_rows.specs.Layout.{items_of_row, item_count, fixed_words}
use Rattle.row_packing.specs.declared.chosen.Chosen.{Chosen}
use Rattle.row_packing.specs.Chosen.{IsLiveInEither, IsGreatestOrdinal, chosen_total, IsRowOf, KeepsCounts, IsChosen}
use Rattle.row_packing.specs.Places.{Agree}
use Rattle.row_packing.specs.TypeLimit.{KeepsItems, KeepsBytes, KeepsWords, chosen_layout}
use Rattle.row_packing.proofs.EitherWay.{all_back}
use Rattle.row_packing.proofs.Greatest.{all_left, sum_typed}
use Rattle.row_packing.proofs.FitsBoth.{item_elements, set_items, map_items}
use Rattle.row_packing.proofs.RowBytes.{rows_count}
use Rattle.row_packing.proofs.RowsUnder.{sum_new, sum_old}

-- ---- items

pub sum_zero : (rows : List Row) → sum_by (λ row. 0) rows ≡ 0
sum_zero [] = refl
sum_zero (row ∷ rows) = omega (arith, sum_by-cons (λ (r : Row). 0) row rows, sum_zero rows)

-- the total of some rows is the number of their items, up to one more than the limit
total_items : (shape : Shape) (rows : List Row) → All (IsRowOf shape) rows → chosen_total shape rows ≡ min (item_count rows) (2 ^ 25 + 1)
total_items (Shape.Object key fields) rows all =
    let none = sum_typed (IsRowOf (Shape.Object key fields)) items_of_row (λ row. 0) rows here all ∙ sum_zero rows in omega (arith, none)
  where
    here : (row : Row) → IsRowOf (Shape.Object key fields) row → items_of_row row ≡ 0
    here (Row.Object values) is = refl
    here (Row.List ordinals) is = absurd is.0
    here (Row.Set ordinals) is = absurd is.0
    here (Row.Map pairs) is = absurd is.0
total_items (Shape.List element) rows all = omega (arith, item_elements element rows all)
total_items (Shape.Set element) rows all = omega (arith, set_items element rows all)
total_items (Shape.Map key value) rows all = omega (arith, map_items key value rows all)

-- the rows of a state and of itself are its rows
pub both_same : (table : Table) (type_index : ℕ) → rows_of_both table table type_index ≡ live_rows table type_index
both_same table type_index =
    ap (λ (rows : List Row). rows_from 0 (rows_in table type_index) ++ rows) (rows_past (rows_added table table type_index) 0 (λ ordinal from. none_added ordinal (row_at table type_index ordinal) refl))
    ∙ append-nil (rows_from 0 (rows_in table type_index))
  where
    none_added : (ordinal : ℕ) (row : Option Row) → row_at table type_index ordinal ≡ row → get (rows_added table table type_index) ordinal ≡ None
    none_added ordinal None is = added_none table table type_index ordinal is
    none_added ordinal (Some row) is = added_live table table type_index ordinal (ap is_some is)

-- the items of rows whose total keeps the limit, as they are counted
pub rows_items : (shape : Shape) (rows : List Row) (items : ℕ) → All (IsRowOf shape) rows → item_count rows ≤ 2 ^ 25 → items ≡ chosen_total shape rows → items ≡ item_count rows
rows_items shape rows items all few is = omega (arith, is, total_items shape rows all, few)

module _ (shape : Shape) (old new : Table) (type_index : ℕ) (agree : Agree old new type_index)
    (below : (ordinal : ℕ) → IsLiveInEither old new type_index ordinal → ordinal < 2 ^ 22) (all : All (IsRowOf shape) (rows_of_both old new type_index)) (keeps : KeepsItems shape old new type_index) where
  both_items : item_count (rows_of_both old new type_index) ≤ 2 ^ 25
  both_items = omega (arith, keeps, total_items shape (rows_of_both old new type_index) all)

  -- the items of either state, as they are counted
  pub old_items : (items : ℕ) → items ≡ chosen_total shape (live_rows old type_index) → items ≡ item_count (live_rows old type_index)
  old_items items is =
      rows_items shape (live_rows old type_index) items (all_left (IsRowOf shape) (live_rows old type_index) _ all) (omega (arith, both_items, sum_old items_of_row old new type_index)) is

  pub new_items : (items : ℕ) → items ≡ chosen_total shape (live_rows new type_index) → items ≡ item_count (live_rows new type_index)
  new_items items is =
      rows_items shape (live_rows new type_index) items (all_left (IsRowOf shape) (live_rows new type_index) _ (all_back old new type_index agree (IsRowOf shape) all))
      (omega (arith, both_items, sum_new items_of_row old new type_index (2 ^ 22) agree (λ ordinal row at. below ordinal (inr (ap is_some at))))) is

-- ---- bytes

pub bytes_kept : (old new : Table) (type_index old_bytes new_bytes : ℕ) → old_bytes ≡ bytes_for (live_rows old type_index) → new_bytes ≡ bytes_for (live_rows new type_index)
    → max old_bytes new_bytes ≤ 2 ^ 25 → KeepsBytes old new type_index
bytes_kept old new type_index old_bytes new_bytes was is few =
    (omega (arith, was, few, rows_count (live_rows old type_index)), omega (arith, is, few, rows_count (live_rows new type_index)))

pub bytes_passed : (old new : Table) (type_index old_bytes new_bytes : ℕ) → old_bytes ≡ bytes_for (live_rows old type_index) → new_bytes ≡ bytes_for (live_rows new type_index)
    → 2 ^ 25 < max old_bytes new_bytes → KeepsBytes old new type_index → ⊥
bytes_passed old new type_index old_bytes new_bytes was is many keeps =
    omega (arith, was, is, many, rows_count (live_rows old type_index), rows_count (live_rows new type_index), keeps.0, keeps.1)

-- what is kept before the layout is chosen
pub counts_kept : (shape : Shape) (old new : Table) (type_index : ℕ) → ((ordinal : ℕ) → IsLiveInEither old new type_index ordinal → ordinal < 2 ^ 22) → KeepsItems shape old new type_index
    → KeepsBytes old new type_index → KeepsCounts shape old new type_index
counts_kept shape old new type_index below items bytes = record { ordinals = below; items = items; old_bytes = bytes.0; new_bytes = bytes.1 }

-- ---- words

greatest_one : (old new : Table) (type_index : ℕ) (a b : Option ℕ) → IsGreatestOrdinal old new type_index a → IsGreatestOrdinal old new type_index b → a ≡ b
greatest_one old new type_index None None first second = refl
greatest_one old new type_index None (Some b) first second = absurd (first b second.0)
greatest_one old new type_index (Some a) None first second = absurd (second a first.0)
greatest_one old new type_index (Some a) (Some b) first second = let same : a ≡ b = omega (arith, first.1 b second.0, second.1 a first.0) in ap Some same

module _ (shape : Shape) (old new : Table) (type_index : ℕ) (chosen : Chosen) (is : IsChosen shape old new type_index chosen) (old_words new_words : ℕ)
    (was : old_words ≡ fixed_words shape (record { max = chosen.max; widths = chosen.widths }) (live_rows old type_index))
    (now : new_words ≡ fixed_words shape (record { max = chosen.max; widths = chosen.widths }) (live_rows new type_index)) where
  words_was : old_words ≡ fixed_words shape (chosen_layout shape old new type_index chosen.max) (live_rows old type_index)
  words_was = was ∙ ap (λ (widths : List ℕ). fixed_words shape (record { max = chosen.max; widths = widths }) (live_rows old type_index)) is.widths

  words_now : new_words ≡ fixed_words shape (chosen_layout shape old new type_index chosen.max) (live_rows new type_index)
  words_now = now ∙ ap (λ (widths : List ℕ). fixed_words shape (record { max = chosen.max; widths = widths }) (live_rows new type_index)) is.widths

  pub words_kept : max old_words new_words ≤ 2 ^ 22 → KeepsWords shape old new type_index
  words_kept few most greatest =
      subst (λ (m : Option ℕ). (fixed_words shape (chosen_layout shape old new type_index m) (live_rows old type_index) ≤ 2 ^ 22) × (fixed_words shape (chosen_layout shape old new type_index m) (live_rows new type_index) ≤ 2 ^ 22))
      (greatest_one old new type_index chosen.max most is.max greatest) (omega (arith, words_was, few), omega (arith, words_now, few))

  pub words_passed : 2 ^ 22 < max old_words new_words → KeepsWords shape old new type_index → ⊥
  words_passed many keeps =
      let both = keeps chosen.max is.max in
      omega (arith, words_was, words_now, many, both.0, both.1)
