-- What rows that leave take off, told where they stand packed.
use Rattle.std.proofs.Common.{◌≡◌, ℕ, zero, suc, ◌+◌, ◌-◌, ◌*◌, ◌^◌, ◌<◌, ◌≤◌, min, List, [], ◌∷◌, ◌++◌, length, get_or, set, take, Option, None, Some, refl, sym, ap, subst, ◌∙◌, arith}
use Rattle.std.specs.Prelude.{IsSome, slice_get, slice_index, sum_by}
use Rattle.std.specs.FinMap.{get}
use Rattle.std.proofs.lemmas.List.{length-append, length-map, take_all}
use Rattle.std.proofs.lemmas.List.FromFn.{length-map-range_with_len}
use Rattle.std.proofs.lemmas.List.Sums.{sum_by_more}
use Rattle.std.proofs.lemmas.Option.{get_or_from_slice_get}
use Rattle.bit_array.specs.Element.{element_of}
use Rattle.schema_model.specs.declared.schema.Field.{Field}
use Rattle.schema_model.specs.declared.schema.FieldKind.{FieldKind}
use Rattle.schema_model.specs.declared.schema.Shape.{Shape}
use Rattle.row_model.specs.declared.row.Row.{Row}
use Rattle.row_model.specs.declared.row.Value.{Value}
use Rattle.row_model.specs.Table.{RowMap}
use Rattle.object_codec.specs.Bytes.{bytes_of}
use Rattle.object_codec.specs.Columns.{Shows, part_of}
use Rattle.object_codec.specs.Packing.{HasBytes}
use Rattle.object_codec.specs.Part.{FieldPart, SpellsValue}
use Rattle.object_codec.specs.Stored.{values_of_row}
use Rattle.object_codec.specs.declared.bytes.PackedBytes.{PackedBytes}
use Rattle.object_codec.specs.declared.column.Column.{Column}
use Rattle.object_codec.specs.declared.value_ref.ValueRef.{ValueRef}
use Rattle.list_codec.specs.ListPlace.{end_at as list_end, start_at as list_start}
use Rattle.bucket_codec.specs.BucketCount.{bucket_count}
use Rattle.bucket_codec.specs.BucketPlace.{size_at}
use Rattle.column_rows.specs.Items.{IsListThere, IsOfPairs, IsRunThere}
use Rattle.column_rows.specs.declared.items.PackedItems.{PackedItems}
use Rattle.type_rows.specs.declared.totals.Totals.{Totals}
use Rattle.type_rows.specs.Ends.{AreOfKind, IsOfKind, end_before}
use Rattle.type_rows.specs.Layout.{items_of_row}
use Rattle.type_rows.specs.Totals.{AreLess, HasParts}
use Rattle.type_rows.specs.WordsHeld.{part_bytes, row_bytes, value_bytes}
use Rattle.type_rows.proofs.Takings.{Taking, all_taken, begun as begun_taking, taken_more}
use Rattle.column_rows.specs.OneType.{AreListsIn, AreRunsIn, IsColumnIn, IsRowsBound}
use Rattle.type_state.specs.Leaving.{AreColumns, AreStanding, HasColumns, HasItems, StandsIn}
use Rattle.type_state.specs.declared.leaving.Items.{Items}
use Rattle.type_state.specs.declared.leaving.Leaving.{Leaving}

-- ---- the bytes of a value

bytes_long : (bytes : PackedBytes) → length (bytes_of bytes) ≡ bytes.len
bytes_long bytes = length-map-range_with_len (λ index. element_of bytes.words.now (index * 8) 8) bytes.start bytes.len

pub text_long : (bytes : PackedBytes) (value : Value) → Shows (ValueRef.Text bytes) value → bytes.len ≡ value_bytes value
text_long bytes (Value.Text units) shows = sym (bytes_long bytes) ∙ ap (λ (xs : List ℕ). length xs) shows.1
text_long bytes Value.Null shows = absurd shows
text_long bytes (Value.Int n) shows = absurd shows
text_long bytes (Value.Long n) shows = absurd shows
text_long bytes (Value.Bool n) shows = absurd shows
text_long bytes (Value.Bytes n) shows = absurd shows
text_long bytes (Value.Ref n) shows = absurd shows

pub run_long : (bytes : PackedBytes) (value : Value) → Shows (ValueRef.Bytes bytes) value → bytes.len ≡ value_bytes value
run_long bytes (Value.Bytes run) shows = sym (bytes_long bytes) ∙ ap (λ (xs : List ℕ). length xs) shows
run_long bytes Value.Null shows = absurd shows
run_long bytes (Value.Int n) shows = absurd shows
run_long bytes (Value.Long n) shows = absurd shows
run_long bytes (Value.Bool n) shows = absurd shows
run_long bytes (Value.Text n) shows = absurd shows
run_long bytes (Value.Ref n) shows = absurd shows

pub no_bytes : (kind : FieldKind) (part : FieldPart) (value : Value) → (HasBytes kind → ⊥) → SpellsValue kind part value → 0 ≡ value_bytes value
no_bytes FieldKind.Text part value none spells = absurd (none tt)
no_bytes FieldKind.Bytes part value none spells = absurd (none tt)
no_bytes (FieldKind.Reference name) part Value.Null none spells = refl
no_bytes (FieldKind.Reference name) part (Value.Ref o) none spells = refl
no_bytes (FieldKind.Reference name) part _ none spells = absurd spells
no_bytes FieldKind.Int part Value.Null none spells = refl
no_bytes FieldKind.Int part (Value.Int n) none spells = refl
no_bytes FieldKind.Int part _ none spells = absurd spells
no_bytes FieldKind.Long part Value.Null none spells = refl
no_bytes FieldKind.Long part (Value.Long n) none spells = refl
no_bytes FieldKind.Long part _ none spells = absurd spells
no_bytes FieldKind.Boolean part Value.Null none spells = refl
no_bytes FieldKind.Boolean part (Value.Bool b) none spells = refl
no_bytes FieldKind.Boolean part _ none spells = absurd spells

-- ---- the bytes of a record

-- The values below an index are taken off, and counted.
pub record TakingBy (columns : List Column) (place : ℕ) (ends now : List ℕ) (bytes index : ℕ) : Type 0 where
  pub taken : (values : List Value) → HasColumns columns place values → Taking values ends now index
  pub counted : (values : List Value) → HasColumns columns place values → bytes ≡ min (sum_by value_bytes (take index values)) (2 ^ 64 - 1)

pub begun : (columns : List Column) (place : ℕ) (ends : List ℕ) → TakingBy columns place ends ends 0 0
begun columns place ends = record { taken = λ values has. begun_taking values ends; counted = λ values has. refl }

pub one_more : (columns : List Column) (place : ℕ) (ends now : List ℕ) (bytes index : ℕ) (column : Column) (len end after : ℕ) → TakingBy columns place ends now bytes index → index < length columns → length columns ≤ length ends
    → slice_get columns index ≡ Some column → len < 2 ^ 64 → ((value : Value) → SpellsValue column.kind.now (part_of column place) value → len ≡ value_bytes value) → get_or now index 0 < 2 ^ 64 → end ≡ get_or now index 0 - len → after ≡ min (bytes + len) (2 ^ 64 - 1)
    → TakingBy columns place ends (set now index end) after (index + 1)
one_more columns place ends now bytes index column len end after t inside enough is few own small less sum = record {
  taken = λ values has.
      (let there = has.each index column is in
      let counts : len ≡ value_bytes there.0 = own there.0 there.2.spells in
      let same : get_or values index there.0 ≡ there.0 = get_or_from_slice_get values index there.0 there.0 there.1 in
      let long = has.long in
      taken_more values ends now index there.0 len end (t.taken values has) (omega (arith, long, inside)) (omega (arith, long, enough)) (sym same) small (omega (arith, counts, few)) less);
  counted = λ values has.
      (let there = has.each index column is in
      let counts : len ≡ value_bytes there.0 = own there.0 there.2.spells in
      let same : get_or values index there.0 ≡ there.0 = get_or_from_slice_get values index there.0 there.0 there.1 in
      let long = has.long in
      let more = sum_by_more value_bytes values index there.0 (omega (arith, long, inside)) in
      let here = ap value_bytes same in
      let before = t.counted values has in
      omega (arith, more, here, before, counts, sum));
}

pub ends_taken : (columns : List Column) (place : ℕ) (ends now : List ℕ) (bytes index : ℕ) → TakingBy columns place ends now bytes index → length columns ≤ index → (values : List Value) → HasColumns columns place values → (field : ℕ) → slice_index now field ≡ end_before ends values field
ends_taken columns place ends now bytes index t over values has field = let long = has.long in all_taken values ends now index (t.taken values has) (omega (arith, long, over)) field

pub bytes_taken : (columns : List Column) (place : ℕ) (ends now : List ℕ) (bytes index : ℕ) → TakingBy columns place ends now bytes index → length columns ≤ index → (values : List Value) → HasColumns columns place values → bytes ≡ min (sum_by value_bytes values) (2 ^ 64 - 1)
bytes_taken columns place ends now bytes index t over values has =
    let long = has.long in t.counted values has ∙ ap (λ (xs : List Value). min (sum_by value_bytes xs) (2 ^ 64 - 1)) (take_all index values (omega (arith, long, over)))

-- ---- items

pub list_counted : (items : PackedItems) (place at : ℕ) (row : Row) (len : ℕ) → at ≡ place → IsListThere items place row → len ≡ list_end items.widths.now items.first.now at - list_start items.widths.now items.first.now at → len ≡ items_of_row row
list_counted items place at row len same there told =
    let is = subst (λ n. len ≡ list_end items.widths.now items.first.now n - list_start items.widths.now items.first.now n) same told in
    let many = ap (λ (xs : List ℕ). length xs) there.3.are in
    let count = length-map-range_with_len (λ index. element_of items.second.now (index * slice_index items.widths.now 1) (slice_index items.widths.now 1)) (list_start items.widths.now items.first.now place)
    (list_end items.widths.now items.first.now place - list_start items.widths.now items.first.now place) in
    let here = ap items_of_row there.1 in
    omega (arith, is, many, count, here)

-- The items of a set or map of pairs.
of_pairs : (row : Row) (pairs : List (ℕ × ℕ)) → HasParts 0 row → IsOfPairs row pairs → (length pairs < 2 ^ 32) × (items_of_row row ≡ bucket_count (length pairs))
of_pairs (Row.Set ordinals) pairs few is =
    let same : length ordinals ≡ length pairs = ap (λ (xs : List ℕ). length xs) is ∙ length-map pairs (λ (pair : ℕ × ℕ). pair.0) in (omega (arith, few, same), ap bucket_count same)
of_pairs (Row.Map entries) pairs few is =
    let same : length entries ≡ length pairs = ap (λ (xs : List (ℕ × ℕ)). length xs) is in (omega (arith, few, same), ap bucket_count same)
of_pairs (Row.Object values) pairs few is = absurd is
of_pairs (Row.List ordinals) pairs few is = absurd is

pub run_small : (items : PackedItems) (place at : ℕ) (row : Row) (size : ℕ) → at ≡ place → HasParts 0 row → IsRunThere items place row → size ≡ size_at items.widths.now items.first.now at → size < 2 ^ 32
run_small items place at row size same parts there told =
    let is = subst (λ n. size ≡ size_at items.widths.now items.first.now n) same told in
    let told = of_pairs row there.0 parts there.1 in
    let sized = there.3.sized in
    omega (arith, told.0, is, sized)

pub run_counted : (items : PackedItems) (place at : ℕ) (row : Row) (size count : ℕ) → at ≡ place → HasParts 0 row → IsRunThere items place row → size ≡ size_at items.widths.now items.first.now at → count ≡ bucket_count size → count ≡ items_of_row row
run_counted items place at row size count same parts there told counted =
    let is = subst (λ n. size ≡ size_at items.widths.now items.first.now n) same told in
    let told = of_pairs row there.0 parts there.1 in
    let long : size ≡ length there.0 = is ∙ there.3.sized in
    counted ∙ ap bucket_count long ∙ sym told.1

-- ---- a row

by_values : (row : Row) (field : ℕ) (ends : List ℕ) → end_before ends (values_of_row row) field ≡ slice_index ends field - part_bytes field row
by_values (Row.Object values) field ends = refl
by_values (Row.List ordinals) field ends = refl
by_values (Row.Set ordinals) field ends = refl
by_values (Row.Map pairs) field ends = refl

sum_values : (row : Row) → sum_by value_bytes (values_of_row row) ≡ row_bytes row
sum_values (Row.Object values) = refl
sum_values (Row.List ordinals) = refl
sum_values (Row.Set ordinals) = refl
sum_values (Row.Map pairs) = refl

pub row_less : (before after : Totals) (row : Row) (bytes items : ℕ) → before.bytes < 2 ^ 64 → ((field : ℕ) → slice_index after.ends.offsets.items field ≡ end_before before.ends.offsets.items (values_of_row row) field) → bytes ≡ min (sum_by value_bytes (values_of_row row)) (2 ^ 64 - 1)
    → items ≡ items_of_row row → after.bytes ≡ before.bytes - bytes → after.ends.items ≡ before.ends.items - items → length after.ends.offsets.items ≡ length before.ends.offsets.items → AreLess before (Some row) after
row_less before after row bytes items small ends counted many less fewer long =
    let sums = sum_values row in
    record {
      ends = λ field. ends field ∙ by_values row field before.ends.offsets.items;
      items = omega (arith, many, fewer);
      bytes = omega (arith, small, counted, less, sums);
      long = long;
    }

-- What is told of a slice of the columns at a place is told of the columns under an ordinal.
pub taken_off : (columns slice : List Column) (ordinal place : ℕ) (row : Row) (old_ends new_ends offsets : List ℕ) (bytes : ℕ) → slice ≡ columns → place ≡ ordinal → old_ends ≡ offsets
    → ((values : List Value) → HasColumns slice place values → (field : ℕ) → slice_index new_ends field ≡ end_before old_ends values field) → ((values : List Value) → HasColumns slice place values → bytes ≡ min (sum_by value_bytes values) (2 ^ 64 - 1))
    → HasColumns columns ordinal (values_of_row row) → ((field : ℕ) → slice_index new_ends field ≡ end_before offsets (values_of_row row) field) × (bytes ≡ min (sum_by value_bytes (values_of_row row)) (2 ^ 64 - 1))
taken_off columns slice ordinal place row old_ends new_ends offsets bytes same there before ends counted has =
    let here = subst (λ (cs : List Column). HasColumns cs place (values_of_row row)) (sym same) (subst (λ n. HasColumns columns n (values_of_row row)) (sym there) has) in
    (λ field. ends (values_of_row row) here field ∙ ap (λ (es : List ℕ). end_before es (values_of_row row) field) before, counted (values_of_row row) here)

-- ---- what stands

no_values : (shape : Shape) (row : Row) → IsOfKind shape row → ((key : Option (List (List ℕ))) (fields : List Field) → shape ≡ Shape.Object key fields → ⊥) → values_of_row row ≡ []
no_values (Shape.Object key fields) row kind other = absurd (other key fields refl)
no_values (Shape.List element) (Row.List ordinals) kind other = refl
no_values (Shape.List element) _ kind other = absurd kind
no_values (Shape.Set element) (Row.Set ordinals) kind other = refl
no_values (Shape.Set element) _ kind other = absurd kind
no_values (Shape.Map key value) (Row.Map pairs) kind other = refl
no_values (Shape.Map key value) _ kind other = absurd kind

no_columns : (place : ℕ) (values : List Value) → values ≡ [] → HasColumns [] place values
no_columns place values none = record { long = ap (λ (vs : List Value). length vs) none; each = λ index column is. absurd cc }

pub lists_stand : (shape : Shape) (rows : RowMap) (items : PackedItems) (leaving : Leaving) → AreOfKind shape rows → ((key : Option (List (List ℕ))) (fields : List Field) → shape ≡ Shape.Object key fields → ⊥) → AreListsIn rows items
    → leaving.columns.items ≡ [] → leaving.items ≡ Items.Lists items → AreStanding rows leaving
lists_stand shape rows items leaving kinds other are none is ordinal row at = (
  subst (λ (cs : List Column). HasColumns cs ordinal (values_of_row row)) (sym none) (no_columns ordinal (values_of_row row) (no_values shape row (kinds ordinal row at) other)),
  subst (λ (i : Items). HasItems i ordinal row) (sym is) (are ordinal row at),
)

few_parts : (shape : Shape) (row : Row) → IsOfKind shape row → values_of_row row ≡ [] → HasParts 0 row
few_parts (Shape.Object key fields) (Row.Object values) kind none = let l = ap (λ (vs : List Value). length vs) none in omega (arith, l)
few_parts (Shape.Object key fields) _ kind none = absurd kind
few_parts (Shape.List element) (Row.List ordinals) kind none = tt
few_parts (Shape.List element) _ kind none = absurd kind
few_parts (Shape.Set element) (Row.Set ordinals) kind none = kind
few_parts (Shape.Set element) _ kind none = absurd kind
few_parts (Shape.Map key value) (Row.Map pairs) kind none = kind
few_parts (Shape.Map key value) _ kind none = absurd kind

pub runs_stand : (shape : Shape) (rows : RowMap) (items : PackedItems) (leaving : Leaving) → AreOfKind shape rows → ((key : Option (List (List ℕ))) (fields : List Field) → shape ≡ Shape.Object key fields → ⊥) → AreRunsIn rows items
    → leaving.columns.items ≡ [] → leaving.items ≡ Items.Runs items → AreStanding rows leaving
runs_stand shape rows items leaving kinds other are none is ordinal row at =
    let empty = no_values shape row (kinds ordinal row at) other in (
      subst (λ (cs : List Column). HasColumns cs ordinal (values_of_row row)) (sym none) (no_columns ordinal (values_of_row row) empty),
      subst (λ (i : Items). HasItems i ordinal row) (sym is) (few_parts shape row (kinds ordinal row at) empty, are ordinal row at),
    )

pub none_stand : (rows : RowMap) (leaving : Leaving) (bound : ℕ) → IsRowsBound rows bound → bound ≡ 0 → AreStanding rows leaving
none_stand rows leaving bound is none ordinal row at = let above = is.above ordinal (some_there (get rows ordinal) row at) in absurd (omega (arith, above, none))
  where
    some_there : (o : Option Row) (x : Row) → o ≡ Some x → IsSome o
    some_there None x e = absurd cc
    some_there (Some y) x e = refl

-- The items of records are none.
records_kind : (fields : List Field) (key : Option (List (List ℕ))) (row : Row) → IsOfKind (Shape.Object key fields) row → (length (values_of_row row) ≡ length fields) × (items_of_row row ≡ 0)
records_kind fields key (Row.Object values) kind = (kind, refl)
records_kind fields key (Row.List ordinals) kind = absurd kind
records_kind fields key (Row.Set ordinals) kind = absurd kind
records_kind fields key (Row.Map pairs) kind = absurd kind

pub records_stand : (shape : Shape) (key : Option (List (List ℕ))) (fields fs : List Field) (rows : RowMap) (columns : List Column) (leaving : Leaving) → shape ≡ Shape.Object key fields → fs ≡ fields → AreOfKind shape rows → AreColumns rows columns (length fs)
    → leaving.columns.items ≡ columns → leaving.items ≡ Items.None → AreStanding rows leaving
records_stand shape key fields fs rows columns leaving is same kinds are all none ordinal row at =
    let kind = records_kind fields key row (subst (λ (s : Shape). IsOfKind s row) is (kinds ordinal row at)) in
    let long = are.long in
    let many = ap (λ (gs : List Field). length gs) same in (
      subst (λ (cs : List Column). HasColumns cs ordinal (values_of_row row)) (sym all) (record { long = omega (arith, kind.0, long, many); each = λ index column there. are.each index column there ordinal row at }),
      subst (λ (i : Items). HasItems i ordinal row) (sym none) kind.1,
    )

-- ---- the columns of fields

each_more : (P : ℕ → Column → Type 0) (columns : List Column) (last : Column) → ((k : ℕ) (column : Column) → slice_get columns k ≡ Some column → P k column) → P (length columns) last
    → (k : ℕ) (column : Column) → slice_get (columns ++ last ∷ []) k ≡ Some column → P k column
each_more P [] last before here zero column at = let same : last ≡ column = cc in subst (P 0) same here
each_more P [] last before here (suc k) column at = absurd cc
each_more P (c ∷ columns) last before here zero column at = before 0 column at
each_more P (c ∷ columns) last before here (suc k) column at = each_more (λ i. P (suc i)) columns last (λ i. before (suc i)) here k column at

pub no_column : (rows : RowMap) → AreColumns rows [] 0
no_column rows = record { long = refl; each = λ index column is. absurd cc }

pub column_more : (rows : RowMap) (columns after : List Column) (count : ℕ) (column : Column) → AreColumns rows columns count → IsColumnIn rows count column → after ≡ columns ++ column ∷ [] → AreColumns rows after (count + 1)
column_more rows columns after count column are is pushed =
    subst (λ (cs : List Column). AreColumns rows cs (count + 1)) (sym pushed)
    record {
      long = length-append columns (column ∷ []) ∙ ap (λ n. n + 1) are.long;
      each = each_more (IsColumnIn rows) columns column are.each (subst (λ n. IsColumnIn rows n column) (sym are.long) is);
    }

-- ---- what stands under a live ordinal

some_is_there : (o : Option Row) → IsSome o → o ≡ None → ⊥
some_is_there None some none = absurd cc
some_is_there (Some row) some none = absurd cc

pub stands_live : (rows : RowMap) (leaving : Leaving) (ordinal : ℕ) → AreStanding rows leaving → IsSome (get rows ordinal) → (row : Row) × StandsIn leaving ordinal row
stands_live rows leaving ordinal standing live = elim (get rows ordinal) as (λ (o : Option Row). get rows ordinal ≡ o → (row : Row) × StandsIn leaving ordinal row) [
  | None ↦ λ none. absurd (some_is_there (get rows ordinal) live none)
  | Some row ↦ λ at. (row, standing ordinal row at)
] refl

pub stands_less : (rows : RowMap) (leaving : Leaving) (ordinal : ℕ) (before after : Totals) → AreStanding rows leaving → IsSome (get rows ordinal) → ((row : Row) → StandsIn leaving ordinal row → AreLess before (Some row) after) → AreLess before (get rows ordinal) after
stands_less rows leaving ordinal before after standing live less = elim (get rows ordinal) as (λ (o : Option Row). get rows ordinal ≡ o → AreLess before o after) [
  | None ↦ λ none. absurd (some_is_there (get rows ordinal) live none)
  | Some row ↦ λ at. less row (standing ordinal row at)
] refl
