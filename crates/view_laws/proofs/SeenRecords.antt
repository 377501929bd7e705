-- The records of a type, seen through other fields: what a place spells of them, the bytes of their fields, and the widths that hold them.
use Rattle.std.proofs.Common.{◌≡◌, ℕ, ◌<◌, ◌≤◌, List, [], ◌∷◌, ◌++◌, Option, None, Some, length, map, sum, refl, sym, ap, subst, ◌∙◌, arith}
use Rattle.std.specs.Prelude.{All, option_and_then, option_map, slice_get, slice_index, sum_by, unwrap_or}
use Rattle.std.specs.List.{AllZip}
use Rattle.std.specs.Option.{option_map_or}
use Rattle.std.proofs.lemmas.List.{map-append}
use Rattle.std.proofs.lemmas.List.Elements.{All-head, All-tail}
use Rattle.std.proofs.lemmas.List.Sums.{sum-map, sum_by-cons}
use Rattle.std.proofs.lemmas.Option.{get_or_from_slice_get, same_Some, slice_get-get_or, slice_get-map, slice_get_within}
use Rattle.schema_model.specs.declared.schema.Field.{Field}
use Rattle.schema_model.specs.declared.schema.FieldKind.{FieldKind}
use Rattle.schema_model.specs.declared.schema.Shape.{Shape}
use Rattle.schema_model.specs.Growth.{IsOneKind, KindsAgree}
use Rattle.schema_model.specs.Parts.{AreApart}
use Rattle.row_model.specs.declared.row.Row.{Row}
use Rattle.row_model.specs.declared.row.Value.{Value}
use Rattle.row_model.specs.Row.{FitsKind, FitsShape}
use Rattle.row_model.specs.View.{seen_row, seen_values, value_named}
use Rattle.object_codec.specs.ObjectPlace.{parts_of}
use Rattle.object_codec.specs.Part.{FieldPart}
use Rattle.type_rows.specs.declared.section.Section.{Section}
use Rattle.type_rows.specs.Holds.{FitsWidth, FitsWidths, HoldsRows}
use Rattle.type_rows.specs.WordsHeld.{bytes_held, field_bytes, part_bytes, row_bytes, value_bytes}
use Rattle.seen_patches.specs.ByName.{field_in, item_named}
use Rattle.seen_patches.specs.Nulls.{null_width}
use Rattle.seen_patches.specs.Seen.{seen_width, seen_widths, shared_bits}
use Rattle.seen_patches.specs.Spelling.{SpellsColumn, SpellsColumns, SpellsSeen}
use Rattle.seen_patches.proofs.ColumnElements.{named_map}
use Rattle.seen_patches.proofs.Places.{field_found}
use Rattle.delta_blob.proofs.Indexed.{zip_at}
use Rattle.delta_blob.proofs.Meant.{all_at}
use Rattle.view_laws.proofs.NamedItems.{named_sum, value_is}

null_fits : (kind : FieldKind) → FitsWidth kind (null_width kind) 0 Value.Null
null_fits (FieldKind.Reference name) = tt
null_fits FieldKind.Int = tt
null_fits FieldKind.Long = tt
null_fits FieldKind.Boolean = refl
null_fits FieldKind.Text = omega arith
null_fits FieldKind.Bytes = omega arith

bytes_or : (o : Option Value) → value_bytes (unwrap_or o Value.Null) ≡ option_map_or value_bytes o 0
bytes_or None = refl
bytes_or (Some value) = refl

bytes_of_map : (o : Option Value) → value_bytes (unwrap_or o Value.Null) ≡ unwrap_or (option_map value_bytes o) 0
bytes_of_map None = refl
bytes_of_map (Some value) = refl

-- The variable bytes of a field at a place of a row; none where there is no place.
abbrev place_bytes : Option ℕ → Row → ℕ
place_bytes None row = 0
place_bytes (Some i) row = part_bytes i row

no_place_bytes : (rows : List Row) → sum_by (place_bytes None) rows ≡ 0
no_place_bytes [] = refl
no_place_bytes (row ∷ rows) = omega (arith, sum_by-cons (place_bytes None) row rows, no_place_bytes rows)

sum_mapped : {X Y : Type 0} (g : Y → ℕ) (f : X → Y) (xs : List X) → sum_by g (map f xs) ≡ sum_by (λ x. g (f x)) xs
sum_mapped g f [] = refl
sum_mapped g f (x ∷ xs) = omega (arith, sum_by-cons g (f x) (map f xs), sum_by-cons (λ x. g (f x)) x xs, sum_mapped g f xs)

same_sums : (f g : Field → ℕ) → ((m : Field) → f m ≡ g m) → (mine : List Field) → sum_by f mine ≡ sum_by g mine
same_sums f g same [] = refl
same_sums f g same (m ∷ mine) = omega (arith, sum_by-cons f m mine, sum_by-cons g m mine, same m, same_sums f g same mine)

module _ (key other : Option (List (List ℕ))) (mine theirs : List Field) (agree : KindsAgree mine theirs) where
  -- A row as it is seen.
  abbrev pub see : Row → Row
  see row = seen_row (Shape.Object other theirs) (Shape.Object key mine) row

  kinds_of : (index : ℕ) (field : Field) → slice_get mine index ≡ Some field → All (IsOneKind field) theirs
  kinds_of index field there = all_at (λ (field : Field). All (IsOneKind field) theirs) mine index field agree there

  value_at : (values : List Value) (name : List ℕ) (o : Option ℕ) → field_in theirs name ≡ o → value_named theirs values name ≡ unwrap_or (option_and_then (slice_get values) o) Value.Null
  value_at values name o found = value_is theirs values name ∙ ap (λ (o : Option ℕ). unwrap_or (option_and_then (slice_get values) o) Value.Null) found

  -- ---- what a place spells

  column_by : (parts : List FieldPart) (values : List Value) (field : Field) (o : Option ℕ) → field_in theirs field.name ≡ o → SpellsColumns theirs parts theirs values → All (IsOneKind field) theirs
      → SpellsColumn field.kind (item_named theirs parts field.name) (value_named theirs values field.name)
  column_by parts values field None found spelled kinds =
      subst (λ (p : Option FieldPart). SpellsColumn field.kind p (value_named theirs values field.name)) (sym (ap (option_and_then (slice_get parts)) found)) (value_at values field.name None found)
  column_by parts values field (Some i) found spelled kinds =
      let (g, at, name) = field_found theirs field.name i found in
      let (value, beside, column) = zip_at (λ (f : Field) v. SpellsColumn f.kind (item_named theirs parts f.name) v) theirs values i g spelled at in
      let kind : field.kind ≡ g.kind = all_at (IsOneKind field) theirs i g kinds at (sym name) in
      let is : value_named theirs values field.name ≡ value = value_at values field.name (Some i) found ∙ ap (λ (v : Option Value). unwrap_or v Value.Null) beside in
      subst (λ (v : Value). SpellsColumn field.kind (item_named theirs parts field.name) v) (sym is)
      (subst (λ (n : List ℕ). SpellsColumn field.kind (item_named theirs parts n) value) name
      (subst (λ (k : FieldKind). SpellsColumn k (item_named theirs parts g.name) value) (sym kind) column))

  columns_seen : (parts : List FieldPart) (values : List Value) → SpellsColumns theirs parts theirs values → (fields : List Field) → All (λ field. All (IsOneKind field) theirs) fields
      → SpellsColumns theirs parts fields (seen_values theirs fields values)
  columns_seen parts values spelled [] kinds = tt
  columns_seen parts values spelled (field ∷ fields) kinds = (
    column_by parts values field (field_in theirs field.name) refl spelled (All-head (λ (f : Field). All (IsOneKind f) theirs) field fields kinds),
    columns_seen parts values spelled fields (All-tail (λ (f : Field). All (IsOneKind f) theirs) field fields kinds),
  )

  -- a place that spells a row for its own fields spells for others what is seen of it
  pub row_spelled : (section : Section) (place : ℕ) (row : Row) → SpellsSeen (Shape.Object other theirs) (Shape.Object other theirs) section place row
      → SpellsSeen (Shape.Object key mine) (Shape.Object other theirs) section place (see row)
  row_spelled section place (Row.Object values) spelled = columns_seen (parts_of section.widths section.first section.areas place) values spelled mine agree
  row_spelled section place (Row.List ordinals) spelled = absurd spelled
  row_spelled section place (Row.Set ordinals) spelled = absurd spelled
  row_spelled section place (Row.Map pairs) spelled = absurd spelled

  -- ---- the bytes of a field

  part_by : (values : List Value) (field : Field) (o : Option ℕ) → field_in theirs field.name ≡ o → value_bytes (value_named theirs values field.name) ≡ place_bytes o (Row.Object values)
  part_by values field None found = ap value_bytes (value_at values field.name None found)
  part_by values field (Some i) found = ap value_bytes (value_at values field.name (Some i) found) ∙ bytes_or (slice_get values i)

  no_part : (o : Option ℕ) (row : Row) → ((i : ℕ) → part_bytes i row ≡ 0) → 0 ≡ place_bytes o row
  no_part None row none = refl
  no_part (Some i) row none = sym (none i)

  part_seen : (index : ℕ) (field : Field) → slice_get mine index ≡ Some field → (row : Row) → part_bytes index (see row) ≡ place_bytes (field_in theirs field.name) row
  part_seen index field there (Row.Object values) =
      let at : slice_get (seen_values theirs mine values) index ≡ Some (value_named theirs values field.name) =
      slice_get-map (λ (f : Field). value_named theirs values f.name) mine index ∙ ap (option_map (λ (f : Field). value_named theirs values f.name)) there in
      ap (λ (o : Option Value). option_map_or value_bytes o 0) at ∙ part_by values field (field_in theirs field.name) refl
  part_seen index field there (Row.List ordinals) = no_part (field_in theirs field.name) (Row.List ordinals) (λ i. refl)
  part_seen index field there (Row.Set ordinals) = no_part (field_in theirs field.name) (Row.Set ordinals) (λ i. refl)
  part_seen index field there (Row.Map pairs) = no_part (field_in theirs field.name) (Row.Map pairs) (λ i. refl)

  field_seen : (index : ℕ) (field : Field) → slice_get mine index ≡ Some field → (rows : List Row) → field_bytes index (map see rows) ≡ sum_by (place_bytes (field_in theirs field.name)) rows
  field_seen index field there [] = refl
  field_seen index field there (row ∷ rows) =
      let o = field_in theirs field.name in
      omega (arith, sum_by-cons (part_bytes index) (see row) (map see rows), sum_by-cons (place_bytes o) row rows, part_seen index field there row, field_seen index field there rows)

  -- ---- widths that hold them

  module _ (widths : List ℕ) (wide : length widths ≡ length theirs) where
    held_by : (rows : List Row) (values : List Value) (index : ℕ) (field : Field) (o : Option ℕ) → field_in theirs field.name ≡ o → slice_get mine index ≡ Some field
        → AllZip (λ (f : Field) value. FitsKind f.kind value) theirs values → FitsWidths theirs widths (λ f. field_bytes f rows) values
        → FitsWidth field.kind (seen_width theirs widths field) (sum_by (place_bytes o) rows) (value_named theirs values field.name)
    held_by rows values index field None found there fits held =
        let width : seen_width theirs widths field ≡ null_width field.kind = ap (λ (o : Option ℕ). unwrap_or (option_and_then (slice_get widths) o) (null_width field.kind)) found in
        subst (λ (w : ℕ). FitsWidth field.kind w (sum_by (place_bytes None) rows) (value_named theirs values field.name)) (sym width)
        (subst (λ (n : ℕ). FitsWidth field.kind (null_width field.kind) n (value_named theirs values field.name)) (sym (no_place_bytes rows))
        (subst (λ (v : Value). FitsWidth field.kind (null_width field.kind) 0 v) (sym (value_at values field.name None found)) (null_fits field.kind)))
    held_by rows values index field (Some i) found there fits held =
        let (g, at, name) = field_found theirs field.name i found in
        let (value, beside, fit) = zip_at (λ (f : Field) v. FitsKind f.kind v) theirs values i g fits at in
        let kind : field.kind ≡ g.kind = all_at (IsOneKind field) theirs i g (kinds_of index field there) at (sym name) in
        let inside : i < length widths = omega (arith, wide, slice_get_within theirs i g at) in
        let width : seen_width theirs widths field ≡ slice_index widths i =
        ap (λ (o : Option ℕ). unwrap_or (option_and_then (slice_get widths) o) (null_width field.kind)) found ∙ ap (λ (o : Option ℕ). unwrap_or o (null_width field.kind)) (slice_get-get_or widths i 0 inside) in
        let is : value_named theirs values field.name ≡ value = value_at values field.name (Some i) found ∙ ap (λ (v : Option Value). unwrap_or v Value.Null) beside in
        subst (λ (w : ℕ). FitsWidth field.kind w (field_bytes i rows) (value_named theirs values field.name)) (sym width)
        (subst (λ (v : Value). FitsWidth field.kind (slice_index widths i) (field_bytes i rows) v) (sym is)
        (subst (λ (k : FieldKind). FitsWidth k (slice_index widths i) (field_bytes i rows) value) (sym kind) (held i g value at beside)))

    one_held : (before : List Row) (values : List Value) → AllZip (λ (f : Field) value. FitsKind f.kind value) theirs values → FitsWidths theirs widths (λ f. field_bytes f (before ++ Row.Object values ∷ [])) values
        → FitsWidths mine (seen_widths mine theirs widths) (λ f. field_bytes f (map see before ++ see (Row.Object values) ∷ [])) (seen_values theirs mine values)
    one_held before values fits held = λ index field value there at.
        let rows = before ++ Row.Object values ∷ [] in
        let is : value ≡ value_named theirs values field.name =
        same_Some value (value_named theirs values field.name) (sym at ∙ slice_get-map (λ (f : Field). value_named theirs values f.name) mine index ∙ ap (option_map (λ (f : Field). value_named theirs values f.name)) there) in
        let width : slice_index (seen_widths mine theirs widths) index ≡ seen_width theirs widths field =
        get_or_from_slice_get (seen_widths mine theirs widths) index (seen_width theirs widths field) 0 (slice_get-map (seen_width theirs widths) mine index ∙ ap (option_map (seen_width theirs widths)) there) in
        let bytes : field_bytes index (map see before ++ see (Row.Object values) ∷ []) ≡ sum_by (place_bytes (field_in theirs field.name)) rows =
        ap (field_bytes index) (sym (map-append see before (Row.Object values ∷ []))) ∙ field_seen index field there rows in
        subst (λ (w : ℕ). FitsWidth field.kind w (field_bytes index (map see before ++ see (Row.Object values) ∷ [])) value) (sym width)
        (subst (λ (n : ℕ). FitsWidth field.kind (seen_width theirs widths field) n value) (sym bytes)
        (subst (λ (v : Value). FitsWidth field.kind (seen_width theirs widths field) (sum_by (place_bytes (field_in theirs field.name)) rows) v) (sym is)
        (held_by rows values index field (field_in theirs field.name) refl there fits held)))

    -- widths that hold rows hold what is seen of them
    pub rows_held : (before rows : List Row) → All (FitsShape (Shape.Object other theirs)) rows → HoldsRows (Shape.Object other theirs) widths before rows
        → HoldsRows (Shape.Object key mine) (seen_widths mine theirs widths) (map see before) (map see rows)
    rows_held before [] fits held = tt
    rows_held before (Row.Object values ∷ rows) fits held =
        let row = Row.Object values in
        let Fits : Row → Type 0 = FitsShape (Shape.Object other theirs) in
        let rest = rows_held (before ++ row ∷ []) rows (All-tail Fits row rows fits) held.1 in (
          one_held before values (All-head Fits row rows fits) held.0,
          subst (λ (done : List Row). HoldsRows (Shape.Object key mine) (seen_widths mine theirs widths) done (map see rows)) (map-append see before (row ∷ [])) rest,
        )
    rows_held before (Row.List ordinals ∷ rows) fits held = absurd held.0
    rows_held before (Row.Set ordinals ∷ rows) fits held = absurd held.0
    rows_held before (Row.Map pairs ∷ rows) fits held = absurd held.0

  -- ---- how many bytes they take

  row_smaller : AreApart mine → (row : Row) → row_bytes (see row) ≤ row_bytes row
  row_smaller apart (Row.Object values) =
      let each = sum_mapped value_bytes (λ (f : Field). value_named theirs values f.name) mine in
      let bytes = map value_bytes values in
      let same = same_sums (λ (f : Field). value_bytes (value_named theirs values f.name)) (λ (f : Field). unwrap_or (item_named theirs bytes f.name) 0)
      (λ f. ap value_bytes (value_is theirs values f.name) ∙ bytes_of_map (item_named theirs values f.name) ∙ ap (λ (o : Option ℕ). unwrap_or o 0) (sym (named_map value_bytes theirs values f.name))) mine in
      omega (arith, each, same, named_sum mine theirs bytes apart, sum-map value_bytes values)
  row_smaller apart (Row.List ordinals) = omega arith
  row_smaller apart (Row.Set ordinals) = omega arith
  row_smaller apart (Row.Map pairs) = omega arith

  -- what is seen takes no more
  pub bytes_smaller : AreApart mine → (rows : List Row) → bytes_held (map see rows) ≤ bytes_held rows
  bytes_smaller apart [] = omega arith
  bytes_smaller apart (row ∷ rows) = omega (arith, sum_by-cons row_bytes (see row) (map see rows), sum_by-cons row_bytes row rows, row_smaller apart row, bytes_smaller apart rows)

  -- nor do the widths that count
  pub own_smaller : AreApart mine → (widths : List ℕ) → shared_bits mine theirs widths ≤ sum widths
  own_smaller apart widths = named_sum mine theirs widths apart
