-- Lemmas on rows that are the same in two tables.
use Rattle.std.proofs.Common.{◌≡◌, ◌<◌, ◌*◌, ℕ, suc, List, [], ◌∷◌, length, Option, Some, None, refl, sym, ap, ◌∙◌, subst, slice_get, arith}
use Rattle.std.specs.Prelude.{IsSome, slice_index}
use Rattle.std.proofs.lemmas.Bool.{false≢true}
use Rattle.std.proofs.lemmas.Grind.{same_number_lists}
use Rattle.std.proofs.lemmas.List.{ext_get_or}
use Rattle.std.proofs.lemmas.List.FromFn.{length-map-range_with_len}
use Rattle.std.proofs.lemmas.Slice.Zip.{AllZip-long}
use Rattle.hol_varint.specs.TextUnits.{AreUnitsIn}
use Rattle.bit_array.specs.Element.{element_of}
use Rattle.schema_model.specs.declared.schema.Field.{Field}
use Rattle.schema_model.specs.declared.schema.Schema.{Schema}
use Rattle.schema_model.specs.declared.schema.Shape.{Shape}
use Rattle.row_model.specs.declared.row.Row.{Row}
use Rattle.row_model.specs.declared.row.Value.{Value}
use Rattle.row_model.specs.Row.{FitsKind, FitsShape}
use Rattle.row_model.specs.Table.{Table, IsTableOf, row_at}
use Rattle.object_codec.specs.Part.{SpellsValue}
use Rattle.bucket_codec.specs.Run.{Bucket, SpellsRun, bucket_at}
use Rattle.bucket_codec.specs.declared.buckets.Buckets.{Buckets}
use Rattle.object_codec.specs.declared.bytes.PackedBytes.{PackedBytes}
use Rattle.object_codec.specs.declared.column.Column.{Column}
use Rattle.list_codec.specs.declared.elements.Elements.{Elements}
use Rattle.object_codec.specs.declared.value_ref.ValueRef.{ValueRef}
use Rattle.bucket_codec.specs.Buckets.{run_of}
use Rattle.object_codec.specs.Bytes.{bytes_of}
use Rattle.object_codec.specs.Columns.{Shows, part_of}
use Rattle.list_codec.specs.Elements.{elements_of}
use Rattle.list_codec.proofs.ListElements.{elements_long}
use Rattle.column_rows.specs.declared.items.PackedItems.{PackedItems}
use Rattle.column_rows.specs.Columns.{IsColumnOf}
use Rattle.column_rows.specs.Items.{AreListsOf, AreRunsOf, IsOfPairs, SpellsListAt, SpellsPairsAt}
use Rattle.column_rows.specs.Same.{HaveSameElements, HaveSameLive, HaveSamePairs, HaveSameParts, HaveSameValue, IsSoOfBoth}
use Rattle.column_rows.proofs.FieldValues.{same_units}
use Rattle.column_rows.proofs.Lives.{run_length}

-- ---- what is the same where it stands

pub same_bytes : (bytes others : PackedBytes) → bytes.len ≡ others.len → ((k : ℕ) → k < bytes.len → slice_index (bytes_of bytes) k ≡ slice_index (bytes_of others) k) → bytes_of bytes ≡ bytes_of others
same_bytes bytes others long each = same_number_lists (bytes_of bytes) (bytes_of others) (bytes_long bytes ∙ long ∙ sym (bytes_long others)) (λ k inside. each k (omega (arith, bytes_long bytes, inside)))
  where
    bytes_long : (packed : PackedBytes) → length (bytes_of packed) ≡ packed.len
    bytes_long packed = length-map-range_with_len (λ index. element_of packed.words.now (index * 8) 8) packed.start packed.len

pub same_elements : (elements others : Elements) → elements.len ≡ others.len → ((k : ℕ) → k < elements.len → slice_index (elements_of elements) k ≡ slice_index (elements_of others) k)
    → elements_of elements ≡ elements_of others
same_elements elements others long each =
    same_number_lists (elements_of elements) (elements_of others) (elements_long elements ∙ long ∙ sym (elements_long others)) (λ k inside. each k (omega (arith, elements_long elements, inside)))

pub same_buckets : (buckets others : Buckets) → buckets.len ≡ others.len → ((k : ℕ) → k < buckets.len → bucket_at (run_of buckets) k ≡ bucket_at (run_of others) k) → run_of buckets ≡ run_of others
same_buckets buckets others long each =
    ext_get_or None (run_of buckets) (run_of others) (run_length buckets ∙ long ∙ sym (run_length others)) (λ k inside. each k (omega (arith, run_length buckets, inside)))

-- texts whose bytes are the same have the same units
pub same_text : (shown beside : ValueRef) (bytes others : PackedBytes) → shown ≡ ValueRef.Text bytes → beside ≡ ValueRef.Text others → bytes_of bytes ≡ bytes_of others
    → (value other : Value) → Shows shown value → Shows beside other → value ≡ other
same_text shown beside bytes others is also same value other shows shows_other =
    let one = text_of bytes value (subst (λ (v : ValueRef). Shows v value) is shows) in
    let two = text_of others other (subst (λ (v : ValueRef). Shows v other) also shows_other) in
    one.2 ∙ ap Value.Text (same_units (bytes_of others) two.0 one.0 two.1 (subst (λ (spelled : List ℕ). AreUnitsIn spelled one.0) same one.1)) ∙ sym two.2
  where
    text_of : (bytes : PackedBytes) (value : Value) → Shows (ValueRef.Text bytes) value → (units : List ℕ) × AreUnitsIn (bytes_of bytes) units × (value ≡ Value.Text units)
    text_of bytes Value.Null shows = absurd shows
    text_of bytes (Value.Int number) shows = absurd shows
    text_of bytes (Value.Long number) shows = absurd shows
    text_of bytes (Value.Bool flag) shows = absurd shows
    text_of bytes (Value.Text units) shows = (units, shows, refl)
    text_of bytes (Value.Bytes octets) shows = absurd shows
    text_of bytes (Value.Ref ordinal) shows = absurd shows

-- ---- under one ordinal

module _ (table other : Table) (type_index ordinal : ℕ) where
  pub value_both : (field : ℕ) (column beside : Column) → IsColumnOf table type_index field column → IsColumnOf other type_index field beside
      → ((value another : Value) → SpellsValue column.kind.now (part_of column ordinal) value → SpellsValue beside.kind.now (part_of beside ordinal) another → value ≡ another)
      → IsSoOfBoth (HaveSameValue field) table other type_index ordinal
  value_both field column beside is also same row next at there =
      let one = is ordinal row at in
      let two = also ordinal next there in
      one.1 ∙ ap Some (same one.0 two.0 one.2.spells two.2.spells) ∙ sym two.1

  pub list_both : (items beside : PackedItems) (elements others : Elements) → AreListsOf table type_index items → AreListsOf other type_index beside
      → ((ordinals : List ℕ) → SpellsListAt items ordinal ordinals → ordinals ≡ elements_of elements) → ((ordinals : List ℕ) → SpellsListAt beside ordinal ordinals → ordinals ≡ elements_of others)
      → elements_of elements ≡ elements_of others → IsSoOfBoth HaveSameElements table other type_index ordinal
  list_both items beside elements others are also stand stand_beside same row next at there =
      let one = are ordinal row at in
      let two = also ordinal next there in
      (one.0, one.1, two.1 ∙ ap Row.List (stand_beside two.0 two.3 ∙ sym same ∙ sym (stand one.0 one.3)))

  pub run_both : ((run : List Bucket) (a b : List (ℕ × ℕ)) → SpellsRun run a → SpellsRun run b → a ≡ b) → (items beside : PackedItems) (buckets others : Buckets) → AreRunsOf table type_index items → AreRunsOf other type_index beside
      → ((pairs : List (ℕ × ℕ)) → SpellsPairsAt items ordinal pairs → SpellsRun (run_of buckets) pairs) → ((pairs : List (ℕ × ℕ)) → SpellsPairsAt beside ordinal pairs → SpellsRun (run_of others) pairs)
      → run_of buckets ≡ run_of others → IsSoOfBoth HaveSamePairs table other type_index ordinal
  run_both one_set items beside buckets others are also stand stand_beside same row next at there =
      let one = are ordinal row at in
      let two = also ordinal next there in
      let pairs : two.0 ≡ one.0 = one_set (run_of buckets) two.0 one.0 (subst (λ (run : List Bucket). SpellsRun run two.0) (sym same) (stand_beside two.0 two.3)) (stand one.0 one.3) in
      (one.0, one.1, subst (IsOfPairs next) pairs two.1)

-- ---- from the parts of a row to the row

same_values : (values others : List Value) → length values ≡ length others → ((k : ℕ) → k < length values → slice_get values k ≡ slice_get others k) → values ≡ others
same_values [] [] long each = refl
same_values [] (other ∷ others) long each = absurd (omega (arith, long))
same_values (value ∷ values) [] long each = absurd (omega (arith, long))
same_values (value ∷ values) (other ∷ others) long each =
    let first : Some value ≡ Some other = each 0 (omega arith) in
    let one : value ≡ other = cc in
    let rest = same_values values others (omega (arith, long)) (λ k inside. each (suc k) (omega (arith, inside))) in
    λ i. one i ∷ rest i

same_row : (shape : Shape) (row beside : Row) → FitsShape shape row → FitsShape shape beside → HaveSameParts shape row beside → row ≡ beside
same_row (Shape.Object key fields) (Row.Object values) (Row.Object others) fits also same =
    let long = AllZip-long (λ (field : Field) (value : Value). FitsKind field.kind value) fields values fits in
    let other_long = AllZip-long (λ (field : Field) (value : Value). FitsKind field.kind value) fields others also in
    ap Row.Object (same_values values others (long ∙ sym other_long) (λ k inside. same k (omega (arith, long, inside))))
same_row (Shape.Object key fields) (Row.Object values) (Row.List ordinals) fits also same = absurd also
same_row (Shape.Object key fields) (Row.Object values) (Row.Set ordinals) fits also same = absurd also
same_row (Shape.Object key fields) (Row.Object values) (Row.Map pairs) fits also same = absurd also
same_row (Shape.Object key fields) (Row.List ordinals) beside fits also same = absurd fits
same_row (Shape.Object key fields) (Row.Set ordinals) beside fits also same = absurd fits
same_row (Shape.Object key fields) (Row.Map pairs) beside fits also same = absurd fits
same_row (Shape.List element) row beside fits also same = same.1 ∙ sym same.2
same_row (Shape.Set element) (Row.Set ordinals) (Row.Set others) fits also same = ap Row.Set (same.1 ∙ sym same.2)
same_row (Shape.Set element) (Row.Set ordinals) (Row.Object values) fits also same = absurd also
same_row (Shape.Set element) (Row.Set ordinals) (Row.List others) fits also same = absurd also
same_row (Shape.Set element) (Row.Set ordinals) (Row.Map pairs) fits also same = absurd also
same_row (Shape.Set element) (Row.Object values) beside fits also same = absurd fits
same_row (Shape.Set element) (Row.List ordinals) beside fits also same = absurd fits
same_row (Shape.Set element) (Row.Map pairs) beside fits also same = absurd fits
same_row (Shape.Map key value) (Row.Map pairs) (Row.Map others) fits also same = ap Row.Map (same.1 ∙ sym same.2)
same_row (Shape.Map key value) (Row.Map pairs) (Row.Object values) fits also same = absurd also
same_row (Shape.Map key value) (Row.Map pairs) (Row.List ordinals) fits also same = absurd also
same_row (Shape.Map key value) (Row.Map pairs) (Row.Set ordinals) fits also same = absurd also
same_row (Shape.Map key value) (Row.Object values) beside fits also same = absurd fits
same_row (Shape.Map key value) (Row.List ordinals) beside fits also same = absurd fits
same_row (Shape.Map key value) (Row.Set ordinals) beside fits also same = absurd fits

-- rows of the same parts under the same ordinals are the same
pub rows_same : (schemas : List Schema) (table other : Table) (type_index : ℕ) (schema : Schema) → slice_get schemas type_index ≡ Some schema → IsTableOf schemas table → IsTableOf schemas other
    → HaveSameLive table other type_index → ((ordinal : ℕ) → IsSoOfBoth (HaveSameParts schema.shape) table other type_index ordinal) → (ordinal : ℕ) → row_at table type_index ordinal ≡ row_at other type_index ordinal
rows_same schemas table other type_index schema is fits also live same ordinal = of_rows (row_at table type_index ordinal) (row_at other type_index ordinal) refl refl
  where
    of_rows : (found beside : Option Row) → row_at table type_index ordinal ≡ found → row_at other type_index ordinal ≡ beside → row_at table type_index ordinal ≡ row_at other type_index ordinal
    of_rows None None at there = at ∙ sym there
    of_rows None (Some row) at there = let lives = (live ordinal).1 (subst IsSome (sym there) refl) in absurd (false≢true (subst IsSome at lives))
    of_rows (Some row) None at there = let lives = (live ordinal).0 (subst IsSome (sym at) refl) in absurd (false≢true (subst IsSome there lives))
    of_rows (Some row) (Some next) at there =
        at ∙ ap Some (same_row schema.shape row next (fits.rows type_index ordinal schema row is at) (also.rows type_index ordinal schema next is there) (same ordinal row next at there)) ∙ sym there
