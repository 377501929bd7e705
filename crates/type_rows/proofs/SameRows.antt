-- A place that has what a place of another section has spells the same row.
use Rattle.std.proofs.Common.{◌≡◌, ℕ, ◌+◌, ◌-◌, ◌*◌, ◌^◌, ◌<◌, ◌≤◌, List, [], ◌∷◌, length, sum, map, cond, eqb, Option, None, Some, refl, sym, ap, ◌∙◌, subst, arith}
use Rattle.std.specs.List.{range_with_len}
use Rattle.std.proofs.lemmas.List.Elements.{All-head, All-tail}
use Rattle.std.proofs.lemmas.List.Sums.{sum_by-cons}
use Rattle.bit_array.specs.Element.{element_of}
use Rattle.schema_model.specs.declared.schema.Field.{Field}
use Rattle.schema_model.specs.declared.schema.FieldKind.{FieldKind}
use Rattle.schema_model.specs.declared.schema.Shape.{Shape}
use Rattle.row_model.specs.declared.row.Value.{Value}
use Rattle.row_model.specs.declared.row.Row.{Row}
use Rattle.hol_varint.specs.TextUnits.{AreUnitsIn}
use Rattle.hol_varint.specs.Zigzag.{unzigzag}
use Rattle.object_codec.specs.Packing.{HasBytes}
use Rattle.object_codec.specs.Part.{FieldPart, IsSpan, SpellsInt, SpellsLong, SpellsReference, SpellsBoolean, SpellsText, SpellsBytes, SpellsValue}
use Rattle.object_codec.specs.ObjectPlace.{SpellsFields, parts_from, parts_of, part_at}
use Rattle.list_codec.specs.ListPlace.{element_width, elements_between, elements_at, start_at as list_start, end_at as list_end}
use Rattle.bucket_codec.specs.Run.{bucket_in, run_in, SpellsRun}
use Rattle.bucket_codec.specs.BucketPlace.{bucket_width, key_width, value_width, run_at, SpellsPairs, start_at as run_start, end_at as run_end}
use Rattle.type_rows.specs.Loads.{Spells}
use Rattle.type_rows.specs.declared.section.Section.{Section}
use Rattle.type_rows.specs.SameBits.{AreSameParts, HaveNoBytes, IsSameList, IsSameNumber, IsSamePart, IsSameRecord, IsSameRun, IsSameSpan, SameBits}
use Rattle.type_rows.proofs.SameBits.{bits_within, item_bits, item_front, item_same, same_items}

-- ---- records

span_moves : (part other : FieldPart) → IsSameSpan part other → IsSpan part → IsSpan other
span_moves part other same span = record {
  rises = omega (arith, same.ends);
  inside = same.inside;
  empty = λ null. (let none = span.empty (same.null.1 null) in omega (arith, same.ends, none));
}

text_moves : (part other : FieldPart) (value : Value) → IsSameSpan part other → SpellsText part value → SpellsText other value
text_moves part other Value.Null same h = (span_moves part other same h.0, same.null.0 h.1)
text_moves part other (Value.Text units) same h = (span_moves part other same h.0, λ null. h.1 (same.null.1 null), subst (λ bytes. AreUnitsIn bytes units) (sym same.bytes) h.2)
text_moves part other _ same h = absurd h

bytes_move : (part other : FieldPart) (value : Value) → IsSameSpan part other → SpellsBytes part value → SpellsBytes other value
bytes_move part other Value.Null same h = (span_moves part other same h.0, same.null.0 h.1)
bytes_move part other (Value.Bytes bytes) same h = (span_moves part other same h.0, λ null. h.1 (same.null.1 null), h.2 ∙ sym same.bytes)
bytes_move part other _ same h = absurd h

int_moves : (part other : FieldPart) (value : Value) → IsSameNumber part other → SpellsInt part.width part.element value → SpellsInt other.width other.element value
int_moves part other Value.Null same h = same.null.0 h
int_moves part other (Value.Int number) same h =
    let element = same.number h.0 in (λ ones. h.0 (same.null.1 ones), subst (λ e. e ≤ 2 ^ 32 - 2) (sym element) h.1, h.2 ∙ ap unzigzag (sym element))
int_moves part other _ same h = absurd h

long_moves : (part other : FieldPart) (value : Value) → IsSameNumber part other → SpellsLong part.width part.element value → SpellsLong other.width other.element value
long_moves part other Value.Null same h = same.null.0 h
long_moves part other (Value.Long number) same h = (λ ones. h.0 (same.null.1 ones), h.1 ∙ ap unzigzag (sym (same.number h.0)))
long_moves part other _ same h = absurd h

reference_moves : (part other : FieldPart) (value : Value) → IsSameNumber part other → SpellsReference part.width part.element value → SpellsReference other.width other.element value
reference_moves part other Value.Null same h = same.null.0 h
reference_moves part other (Value.Ref ordinal) same h =
    let element = same.number h.0 in (λ ones. h.0 (same.null.1 ones), subst (λ e. e ≤ 2 ^ 32 - 1) (sym element) h.1, h.2 ∙ sym element)
reference_moves part other _ same h = absurd h

value_moves : (kind : FieldKind) (part other : FieldPart) (value : Value) → IsSamePart kind part other → SpellsValue kind part value → SpellsValue kind other value
value_moves (FieldKind.Reference name) part other value same h = reference_moves part other value same h
value_moves FieldKind.Int part other value same h = int_moves part other value same h
value_moves FieldKind.Long part other value same h = long_moves part other value same h
value_moves FieldKind.Boolean part other value same h = subst (λ e. SpellsBoolean e value) (sym same) h
value_moves FieldKind.Text part other value same h = text_moves part other value same h
value_moves FieldKind.Bytes part other value same h = bytes_move part other value same h

fields_move : (fields : List Field) (parts others : List FieldPart) (values : List Value) → AreSameParts fields parts others → SpellsFields fields parts values → SpellsFields fields others values
fields_move [] [] [] values same h = h
fields_move (field ∷ fields) (part ∷ parts) (other ∷ others) (value ∷ values) same h = (value_moves field.kind part other value same.0 h.0, fields_move fields parts others values same.1 h.1)
fields_move (field ∷ fields) (part ∷ parts) (other ∷ others) [] same h = absurd h
fields_move _ _ _ values same h = absurd same

pub parts_move : (key : Option (List (List ℕ))) (fields : List Field) (section other : Section) (place there : ℕ) (row : Row)
    → AreSameParts fields (parts_of section.widths section.first section.areas place) (parts_of other.widths other.first other.areas there)
    → Spells (Shape.Object key fields) section place row → Spells (Shape.Object key fields) other there row
parts_move key fields section other place there (Row.Object values) same h = fields_move fields _ _ values same h
parts_move key fields section other place there _ same h = absurd h

-- A kind without bytes asks for the same width and element.
same_number : (part other : FieldPart) → other.width ≡ part.width → other.element ≡ part.element → IsSameNumber part other
same_number part other width element = record {
  null = (λ ones. element ∙ ones ∙ ap (λ w. 2 ^ w - 1) (sym width), λ ones. sym element ∙ ones ∙ ap (λ w. 2 ^ w - 1) width);
  number = λ _. element;
}

same_part : (kind : FieldKind) (part other : FieldPart) → (HasBytes kind → ⊥) → other.width ≡ part.width → other.element ≡ part.element → IsSamePart kind part other
same_part (FieldKind.Reference name) part other none width element = same_number part other width element
same_part FieldKind.Int part other none width element = same_number part other width element
same_part FieldKind.Long part other none width element = same_number part other width element
same_part FieldKind.Boolean part other none width element = element
same_part FieldKind.Text part other none width element = absurd (none tt)
same_part FieldKind.Bytes part other none width element = absurd (none tt)

record_moves : (fields : List Field) (widths first others : List ℕ) (areas areas' : List (List ℕ)) (size place there before : ℕ) (values : List Value) → HaveNoBytes fields → length areas' ≡ length areas
    → SameBits first (place * size) others (there * size) size → before + sum widths ≤ size → SpellsFields fields (parts_from first size place before widths areas) values
    → SpellsFields fields (parts_from others size there before widths areas') values
record_moves [] [] first others areas areas' size place there before values none long same within h = h
record_moves [] (width ∷ widths) first others [] [] size place there before values none long same within h = h
record_moves (field ∷ fields) (width ∷ widths) first others (area ∷ areas) (area' ∷ areas') size place there before (value ∷ values) none long same within h =
    let whole = sum_by-cons (λ (w : ℕ). w) width widths in
    let element = bits_within first others (place * size) (there * size) size before width (omega arith) same in
    let part = same_part field.kind (part_at first size place before width area) (part_at others size there before width area') (All-head (λ f. HasBytes f.kind → ⊥) field fields none) refl element in (
      value_moves field.kind _ _ value part h.0,
      record_moves fields widths first others areas areas' size place there (before + width) values (All-tail (λ f. HasBytes f.kind → ⊥) field fields none) (omega arith) same (omega arith) h.1,
    )
record_moves (field ∷ fields) (width ∷ widths) first others (area ∷ areas) (area' ∷ areas') size place there before [] none long same within h = absurd h
record_moves (field ∷ fields) (width ∷ widths) first others [] areas' size place there before values none long same within h = absurd h
record_moves (field ∷ fields) [] first others areas areas' size place there before values none long same within h = absurd h
record_moves [] (width ∷ widths) first others (area ∷ areas) areas' size place there before values none long same within h = absurd h
record_moves fields widths first others areas areas' size place there before values none long same within h = absurd (omega arith)

pub record_same : (key : Option (List (List ℕ))) (fields : List Field) (section other : Section) (place there : ℕ) (row : Row) → HaveNoBytes fields → IsSameRecord section place other there
    → Spells (Shape.Object key fields) section place row → Spells (Shape.Object key fields) other there row
record_same key fields section other place there (Row.Object values) none same h =
    subst (λ ws. SpellsFields fields (parts_of ws other.first other.areas there) values) (sym same.widths)
    (record_moves fields section.widths section.first other.first section.areas other.areas (sum section.widths) place there 0 values none same.areas same.bits (omega arith) h)
record_same key fields section other place there _ none same h = absurd h

-- ---- lists

elements_same : (words others : List ℕ) (width start end start' end' : ℕ) → end' - start' ≡ end - start → SameBits words (start * width) others (start' * width) ((end - start) * width)
    → elements_between others width start' end' ≡ elements_between words width start end
elements_same words others width start end start' end' long same =
    ap (λ n. map (λ k. element_of others (k * width) width) (range_with_len start' n)) long
    ∙ same_items (λ k. element_of words (k * width) width) (λ k. element_of others (k * width) width) start start' (end - start) (λ index below. item_same words others start start' (end - start) width index below same)

list_elements : (section other : Section) (place there : ℕ) → IsSameList section place other there → elements_at other.widths other.first other.second there ≡ elements_at section.widths section.first section.second place
list_elements section other place there same =
    ap (λ w. elements_between other.second w (list_start other.widths other.first there) (list_end other.widths other.first there)) same.width
    ∙ elements_same section.second other.second (element_width section.widths) (list_start section.widths section.first place) (list_end section.widths section.first place)
    (list_start other.widths other.first there) (list_end other.widths other.first there) (omega (arith, same.ends)) same.bits

pub list_same : (element : List ℕ) (section other : Section) (place there : ℕ) (row : Row) → IsSameList section place other there → Spells (Shape.List element) section place row → Spells (Shape.List element) other there row
list_same element section other place there (Row.List ordinals) same h = record {
  has = record {
    rises = omega (arith, same.ends);
    within = same.within;
    held = subst (λ w. list_end other.widths other.first there * w ≤ 64 * length other.second) (sym same.width) same.held;
  };
  are = h.are ∙ sym (list_elements section other place there same);
  small = h.small;
}
list_same element section other place there _ same h = absurd h

-- ---- sets and maps

bucket_same : (words others : List ℕ) (keys values from to count index : ℕ) → index < count → SameBits words (from * (keys + values)) others (to * (keys + values)) (count * (keys + values))
    → bucket_in others keys values (to + index) ≡ bucket_in words keys values (from + index)
bucket_same words others keys values from to count index inside same =
    let key = item_front words others from to count (keys + values) index keys inside (omega arith) same in
    let value = item_bits words others from to count (keys + values) index keys values inside (omega arith) same in
    let before = (from + index) * (keys + values) in
    let behind = (to + index) * (keys + values) in
    ap (λ x. cond (eqb x (2 ^ keys - 1)) None (Some (x, element_of others (behind + keys) values))) key
    ∙ ap (λ y. cond (eqb (element_of words before keys) (2 ^ keys - 1)) None (Some (element_of words before keys, y))) value

run_same : (section other : Section) (place there : ℕ) → IsSameRun section place other there → run_at other.widths other.first other.second there ≡ run_at section.widths section.first section.second place
run_same section other place there same =
    let start = run_start section.widths section.first place in
    let end = run_end section.widths section.first place in
    let start' = run_start other.widths other.first there in
    let end' = run_end other.widths other.first there in
    let keys = key_width section.widths in
    let values = value_width section.widths in
    let long : end' - start' ≡ end - start = omega (arith, same.ends) in
    ap (λ w. run_in other.second w (value_width other.widths) start' (end' - start')) same.keys
    ∙ ap (λ w. run_in other.second keys w start' (end' - start')) same.values
    ∙ ap (λ n. run_in other.second keys values start' n) long
    ∙ same_items (bucket_in section.second keys values) (bucket_in other.second keys values) start start' (end - start) (λ index below. bucket_same section.second other.second keys values start start' (end - start) index below same.bits)

pairs_same : (section other : Section) (place there : ℕ) (pairs : List (ℕ × ℕ)) → IsSameRun section place other there → SpellsPairs section.widths section.total section.first section.second place pairs
    → SpellsPairs other.widths other.total other.first other.second there pairs
pairs_same section other place there pairs same h =
    let bits : bucket_width other.widths ≡ bucket_width section.widths = omega (arith, same.keys, same.values) in
    record {
      span = record {
        rises = omega (arith, same.ends);
        counted = same.within;
        held = subst (λ w. run_end other.widths other.first there * w ≤ 64 * length other.second) (sym bits) same.held;
      };
      run = subst (λ run. SpellsRun run pairs) (sym (run_same section other place there same)) h.run;
      sized = same.size ∙ h.sized;
    }

pub set_same : (element : List ℕ) (section other : Section) (place there : ℕ) (row : Row) → IsSameRun section place other there → Spells (Shape.Set element) section place row → Spells (Shape.Set element) other there row
set_same element section other place there row same h = (h.0, h.1, pairs_same section other place there h.0 same h.2)

pub map_same : (key value : List ℕ) (section other : Section) (place there : ℕ) (row : Row) → IsSameRun section place other there → Spells (Shape.Map key value) section place row → Spells (Shape.Map key value) other there row
map_same key value section other place there row same h = (h.0, h.1, pairs_same section other place there h.0 same h.2)
