-- Places of a section that take no more than their rows.
use Rattle.std.proofs.Common.{◌≡◌, ℕ, ◌+◌, ◌-◌, ◌*◌, ◌^◌, ◌<◌, ◌≤◌, inl, inr, List, Option, None, length, ap, sym, subst, ◌∙◌, arith, Some, sum}
use Rattle.std.specs.List.{AllZip, range_with_len}
use Rattle.std.proofs.lemmas.List.{length-map}
use Rattle.std.proofs.lemmas.List.FromFn.{length-range_with_len}
use Rattle.std.proofs.lemmas.Bool.{cases_eq}
use Rattle.schema_model.specs.declared.schema.Field.{Field}
use Rattle.schema_model.specs.declared.schema.FieldKind.{FieldKind}
use Rattle.schema_model.specs.declared.schema.Shape.{Shape}
use Rattle.row_model.specs.declared.row.Row.{Row}
use Rattle.object_codec.specs.ObjectPlace.{HoldsPlace, IsFieldWidth, IsObject, parts_of}
use Rattle.object_codec.specs.Packing.{IsGap}
use Rattle.object_codec.proofs.FieldWidths.{fields_small, widths_long}
use Rattle.record_copies.specs.Fixed.{AreFixed}
use Rattle.record_copies.proofs.RecordBits.{empty_place}
use Rattle.bit_array.specs.Element.{element_of}
use Rattle.schema_model.specs.Parts.{shape_fields}
use Rattle.std.proofs.Math.Nat.{mul-le-mul}
use Rattle.bucket_codec.specs.BucketCount.{bucket_count}
use Rattle.bucket_codec.specs.BucketPlace.{IsSpan, end_at, size_at, start_at}
use Rattle.bucket_codec.specs.Buckets.{IsBucketShape}
use Rattle.bucket_codec.specs.Run.{bucket_in, run_in}
use Rattle.bucket_codec.specs.declared.bucket_rows.BucketRows.{BucketRows}
use Rattle.packed_half.specs.LaidOut.{IsTight}
use Rattle.bucket_codec.specs.BucketRows.{HoldsAt, IsSpanAt}
use Rattle.list_codec.specs.ListPlace.{HasElements, IsList, SpellsList}
use Rattle.list_codec.specs.ListRows.{HasElementsAt, HoldsAt as HoldsListAt}
use Rattle.list_codec.specs.declared.list_rows.ListRows.{ListRows}
use Rattle.type_rows.specs.RunItems.{AreListsOf, IsOfSection}
use Rattle.type_rows.proofs.RunFaults.{holds_at, holds_lists, of_lists, of_section}
use Rattle.type_rows.proofs.RunsFit.{items_told}
use Rattle.type_rows.specs.declared.section.Section.{Section}
use Rattle.type_rows.specs.Layout.{places_of}
use Rattle.type_rows.specs.Loads.{Spells}
use Rattle.type_rows.specs.WellFormed.{IsReadable, IsWidth}
use Rattle.type_rows.proofs.Places.{holds_object}
use Rattle.type_state.specs.SectionRows.{IsTightThere, IsWithin, with_total}

-- ---- up to one

abbrev pub AreTight : Shape → Section → ℕ → ℕ → Type 0
AreTight shape section total count = (place : ℕ) → place < count → IsTightThere shape section total place

pub one_more : (shape : Shape) (section : Section) (total count : ℕ) → AreTight shape section total count → IsTightThere shape section total count → AreTight shape section total (count + 1)
one_more shape section total count so one place below = elim (cases_eq place count) [
  | inl same ↦ subst (IsTightThere shape section total) (sym same) one
  | inr other ↦ so place (omega (arith, below, λ (e : place ≡ count). other e))
]

-- ---- places with a row

-- A section is as readable with another total that is no greater.
pub cut_readable : (shape : Shape) (section : Section) (total : ℕ) → IsReadable shape section → total ≤ section.total → IsReadable shape (with_total section total)
cut_readable shape section total readable few = record {
  well = record { wide = readable.well.wide; filled = readable.well.filled; enough = readable.well.enough; short = readable.well.short };
  many = readable.many;
  few = readable.few;
  items = omega (arith, readable.items, few);
}

pub record_within : (shape : Shape) (section : Section) (total place : ℕ) (row : Row) (key : Option (List (List ℕ))) (fields : List Field) → shape ≡ Shape.Object key fields → Spells shape section place row
    → IsWithin shape section total place row
record_within (Shape.Object key' fields') section total place row key fields is spells = record { spelled = spells; tight = tt }
record_within (Shape.List element) section total place row key fields is spells = absurd cc
record_within (Shape.Set element) section total place row key fields is spells = absurd cc
record_within (Shape.Map k v) section total place row key fields is spells = absurd cc

list_cut : (widths : List ℕ) (total other : ℕ) (first second : List ℕ) (place : ℕ) (ordinals : List ℕ) → HasElements widths other first second place → SpellsList widths total first second place ordinals
    → SpellsList widths other first second place ordinals
list_cut widths total other first second place ordinals has spells = record { has = has; are = spells.are; small = spells.small }

list_within_there : (shape : Shape) (section : Section) (total place : ℕ) (row : Row) → IsList shape → HasElements section.widths total section.first section.second place → Spells shape section place row
    → IsWithin shape section total place row
list_within_there (Shape.List element) section total place (Row.List ordinals) list has spells =
    record { spelled = list_cut section.widths section.total total section.first section.second place ordinals has spells; tight = tt }
list_within_there (Shape.List element) section total place _ list has spells = absurd spells
list_within_there _ section total place row list has spells = absurd list

pub list_within : (shape : Shape) (section : Section) (total : ℕ) (rows : ListRows) (place : ℕ) (row : Row) (element : List ℕ) → shape ≡ Shape.List element → AreListsOf (with_total section total) rows
    → HasElementsAt rows place → Spells shape section place row → IsWithin shape section total place row
list_within shape section total rows place row element is of has =
    list_within_there shape section total place row (subst IsList (sym is) tt) (of_lists (λ w t f s. HasElements w t f s place) (with_total section total) rows of has)

pub lists_hold : (shape : Shape) (section : Section) (total : ℕ) (rows : ListRows) (place : ℕ) (element : List ℕ) → shape ≡ Shape.List element → IsReadable shape section → total ≤ section.total
    → AreListsOf (with_total section total) rows → place < places_of section.max → HoldsListAt rows place
lists_hold shape section total rows place element is readable few of inside =
    holds_lists shape (with_total section total) rows place (subst IsList (sym is) tt) (cut_readable shape section total readable few) of inside

run_within_there : (shape : Shape) (section : Section) (total place : ℕ) (row : Row) → IsBucketShape shape → IsSpan section.widths total section.first section.second place
    → end_at section.widths section.first place - start_at section.widths section.first place ≡ bucket_count (size_at section.widths section.first place) → Spells shape section place row → IsWithin shape section total place row
run_within_there (Shape.Set element) section total place (Row.Set ordinals) kind span has spells = record {
  spelled = (spells.0, spells.1, record { span = span; run = spells.2.run; sized = spells.2.sized });
  tight = omega (arith, has, span.rises, items_told (Shape.Set element) section place (Row.Set ordinals) spells);
}
run_within_there (Shape.Set element) section total place _ kind span has spells = absurd spells.1
run_within_there (Shape.Map key value) section total place (Row.Map pairs) kind span has spells = record {
  spelled = (spells.0, spells.1, record { span = span; run = spells.2.run; sized = spells.2.sized });
  tight = omega (arith, has, span.rises, items_told (Shape.Map key value) section place (Row.Map pairs) spells);
}
run_within_there (Shape.Map key value) section total place _ kind span has spells = absurd spells.1
run_within_there _ section total place row kind span has spells = absurd kind

pub run_within : (shape : Shape) (section : Section) (total : ℕ) (rows : BucketRows) (place : ℕ) (row : Row) → IsBucketShape shape → IsOfSection (with_total section total) rows → IsSpanAt rows place
    → end_at rows.widths.now rows.first.now place - start_at rows.widths.now rows.first.now place ≡ bucket_count (size_at rows.widths.now rows.first.now place) → Spells shape section place row → IsWithin shape section total place row
run_within shape section total rows place row kind of span has =
    run_within_there shape section total place row kind (of_section (λ w t f s. IsSpan w t f s place) (with_total section total) rows of span)
    (of_section (λ widths t first second. end_at widths first place - start_at widths first place ≡ bucket_count (size_at widths first place)) (with_total section total) rows of has)

pub runs_hold : (shape : Shape) (section : Section) (total : ℕ) (rows : BucketRows) (place : ℕ) → IsBucketShape shape → IsReadable shape section → total ≤ section.total → IsOfSection (with_total section total) rows
    → place < places_of section.max → HoldsAt rows place
runs_hold shape section total rows place kind readable few of inside = holds_at shape (with_total section total) rows place kind (cut_readable shape section total readable few) of inside

-- ---- places without a row

-- A run without buckets, with the size 0, is as where there is no row.
run_free_there : (shape : Shape) (section : Section) (place : ℕ) → IsBucketShape shape
    → (end_at section.widths section.first place ≡ start_at section.widths section.first place) × (size_at section.widths section.first place ≡ 0) → IsTight shape section place None
run_free_there (Shape.Set element) section place kind none = none
run_free_there (Shape.Map key value) section place kind none = none
run_free_there _ section place kind none = absurd kind

pub run_free : (shape : Shape) (section : Section) (rows : BucketRows) (place : ℕ) → IsBucketShape shape → IsOfSection (with_total section section.total) rows
    → (end_at rows.widths.now rows.first.now place ≡ start_at rows.widths.now rows.first.now place) × (size_at rows.widths.now rows.first.now place ≡ 0) → IsTight shape section place None
run_free shape section rows place kind of none =
    run_free_there shape section place kind
    (of_section (λ widths total first second. (end_at widths first place ≡ start_at widths first place) × (size_at widths first place ≡ 0)) section rows of none)

-- ---- records of places without a row

pub gap_holds : (shape : Shape) (section : Section) (place : ℕ) (key : Option (List (List ℕ))) (fields given : List Field) (widths first : List ℕ) → shape ≡ Shape.Object key fields → given ≡ fields → widths ≡ section.widths
    → first ≡ section.first → IsReadable shape section → place < places_of section.max → (areas : List (List ℕ)) × HoldsPlace given widths first areas place
gap_holds (Shape.Object key' fields') section place key fields given widths first is given_is widths_are first_is readable inside =
    let same : fields' ≡ given = (let e : fields' ≡ fields = cc in e) ∙ sym given_is in (
      section.areas,
      subst (λ (fs : List Field). HoldsPlace fs widths first section.areas place) same
          (subst (λ (ws : List ℕ). HoldsPlace fields' ws first section.areas place) (sym widths_are)
          (subst (λ (ws : List ℕ). HoldsPlace fields' section.widths ws section.areas place) (sym first_is) (holds_object (Shape.Object key' fields') section place tt readable inside))),
    )
gap_holds (Shape.List element) section place key fields given widths first is given_is widths_are first_is readable inside = absurd cc
gap_holds (Shape.Set element) section place key fields given widths first is given_is widths_are first_is readable inside = absurd cc
gap_holds (Shape.Map k v) section place key fields given widths first is given_is widths_are first_is readable inside = absurd cc

pub record_free : (shape : Shape) (section : Section) (place : ℕ) (key : Option (List (List ℕ))) (fields given : List Field) (widths first : List ℕ) → shape ≡ Shape.Object key fields → given ≡ fields → widths ≡ section.widths
    → first ≡ section.first → IsReadable shape section
    → ((areas : List (List ℕ)) → length areas ≡ length given → AllZip (λ field part. IsGap field.kind part) given (parts_of widths first areas place)) → IsTight shape section place None
record_free (Shape.Object key' fields') section place key fields given widths first is given_is widths_are first_is readable free =
    let same : given ≡ fields' = given_is ∙ (let e : fields ≡ fields' = cc in e) in
    let filled : length section.areas ≡ length given = readable.well.filled ∙ ap (λ (fs : List Field). length fs) (sym same) in
    subst (λ (fs : List Field). AllZip (λ field part. IsGap field.kind part) fs (parts_of section.widths section.first section.areas place)) same
    (subst (λ (ws : List ℕ). AllZip (λ field part. IsGap field.kind part) given (parts_of ws section.first section.areas place)) widths_are
    (subst (λ (ws : List ℕ). AllZip (λ field part. IsGap field.kind part) given (parts_of widths ws section.areas place)) first_is (free section.areas filled)))
record_free (Shape.List element) section place key fields given widths first is given_is widths_are first_is readable free = absurd cc
record_free (Shape.Set element) section place key fields given widths first is given_is widths_are first_is readable free = absurd cc
record_free (Shape.Map k v) section place key fields given widths first is given_is widths_are first_is readable free = absurd cc

-- ---- how many buckets a run has

pub run_count : (words : List ℕ) (key value start count : ℕ) → length (run_in words key value start count) ≡ count
run_count words key value start count = length-map (range_with_len start count) (bucket_in words key value) ∙ length-range_with_len start count

-- ---- records

abbrev pub AreRecordsTight : Shape → Section → ℕ → Type 0
AreRecordsTight shape section count = (total place : ℕ) → place < count → IsTightThere shape section total place

pub one_record_more : (shape : Shape) (section : Section) (count : ℕ) → AreRecordsTight shape section count → ((total : ℕ) → IsTightThere shape section total count) → AreRecordsTight shape section (count + 1)
one_record_more shape section count so one total = one_more shape section total count (so total) (one total)

-- ---- records without STRING and BYTES

-- The words hold the record of a place, whose bits have numbers of 64 bits.
pub record HoldsBits (first : List ℕ) (size place : ℕ) : Type 0 where
  pub inside : place * size + size ≤ 64 * length first
  pub counted : place * size + size < 2 ^ 64
  pub small : size ≤ 65536

pub holds_bits : (shape : Shape) (section : Section) (place size : ℕ) → IsObject shape → IsReadable shape section → place < places_of section.max → size ≡ sum section.widths → HoldsBits section.first size place
holds_bits shape section place size object readable inside is =
    let holds = holds_object shape section place object readable inside in
    let small : sum section.widths ≤ 65536 = fields_small IsFieldWidth (λ (field : Field) width at. at.0) (shape_fields shape) section.widths holds.few holds.wide in
    let next : place + 1 ≤ 2 ^ 32 = omega (arith, holds.below) in
    let product : (place + 1) * sum section.widths ≤ 2 ^ 32 * 65536 = mul-le-mul next small in
    subst (λ n. HoldsBits section.first n place) (sym is) (record { inside = omega (arith, holds.within); counted = omega (arith, product); small = small })

pub bits_free : (shape : Shape) (section : Section) (place size : ℕ) → IsObject shape → IsReadable shape section → place < places_of section.max → AreFixed (shape_fields shape) → size ≡ sum section.widths
    → element_of section.first (place * size) size ≡ 0 → IsTight shape section place None
bits_free (Shape.Object key fields) section place size object readable inside fixed is clear =
    let holds = holds_object (Shape.Object key fields) section place object readable inside in
    empty_place (Shape.Object key fields) section.widths section.first section.areas place fixed (widths_long fields section.widths section.first section.areas place holds) holds.filled
    (subst (λ n. element_of section.first (place * n) n ≡ 0) is clear)
bits_free (Shape.List element) section place size object readable inside fixed is clear = absurd object
bits_free (Shape.Set element) section place size object readable inside fixed is clear = absurd object
bits_free (Shape.Map k v) section place size object readable inside fixed is clear = absurd object

is_narrow : (max : Option ℕ) (kind : FieldKind) (width : ℕ) → IsWidth max kind width → width ≤ 64
is_narrow None kind width is = is
is_narrow (Some max) kind width is = is.0

pub section_small : (shape : Shape) (section : Section) → IsObject shape → IsReadable shape section → sum section.widths ≤ 65536
section_small (Shape.Object key fields) section object readable =
    fields_small (λ (field : Field) width. IsWidth section.max field.kind width) (λ (field : Field) width is. is_narrow section.max field.kind width is) fields section.widths readable.many readable.well.wide
section_small (Shape.List element) section object readable = absurd object
section_small (Shape.Set element) section object readable = absurd object
section_small (Shape.Map k v) section object readable = absurd object
