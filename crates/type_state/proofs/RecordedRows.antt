-- Records at their places, as rows come and go.
use Rattle.std.proofs.Common.{◌≡◌, ℕ, ◌+◌, ◌*◌, ◌^◌, ◌<◌, ◌≤◌, ◌⊎◌, inl, inr, List, length, get_or, drop, Option, None, Some, refl, ap, sym, subst, ◌∙◌, arith}
use Rattle.std.specs.Prelude.{sum}
use Rattle.std.specs.FinMap.{get}
use Rattle.std.proofs.Math.Nat.{mul-le-mul_right}
use Rattle.std.proofs.lemmas.Bool.{cases_eq, cases_lt}
use Rattle.std.proofs.lemmas.List.{at_drop_more, drop_all}
use Rattle.schema_model.specs.declared.schema.Shape.{Shape}
use Rattle.schema_model.specs.Parts.{shape_fields}
use Rattle.row_model.specs.declared.row.Row.{Row}
use Rattle.row_model.specs.Row.{stored_row}
use Rattle.row_model.specs.Table.{RowMap}
use Rattle.object_codec.specs.ObjectPlace.{HoldsPlace, SpellsObjectRow}
use Rattle.object_codec.specs.Packing.{PacksPlace}
use Rattle.record_copies.specs.Fixed.{AreFixed, AreOthersKept, record_at}
use Rattle.record_copies.proofs.RecordBits.{empty_place, gap_row_moved, row_moved}
use Rattle.bit_array.specs.Element.{element_of}
use Rattle.type_rows.specs.declared.patch.PatchSection.{PatchSection}
use Rattle.type_rows.specs.Differing.{Difference, differ_at}
use Rattle.type_rows.proofs.DifferingAt.{differs_here, differs_there}
use Rattle.type_state.specs.Differences.{differing}
use Rattle.type_state.specs.Recorded.{AreRecorded, HasPlaces}

-- ---- one difference

-- What a place has, a place with the same bits has too.
pub moved_place : (shape : Shape) (widths first first' : List ℕ) (areas areas' : List (List ℕ)) (place : ℕ) (row : Option Row) → AreFixed (shape_fields shape) → length areas ≡ length areas' → record_at widths first place ≡ record_at widths first' place → PacksPlace shape widths first areas place row
    → PacksPlace shape widths first' areas' place row
moved_place shape widths first first' areas areas' place None fixed long same h = gap_row_moved shape widths first first' areas areas' place place fixed long same h
moved_place shape widths first first' areas areas' place (Some row) fixed long same h = row_moved shape widths first first' areas areas' place place (stored_row row) fixed long same h

-- An ordinal without a place changes none.
pub unplaced : (shape : Shape) (widths first : List ℕ) (places : ℕ) (d : Difference) → places ≤ d.0 → (rows : RowMap) → AreRecorded shape widths first places rows → AreRecorded shape widths first places (differ_at rows d)
unplaced shape widths first places d high rows are areas long place inside =
    subst (PacksPlace shape widths first areas place) (sym (differs_there rows d place (λ same. omega (arith, same, high, inside)))) (are areas long place inside)

pub placed : (shape : Shape) (widths first first' : List ℕ) (places : ℕ) (d : Difference) → AreFixed (shape_fields shape) → ((areas : List (List ℕ)) → length areas ≡ length (shape_fields shape) → PacksPlace shape widths first' areas d.0 d.1)
    → AreOthersKept widths first first' d.0 → (rows : RowMap) → AreRecorded shape widths first places rows → AreRecorded shape widths first' places (differ_at rows d)
placed shape widths first first' places d fixed here others rows are areas long place inside = elim (cases_eq place d.0) [
  | inl same ↦ subst (PacksPlace shape widths first' areas place) (sym (differs_here rows d place same)) (subst (λ q. PacksPlace shape widths first' areas q d.1) (sym same) (here areas long))
  | inr other ↦ subst (PacksPlace shape widths first' areas place) (sym (differs_there rows d place other))
      (moved_place shape widths first first' areas areas place (get rows place) fixed refl (sym (others place other)) (are areas long place inside))
]

-- No row comes.
pub gone : (shape : Shape) (widths first first' : List ℕ) (places o : ℕ) (slot : Option Row) → AreFixed (shape_fields shape) → length widths ≡ length (shape_fields shape) → slot ≡ None → record_at widths first' o ≡ 0 → AreOthersKept widths first first' o → (rows : RowMap)
    → AreRecorded shape widths first places rows → AreRecorded shape widths first' places (differ_at rows (o, slot))
gone shape widths first first' places o slot fixed wide is clear others =
    placed shape widths first first' places (o, slot) fixed (λ areas long. subst (PacksPlace shape widths first' areas o) (sym is) (empty_place shape widths first' areas o fixed wide long clear)) others

pub bits_there : (widths first : List ℕ) (places o : ℕ) → places * sum widths ≤ 64 * length first → places * sum widths < 2 ^ 64 → o < places → ((o + 1) * sum widths ≤ 64 * length first) × ((o + 1) * sum widths < 2 ^ 64)
bits_there widths first places o within counted inside =
    let less : (o + 1) * sum widths ≤ places * sum widths = mul-le-mul_right (sum widths) (omega (arith, inside)) in (omega (arith, less, within), omega (arith, less, counted))

-- ---- some of them

-- Words of the same length hold as much.
pub same_places : (shape : Shape) (widths first first' : List ℕ) (places : ℕ) → HasPlaces shape widths first places → length first' ≡ length first → HasPlaces shape widths first' places
same_places shape widths first first' places h same = record {
  object = h.object;
  fixed = h.fixed;
  few = h.few;
  long = h.long;
  wide = h.wide;
  within = (let was = h.within in omega (arith, was, same));
  counted = h.counted;
  below = h.below;
}

-- The differences below an index are written.
pub record Writing (shape : Shape) (widths initial now : List ℕ) (places : ℕ) (ds : List Difference) (index : ℕ) : Type 0 where
  pub more : (rows : RowMap) → AreRecorded shape widths initial places rows → (to : RowMap) × AreRecorded shape widths now places to × (differing to (drop index ds) ≡ differing rows ds)
  pub long : length now ≡ length initial

pub begun : (shape : Shape) (widths initial : List ℕ) (places : ℕ) (ds : List Difference) → Writing shape widths initial initial places ds 0
begun shape widths initial places ds = record { more = λ rows are. (rows, are, refl); long = refl }

pub written_more : (shape : Shape) (widths initial now after : List ℕ) (places : ℕ) (ds : List Difference) (index : ℕ) (d : Difference) → Writing shape widths initial now places ds index → index < length ds → d ≡ get_or ds index d → length after ≡ length now
    → ((rows : RowMap) → AreRecorded shape widths now places rows → AreRecorded shape widths after places (differ_at rows d)) → Writing shape widths initial after places ds (index + 1)
unfolding differing
written_more shape widths initial now after places ds index d w inside is same step = record {
  more = λ rows are.
      (let so = w.more rows are in
      (differ_at so.0 d, step so.0 so.1, ap (λ (e : Difference). differing (differ_at so.0 e) (drop (index + 1) ds)) is ∙ sym (at_drop_more (differing so.0) ds index d inside) ∙ so.2));
  long = same ∙ w.long;
}

pub written_all : (shape : Shape) (widths initial now : List ℕ) (places : ℕ) (ds : List Difference) (index : ℕ) → Writing shape widths initial now places ds index → length ds ≤ index → (rows : RowMap) → AreRecorded shape widths initial places rows → AreRecorded shape widths now places (differing rows ds)
unfolding differing
written_all shape widths initial now places ds index w past rows are =
    let so = w.more rows are in
    let same : so.0 ≡ differing rows ds = sym (ap (differing so.0) (drop_all index ds past)) ∙ so.2 in
    subst (AreRecorded shape widths now places) same so.1

-- ---- records of a patch

-- Bits that are copied are the record of the place.
pub record_same : (widths new from : List ℕ) (size o place : ℕ) → size ≡ sum widths → element_of new (o * size + 0) size ≡ element_of from (place * size + 0) size → record_at widths new o ≡ record_at widths from place
record_same widths new from size o place is same =
    let all = subst (λ s. element_of new (o * s + 0) s ≡ element_of from (place * s + 0) s) is same in
    let here : o * sum widths + 0 ≡ o * sum widths = omega arith in
    let there : place * sum widths + 0 ≡ place * sum widths = omega arith in
    sym (ap (λ at. element_of new at (sum widths)) here) ∙ all ∙ ap (λ at. element_of from at (sum widths)) there

pub others_same : (widths old new : List ℕ) (size o : ℕ) → size ≡ sum widths → ((bit width : ℕ) → (bit + width ≤ o * size) ⊎ (o * size + size ≤ bit) → element_of new bit width ≡ element_of old bit width) → AreOthersKept widths old new o
others_same widths old new size o is kept other apart =
    let all = subst (λ s. (bit width : ℕ) → (bit + width ≤ o * s) ⊎ (o * s + s ≤ bit) → element_of new bit width ≡ element_of old bit width) is kept in
    all (other * sum widths) (sum widths)
    (elim (cases_lt other o) [
      | inl before ↦ (let less : (other + 1) * sum widths ≤ o * sum widths = mul-le-mul_right (sum widths) (omega arith) in inl (omega (arith, less)))
      | inr behind ↦ (let more : (o + 1) * sum widths ≤ other * sum widths = mul-le-mul_right (sum widths) (omega (arith, apart, behind)) in inr (omega (arith, more)))
    ])

-- The record of a place of a patch stands where it is copied to.
pub come_copied : (shape : Shape) (patch : PatchSection) (widths from first first' : List ℕ) (places o place : ℕ) (row : Row) → AreFixed (shape_fields shape) → widths ≡ patch.widths → from ≡ patch.first
    → HoldsPlace (shape_fields shape) patch.widths patch.first patch.areas place → SpellsObjectRow shape patch.widths patch.first patch.areas place row → stored_row row ≡ row → record_at widths first' o ≡ record_at widths from place → AreOthersKept widths first first' o
    → (rows : RowMap) → AreRecorded shape widths first places rows → AreRecorded shape widths first' places (differ_at rows (o, Some row))
come_copied shape patch widths from first first' places o place row fixed one two holds spelled stored same others =
    placed shape widths first first' places (o, Some row) fixed
    (λ areas long.
    let there : SpellsObjectRow shape widths from patch.areas place row = subst (λ w. SpellsObjectRow shape w from patch.areas place row) (sym one) (subst (λ f. SpellsObjectRow shape patch.widths f patch.areas place row) (sym two) spelled) in
    let moved = row_moved shape widths from first' patch.areas areas place o row fixed (holds.filled ∙ sym long) (sym same) there in
    subst (SpellsObjectRow shape widths first' areas o) (sym stored) moved) others

-- The bits of a place of a patch can be counted.
pub small_there : (place size : ℕ) → place < 2 ^ 22 → size ≤ 65536 → place * size + size < 2 ^ 64
small_there place size low narrow =
    let product : place * size ≤ 4194304 * size = mul-le-mul_right size (omega (arith, low)) in omega (arith, product, narrow)
