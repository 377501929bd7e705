-- Places that the widths chosen over two states can pack: there are words and bytes of them, which fit what spells them.
use Rattle.std.proofs.Common.{ℕ, ◌+◌, ◌*◌, ◌^◌, ◌<◌, ◌≤◌, suc, zero, List, [], ◌∷◌, length, get_or, Option, Some, None, refl, sym, subst, arith}
use Rattle.std.specs.Prelude.{All, IfSome, map, sum}
use Rattle.std.specs.List.{enumerate_from}
use Rattle.std.proofs.Math.Nat.{mul-le-mul}
use Rattle.std.proofs.lemmas.List.{length-map}
use Rattle.std.proofs.lemmas.List.Elements.{All-cons, All-get_or}
use Rattle.bit_array.specs.Element.{words_of}
use Rattle.schema_model.specs.declared.schema.Field.{Field}
use Rattle.schema_model.specs.declared.schema.Shape.{Shape}
use Rattle.row_model.specs.BothStates.{rows_of_both}
use Rattle.row_model.specs.Row.{IsRowInRange}
use Rattle.row_model.specs.Table.{Table, row_at}
use Rattle.row_model.specs.declared.row.Row.{Row}
use Rattle.object_codec.proofs.PlacesPacked.{bits_small}
use Rattle.object_codec.specs.Packing.{areas_for, values_of_place}
use Rattle.object_codec.specs.Stored.{column, values_bytes}
use Rattle.list_codec.specs.ListPlace.{pointer_width, element_width}
use Rattle.list_codec.specs.Packing.{elements_of_place, elements_of_places}
use Rattle.list_codec.specs.Packing as list
use Rattle.object_codec.specs.Packing as object
use Rattle.bucket_codec.specs.Packed as bucket
use Rattle.bucket_codec.specs.BucketPlace as run
use Rattle.type_rows.specs.WordsHeld.{part_bytes}
use Rattle.row_packing.specs.Chosen.{IsRowOf, KeepsCounts}
use Rattle.row_packing.specs.Packs.{CanPackPlaces, PacksPlaces}
use Rattle.row_packing.specs.Places.{Agree, places_under}
use Rattle.row_packing.proofs.Greatest.{all_gives, all_none}
use Rattle.row_packing.proofs.ListPlaces as elements
use Rattle.row_packing.proofs.RowBytes.{column_places, field_le}
use Rattle.row_packing.proofs.RowsUnder.{RiseFrom, all_places, sum_both}
use Rattle.row_packing.proofs.Suiting.{bytes_few, list_few}
use Rattle.blob_writing.specs.Carried.{FitWords}
use Rattle.blob_writing.proofs.PackingLists.{packs_lists}
use Rattle.blob_writing.proofs.PackingRecords.{AreInRange, packs_records}
use Rattle.blob_writing.proofs.PackingRuns.{packs_runs}

-- the words and bytes of places
pub record HasPacked (shape : Shape) (widths : List ℕ) (places : List (Option Row)) : Type 0 where
  pub first : List ℕ
  pub second : List ℕ
  pub areas : List (List ℕ)
  pub packs : PacksPlaces shape widths places first second areas
  pub first_fits : FitWords first
  pub second_fits : FitWords second
  pub areas_fit : All (λ area. length area < 2 ^ 64) areas

-- what is known of a type of two states, and of the ordinals of the places
pub record ArePlaces (shape : Shape) (old new : Table) (type_index : ℕ) (ordinals : List ℕ) : Type 0 where
  pub agree : Agree old new type_index
  pub keeps : KeepsCounts shape old new type_index
  pub rows : All (IsRowOf shape) (rows_of_both old new type_index)
  pub rise : RiseFrom 0 ordinals
  pub few : length ordinals ≤ 2 ^ 22

-- few bits take few words
few_words : (bits : ℕ) → bits < 2 ^ 64 → words_of bits < 2 ^ 64
few_words bits few = omega arith

no_words : FitWords []
no_words = record { few = omega arith; small = all_none (λ word. word < 2 ^ 64) }

no_areas : All (λ (area : List ℕ). length area < 2 ^ 64) []
no_areas = all_none (λ (area : List ℕ). length area < 2 ^ 64)

-- the bytes of each field
areas_small : (from : ℕ) (fields : List Field) (places : List (Option Row)) → ((index : ℕ) → length (values_bytes (column index (map values_of_place places))) < 2 ^ 64)
    → All (λ area. length area < 2 ^ 64) (map (λ part. values_bytes (column part.0 (map values_of_place places))) (enumerate_from from fields))
areas_small from [] places each = no_areas
areas_small from (field ∷ fields) places each =
    All-cons (λ (area : List ℕ). length area < 2 ^ 64) (values_bytes (column from (map values_of_place places))) _ (each from) (areas_small (from + 1) fields places each)

module _ (shape : Shape) (old new : Table) (type_index : ℕ) (ordinals : List ℕ) (are : ArePlaces shape old new type_index ordinals) where
  in_range : AreInRange (places_under new type_index ordinals)
  in_range = all_places old new type_index are.agree IsRowInRange ordinals (all_gives (IsRowOf shape) IsRowInRange (rows_of_both old new type_index) (λ row is. is.1) are.rows)

  bytes_small : (index : ℕ) → length (values_bytes (column index (map values_of_place (places_under new type_index ordinals)))) < 2 ^ 64
  bytes_small index =
      let places = places_under new type_index ordinals in
      omega (
        arith,
        column_places index places,
        sum_both old new type_index are.agree (part_bytes index) ordinals are.rise,
        field_le index (rows_of_both old new type_index),
        bytes_few shape old new type_index are.keeps,
      )

  places_few : length (places_under new type_index ordinals) ≤ 2 ^ 22
  places_few = omega (arith, length-map ordinals (row_at new type_index), are.few)

-- ---- by the kind

list_elements : (element : List ℕ) (places : List (Option Row)) → All (λ place. IfSome place (IsRowOf (Shape.List element))) places → All (λ place. All (λ e. e < 2 ^ 32) (elements_of_place place)) places
list_elements element places all =
    all_gives (λ place. IfSome place (IsRowOf (Shape.List element))) (λ place. All (λ e. e < 2 ^ 32) (elements_of_place place)) places one all
  where
    one : (place : Option Row) → IfSome place (IsRowOf (Shape.List element)) → All (λ e. e < 2 ^ 32) (elements_of_place place)
    one None is = all_none (λ e. e < 2 ^ 32)
    one (Some (Row.List ordinals)) is = is.1
    one (Some (Row.Object values)) is = absurd is.0
    one (Some (Row.Set ordinals)) is = absurd is.0
    one (Some (Row.Map pairs)) is = absurd is.0

packs_object : (key : Option (List (List ℕ))) (fields : List Field) (old new : Table) (type_index : ℕ) (ordinals widths : List ℕ) → ArePlaces (Shape.Object key fields) old new type_index ordinals
    → object.CanPack (Shape.Object key fields) widths (places_under new type_index ordinals) → HasPacked (Shape.Object key fields) widths (places_under new type_index ordinals)
packs_object key fields old new type_index ordinals widths are can =
    let shape : Shape = Shape.Object key fields in
    let places = places_under new type_index ordinals in
    let made = packs_records shape widths places can (in_range shape old new type_index ordinals are) in
    record {
      first = made.first;
      second = [];
      areas = made.areas;
      packs = (made.packed, refl);
      first_fits = record { few = omega (arith, made.packed.words, few_words (length places * sum widths) (bits_small shape widths places can).1); small = made.are };
      second_fits = no_words;
      areas_fit = subst (All (λ (area : List ℕ). length area < 2 ^ 64)) (sym made.packed.bytes) (areas_small 0 fields places (bytes_small shape old new type_index ordinals are));
    }

packs_list : (element : List ℕ) (old new : Table) (type_index : ℕ) (ordinals widths : List ℕ) → ArePlaces (Shape.List element) old new type_index ordinals
    → list.CanPack (Shape.List element) widths (places_under new type_index ordinals) → HasPacked (Shape.List element) widths (places_under new type_index ordinals)
packs_list element old new type_index ordinals widths are can =
    let shape : Shape = Shape.List element in
    let places = places_under new type_index ordinals in
    let both = rows_of_both old new type_index in
    let counted =
    elements.count_places element old new type_index (record { agree = are.agree; rows = are.rows; few = list_few element both are.keeps.items }) ordinals are.rise in
    let few = list_few element both are.keeps.items in
    let many = places_few shape old new type_index ordinals are in
    let made =
    packs_lists shape widths places can
    (record { places = omega (arith, many); elements = omega (arith, counted, few); ordinals = list_elements element places (all_places old new type_index are.agree (IsRowOf shape) ordinals are.rows) }) in
    let narrow = All-get_or (λ (width : ℕ). width ≤ 64) widths 0 0 (omega (arith, can.two)) can.narrow in
    let second_narrow = All-get_or (λ (width : ℕ). width ≤ 64) widths 1 0 (omega (arith, can.two)) can.narrow in
    let bits : length places * pointer_width widths ≤ 2 ^ 22 * 64 = mul-le-mul many narrow in
    let second_bits : length (elements_of_places places) * element_width widths ≤ 2 ^ 25 * 64 = mul-le-mul (let l : length (elements_of_places places) ≤ 2 ^ 25 = omega (arith, counted, few) in l) second_narrow in
    record {
      first = made.first;
      second = made.second;
      areas = [];
      packs = (made.packed, refl);
      first_fits = record { few = omega (arith, made.packed.pointer_words, bits); small = made.first_words };
      second_fits = record { few = omega (arith, made.packed.element_words, second_bits); small = made.second_words };
      areas_fit = no_areas;
    }

-- words of sets or maps
record HasRuns (shape : Shape) (widths : List ℕ) (places : List (Option Row)) : Type 0 where
  first : List ℕ
  second : List ℕ
  packed : bucket.IsPacked shape widths places first second
  first_fits : FitWords first
  second_fits : FitWords second

narrow_any : (widths : List ℕ) (index : ℕ) → All (λ width. width ≤ 64) widths → get_or widths index 0 ≤ 64
narrow_any [] index all = omega arith
narrow_any (width ∷ widths) zero all = all 0 0 (omega arith)
narrow_any (width ∷ widths) (suc index) all = narrow_any widths index (λ k d inside. all (suc k) d (omega arith))

packs_buckets : (shape : Shape) (old new : Table) (type_index : ℕ) (ordinals widths : List ℕ) → ArePlaces shape old new type_index ordinals
    → bucket.IsPackable shape widths (places_under new type_index ordinals) → HasRuns shape widths (places_under new type_index ordinals)
packs_buckets shape old new type_index ordinals widths are can =
    let places = places_under new type_index ordinals in
    let made = packs_runs shape widths places can (in_range shape old new type_index ordinals are) in
    let many = places_few shape old new type_index ordinals are in
    let narrow : run.place_width widths ≤ 128 = omega (arith, narrow_any widths 0 can.narrow, narrow_any widths 1 can.narrow) in
    let bits : length places * run.place_width widths ≤ 2 ^ 22 * 128 = mul-le-mul many narrow in
    record {
      first = made.first;
      second = made.second;
      packed = made.packed;
      first_fits = record { few = omega (arith, made.packed.first_bits.long, bits); small = made.first_words };
      second_fits = record { few = omega (arith, made.packed.second_bits.long, can.buckets); small = made.second_words };
    }

-- what can be packed has words and bytes
pub packs_places : (shape : Shape) (old new : Table) (type_index : ℕ) (ordinals widths : List ℕ) → ArePlaces shape old new type_index ordinals
    → CanPackPlaces shape widths (places_under new type_index ordinals) → HasPacked shape widths (places_under new type_index ordinals)
packs_places (Shape.Object key fields) old new type_index ordinals widths are can = packs_object key fields old new type_index ordinals widths are can
packs_places (Shape.List element) old new type_index ordinals widths are can = packs_list element old new type_index ordinals widths are can
packs_places (Shape.Set element) old new type_index ordinals widths are can =
    let made = packs_buckets (Shape.Set element) old new type_index ordinals widths are can in
    record { first = made.first; second = made.second; areas = []; packs = (made.packed, refl); first_fits = made.first_fits; second_fits = made.second_fits; areas_fit = no_areas }
packs_places (Shape.Map key value) old new type_index ordinals widths are can =
    let made = packs_buckets (Shape.Map key value) old new type_index ordinals widths are can in
    record { first = made.first; second = made.second; areas = []; packs = (made.packed, refl); first_fits = made.first_fits; second_fits = made.second_fits; areas_fit = no_areas }
