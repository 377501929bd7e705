-- The words and bytes of packed places are determined by the widths, by the law of each kind.
use Rattle.std.proofs.Common.{◌≡◌, ℕ, List, Option, sym, ◌∙◌}
use Rattle.row_model.specs.declared.row.Row.{Row}
use Rattle.schema_model.specs.declared.schema.Shape.{Shape}
use Rattle.object_codec.specs.Packing as object
use Rattle.bit_array.specs.Element.{AreWords}
use Rattle.bucket_codec.specs.Packed as buckets
use Rattle.list_codec.proofs.OnePacking as list
use Rattle.row_packing.specs.Packs.{CanPackPlaces, PacksPlaces}

-- the law of records
abbrev pub AreRecordsPackedOnce : Type 0
AreRecordsPackedOnce = (shape : Shape) (widths : List ℕ) (rows : List (Option Row)) (first first' : List ℕ) (areas areas' : List (List ℕ)) → object.CanPack shape widths rows → AreWords first
    → AreWords first' → object.IsPacked shape widths rows first areas → object.IsPacked shape widths rows first' areas' → (first ≡ first') × (areas ≡ areas')

-- the law of sets and maps
abbrev pub AreBucketsPackedOnce : Type 0
AreBucketsPackedOnce = (shape : Shape) (widths : List ℕ) (rows : List (Option Row)) (first second first' second' : List ℕ) → AreWords first → AreWords second → AreWords first' → AreWords second'
    → buckets.IsPacked shape widths rows first second → buckets.IsPacked shape widths rows first' second' → (first ≡ first') × (second ≡ second')

-- the law of places of any kind
abbrev pub ArePlacesPackedOnce : Type 0
ArePlacesPackedOnce = (shape : Shape) (widths : List ℕ) (places : List (Option Row)) (first first' second second' : List ℕ) (areas areas' : List (List ℕ))
    → CanPackPlaces shape widths places → AreWords first → AreWords first' → AreWords second → AreWords second' → PacksPlaces shape widths places first second areas
    → PacksPlaces shape widths places first' second' areas' → (first ≡ first') × (second ≡ second') × (areas ≡ areas')

pub packed_once : AreRecordsPackedOnce → AreBucketsPackedOnce → ArePlacesPackedOnce
packed_once records runs (Shape.Object key fields) widths places first first' second second' areas areas' can words words' more more' packs packs' =
    let same = records (Shape.Object key fields) widths places first first' areas areas' can words words' packs.0 packs'.0 in
    (same.0, packs.1 ∙ sym packs'.1, same.1)
packed_once records runs (Shape.List element) widths places first first' second second' areas areas' can words words' more more' packs packs' =
    let same = list.lists_packed_once widths places first second first' second' words more words' more' packs.0 packs'.0 in
    (same.0, same.1, packs.1 ∙ sym packs'.1)
packed_once records runs (Shape.Set element) widths places first first' second second' areas areas' can words words' more more' packs packs' =
    let same = runs (Shape.Set element) widths places first second first' second' words more words' more' packs.0 packs'.0 in
    (same.0, same.1, packs.1 ∙ sym packs'.1)
packed_once records runs (Shape.Map key value) widths places first first' second second' areas areas' can words words' more more' packs packs' =
    let same = runs (Shape.Map key value) widths places first second first' second' words more words' more' packs.0 packs'.0 in
    (same.0, same.1, packs.1 ∙ sym packs'.1)
