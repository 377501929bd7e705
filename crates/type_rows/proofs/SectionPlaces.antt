-- What a section that can be read holds at a place of a list, a set or a map.
use Rattle.std.proofs.Common.{◌≡◌, ◌+◌, ◌*◌, ◌/◌, ◌<◌, ◌≤◌, ℕ, List, [], ◌∷◌, length, arith}
use Rattle.std.specs.Prelude.{slice_index}
use Rattle.std.proofs.Math.Nat.{mul-le-mul_right}
use Rattle.schema_model.specs.declared.schema.name.Name.{Name}
use Rattle.schema_model.specs.declared.schema.Shape.{Shape}
use Rattle.bit_array.specs.Element.{words_of}
use Rattle.list_codec.specs.ListPlace.{HoldsListPlace, IsList}
use Rattle.bucket_codec.specs.BucketPlace.{HoldsPointers}
use Rattle.bucket_codec.specs.Buckets.{IsBucketShape}
use Rattle.type_rows.specs.declared.section.Section.{Section}
use Rattle.type_rows.specs.Layout.{place_bits, places_of}
use Rattle.type_rows.specs.WellFormed.{IsReadable}
use Rattle.type_rows.proofs.Places.{widths_long}
use Rattle.type_rows.specs.RunItems.{HasRuns}

-- The places up to one have no more bits than the words.
within : (places size words place : ℕ) → (places * size + 63) / 64 ≤ words → place < places → (place + 1) * size ≤ 64 * words
within places size words place enough inside =
    let below : (place + 1) * size ≤ places * size = mul-le-mul_right size (omega (arith, inside)) in omega (arith, enough, below)

list_within : (element : Name) (places : ℕ) (widths : List ℕ) (words place : ℕ) → length widths ≡ 2 → words_of (places * place_bits (Shape.List element) widths) ≤ words → place < places → (place + 1) * slice_index widths 0 ≤ 64 * words
list_within element places [] words place two enough inside = absurd (omega (arith, two))
list_within element places (pointer ∷ rest) words place two enough inside = within places pointer words place enough inside

pub holds_list : (element : Name) (section : Section) (place : ℕ) → IsReadable (Shape.List element) section → place < places_of section.max → HoldsListPlace section.widths section.first place
holds_list element section place readable inside = record {
  two = readable.well.wide.0;
  narrow = readable.well.wide.1;
  within = list_within element (places_of section.max) section.widths (length section.first) place readable.well.wide.0 readable.well.enough inside;
}

set_within : (element : Name) (places : ℕ) (widths : List ℕ) (words place : ℕ) → length widths ≡ 3 → words_of (places * place_bits (Shape.Set element) widths) ≤ words → place < places → (place + 1) * (slice_index widths 0 + slice_index widths 1) ≤ 64 * words
set_within element places [] words place three enough inside = absurd (omega (arith, three))
set_within element places (pointer ∷ []) words place three enough inside = absurd (omega (arith, three))
set_within element places (pointer ∷ size ∷ rest) words place three enough inside = within places (pointer + size) words place enough inside

map_within : (key value : Name) (places : ℕ) (widths : List ℕ) (words place : ℕ) → length widths ≡ 4 → words_of (places * place_bits (Shape.Map key value) widths) ≤ words → place < places → (place + 1) * (slice_index widths 0 + slice_index widths 1) ≤ 64 * words
map_within key value places [] words place four enough inside = absurd (omega (arith, four))
map_within key value places (pointer ∷ []) words place four enough inside = absurd (omega (arith, four))
map_within key value places (pointer ∷ size ∷ rest) words place four enough inside = within places (pointer + size) words place enough inside

pub holds_set : (element : Name) (section : Section) (place : ℕ) → IsReadable (Shape.Set element) section → place < places_of section.max → HoldsPointers section.widths section.first place
holds_set element section place readable inside = record {
  narrow = readable.well.wide.1;
  within = set_within element (places_of section.max) section.widths (length section.first) place readable.well.wide.0 readable.well.enough inside;
  below = omega (arith, inside, readable.few);
}

pub holds_map : (key value : Name) (section : Section) (place : ℕ) → IsReadable (Shape.Map key value) section → place < places_of section.max → HoldsPointers section.widths section.first place
holds_map key value section place readable inside = record {
  narrow = readable.well.wide.1;
  within = map_within key value (places_of section.max) section.widths (length section.first) place readable.well.wide.0 readable.well.enough inside;
  below = omega (arith, inside, readable.few);
}

-- A type of runs has a width at least.
pub has_pointer : (shape : Shape) (section : Section) → HasRuns shape → IsReadable shape section → 0 < length section.widths
has_pointer (Shape.Object key fields) section runs readable = absurd runs
has_pointer (Shape.List element) section runs readable = omega (arith, widths_long (Shape.List element) section readable)
has_pointer (Shape.Set element) section runs readable = omega (arith, widths_long (Shape.Set element) section readable)
has_pointer (Shape.Map key value) section runs readable = omega (arith, widths_long (Shape.Map key value) section readable)

pub holds_buckets : (shape : Shape) (section : Section) (place : ℕ) → IsBucketShape shape → IsReadable shape section → place < places_of section.max → HoldsPointers section.widths section.first place
holds_buckets (Shape.Set element) section place kind readable inside = holds_set element section place readable inside
holds_buckets (Shape.Map key value) section place kind readable inside = holds_map key value section place readable inside
holds_buckets _ section place kind readable inside = absurd kind

-- Those of a list.
pub holds_some_list : (shape : Shape) (section : Section) (place : ℕ) → IsList shape → IsReadable shape section → place < places_of section.max → HoldsListPlace section.widths section.first place
holds_some_list (Shape.List element) section place kind readable inside = holds_list element section place readable inside
holds_some_list _ section place kind readable inside = absurd kind

pub list_widths : (shape : Shape) (section : Section) → IsList shape → IsReadable shape section → (length section.widths ≡ 2) × (slice_index section.widths 1 ≤ 64)
list_widths (Shape.List element) section kind readable = (readable.well.wide.0, readable.well.wide.1 1 0 (omega (arith, readable.well.wide.0)))
list_widths _ section kind readable = absurd kind
