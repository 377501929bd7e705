-- A section that can be read: what the codec of its kind needs at a place.
use Rattle.std.proofs.Common.{◌≡◌, ◌+◌, ◌*◌, ◌/◌, ◌<◌, ◌≤◌, ℕ, zero, suc, List, [], ◌∷◌, Option, None, Some, length, refl, arith}
use Rattle.std.specs.Prelude.{All, sum, slice_index}
use Rattle.std.specs.List.{AllZip}
use Rattle.std.proofs.Math.Nat.{mul-le-mul_right}
use Rattle.std.proofs.lemmas.Slice.Zip.{AllZip-long}
use Rattle.schema_model.specs.declared.schema.name.Name.{Name}
use Rattle.schema_model.specs.declared.schema.Field.{Field}
use Rattle.schema_model.specs.declared.schema.Shape.{Shape}
use Rattle.schema_model.specs.Parts.{shape_fields}
use Rattle.object_codec.specs.ObjectPlace.{IsObject, IsFieldWidth, HoldsPlace}
use Rattle.type_rows.specs.declared.section.Section.{Section}
use Rattle.type_rows.specs.Layout.{places_of, width_count}
use Rattle.type_rows.specs.WellFormed.{IsWidth, AreWidths, IsReadable}

-- Where there is a place the widths are those of the fields.
field_widths : (max : Option ℕ) (fields : List Field) (widths : List ℕ) → 0 < places_of max → AllZip (λ (field : Field) width. IsWidth max field.kind width) fields widths → AllZip IsFieldWidth fields widths
field_widths None fields widths some h = absurd (omega arith)
field_widths (Some max) fields widths some h = h

-- The records up to a place have no more bits than the words.
within : (places size words place : ℕ) → (places * size + 63) / 64 ≤ words → place < places → (place + 1) * size ≤ 64 * words
within places size words place enough inside =
    let below : (place + 1) * size ≤ places * size = mul-le-mul_right size (omega arith) in omega arith

-- What the codec of OBJECTs needs at a place.
pub holds_object : (shape : Shape) (section : Section) (place : ℕ) → IsObject shape → IsReadable shape section → place < places_of section.max → HoldsPlace (shape_fields shape) section.widths section.first section.areas place
holds_object (Shape.Object key fields) section place kind h inside = record {
  few = h.many;
  wide = field_widths section.max fields section.widths (omega arith) h.well.wide;
  filled = h.well.filled;
  within = within (places_of section.max) (sum section.widths) (length section.first) place h.well.enough inside;
  below = omega (arith, h.few);
}
holds_object _ section place kind h inside = absurd kind

-- A type of sets or maps.
abbrev pub IsBuckets : Shape → Type 0
IsBuckets (Shape.Set element) = Unit {0}
IsBuckets (Shape.Map key value) = Unit {0}
IsBuckets _ = ⊥

pub is_buckets : (shape : Shape) → ((key : Option (List Name)) (fields : List Field) → shape ≡ Shape.Object key fields → ⊥) → ((element : Name) → shape ≡ Shape.List element → ⊥) → IsBuckets shape
is_buckets (Shape.Object key fields) object list = absurd (object key fields refl)
is_buckets (Shape.List element) object list = absurd (list element refl)
is_buckets (Shape.Set element) object list = tt
is_buckets (Shape.Map key value) object list = tt

-- There are as many widths as the kind has.
pub wide_long : (shape : Shape) (max : Option ℕ) (widths : List ℕ) → AreWidths shape max widths → length widths ≡ width_count shape
wide_long (Shape.Object key fields) max widths h = AllZip-long (λ (field : Field) width. IsWidth max field.kind width) fields widths h
wide_long (Shape.List element) max widths h = h.0
wide_long (Shape.Set element) max widths h = h.0
wide_long (Shape.Map key value) max widths h = h.0

pub widths_long : (shape : Shape) (section : Section) → IsReadable shape section → length section.widths ≡ width_count shape
widths_long shape section h = wide_long shape section.max section.widths h.well.wide

pub narrow_one : (max : Option ℕ) (field : Field) (width : ℕ) → IsWidth max field.kind width → width ≤ 64
narrow_one None field width h = h
narrow_one (Some max) field width h = h.0

narrow_at : (max : Option ℕ) (fields : List Field) (widths : List ℕ) (f : ℕ) → AllZip (λ (field : Field) width. IsWidth max field.kind width) fields widths → slice_index widths f ≤ 64
narrow_at max [] [] f h = omega arith
narrow_at max [] (width ∷ widths) f h = absurd h
narrow_at max (field ∷ fields) [] f h = absurd h
narrow_at max (field ∷ fields) (width ∷ widths) zero h = narrow_one max field width h.0
narrow_at max (field ∷ fields) (width ∷ widths) (suc f) h = narrow_at max fields widths f h.1

each_narrow : (widths : List ℕ) (f : ℕ) → All (λ width. width ≤ 64) widths → slice_index widths f ≤ 64
each_narrow [] f h = omega arith
each_narrow (width ∷ widths) zero h = h 0 0 (omega arith)
each_narrow (width ∷ widths) (suc f) h = each_narrow widths f (λ k d l. h (suc k) d (omega arith))

-- No width is above 64.
pub wide_narrow : (shape : Shape) (max : Option ℕ) (widths : List ℕ) → AreWidths shape max widths → (f : ℕ) → slice_index widths f ≤ 64
wide_narrow (Shape.Object key fields) max widths h f = narrow_at max fields widths f h
wide_narrow (Shape.List element) max widths h f = each_narrow widths f h.1
wide_narrow (Shape.Set element) max widths h f = each_narrow widths f h.1
wide_narrow (Shape.Map key value) max widths h f = each_narrow widths f h.1

pub narrow : (shape : Shape) (section : Section) → IsReadable shape section → (f : ℕ) → slice_index section.widths f ≤ 64
narrow shape section h = wide_narrow shape section.max section.widths h.well.wide
