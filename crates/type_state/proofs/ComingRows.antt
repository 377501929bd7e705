-- What the rows of the places of a patch add to totals, told where they stand.
use Rattle.std.proofs.Common.{◌≡◌, ℕ, ◌+◌, ◌-◌, ◌^◌, ◌<◌, ◌≤◌, min, List, length, Option, refl, ap, sym, subst, ◌∙◌, arith}
use Rattle.std.specs.Prelude.{slice_index}
use Rattle.std.proofs.Math.Pow.{pow_mono}
use Rattle.schema_model.specs.declared.limit.Limit.TheVariants.{Bytes}
use Rattle.schema_model.specs.Limit.{number_of_limit}
use Rattle.schema_model.specs.Parts.{shape_fields}
use Rattle.schema_model.specs.declared.schema.name.Name.{Name}
use Rattle.schema_model.specs.declared.schema.Field.{Field}
use Rattle.schema_model.specs.declared.schema.Shape.{Shape}
use Rattle.row_model.specs.declared.row.Row.{Row}
use Rattle.row_model.specs.declared.row.Value.{Value}
use Rattle.object_codec.specs.ObjectPlace.{IsObject, SpellsObject}
use Rattle.list_codec.specs.declared.list_rows.ListRows.{ListRows}
use Rattle.bucket_codec.specs.declared.bucket_rows.BucketRows.{BucketRows}
use Rattle.type_rows.specs.declared.patch.PatchSection.{PatchSection}
use Rattle.type_rows.specs.declared.totals.Totals.{Totals}
use Rattle.type_rows.specs.Ends.{end_after}
use Rattle.type_rows.specs.FieldEnds.{AddsRecord}
use Rattle.type_rows.specs.Holds.{FitsWidths}
use Rattle.type_rows.specs.Loads.{Spells}
use Rattle.type_rows.specs.Patches.{places_in}
use Rattle.type_rows.specs.Places.{SpellsSome}
use Rattle.type_rows.specs.RunItems.{AreListsOf, HasRuns, IsOfSection, items_at}
use Rattle.type_rows.proofs.PlacesUpTo.{spells_same, up_to}
use Rattle.type_rows.proofs.RunsFit.{items_told, no_bytes, run_fits}
use Rattle.type_state.specs.Counted.{Comes}

-- ---- records

pub record_comes : (shape : Shape) (patch : PatchSection) (place : ℕ) (row : Row) (before after : Totals) (bytes : ℕ) (old new : List ℕ) → IsObject shape
    → ((values : List Value) → SpellsObject (shape_fields shape) patch.widths patch.first patch.areas place values → AddsRecord (shape_fields shape) patch.widths old values new bytes) → old ≡ before.ends.offsets.items → after.ends.offsets.items ≡ new
    → length new ≡ length old → after.ends.items ≡ before.ends.items → after.bytes ≡ min (before.bytes + bytes) (2 ^ 64 - 1) → after.bytes ≤ number_of_limit Bytes → Spells shape (places_in patch) place row → Comes shape patch.widths row before after
record_comes (Shape.Object key fields) patch place (Row.Object values) before after bytes old new object told one two long same up few spells =
    let adds = told values spells in
    record {
      fits = subst (λ (es : List ℕ). FitsWidths fields patch.widths (end_after es values) values) one adds.fits;
      more = record {
        ends = λ f. ap (λ (es : List ℕ). slice_index es f) two ∙ adds.grown f ∙ ap (λ (es : List ℕ). end_after es values f) one;
        items = omega (arith, same);
        bytes = (let counted = adds.counted in omega (arith, counted, up, few));
        long = ap (λ (es : List ℕ). length es) two ∙ long ∙ ap (λ (es : List ℕ). length es) one;
      };
    }
record_comes (Shape.Object key fields) patch place (Row.List ordinals) before after bytes old new object told one two long same up few spells = absurd spells
record_comes (Shape.Object key fields) patch place (Row.Set ordinals) before after bytes old new object told one two long same up few spells = absurd spells
record_comes (Shape.Object key fields) patch place (Row.Map pairs) before after bytes old new object told one two long same up few spells = absurd spells
record_comes (Shape.List element) patch place row before after bytes old new object told one two long same up few spells = absurd object
record_comes (Shape.Set element) patch place row before after bytes old new object told one two long same up few spells = absurd object
record_comes (Shape.Map key value) patch place row before after bytes old new object told one two long same up few spells = absurd object

-- ---- lists, sets and maps

pub has_runs : (shape : Shape) → ((key : Option (List Name)) (fields : List Field) → shape ≡ Shape.Object key fields → ⊥) → HasRuns shape
has_runs (Shape.Object key fields) other = absurd (other key fields refl)
has_runs (Shape.List element) other = tt
has_runs (Shape.Set element) other = tt
has_runs (Shape.Map key value) other = tt

-- The items of a patch are those of its parts up to a place.
pub lists_up_to : (patch : PatchSection) (place : ℕ) (rows : ListRows) → AreListsOf (places_in patch) rows → AreListsOf (up_to (places_in patch) place) rows
lists_up_to patch place rows are = record { widths = are.widths; total = are.total; first = are.first; second = are.second }

pub runs_up_to : (patch : PatchSection) (place : ℕ) (rows : BucketRows) → IsOfSection (places_in patch) rows → IsOfSection (up_to (places_in patch) place) rows
runs_up_to patch place rows are = record { widths = are.widths; total = are.total; first = are.first; second = are.second }

pub some_up_to : (shape : Shape) (patch : PatchSection) (place : ℕ) → SpellsSome shape (places_in patch) place → SpellsSome shape (up_to (places_in patch) place) place
some_up_to shape patch place some = (some.0, subst (λ (T : Type 0). T) (sym (spells_same shape (places_in patch) place some.0)) some.1)

pub run_comes : (shape : Shape) (patch : PatchSection) (place : ℕ) (row : Row) (before after : Totals) (end : ℕ) → HasRuns shape → end ≡ before.ends.items + items_at shape (places_in patch) place → end < 2 ^ slice_index patch.widths 0
    → after.ends.offsets.items ≡ before.ends.offsets.items → after.ends.items ≡ end → after.bytes ≡ before.bytes → Spells shape (places_in patch) place row → Comes shape patch.widths row before after
run_comes shape patch place row before after end runs sum low offsets items bytes spells =
    let told = items_told shape (places_in patch) place row spells in
    let none = no_bytes shape (places_in patch) place row runs spells in
    record {
      fits = run_fits shape (places_in patch) place row before.ends.offsets.items before.ends.items runs spells (omega (arith, sum, low));
      more = record {
        ends = λ f. (let same = ap (λ (es : List ℕ). slice_index es f) offsets in let zero = none.1 f in omega (arith, same, zero));
        items = omega (arith, items, sum, told);
        bytes = (let zero = none.0 in omega (arith, bytes, zero));
        long = ap (λ (es : List ℕ). length es) offsets;
      };
    }

-- A number that a pointer holds is one of 64 bits.
pub end_small : (width end : ℕ) → width ≤ 64 → end < 2 ^ width → end < 2 ^ 64
end_small width end narrow low = let top : 2 ^ width ≤ 2 ^ 64 = pow_mono {i = width} {j = 64} narrow in omega (arith, top, low)
