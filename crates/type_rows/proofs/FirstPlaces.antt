-- The places of a section, tried by rising ordinal: those before one spell rows, and the first that does not is the fault.
use Rattle.std.proofs.Common.{inl, inr, ◌≡◌, ℕ, ◌+◌, ◌<◌, ◌≤◌, List, [], ◌∷◌, Some, length, ap, sym, ◌∙◌, subst, arith}
use Rattle.std.specs.Prelude.{slice_get}
use Rattle.std.specs.List.Sorted.{IsStrictlyIncreasing}
use Rattle.std.proofs.lemmas.Bool.{cases_lt}
use Rattle.std.proofs.lemmas.Option.{slice_get_within}
use Rattle.schema_model.specs.declared.schema.Field.{Field}
use Rattle.schema_model.specs.declared.schema.FieldKind.{FieldKind}
use Rattle.schema_model.specs.declared.schema.Shape.{Shape}
use Rattle.schema_model.specs.declared.reason.Reason.{Reason}
use Rattle.object_codec.specs.Part.{FieldPart, FailsValue}
use Rattle.object_codec.specs.ObjectPlace as objects
use Rattle.type_rows.specs.declared.section.Section.{Section}
use Rattle.type_rows.specs.declared.fault.RowFault.{RowFault}
use Rattle.type_rows.specs.Layout.{places_of}
use Rattle.type_rows.specs.LoadFault.{FailsLoad}
use Rattle.type_rows.specs.Ordinals.{HasNoPlace, HoldsNowhere}
use Rattle.type_rows.specs.Fails.{Fails}
use Rattle.type_rows.specs.Places.{FirstPlaceFails, SpellsSome}
use Rattle.type_rows.specs.Sums.{IsOfRows}
use Rattle.type_rows.proofs.OnceFirst.{some_once}
use Rattle.type_rows.proofs.FoundRows.{rows_found}

-- The reasons of the other tests are none of a place.
no_field : (fields : List Field) (parts : List FieldPart) (reason : Reason) → ((kind : FieldKind) (part : FieldPart) → FailsValue kind part reason → ⊥) → objects.FirstFails fields parts reason → ⊥
no_field (field ∷ fields) (part ∷ parts) reason none (inl here) = none field.kind part here
no_field (field ∷ fields) (part ∷ parts) reason none (inr later) = no_field fields parts reason none later.1
no_field [] parts reason none fails = fails
no_field (field ∷ fields) [] reason none fails = fails

pub no_ordinals : (shape : Shape) (section : Section) (place : ℕ) → Fails shape section place Reason.BadOrdinals → ⊥
no_ordinals (Shape.Object key fields) section place fails = no_field fields (objects.parts_of section.widths section.first section.areas place) Reason.BadOrdinals (λ kind part f. f) fails
no_ordinals (Shape.List element) section place fails = fails
no_ordinals (Shape.Set element) section place fails = fails
no_ordinals (Shape.Map key value) section place fails = fails

pub no_width : (shape : Shape) (section : Section) (place : ℕ) → Fails shape section place Reason.BadWidth → ⊥
no_width (Shape.Object key fields) section place fails = no_field fields (objects.parts_of section.widths section.first section.areas place) Reason.BadWidth (λ kind part f. f) fails
no_width (Shape.List element) section place fails = fails
no_width (Shape.Set element) section place fails = fails
no_width (Shape.Map key value) section place fails = fails

pub place_failed : (shape : Shape) (section : Section) (reason : Reason) (ordinal : ℕ) → HoldsNowhere (HasNoPlace section.live (places_of section.max))
    → FirstPlaceFails shape section section.live section.live reason ordinal → FailsLoad shape section (RowFault.At reason ordinal)
place_failed shape section Reason.BadOrdinals ordinal placed first = absurd (no_ordinals shape section first.place first.fails)
place_failed shape section Reason.BadWidth ordinal placed first = absurd (no_width shape section first.place first.fails)
place_failed shape section reason ordinal placed first = (placed, first)

-- The first so many of some places spell a row each.
abbrev pub SpellBefore : Shape → Section → List ℕ → ℕ → Type 0
SpellBefore shape section places index = (earlier other : ℕ) → earlier < index → slice_get places earlier ≡ Some other → SpellsSome shape section other

pub spelled_none : (shape : Shape) (section : Section) (places : List ℕ) → SpellBefore shape section places 0
spelled_none shape section places earlier other below at = absurd (omega (arith, below))

pub spelled_more : (shape : Shape) (section : Section) (places : List ℕ) (index place : ℕ) → SpellBefore shape section places index → slice_get places index ≡ Some place → SpellsSome shape section place
    → SpellBefore shape section places (index + 1)
spelled_more shape section places index place before here some earlier other below at = elim (cases_lt earlier index) [
  | inl low ↦ before earlier other low at
  | inr high ↦ (
      let same : earlier ≡ index = omega (arith, below, high) in
      let is : place ≡ other = some_once place other (sym here ∙ ap (slice_get places) (sym same) ∙ at) in
      subst (λ p. SpellsSome shape section p) is some)
]

-- The place at an index fails, and those before it spell rows.
pub failed_here : (shape : Shape) (section : Section) (live : List ℕ) (index place : ℕ) (reason : Reason) → live ≡ section.live → HoldsNowhere (HasNoPlace section.live (places_of section.max))
    → SpellBefore shape section live index → slice_get live index ≡ Some place → Fails shape section place reason → FailsLoad shape section (RowFault.At reason place)
failed_here shape section live index place reason same placed before at fails =
    let there = subst (λ list. slice_get list index ≡ Some place) same at in
    place_failed shape section reason place placed record {
      index = index;
      place = place;
      stands = there;
      of = there;
      fails = fails;
      before = subst (λ list. SpellBefore shape section list index) same before;
    }

-- All spell rows, and the section is that of these.
pub rows_tested : (shape : Shape) (section : Section) (live : List ℕ) (index : ℕ) → live ≡ section.live → IsStrictlyIncreasing live → HoldsNowhere (HasNoPlace section.live (places_of section.max))
    → SpellBefore shape section live index → length live ≤ index → IsOfRows shape section
rows_tested shape section live index same rise placed before all =
    rows_found shape section (subst IsStrictlyIncreasing same rise) placed (λ k place at.
    let there : slice_get live k ≡ Some place = ap (λ list. slice_get list k) same ∙ at in
    before k place (omega (arith, all, slice_get_within live k place there)) there)
