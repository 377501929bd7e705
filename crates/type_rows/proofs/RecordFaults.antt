-- What the test of records tells of the places of a section.
use Rattle.std.proofs.Common.{◌≡◌, ℕ, ◌<◌, List, length, get_or, sym, ◌∙◌, subst, arith}
use Rattle.std.specs.Prelude.{slice_index}
use Rattle.std.proofs.lemmas.Option.{slice_get-get_or, slice_get_within}
use Rattle.std.specs.List.Sorted.{IsStrictlyIncreasing}
use Rattle.schema_model.specs.declared.schema.Field.{Field}
use Rattle.schema_model.specs.declared.schema.Shape.{Shape}
use Rattle.schema_model.specs.declared.reason.Reason.{Reason}
use Rattle.schema_model.specs.Parts.{shape_fields}
use Rattle.row_model.specs.declared.row.Row.{Row}
use Rattle.row_model.specs.declared.row.Value.{Value}
use Rattle.object_codec.specs.ObjectPlace.{FailsObject, HoldsPlace, IsObject, SpellsObject}
use Rattle.object_codec.specs.Sound.{IsFirstFault, SpellSome}
use Rattle.type_rows.specs.declared.section.Section.{Section}
use Rattle.type_rows.specs.declared.fault.RowFault.{RowFault}
use Rattle.type_rows.specs.Layout.{places_of}
use Rattle.type_rows.specs.WellFormed.{IsReadable}
use Rattle.type_rows.proofs.Places.{holds_object}
use Rattle.type_rows.specs.LoadFault.{FailsLoad}
use Rattle.type_rows.specs.Ordinals.{HasNoPlace, HoldsNowhere}
use Rattle.type_rows.specs.Fails.{Fails}
use Rattle.type_rows.specs.Places.{SpellsSome}
use Rattle.type_rows.specs.Sums.{IsOfRows}
use Rattle.type_rows.proofs.OnceFirst.{some_once}
use Rattle.type_rows.proofs.FoundRows.{listed_below, read_there}
use Rattle.type_rows.proofs.FirstPlaces.{SpellBefore, failed_here, rows_tested}

-- What holds of the parts that were lent holds of those of the section, and the other way round.
pub of_records : (P : List Field → List ℕ → List ℕ → List (List ℕ) → Type 0) (shape : Shape) (section : Section) (fields : List Field) (widths first : List ℕ) (areas : List (List ℕ))
    → fields ≡ shape_fields shape → widths ≡ section.widths → first ≡ section.first → areas ≡ section.areas → P fields widths first areas → P (shape_fields shape) section.widths section.first section.areas
of_records P shape section fields widths first areas one two three four h =
    subst (λ fs. P fs section.widths section.first section.areas) one (subst (λ w. P fields w section.first section.areas) two (subst (λ f. P fields widths f section.areas) three (subst (P fields widths first) four h)))

pub to_records : (P : List Field → List ℕ → List ℕ → List (List ℕ) → Type 0) (shape : Shape) (section : Section) (fields : List Field) (widths first : List ℕ) (areas : List (List ℕ))
    → fields ≡ shape_fields shape → widths ≡ section.widths → first ≡ section.first → areas ≡ section.areas → P (shape_fields shape) section.widths section.first section.areas → P fields widths first areas
to_records P shape section fields widths first areas one two three four h =
    subst (λ fs. P fs widths first areas) (sym one) (subst (λ w. P (shape_fields shape) w first areas) (sym two) (subst (λ f. P (shape_fields shape) section.widths f areas) (sym three) (subst (P (shape_fields shape) section.widths section.first) (sym four) h)))

-- The parts of the section hold each listed place.
pub holds_listed : (shape : Shape) (section : Section) (live : List ℕ) → IsObject shape → IsReadable shape section → live ≡ section.live → HoldsNowhere (HasNoPlace section.live (places_of section.max))
    → (k : ℕ) → k < length live → HoldsPlace (shape_fields shape) section.widths section.first section.areas (slice_index live k)
holds_listed shape section live object readable same placed k inside =
    holds_object shape section (get_or live k 0) object readable (listed_below section live k (get_or live k 0) same placed (slice_get-get_or live k 0 inside))

spells_record : (shape : Shape) (section : Section) (place : ℕ) → IsObject shape → ((values : List Value) × SpellsObject (shape_fields shape) section.widths section.first section.areas place values) → SpellsSome shape section place
spells_record (Shape.Object key fields) section place object some = (Row.Object some.0, some.1)
spells_record _ section place object some = absurd object

fails_record : (shape : Shape) (section : Section) (place : ℕ) (reason : Reason) → IsObject shape → FailsObject (shape_fields shape) section.widths section.first section.areas place reason → Fails shape section place reason
fails_record (Shape.Object key fields) section place reason object fails = fails
fails_record _ section place reason object fails = absurd object

spell_before : (shape : Shape) (section : Section) (live : List ℕ) (count : ℕ) → IsObject shape → SpellSome (shape_fields shape) section.widths section.first section.areas live count → SpellBefore shape section live count
spell_before shape section live count object told earlier other below at =
    let inside = slice_get_within live earlier other at in
    let is : get_or live earlier 0 ≡ other = some_once (get_or live earlier 0) other (sym (slice_get-get_or live earlier 0 inside) ∙ at) in
    subst (λ place. SpellsSome shape section place) is (spells_record shape section (get_or live earlier 0) object (told earlier below))

-- Each listed place spells a record.
pub records_tested : (shape : Shape) (section : Section) (live : List ℕ) → IsObject shape → live ≡ section.live → IsStrictlyIncreasing live → HoldsNowhere (HasNoPlace section.live (places_of section.max))
    → SpellSome (shape_fields shape) section.widths section.first section.areas live (length live) → IsOfRows shape section
records_tested shape section live object same rise placed told =
    rows_tested shape section live (length live) same rise placed (spell_before shape section live (length live) object told) (omega arith)

-- One does not.
pub record_failed : (shape : Shape) (section : Section) (live : List ℕ) (place : ℕ) (reason : Reason) → IsObject shape → live ≡ section.live → HoldsNowhere (HasNoPlace section.live (places_of section.max))
    → IsFirstFault (shape_fields shape) section.widths section.first section.areas live (place, reason) → FailsLoad shape section (RowFault.At reason place)
record_failed shape section live place reason object same placed first =
    failed_here shape section live first.index place reason same placed (spell_before shape section live first.index object first.earlier)
    (read_there live first.index place first.inside (sym first.is)) (fails_record shape section place reason object first.fails)
