-- A section has one first fault at most, and none where it loads rows.
use Rattle.std.proofs.Common.{◌≡◌, ℕ, ◌<◌, List, [], ◌∷◌, Some, subst, ap, ◌∙◌, arith, zero, suc}
use Rattle.std.specs.Prelude.{◌≢◌, All, slice_get}
use Rattle.std.specs.FinMap.{entries}
use Rattle.std.specs.Map.{keys_of}
use Rattle.schema_model.specs.declared.schema.Shape.{Shape}
use Rattle.schema_model.specs.declared.reason.Reason.{Reason}
use Rattle.row_model.specs.declared.row.Row.{Row}
use Rattle.row_model.specs.Table.{RowMap}
use Rattle.type_rows.specs.declared.section.Section.{Section}
use Rattle.type_rows.specs.declared.fault.RowFault.{RowFault}
use Rattle.type_rows.specs.Layout.{places_of, record_bits}
use Rattle.type_rows.specs.Loads.{IsSpelledIn, Loads, SectionIs, layout_of}
use Rattle.type_rows.proofs.SectionRows as sections
use Rattle.type_rows.specs.Ordinals.{HasNoPlace, HoldsNowhere, IsLeast}
use Rattle.type_rows.specs.Places.{FirstPlaceFails, SpellsSome}
use Rattle.type_rows.specs.LoadFault.{FailsLoad, load_tests}
use Rattle.type_rows.proofs.OnceFirst.{place_once, some_once, spelled_or_failed}
use Rattle.type_rows.proofs.OneFault.{AreApart, fault_once, fault_or_rows}

pub least_once : (Holds : ℕ → Type 0) (a b : ℕ) → IsLeast Holds a → IsLeast Holds b → a ≡ b
least_once Holds a b f g = omega (arith, f.others b g.holds, g.others a f.holds)

-- What holds of all items holds of the one at an index.
pub holds_at : {A : Type 0} (P : A → Type 0) (items : List A) (index : ℕ) (item : A) → All P items → slice_get items index ≡ Some item → P item
holds_at P [] index item all at = absurd cc
holds_at P (first ∷ rest) zero item all at = subst P (some_once first item at) (all 0 first (omega arith))
holds_at P (first ∷ rest) (suc index) item all at = holds_at P rest index item (λ i d l. all (suc i) d (omega (arith, l))) at

-- The place of each live ordinal spells a row.
spells_at : (shape : Shape) (section : Section) (rows : List (ℕ × Row)) (index place : ℕ) → All (IsSpelledIn shape section) rows → slice_get (keys_of rows) index ≡ Some place → SpellsSome shape section place
spells_at shape section [] index place all at = absurd cc
spells_at shape section (row ∷ rows) zero place all at = subst (λ p. SpellsSome shape section p) (some_once row.0 place at) (row.1, all 0 row (omega arith))
spells_at shape section (row ∷ rows) (suc index) place all at = spells_at shape section rows index place (λ i d l. all (suc i) d (omega (arith, l))) at

placed : (shape : Shape) (section : Section) (rows : RowMap) → SectionIs shape section rows → HoldsNowhere (HasNoPlace section.live (places_of section.max))
placed shape section rows is ordinal (at, above) = omega (arith, above, subst (λ o. o < places_of section.max) at.2 (is.places at.0 ordinal at.1))

place_or_rows : (shape : Shape) (section : Section) (reason : Reason) (ordinal : ℕ) (rows : RowMap) → FirstPlaceFails shape section section.live section.live reason ordinal → SectionIs shape section rows → ⊥
place_or_rows shape section reason ordinal rows f is =
    spelled_or_failed shape section f.place reason
    (spells_at shape section (entries rows) f.index f.place is.spelled (ap (λ live. slice_get live f.index) is.live ∙ f.stands)) f.fails

apart : (shape : Shape) (section : Section) → AreApart (load_tests shape section)
apart shape section = record {
  ordinal_once = least_once (HasNoPlace section.live (places_of section.max));
  ordinal_or_ordered = λ ordinal least none. none ordinal least.holds;
  place_once = place_once shape section section.live section.live;
  place_or_rows = place_or_rows shape section;
  rows_once = sections.one_state shape section;
  ordered = placed shape section;
}

pub load_fault_once : (shape : Shape) (section : Section) (a b : RowFault) → a ≢ RowFault.Memory → b ≢ RowFault.Memory → FailsLoad shape section a → FailsLoad shape section b → a ≡ b
load_fault_once shape section = fault_once shape (record_bits shape section.widths) (layout_of section) (load_tests shape section) (apart shape section)

pub load_or_fault : (shape : Shape) (section : Section) (rows : RowMap) (fault : RowFault) → fault ≢ RowFault.Memory → Loads shape section rows → FailsLoad shape section fault → ⊥
load_or_fault shape section rows fault told loads =
    fault_or_rows shape (record_bits shape section.widths) (layout_of section) (load_tests shape section) (apart shape section) fault rows told
    record { leads = loads.is; held = loads.held.parts } (λ pass. omega (arith, pass, loads.within.words)) (λ pass. omega (arith, pass, loads.within.bytes))
