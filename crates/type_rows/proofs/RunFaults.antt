-- What the tests of lists, sets and maps tell of the place of a section.
use Rattle.std.proofs.Common.{◌≡◌, ℕ, ◌-◌, ◌*◌, ◌^◌, ◌<◌, ◌≤◌, List, Option, length, refl, sym, ap, ◌∙◌, subst, arith}
use Rattle.schema_model.specs.declared.schema.name.Name.{Name}
use Rattle.schema_model.specs.declared.schema.Field.{Field}
use Rattle.schema_model.specs.declared.schema.Shape.{Shape}
use Rattle.schema_model.specs.declared.reason.Reason.{Reason}
use Rattle.row_model.specs.declared.row.Row.{Row}
use Rattle.list_codec.specs.ListPlace as lists
use Rattle.list_codec.specs.ListRows.{HoldsAt as HoldsListAt}
use Rattle.list_codec.specs.declared.list_rows.ListRows.{ListRows}
use Rattle.bucket_codec.specs.BucketPlace as buckets
use Rattle.bucket_codec.specs.Run.{keys_of}
use Rattle.bucket_codec.proofs.PlaceRows.{pairs_within}
use Rattle.bucket_codec.specs.Buckets.{IsBucketShape}
use Rattle.bucket_codec.specs.BucketCount.{bucket_count}
use Rattle.bucket_codec.specs.BucketRows.{HoldsAt}
use Rattle.bucket_codec.specs.declared.bucket_rows.BucketRows.{BucketRows}
use Rattle.type_rows.specs.declared.section.Section.{Section}
use Rattle.type_rows.specs.Layout.{places_of}
use Rattle.type_rows.specs.WellFormed.{IsReadable}
use Rattle.type_rows.specs.Fails.{Fails}
use Rattle.type_rows.specs.Places.{SpellsSome}
use Rattle.type_rows.specs.RunItems.{AreListsOf, IsOfSection, items_at}
use Rattle.type_rows.proofs.SectionPlaces.{holds_buckets, holds_some_list}

-- What holds of the lists of a section holds of its parts, and the other way round.
pub of_lists : (P : List ℕ → ℕ → List ℕ → List ℕ → Type 0) (section : Section) (rows : ListRows) → AreListsOf section rows → P rows.widths.now rows.total rows.first.now rows.second.now
    → P section.widths section.total section.first section.second
of_lists P section rows are h =
    subst (λ w. P w section.total section.first section.second) are.widths
    (subst (λ t. P rows.widths.now t section.first section.second) are.total
    (subst (λ f. P rows.widths.now rows.total f section.second) are.first (subst (P rows.widths.now rows.total rows.first.now) are.second h)))

pub holds_lists : (shape : Shape) (section : Section) (rows : ListRows) (place : ℕ) → lists.IsList shape → IsReadable shape section → AreListsOf section rows → place < places_of section.max
    → HoldsListAt rows place
holds_lists shape section rows place kind readable are inside =
    subst (λ w. lists.HoldsListPlace w rows.first.now place) (sym are.widths)
    (subst (λ f. lists.HoldsListPlace section.widths f place) (sym are.first) (holds_some_list shape section place kind readable inside))

-- How many elements stand at a place of a list.
pub length_there : (shape : Shape) (section : Section) (rows : ListRows) (place length : ℕ) → lists.IsList shape → AreListsOf section rows
    → length ≡ lists.end_at rows.widths.now rows.first.now place - lists.start_at rows.widths.now rows.first.now place → length ≡ items_at shape section place
length_there (Shape.List element) section rows place length kind are is =
    is ∙ ap (λ w. lists.end_at w rows.first.now place - lists.start_at w rows.first.now place) are.widths
    ∙ ap (λ f. lists.end_at section.widths f place - lists.start_at section.widths f place) are.first
length_there _ section rows place length kind are is = absurd kind

-- What a place of a list spells, or why it spells none.
pub list_spells : (shape : Shape) (section : Section) (place : ℕ) → lists.IsList shape → (ordinals : List ℕ) × lists.SpellsList section.widths section.total section.first section.second place ordinals → SpellsSome shape section place
list_spells (Shape.List element) section place kind told = (Row.List told.0, told.1)
list_spells _ section place kind told = absurd kind

pub list_fails : (shape : Shape) (section : Section) (place : ℕ) (reason : Reason) → lists.IsList shape → lists.FailsListRow section.widths section.total section.first section.second place reason → Fails shape section place reason
list_fails (Shape.List element) section place reason kind told = told
list_fails _ section place reason kind told = absurd kind

-- What holds of the sets or maps of a section holds of its parts, and the other way round.
pub of_section : (P : List ℕ → ℕ → List ℕ → List ℕ → Type 0) (section : Section) (rows : BucketRows) → IsOfSection section rows → P rows.widths.now rows.total rows.first.now rows.second.now
    → P section.widths section.total section.first section.second
of_section P section rows are h =
    subst (λ w. P w section.total section.first section.second) are.widths
    (subst (λ t. P rows.widths.now t section.first section.second) are.total
    (subst (λ f. P rows.widths.now rows.total f section.second) are.first (subst (P rows.widths.now rows.total rows.first.now) are.second h)))

holds_rows : (section : Section) (rows : BucketRows) (place : ℕ) → IsOfSection section rows → length section.second < 2 ^ 58 → 3 ≤ length section.widths
    → buckets.HoldsPointers section.widths section.first place → HoldsAt rows place
holds_rows section rows place are short long holds = record {
  three = omega (arith, long, ap length are.widths);
  holds = subst (λ w. buckets.HoldsPointers w rows.first.now place) (sym are.widths) (subst (λ f. buckets.HoldsPointers section.widths f place) (sym are.first) holds);
  few = omega (arith, short, ap length are.second);
}

-- The sets or maps of a section that can be read have a place for each ordinal up to the greatest one.
pub holds_at : (shape : Shape) (section : Section) (rows : BucketRows) (place : ℕ) → IsBucketShape shape → IsReadable shape section → IsOfSection section rows
    → place < places_of section.max → HoldsAt rows place
holds_at shape section rows place kind readable are inside =
    holds_rows section rows place are readable.well.short (three_long shape kind readable) (holds_buckets shape section place kind readable inside)
  where
    three_long : (shape : Shape) → IsBucketShape shape → IsReadable shape section → 3 ≤ length section.widths
    three_long (Shape.Set element) kind readable = omega (arith, readable.well.wide.0)
    three_long (Shape.Map key value) kind readable = omega (arith, readable.well.wide.0)
    three_long _ kind readable = absurd kind

-- Pairs that a place of a set or map spells are those of a row.
abbrev pub SpellsSomePairs : ℕ → List ℕ → ℕ → List ℕ → List ℕ → Type 0
SpellsSomePairs place widths total first second = (pairs : List (ℕ × ℕ)) × buckets.SpellsPairs widths total first second place pairs

pub buckets_spell : (shape : Shape) (section : Section) (place : ℕ) → IsBucketShape shape → SpellsSomePairs place section.widths section.total section.first section.second → SpellsSome shape section place
buckets_spell (Shape.Set element) section place kind told = (Row.Set (keys_of told.0), (told.0, refl, told.1))
buckets_spell (Shape.Map key value) section place kind told = (Row.Map told.0, (told.0, refl, told.1))
buckets_spell _ section place kind told = absurd kind

pub buckets_fail : (shape : Shape) (section : Section) (place : ℕ) (reason : Reason) → IsBucketShape shape → buckets.FailsBucketRow section.widths section.total section.first section.second place reason → Fails shape section place reason
buckets_fail (Shape.Set element) section place reason kind told = told
buckets_fail (Shape.Map key value) section place reason kind told = told
buckets_fail _ section place reason kind told = absurd kind

-- A set or map that is spelled has few elements.
few_pairs : (section : Section) (place : ℕ) (pairs : List (ℕ × ℕ)) → section.total ≤ 2 ^ 25 → buckets.SpellsPairs section.widths section.total section.first section.second place pairs
    → buckets.size_at section.widths section.first place < 2 ^ 32
few_pairs section place pairs few spells = omega (arith, few, spells.sized, pairs_within section.widths section.total section.first section.second place pairs spells)

pub few_there : (shape : Shape) (section : Section) (place : ℕ) → IsBucketShape shape → IsReadable shape section → SpellsSome shape section place → buckets.size_at section.widths section.first place < 2 ^ 32
few_there (Shape.Set element) section place kind readable some = few_pairs section place some.1.0 readable.items some.1.2
few_there (Shape.Map key value) section place kind readable some = few_pairs section place some.1.0 readable.items some.1.2
few_there _ section place kind readable some = absurd kind

-- The size that was read of the sets or maps of a section.
pub size_there : (section : Section) (rows : BucketRows) (place size : ℕ) → IsOfSection section rows → size ≡ buckets.size_at rows.widths.now rows.first.now place → size ≡ buckets.size_at section.widths section.first place
size_there section rows place size are is = is ∙ ap (λ w. buckets.size_at w rows.first.now place) are.widths ∙ ap (λ f. buckets.size_at section.widths f place) are.first

-- A type that is neither OBJECT nor LIST is a SET or MAP, and the writer makes so many buckets for its row.
pub is_buckets : (shape : Shape) → ((key : Option (List (List ℕ))) (fields : List Field) → shape ≡ Shape.Object key fields → ⊥) → ((element : Name) → shape ≡ Shape.List element → ⊥) → IsBucketShape shape
is_buckets (Shape.Set element) object list = tt
is_buckets (Shape.Map key value) object list = tt
is_buckets (Shape.Object key fields) object list = object key fields refl
is_buckets (Shape.List element) object list = list element refl

pub items_are : (shape : Shape) (section : Section) (place : ℕ) → IsBucketShape shape → bucket_count (buckets.size_at section.widths section.first place) ≡ items_at shape section place
items_are (Shape.Set element) section place kind = refl
items_are (Shape.Map key value) section place kind = refl
items_are _ section place kind = absurd kind
