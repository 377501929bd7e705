-- Lemmas on the plan of two states: what goes and comes, the plan turned, and what was measured as what is chosen; and on lent sections.
use Rattle.std.proofs.Common.{◌≡◌, ◌≢◌, ℕ, ◌+◌, ◌<◌, List, [], ◌∷◌, ◌++◌, get_or, length, take, Some, sym, ap, ◌∙◌, subst, arith}
use Rattle.std.specs.Prelude.{map, slice_get}
use Rattle.std.specs.FinMap.{keys}
use Rattle.std.proofs.lemmas.List.{map-append, take_more}
use Rattle.schema_model.specs.declared.schema.Schema.{Schema}
use Rattle.schema_model.specs.declared.schema.Shape.{Shape}
use Rattle.row_model.specs.Table.{Table}
use Rattle.row_model.specs.BothStates.{rows_in}
use Rattle.row_packing.specs.declared.chosen.Chosen.{Chosen}
use Rattle.row_packing.specs.declared.measured.Measured.{Measured}
use Rattle.row_packing.specs.Chosen.{KeepsCounts, IsChosen, Suits, shape_at}
use Rattle.row_packing.specs.Measured.{AreMeasured, IsMeasured}
use Rattle.row_packing.specs.Places.{Agree}
use Rattle.row_packing.specs.States.{AreWritable}
use Rattle.row_packing.proofs.ByType.{also, as_many, images, of_type}
use Rattle.kept_sections.specs.Sections.{AreSectionsFor, IsPackedFor}
use Rattle.kept_sections.specs.declared.section.PackedSection.{PackedSection}
use Rattle.blob_writing.specs.Changes.{AreChanged, IsChanged, gone}
use Rattle.blob_writing.specs.Plan.{AreByType, AreGone, AreLiveIn, AreMoved, IsLiveBeside, IsPlanOf}
use Rattle.blob_writing.specs.declared.plan.Plan.{Plan}
use Rattle.blob_writing.proofs.ChangedTypes.{comes_changed, goes_changed, same_where_none}

-- ---- what goes and comes

module _ (old new : Table) (count type_index : ℕ) (removed added : List (List ℕ)) (moved : AreMoved old new count removed added) where
  -- a type from which an ordinal goes
  pub some_goes : (goes : List ℕ) → slice_get removed type_index ≡ Some goes → goes ≢ [] → IsChanged old new type_index
  some_goes goes there some =
      goes_changed old new type_index (λ none. some (of_type (λ t list. list ≡ gone old new t) count type_index removed goes moved.goes there ∙ none))

  -- one to which an ordinal comes
  pub some_comes : (comes : List ℕ) → slice_get added type_index ≡ Some comes → comes ≢ [] → IsChanged old new type_index
  some_comes comes there some =
      comes_changed old new type_index (λ none. some (of_type (λ t list. list ≡ gone new old t) count type_index added comes moved.comes there ∙ none))

  -- one where none does
  pub none_moves : (goes comes : List ℕ) → type_index < count → slice_get removed type_index ≡ Some goes → slice_get added type_index ≡ Some comes → goes ≡ [] → comes ≡ []
      → rows_in old type_index ≡ rows_in new type_index
  none_moves goes comes known goes_there comes_there goes_none comes_none =
      same_where_none old new type_index (moved.agree type_index known)
      (sym (of_type (λ t list. list ≡ gone old new t) count type_index removed goes moved.goes goes_there) ∙ goes_none)
      (sym (of_type (λ t list. list ≡ gone new old t) count type_index added comes moved.comes comes_there) ∙ comes_none)

-- ---- the plan

pub turned_is : ((shape : Shape) (old new : Table) (type_index : ℕ) (chosen : Chosen) → Agree old new type_index → KeepsCounts shape old new type_index → IsChosen shape old new type_index chosen → IsChosen shape new old type_index chosen)
    → (schemas : List Schema) (old new : Table) (plan : Plan) → AreWritable schemas old new → IsPlanOf schemas old new plan
    → IsPlanOf schemas new old (record { chosen = plan.chosen; before = plan.after; after = plan.before; changed = plan.changed })
turned_is either_way schemas old new plan can is = record {
  chosen = also (λ t. IsChosen (shape_at schemas t) old new t) (λ t. IsChosen (shape_at schemas t) new old t) (length schemas) plan.chosen
      (λ t chosen known so. either_way (shape_at schemas t) old new t chosen (can.agree t known) (can.keeps t known) so) is.chosen;
  before = is.after;
  after = is.before;
  changed = record {
    rising = is.changed.rising;
    are = λ n. (
      λ inside. let known = (is.changed.are n).0 inside in (known.0, λ same. known.1 (sym same)),
      λ both. (is.changed.are n).1 (both.0, λ same. both.1 (sym same)),
    );
  };
}

-- what was measured of each type has what is chosen for it, where the limits are kept
pub choices_kept : (schemas : List Schema) (old new : Table) (measured : List Measured) → AreWritable schemas old new → AreMeasured schemas old new measured
    → AreByType (length schemas) (λ t. IsChosen (shape_at schemas t) old new t) (map (λ one. one.chosen) measured)
choices_kept schemas old new measured can are =
    images (λ t one. IsMeasured (shape_at schemas t) old new t one) (λ t. IsChosen (shape_at schemas t) old new t) (λ one. one.chosen) (length schemas) measured (λ t one known is. is.chosen (can.keeps t known)) are

-- one choice more
pub choice_pushed : (measured : List Measured) (k : ℕ) (one : Measured) (choice : Chosen) (before after : List Chosen) → k < length measured → one ≡ get_or measured k one → choice ≡ one.chosen
    → before ≡ map (λ m. m.chosen) (take k measured) → after ≡ before ++ choice ∷ [] → after ≡ map (λ m. m.chosen) (take (k + 1) measured)
choice_pushed measured k one choice before after inside here copied so_far pushed =
    let choices : List Measured → List Chosen = map (λ m. m.chosen) in
    let more = ap choices (take_more measured k one inside) ∙ map-append (λ (m : Measured). m.chosen) (take k measured) (get_or measured k one ∷ []) in
    pushed ∙ ap (λ (cs : List Chosen). cs ++ choice ∷ []) so_far ∙ ap (λ (c : Chosen). choices (take k measured) ++ c ∷ []) (copied ∙ ap (λ (m : Measured). m.chosen) here) ∙ sym more

-- what was gathered of two states is their plan
module _ (schemas : List Schema) (old new : Table) (count : ℕ) (known : length schemas ≡ count) (can : AreWritable schemas old new) (old_sets new_sets removed added : List (List ℕ))
    (old_live : AreLiveIn old count old_sets) (new_live : AreLiveIn new count new_sets)
    (goes : (from to : Table) → AreLiveIn from (length old_sets) old_sets → AreLiveIn to (length old_sets) new_sets → AreGone from to (length old_sets) removed)
    (comes : (from to : Table) → AreLiveIn from (length new_sets) new_sets → AreLiveIn to (length new_sets) old_sets → AreGone from to (length new_sets) added) where
  old_count : length old_sets ≡ count
  old_count = as_many (λ t set. set ≡ keys (rows_in old t)) count old_sets old_live

  new_count : length new_sets ≡ count
  new_count = as_many (λ t set. set ≡ keys (rows_in new t)) count new_sets new_live

  removed_gone : AreGone old new count removed
  removed_gone = subst (λ (n : ℕ). AreGone old new n removed) old_count
      (goes old new (subst (λ (n : ℕ). AreLiveIn old n old_sets) (sym old_count) old_live) (subst (λ (n : ℕ). AreLiveIn new n new_sets) (sym old_count) new_live))

  added_gone : AreGone new old count added
  added_gone = subst (λ (n : ℕ). AreGone new old n added) new_count
      (comes new old (subst (λ (n : ℕ). AreLiveIn new n new_sets) (sym new_count) new_live) (subst (λ (n : ℕ). AreLiveIn old n old_sets) (sym new_count) old_live))

  pub removed_count : length removed ≡ count
  removed_count = as_many (λ t list. list ≡ gone old new t) count removed removed_gone

  pub added_count : length added ≡ count
  added_count = as_many (λ t list. list ≡ gone new old t) count added added_gone

  pub planned : (chosen : List Chosen) (changed : List ℕ) → AreByType (length schemas) (λ t. IsChosen (shape_at schemas t) old new t) chosen
      → ((old new : Table) → AreMoved old new count removed added → AreChanged count old new changed)
      → IsPlanOf schemas old new (record { chosen = chosen; before = record { ordinals = old_sets; alone = removed }; after = record { ordinals = new_sets; alone = added }; changed = changed })
  planned chosen changed choices differ =
      let moved : AreMoved old new count removed added = record { agree = λ t below. can.agree t (omega (arith, below, known)); goes = removed_gone; comes = added_gone } in
      record {
        chosen = choices;
        before = subst (λ (n : ℕ). IsLiveBeside old new n (record { ordinals = old_sets; alone = removed })) (sym known) (record { ordinals = old_live; alone = removed_gone });
        after = subst (λ (n : ℕ). IsLiveBeside new old n (record { ordinals = new_sets; alone = added })) (sym known) (record { ordinals = new_live; alone = added_gone });
        changed = subst (λ (n : ℕ). AreChanged n old new changed) (sym known) (differ old new moved);
      }

-- ---- what a plan has of a type

module _ (schemas : List Schema) (old new : Table) (plan : Plan) (is : IsPlanOf schemas old new plan) (type_index : ℕ) where
  pub has_chosen : type_index < length schemas → type_index < length plan.chosen
  has_chosen known = let many = as_many (λ t. IsChosen (shape_at schemas t) old new t) (length schemas) plan.chosen is.chosen in omega (arith, known, many)

  pub has_removed : type_index < length schemas → type_index < length plan.before.alone
  has_removed known = let many = as_many (λ t list. list ≡ gone old new t) (length schemas) plan.before.alone is.before.alone in omega (arith, known, many)

  pub has_added : type_index < length schemas → type_index < length plan.after.alone
  has_added known = let many = as_many (λ t list. list ≡ gone new old t) (length schemas) plan.after.alone is.after.alone in omega (arith, known, many)

  pub has_live : type_index < length schemas → type_index < length plan.after.ordinals
  has_live known = let many = as_many (λ t set. set ≡ keys (rows_in new t)) (length schemas) plan.after.ordinals is.after.ordinals in omega (arith, known, many)

  pub chosen_there : (chosen : Chosen) → slice_get plan.chosen type_index ≡ Some chosen → IsChosen (shape_at schemas type_index) old new type_index chosen
  chosen_there chosen there = of_type (λ t. IsChosen (shape_at schemas t) old new t) (length schemas) type_index plan.chosen chosen is.chosen there

  pub removed_there : (removed : List ℕ) → slice_get plan.before.alone type_index ≡ Some removed → removed ≡ gone old new type_index
  removed_there removed there = of_type (λ t list. list ≡ gone old new t) (length schemas) type_index plan.before.alone removed is.before.alone there

  pub added_there : (added : List ℕ) → slice_get plan.after.alone type_index ≡ Some added → added ≡ gone new old type_index
  added_there added there = of_type (λ t list. list ≡ gone new old t) (length schemas) type_index plan.after.alone added is.after.alone there

  pub live_there : (live : List ℕ) → slice_get plan.after.ordinals type_index ≡ Some live → live ≡ keys (rows_in new type_index)
  live_there live there = of_type (λ t set. set ≡ keys (rows_in new t)) (length schemas) type_index plan.after.ordinals live is.after.ordinals there

  pub suits_new : AreWritable schemas old new → type_index < length schemas → (chosen : Chosen) → slice_get plan.chosen type_index ≡ Some chosen → Suits (shape_at schemas type_index) new type_index chosen
  suits_new can known chosen there = record { old = old; agree = can.agree type_index known; keeps = can.keeps type_index known; is = chosen_there chosen there }

-- ---- what lent sections have of a type

module _ (schemas : List Schema) (old new : Table) (sections : List PackedSection) (are : AreSectionsFor schemas old new sections) (type_index : ℕ) where
  pub has_section : type_index < length schemas → type_index < length sections
  has_section known = let many = as_many (λ t. IsPackedFor (shape_at schemas t) old new t) (length schemas) sections are in omega (arith, known, many)

  pub section_there : (section : PackedSection) → slice_get sections type_index ≡ Some section → IsPackedFor (shape_at schemas type_index) old new type_index section
  section_there section there = of_type (λ t. IsPackedFor (shape_at schemas t) old new t) (length schemas) type_index sections section are there
