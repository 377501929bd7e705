-- What is kept for changes, before and behind one.
use Rattle.std.proofs.Common.{◌≡◌, ◌∙◌, List, [], ◌∷◌, Option, Some, None, map, refl, sym, ap, subst, inl, inr}
use Rattle.std.specs.Prelude.{IfSome, IsSomeAnd}
use Rattle.schema_model.specs.declared.schema.Schema.{Schema}
use Rattle.key_index.specs.Indexed.{HaveOneRow, Indexed}
use Rattle.row_model.specs.Table.{Table, row_at}
use Rattle.row_model.proofs.RowsFrom.{get_in}
use Rattle.write_engine.specs.Agreement.{TablesAgree}
use Rattle.kept_sections.specs.declared.section.PackedSection.{PackedSection}
use Rattle.kept_sections.specs.Sections.{AreSections, AreSectionsFor}
use Rattle.hol_incremental.specs.EditKeys.{AreCounts, AreEditsOf, AreIndexes, AreReady, Coming, Editing, IsComing, MaybeSections}
use Rattle.hol_incremental.specs.Keeping.{moved, settled}
use Rattle.hol_incremental.specs.Sums.{AreSums}
use Rattle.hol_incremental.proofs.IndexRows.{moved_indexes, same_settled}
use Rattle.hol_incremental.proofs.ShallowTypes.{live_row}

settled_once : (index : Option Indexed) → settled (settled index) ≡ settled index
settled_once None = refl
settled_once (Some index) = refl

pub settled_twice : (keys : List (Option Indexed)) → map settled (map settled keys) ≡ map settled keys
settled_twice [] = refl
settled_twice (index ∷ keys) = λ i. settled_once index i ∷ settled_twice keys i

-- what the law of sections says: those of a next state can be kept for it
abbrev pub AreKeptForNext : Type 0
AreKeptForNext = (schemas : List Schema) (old new : Table) (sections : List PackedSection) → AreSectionsFor schemas old new sections → AreSections schemas new sections

-- what is made ready does not matter
pub kept_edits : (schemas : List Schema) (table : Table) (edits : Editing) → AreEditsOf schemas table edits → (edits' : Editing) → edits'.counts ≡ edits.counts → edits'.sums ≡ edits.sums
    → edits'.sections ≡ edits.sections → map settled edits'.keys ≡ map settled edits.keys → AreEditsOf schemas table edits'
kept_edits schemas table edits are edits' same sums sections kept = record {
  counts = subst (AreCounts schemas table) (sym same) are.counts;
  sums = subst (AreSums schemas table) (sym sums) are.sums;
  sections = subst (λ (packed : MaybeSections). IfSome packed (AreSections schemas table)) (sym sections) are.sections;
  keys = same_settled schemas table edits.keys edits'.keys kept are.keys;
}

-- the packed rows of a next state, where they are packed, are those of a state
pub settled_sections : AreKeptForNext → (schemas : List Schema) (previous next : Table) (sections : MaybeSections) → IfSome sections (AreSectionsFor schemas previous next) → IfSome sections (AreSections schemas next)
settled_sections keeps schemas previous next None are = tt
settled_sections keeps schemas previous next (Some sections) are = keeps schemas previous next sections are

-- what is made ready becomes what is kept
pub accepted_edits : AreKeptForNext → (schemas : List Schema) (previous next : Table) (edits : Editing) → AreReady schemas previous next edits → (coming : Coming) → edits.next ≡ Some coming → (edits' : Editing)
    → edits'.counts ≡ coming.counts → edits'.sums ≡ coming.sums → edits'.sections ≡ edits.next_sections → edits'.keys ≡ map moved edits.keys → AreEditsOf schemas next edits'
accepted_edits keeps schemas previous next edits ready coming is edits' counts sums sections keys =
    let now = subst (λ o. IsSomeAnd o (IsComing schemas previous next)) is ready.counts in
    record {
      counts = subst (AreCounts schemas next) (sym counts) now.counts;
      sums = subst (AreSums schemas next) (sym sums) now.sums;
      sections = subst (λ (packed : MaybeSections). IfSome packed (AreSections schemas next)) (sym sections) (settled_sections keeps schemas previous next edits.next_sections ready.sections);
      keys = subst (AreIndexes schemas next) (sym keys) (moved_indexes schemas previous next edits.keys ready.now.keys ready.keys);
    }

-- what is ready stays so once its rows are packed
pub packed_edits : (schemas : List Schema) (previous next : Table) (edits : Editing) → AreReady schemas previous next edits → (sections : List PackedSection) → AreSectionsFor schemas previous next sections → (edits' : Editing)
    → edits' ≡ record edits { next_sections = Some sections } → AreReady schemas previous next edits'
packed_edits schemas previous next edits ready sections are edits' same =
    subst (AreReady schemas previous next) (sym same) (record {
      now = record { counts = ready.now.counts; sums = ready.now.sums; sections = ready.now.sections; keys = ready.now.keys };
      counts = ready.counts;
      sections = are;
      keys = ready.keys;
    })

-- tables that agree have one row where both have one
pub one_row : (previous current before now : Table) → before ≡ previous → now ≡ current → TablesAgree previous current → HaveOneRow before now
one_row previous current before now same same' agree =
    subst (λ (table : Table). HaveOneRow table now) (sym same) (subst (λ (table : Table). HaveOneRow previous table) (sym same') (λ t o live live'.
    (let row = live_row (row_at previous t o) live in
    let row' = live_row (row_at current t o) live' in
    row.1 ∙ ap Some ((agree t).one_row o row.0 row'.0 (inl (get_in previous t o ∙ row.1)) (inr (get_in current t o ∙ row'.1))) ∙ sym row'.1)))
