-- What is kept beside a producer for changes: how often each row of its state is named, the sums of the rows of each type, these as they stand packed in its
-- snapshot, and the indexes of the rows by their primary keys; and the same of the state that a change makes.
use Rattle.std.specs.Prelude.{refl, List, [], ℕ, ◌≡◌, Option, None, Some, IfSome, IsSome, IsSomeAnd, All, get_or, length, replicate, slice_get}
use Rattle.std.specs.Coded.{Coded, code_by, coded×, coded_ℕ, coded_list, coded_option}
use Rattle.schema_model.specs.declared.model.path.Path.{Path}
use Rattle.schema_model.specs.declared.schema.Schema.{Schema}
use Rattle.row_model.specs.Table.{Table}
use Rattle.key_index.specs.Indexed.{Indexed, IsIndexBy, indexed_code}
use Rattle.kept_sums.specs.Sums.{TypeSums, sums_code}
use Rattle.kept_sections.specs.contracts.section.PackedSection as section_contract
use Rattle.kept_sections.specs.declared.section.PackedSection.{PackedSection}
use Rattle.kept_sections.specs.Sections.{AreSections, AreSectionsFor}
use Rattle.hol_incremental.specs.Counts.{times_named}
use Rattle.hol_incremental.specs.Keeping.{AreReadyKeys, IsReserved}
use Rattle.hol_incremental.specs.Roots.{AreKeyPaths, IsKeyed}
use Rattle.hol_incremental.specs.Sums.{AreSums, AreSumsOfBoth}

-- the packed rows of each type, where they are kept
abbrev pub MaybeSections : Type 0
MaybeSections = Option (List PackedSection)

abbrev pub sections_code : Coded MaybeSections
sections_code = coded_option (coded_list (section_contract.the_row).coded)

-- What is counted of the state that a change makes: how often each of its rows is named, by type and ordinal, the sums of the rows of each type, and those of
-- the rows of both states.
pub record Coming : Type 0 where
  pub counts : List (List ℕ)
  pub sums : List TypeSums
  pub both : List TypeSums

abbrev pub coming_code : Coded Coming
coming_code =
    code_by (List (List ℕ) × (List TypeSums × List TypeSums)) (coded× (coded_list (coded_list coded_ℕ)) (coded× (coded_list sums_code) (coded_list sums_code))) (λ n. (n.counts, (n.sums, n.both)))
    (λ p. record { counts = p.0; sums = p.1.0; both = p.1.1 }) (λ _. refl)

-- The counts of the state, by type and ordinal, the sums of the rows of each type, and these as they stand packed in its snapshot, where they are kept; what is counted
-- of the next state once a change has made it, and its rows once they are packed; and for each type the index of its rows by its primary key, if it has one.
pub record Editing : Type 0 where
  pub counts : List (List ℕ)
  pub sums : List TypeSums
  pub sections : MaybeSections
  pub next : Option Coming
  pub next_sections : MaybeSections
  pub keys : List (Option Indexed)

abbrev pub editing_code : Coded Editing
editing_code =
    code_by (List (List ℕ) × (List TypeSums × (MaybeSections × (Option Coming × (MaybeSections × List (Option Indexed))))))
    (coded× (coded_list (coded_list coded_ℕ)) (coded× (coded_list sums_code) (coded× sections_code (coded× (coded_option coming_code) (coded× sections_code (coded_list (coded_option indexed_code)))))))
    (λ e. (e.counts, (e.sums, (e.sections, (e.next, (e.next_sections, e.keys))))))
    (λ p. record { counts = p.0; sums = p.1.0; sections = p.1.1.0; next = p.1.1.1.0; next_sections = p.1.1.1.1.0; keys = p.1.1.1.1.1 }) (λ _. refl)

-- the count of a row; 0 where none is kept
abbrev pub count_at : List (List ℕ) → ℕ → ℕ → ℕ
count_at counts t ordinal = get_or (get_or counts t []) ordinal 0

-- no row is named, of so many types
abbrev pub no_counts : ℕ → List (List ℕ)
no_counts types = replicate types []

-- These are the counts of the rows of a table: how many places in its rows name each.
pub record AreCounts (schemas : List Schema) (table : Table) (counts : List (List ℕ)) : Type 0 where
  pub types : length counts ≡ length schemas
  pub are : (type_index ordinal : ℕ) → count_at counts type_index ordinal ≡ times_named schemas table type_index ordinal

-- These are the counts of the rows of a table, and the sums of those of each type.
pub record AreTallied (schemas : List Schema) (table : Table) (counted : List (List ℕ)) (summed : List TypeSums) : Type 0 where
  pub counts : AreCounts schemas table counted
  pub sums : AreSums schemas table summed

-- these are the paths of a type's primary key, if it has one
abbrev pub TellsKeyPaths : List Schema → ℕ → Option (List Path) → Type 0
TellsKeyPaths schemas type_index None = ¬ IsKeyed schemas type_index
TellsKeyPaths schemas type_index (Some paths) = AreKeyPaths schemas type_index paths

-- this is the index of a type's rows by its primary key, if it has one
abbrev pub TellsIndex : List Schema → Table → ℕ → Option Indexed → Type 0
TellsIndex schemas table type_index None = ¬ IsKeyed schemas type_index
TellsIndex schemas table type_index (Some index) = AreKeyPaths schemas type_index index.paths × IsIndexBy schemas table type_index index.paths index

-- These are the indexes of all types.
pub record AreIndexes (schemas : List Schema) (table : Table) (keys : List (Option Indexed)) : Type 0 where
  pub types : length keys ≡ length schemas
  pub each : (type_index : ℕ) (index : Option Indexed) → slice_get keys type_index ≡ Some index → TellsIndex schemas table type_index index

-- What is kept is that of a state. What is made ready of a next one does not matter.
pub record AreEditsOf (schemas : List Schema) (table : Table) (edits : Editing) : Type 0 where
  pub counts : AreCounts schemas table edits.counts
  pub sums : AreSums schemas table edits.sums
  pub sections : IfSome edits.sections (AreSections schemas table)
  pub keys : AreIndexes schemas table edits.keys

-- What is counted of the next state is that of its rows, and of those of both states.
pub record IsComing (schemas : List Schema) (previous next : Table) (coming : Coming) : Type 0 where
  pub counts : AreCounts schemas next coming.counts
  pub sums : AreSums schemas next coming.sums
  pub both : AreSumsOfBoth schemas previous next coming.both

-- What is kept is that of the previous state, and what is to be kept of the next one is ready.
pub record AreReady (schemas : List Schema) (previous next : Table) (edits : Editing) : Type 0 where
  pub now : AreEditsOf schemas previous edits
  pub counts : IsSomeAnd edits.next (IsComing schemas previous next)
  pub sections : IfSome edits.next_sections (AreSectionsFor schemas previous next)
  pub keys : AreReadyKeys schemas next edits.keys

-- Something is ready.
pub record IsReadied (edits : Editing) : Type 0 where
  pub counts : IsSome edits.next
  pub keys : All IsReserved edits.keys
