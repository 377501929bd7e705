-- The lists of a type where they stand packed: what a place is to have to be looked at, and what it spells.
use Rattle.std.specs.Prelude.{ℕ, List}
use Rattle.schema_model.specs.declared.reason.Reason.{Reason}
use Rattle.list_codec.specs.ListPlace.{HoldsListPlace, HasElements, SpellsList, FailsListRow}
use Rattle.list_codec.specs.declared.list_rows.ListRows.{ListRows}

-- There are the widths and the words for the list at a place.
abbrev pub HoldsAt : ListRows → ℕ → Type 0
HoldsAt rows place = HoldsListPlace rows.widths.now rows.first.now place

-- The pointers of a place bound a run of the elements that there are.
abbrev pub HasElementsAt : ListRows → ℕ → Type 0
HasElementsAt rows place = HasElements rows.widths.now rows.total rows.first.now rows.second.now place

-- The place spells this list.
abbrev pub SpellsAt : ListRows → ℕ → List ℕ → Type 0
SpellsAt rows place ordinals = SpellsList rows.widths.now rows.total rows.first.now rows.second.now place ordinals

-- The place spells none, for this reason.
abbrev pub FailsAt : ListRows → ℕ → Reason → Type 0
FailsAt rows place reason = FailsListRow rows.widths.now rows.total rows.first.now rows.second.now place reason
