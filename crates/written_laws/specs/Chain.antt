-- A chain: the states of a dataset by version, each with the one that it follows.
use Rattle.std.specs.Prelude.{◌≡◌, ◌≢◌, ◌≤◌, ◌<◌, ◌⊎◌, ℕ, ℤ, pos, List, Bool, IsTrue, Some, FitsSigned, length}
use Rattle.std.specs.Int.{w64}
use Rattle.std.specs.Ordering.{nat_cmp}
use Rattle.std.specs.FinMap.{FinMap, get, values}
use Rattle.hol_io.specs.Name.{IsVersion}
use Rattle.schema_model.specs.declared.limit.Limit.TheVariants.{Ordinals, Bytes}
use Rattle.row_model.specs.declared.row.Row.{Row}
use Rattle.schema_model.specs.declared.schema.Schema.{Schema}
use Rattle.schema_model.specs.Limit.{number_of_limit}
use Rattle.schema_model.specs.Growth.{Grows}
use Rattle.schema_model.specs.Model.{IsModel}
use Rattle.row_model.specs.Table.{Table, IsClosed, IsLive, IsTableOf, row_at}
use Rattle.row_model.specs.BothStates.{rows_in}
use Rattle.row_model.specs.View.{view}
use Rattle.row_packing.specs.Places.{Agree}
use Rattle.type_rows.specs.WordsHeld.{bytes_held}

-- A state of a dataset: its tag, the version of the state that it follows, which is 0 for a root, whether it is published, its model and
-- its rows.
pub record ChainState : Type 0 where
  pub tag : ℤ
  pub parent : ℕ
  pub published : Bool
  pub model : List Schema
  pub table : Table

-- The states by version.
abbrev pub Chain : Type 0
Chain = FinMap nat_cmp ChainState

-- The chain has this state under this version.
abbrev pub HasVersion : Chain → ℕ → ChainState → Type 0
HasVersion chain version state = get chain version ≡ Some state

-- No type of a table has a row under two ordinals.
abbrev pub HoldsOnce : Table → Type 0
HoldsOnce table = (type_index a b : ℕ) (row : Row) → row_at table type_index a ≡ Some row → row_at table type_index b ≡ Some row → a ≡ b

-- A state of a chain by itself: its tag is not 0, its rows are a closed table of its model with no row twice, and keep the limits on the
-- ordinals and the bytes of a type.
pub record IsSound (state : ChainState) : Type 0 where
  pub tag : FitsSigned w64 state.tag
  pub tagged : state.tag ≢ pos 0
  pub model : IsModel state.model
  pub rows : IsTableOf state.model state.table
  pub closed : IsClosed state.model state.table
  pub once : HoldsOnce state.table
  pub ordinals : (type_index ordinal : ℕ) → IsLive state.table type_index ordinal → ordinal < number_of_limit Ordinals
  pub bytes : (type_index : ℕ) → bytes_held (values (rows_in state.table type_index)) ≤ number_of_limit Bytes

-- A state follows another one: this is an earlier published state, whose model the later one's grows; and an ordinal that is live in both has in the later one
-- the row that is seen of the earlier one's through the later model.
pub record Follows (chain : Chain) (version : ℕ) (state : ChainState) : Type 0 where
  pub before : ChainState
  pub there : HasVersion chain state.parent before
  pub earlier : state.parent < version
  pub published : IsTrue before.published
  pub model : Grows before.model state.model
  pub agree : (type_index : ℕ) → type_index < length state.model → Agree (view state.model before.model before.table) state.table type_index

-- The states are a chain: each is sound, and is a root or follows another one; no two have one tag; and no two published ones follow the
-- same state or are both roots.
pub record IsChain (chain : Chain) : Type 0 where
  pub versions : (version : ℕ) (state : ChainState) → HasVersion chain version state → IsVersion version
  pub sound : (version : ℕ) (state : ChainState) → HasVersion chain version state → IsSound state
  pub follow : (version : ℕ) (state : ChainState) → HasVersion chain version state → (state.parent ≡ 0) ⊎ Follows chain version state
  pub tags : (first second : ℕ) (one other : ChainState) → HasVersion chain first one → HasVersion chain second other → one.tag ≡ other.tag → first ≡ second
  pub line : (first second : ℕ) (one other : ChainState) → HasVersion chain first one → HasVersion chain second other → IsTrue one.published → IsTrue other.published → one.parent ≡ other.parent → first ≡ second

-- The last published version, 0 where no state is published.
pub record IsLastPublished (chain : Chain) (version : ℕ) : Type 0 where
  pub is : (version ≡ 0) ⊎ ((state : ChainState) × HasVersion chain version state × IsTrue state.published)
  pub last : (other : ℕ) (state : ChainState) → HasVersion chain other state → IsTrue state.published → other ≤ version
