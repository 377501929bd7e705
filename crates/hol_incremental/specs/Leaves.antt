-- Which rows leave the edited list, as the indexes of their primary keys tell it.
use Rattle.std.specs.Prelude.{List, ℕ, ◌≡◌, ◌≢◌, ◌<◌, ◌⊎◌, ◌↔◌, ◌^◌, Bool, Contains, AllPairs, IsSome, IsSomeAnd, MatchBool, Option, Some, count_by, option_and_then, slice_get}
use Rattle.std.specs.List.{AllZip}
use Rattle.std.specs.FinMap.{get}
use Rattle.row_model.specs.declared.row.Value.{Value}
use Rattle.row_model.specs.PlainTree.{PlainTree}
use Rattle.key_index.specs.Indexed.{Indexed}
use Rattle.hol_incremental.specs.Edited.{Keys, Records}
use Rattle.hol_incremental.specs.Roots.{key_of_tree}

-- the index of a type, if it has one
abbrev pub index_of : List (Option Indexed) → ℕ → Option Indexed
index_of keys t = option_and_then (λ index. index) (slice_get keys t)

-- each indexed ordinal is below 2^22
abbrev pub HasLowKeys : List (Option Indexed) → Type 0
HasLowKeys keys = (t ordinal : ℕ) → IsSomeAnd (index_of keys t) (λ index. IsSome (get index.keys ordinal)) → ordinal < 2 ^ 22

-- the indexed row of a type under an ordinal has the key
abbrev pub IsUnder : List (Option Indexed) → ℕ → List Value → ℕ → Type 0
IsUnder keys t key ordinal = IsSomeAnd (index_of keys t) (λ index. get index.keys ordinal ≡ Some (Some key))

-- an indexed row of the type has the key
abbrev pub HasUnder : List (Option Indexed) → ℕ × List Value → Type 0
HasUnder keys typed = (ordinal : ℕ) × IsUnder keys typed.0 typed.1 ordinal

-- the indexed row of a type under an ordinal has the key of a record
abbrev pub IsOfRecord : List (Option Indexed) → ℕ → PlainTree → ℕ → Type 0
IsOfRecord keys t tree ordinal = (key : List Value) × IsSomeAnd (index_of keys t) (λ index. key_of_tree index.paths tree ≡ Some key) × IsUnder keys t key ordinal

-- No row stands twice among those that leave, and those come to stand there that are such rows, and no top rows of records that are put.
pub record LeaveMore (leaves : ℕ × ℕ → Type 0) (tops before after : List (ℕ × ℕ)) : Type 0 where
  pub once : AllPairs (λ a b. a ≢ b) before → AllPairs (λ a b. a ≢ b) after
  pub are : (row : ℕ × ℕ) → Contains after row ↔ (Contains before row ⊎ (leaves row × ¬ Contains tops row))

-- So many of the keys are those of no indexed row. Equal ones count each by itself.
abbrev pub CountsUnfound : List (Option Indexed) → Keys → ℕ → Type 0
CountsUnfound keys removes missing =
    (lost : List Bool) × AllZip (λ key is_lost. MatchBool is_lost (¬ HasUnder keys key) (HasUnder keys key)) removes lost × (missing ≡ count_by (λ is_lost. is_lost) lost)

-- A row has a removed key, or that of a record that is put.
abbrev pub HasGiven : List (Option Indexed) → Records → Keys → ℕ × ℕ → Type 0
HasGiven keys puts removes row =
    ((key : List Value) × Contains removes (row.0, key) × IsUnder keys row.0 key row.1) ⊎ ((tree : PlainTree) × Contains puts (row.0, tree) × IsOfRecord keys row.0 tree row.1)

-- These are the indexed rows that have a removed key, or that of a record that is put, but for the top rows of such records.
pub record AreLeaving (keys : List (Option Indexed)) (puts : Records) (removes : Keys) (tops leaving : List (ℕ × ℕ)) : Type 0 where
  pub once : AllPairs (λ a b. a ≢ b) leaving
  pub are : (row : ℕ × ℕ) → Contains leaving row ↔ (HasGiven keys puts removes row × ¬ Contains tops row)
