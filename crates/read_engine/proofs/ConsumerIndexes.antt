-- The indexes of a consumer, by the positions that it may have.
use Rattle.std.proofs.Common.{◌≡◌, ◌<◌, ◌++◌, ℕ, ℤ, List, [], ◌∷◌, length, Option, Some, None, Result, sym, subst}
use Rattle.std.specs.Prelude.{All, Contains, IfOk, IsSomeAnd, OnOk}
use Rattle.std.specs.declared.alloc.AllocError.{AllocError}
use Rattle.schema_model.specs.declared.limit.Limit.TheVariants.{Indexes}
use Rattle.schema_model.specs.declared.model.path.Path.{Path}
use Rattle.schema_model.specs.declared.schema.Schema.{Schema}
use Rattle.schema_model.specs.Limit.{number_of_limit}
use Rattle.row_model.specs.Key.{IsResolved}
use Rattle.row_model.specs.Table.{IsClosed, Table}
use Rattle.type_state.specs.State.{State}
use Rattle.key_index.specs.Indexed.{CountsLive, Indexed, IsIndexBy}
use Rattle.hol_paths.specs.Walked.{Walked}
use Rattle.row_model.specs.Before.{PastPart}
use Rattle.read_engine.specs.Indexes.{AddsIndex, index_by}
use Rattle.read_engine.specs.Kept.{IsKept, index_kept}
use Rattle.read_engine.specs.Position.{Index, IsPosition, Position, rows_now}
use Rattle.read_engine.specs.Standing.{HasParts, stands_at}
use Rattle.read_engine.proofs.Answered.{adds_index, built, stands_with}

-- ---- what an index is built of

pub there_at : (now : Option Position) (schemas : List Schema) (t : ℕ) → IsSomeAnd now (λ position. position.schemas ≡ schemas) → IsSomeAnd now (λ position. t < length position.schemas) → t < length schemas
there_at None schemas t are there = absurd there
there_at (Some position) schemas t are there = subst (λ (s : List Schema). t < length s) are there

pub closed_at : (now : Option Position) (schemas : List Schema) (table : Table) → IsSomeAnd now (λ position. position.schemas ≡ schemas) → IsSomeAnd now (λ position. rows_now position ≡ table) → IsSomeAnd now IsPosition → IsClosed schemas table
closed_at None schemas table are is position = absurd position
closed_at (Some at) schemas table are is position = subst (IsClosed schemas) is (subst (λ (s : List Schema). IsClosed s (rows_now at)) are position.closed)

pub resolved_at : (now : Option Position) (schemas : List Schema) (t : ℕ) (paths : List Path) → IsSomeAnd now (λ position. position.schemas ≡ schemas) → IsSomeAnd now (λ position. All (IsResolved position.schemas t) paths) → All (IsResolved schemas t) paths
resolved_at None schemas t paths are resolved = absurd resolved
resolved_at (Some at) schemas t paths are resolved = subst (λ (s : List Schema). All (IsResolved s t) paths) are resolved

-- an index of the rows of a position
abbrev pub IsBuilt : ℕ → List Path → Indexed → Position → Type 0
IsBuilt t paths index position = IsKept position.schemas (rows_now position) index × (index_kept index ≡ index_by t paths)

pub built_at : (now : Option Position) (schemas : List Schema) (table : Table) (t : ℕ) (paths : List Path) → IsSomeAnd now (λ position. position.schemas ≡ schemas) → IsSomeAnd now (λ position. rows_now position ≡ table)
    → IsSomeAnd now (λ position. t < length position.schemas) → IsSomeAnd now (λ position. All (IsResolved position.schemas t) paths)
    → (answer : Result Indexed AllocError) → IfOk answer (IsIndexBy schemas table t paths) → IfOk answer (λ index. index.next ≡ None) → IfOk answer (λ index. IsSomeAnd now (IsBuilt t paths index))
built_at None schemas table t paths are is there resolved answer by none = absurd there
built_at (Some at) schemas table t paths are is there resolved answer by none = built at schemas table t paths (sym are) (sym is) there resolved answer by none

pub counts_at : {T : Type 0} (now : Option Position) (table : Table) (t before after : ℕ) (answer : Result T AllocError) → IsSomeAnd now (λ position. rows_now position ≡ table) → OnOk answer (CountsLive table t before after)
    → OnOk answer (IsSomeAnd now (λ position. CountsLive (rows_now position) t before after))
counts_at None table t before after answer is counts = absurd is
counts_at (Some at) table t before after answer is counts = subst (λ (rows : Table). OnOk answer (CountsLive rows t before after)) (sym is) counts

-- ---- one more index

module _ (tag : Option ℤ) (schemas : List Schema) (states : List State) (past : List PastPart) (indexes : List Indexed) (walks : List Walked) (has : HasParts tag schemas states past indexes walks) (now : Option Position)
    (view : stands_at tag schemas states past indexes walks ≡ now) (index : Index) (none : IsSomeAnd now (λ position. Contains position.indexes index → ⊥)) where
  module _ (kept : Indexed) (is : IsSomeAnd now (λ position. IsKept position.schemas (rows_now position) kept × (index_kept kept ≡ index))) (few : length indexes < number_of_limit Indexes) (after : List Indexed)
      (pushed : after ≡ indexes ++ kept ∷ []) where
    pub has_with : HasParts tag schemas states past after walks
    has_with = subst (λ (kept : List Indexed). HasParts tag schemas states past kept walks) (sym pushed) (of_tag tag has (subst (λ (n : Option Position). IsSomeAnd n (λ position. IsKept position.schemas (rows_now position) kept × (index_kept kept ≡ index))) (sym view) is))
      where
        of_tag : (t : Option ℤ) → HasParts t schemas states past indexes walks → IsSomeAnd (stands_at t schemas states past indexes walks) (λ position. IsKept position.schemas (rows_now position) kept × (index_kept kept ≡ index))
            → HasParts t schemas states past (indexes ++ kept ∷ []) walks
        of_tag None nothing kept_is = absurd kept_is
        of_tag (Some at) stands kept_is = stands_with at schemas states past indexes walks stands kept kept_is.0 few

    pub added : (number : ℕ) → number ≡ length indexes → IsSomeAnd now (λ from. IsSomeAnd (stands_at tag schemas states past after walks) (λ to. AddsIndex index from to number))
    added number last =
        subst (λ (n : Option Position). IsSomeAnd n (λ from. IsSomeAnd (stands_at tag schemas states past after walks) (λ to. AddsIndex index from to number))) view
        (of_tag tag (subst (λ (n : Option Position). IsSomeAnd n (λ position. Contains position.indexes index → ⊥)) (sym view) none)
        (subst (λ (n : Option Position). IsSomeAnd n (λ position. IsKept position.schemas (rows_now position) kept × (index_kept kept ≡ index))) (sym view) is))
      where
        of_tag : (t : Option ℤ) → IsSomeAnd (stands_at t schemas states past indexes walks) (λ position. Contains position.indexes index → ⊥)
            → IsSomeAnd (stands_at t schemas states past indexes walks) (λ position. IsKept position.schemas (rows_now position) kept × (index_kept kept ≡ index))
            → IsSomeAnd (stands_at t schemas states past indexes walks) (λ from. IsSomeAnd (stands_at t schemas states past after walks) (λ to. AddsIndex index from to number))
        of_tag None absent kept_is = absurd absent
        of_tag (Some at) absent kept_is = adds_index at schemas states past indexes walks kept index after number pushed kept_is.1 absent few last
