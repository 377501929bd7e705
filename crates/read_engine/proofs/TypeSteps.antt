-- What a step changed of a type.
use Rattle.std.proofs.Common.{◌≡◌, ◌<◌, ◌⊎◌, inl, inr, ℕ, List, length, get_or, Some, None, sym, subst, arith}
use Rattle.std.specs.Prelude.{Contains, IsSome, slice_get}
use Rattle.std.specs.List.{AllZip}
use Rattle.std.specs.FinMap.{empty}
use Rattle.std.proofs.lemmas.Bool.{false≢true}
use Rattle.std.proofs.lemmas.List.Kept.{AllPairs-from_increasing}
use Rattle.std.proofs.lemmas.Option.{slice_get-get_or}
use Rattle.schema_model.specs.declared.schema.Schema.{Schema}
use Rattle.row_model.specs.Table.{IsLive, IsTableOf, RowMap, Table, row_at}
use Rattle.row_model.specs.Before.{FitsPast, PastPart, no_part, table_before}
use Rattle.hol_paths.specs.Walked.{IsStepOf}
use Rattle.state_moves.proofs.Came.{came_at, gone_at, part_is}
use Rattle.state_moves.proofs.Tables.{fits_at, live_or_none}

pub not_live : (table : Table) (t o : ℕ) → row_at table t o ≡ None → IsLive table t o → ⊥
not_live table t o none live = false≢true (subst IsSome none live)

module _ (schemas : List Schema) (old table : Table) (past : List PastPart) (fits : AllZip FitsPast table past) (before : table_before table past ≡ old) (of_new : IsTableOf schemas table) (t : ℕ) (within : t < length schemas) where
  abbrev pub part : PastPart
  part = get_or past t no_part

  abbrev pub rows : RowMap
  rows = get_or table t empty

  rows_there : slice_get table t ≡ Some rows
  rows_there = slice_get-get_or table t empty (omega (arith, within, of_new.types))

  pub part_there : slice_get past t ≡ Some part
  part_there = part_is table past fits t rows rows_there

  pub part_fits : FitsPast rows part
  part_fits = fits_at table past t rows part fits rows_there part_there

  pub came : (o : ℕ) → (Contains part.came o → IsLive table t o × ¬ IsLive old t o) × (IsLive table t o × ¬ IsLive old t o → Contains part.came o)
  came o = subst (λ (was : Table). (Contains part.came o → IsLive table t o × ¬ IsLive was t o) × (IsLive table t o × ¬ IsLive was t o → Contains part.came o)) before (came_at table past fits t rows rows_there o)

  pub gone : (o : ℕ) → (Contains part.gone o → IsLive old t o × ¬ IsLive table t o) × (IsLive old t o × ¬ IsLive table t o → Contains part.gone o)
  gone o = subst (λ (was : Table). (Contains part.gone o → IsLive was t o × ¬ IsLive table t o) × (IsLive was t o × ¬ IsLive table t o → Contains part.gone o)) before (gone_at table past fits t rows rows_there o)

  goes : (o : ℕ) → IsLive table t o → (IsLive old t o × ¬ Contains part.gone o) ⊎ Contains part.came o
  goes o live = elim (live_or_none old t o) [
    | inl was ↦ inl (was, λ among. ((gone o).0 among).1 live)
    | inr none ↦ inr ((came o).1 (live, not_live old t o none))
  ]

  comes : (o : ℕ) → (IsLive old t o × ¬ Contains part.gone o) ⊎ Contains part.came o → IsLive table t o
  comes o (inr among) = ((came o).0 among).0
  comes o (inl (was, stays)) = elim (live_or_none table t o) [ inl live ↦ live | inr none ↦ absurd (stays ((gone o).1 (was, not_live table t o none))) ]

  -- the live rows are those of before, without those that left and with those that came
  pub step_of : IsStepOf old table t part.gone part.came
  step_of = record {
    removed_rise = AllPairs-from_increasing part.gone part_fits.gone_rise;
    added_rise = AllPairs-from_increasing part.came part_fits.came_rise;
    added_free = λ o among. ((came o).0 among).1;
    live = λ o. (goes o, comes o);
  }
