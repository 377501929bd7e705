-- A state of which nothing changed: the rows before are those now.
use Rattle.std.proofs.Common.{◌≡◌, ℕ, zero, suc, [], ◌∷◌, length, refl, arith, replicate}
use Rattle.std.specs.List.{AllZip}
use Rattle.std.specs.Cmp.{nat_cmp_total}
use Rattle.std.specs.FinMap.{nat_cmp-IsAntisymmetric, same_map}
use Rattle.row_model.specs.Table.{RowMap, Table}
use Rattle.row_model.specs.Before.{FitsPast, no_part, rows_before, table_before}
use Rattle.state_moves.proofs.PastRows.{get_before}

pub same_before : (rows : RowMap) → rows_before rows no_part ≡ rows
same_before rows = same_map nat_cmp_total nat_cmp-IsAntisymmetric (rows_before rows no_part) rows (λ q. get_before rows no_part q)

pub fits_none : (rows : RowMap) → FitsPast rows no_part
fits_none rows = record {
  came_rise = λ k inside. absurd (omega (arith, inside));
  came_live = λ k d inside. absurd (omega (arith, inside));
  gone_rise = λ k inside. absurd (omega (arith, inside));
  gone_free = λ k d inside. absurd (omega (arith, inside));
  gone_small = λ k d inside. absurd (omega (arith, inside));
  rows = refl;
}

pub all_fit_none : (n : ℕ) (table : Table) → length table ≡ n → AllZip FitsPast table (replicate n no_part)
all_fit_none zero [] long = tt
all_fit_none zero (rows ∷ table) long = absurd (omega (arith, long))
all_fit_none (suc n) [] long = absurd (omega (arith, long))
all_fit_none (suc n) (rows ∷ table) long = (fits_none rows, all_fit_none n table (omega (arith, long)))

pub same_table : (n : ℕ) (table : Table) → length table ≡ n → table_before table (replicate n no_part) ≡ table
unfolding table_before
same_table zero [] long = refl
same_table zero (rows ∷ table) long = absurd (omega (arith, long))
same_table (suc n) [] long = absurd (omega (arith, long))
same_table (suc n) (rows ∷ table) long = let one = same_before rows in let rest = same_table n table (omega (arith, long)) in λ i. one i ∷ rest i
