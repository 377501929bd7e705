-- Rows that stand packed, and the widths of their parts.
use Rattle.std.specs.Prelude.{ℕ, List, refl}
use Rattle.std.specs.Coded.{Coded, code_by, coded×, coded_ℕ, coded_list}
use Rattle.std.specs.FinMap.{code}
use Rattle.row_model.specs.contracts.row.Row as row_contract
use Rattle.row_model.specs.Table.{RowMap}

-- Some rows, and the widths of their parts.
pub record Standing : Type 0 where
  pub rows : RowMap
  pub widths : List ℕ

abbrev pub rows_code : Coded RowMap
rows_code = code coded_ℕ (row_contract.the_row).coded

abbrev pub standing_code : Coded Standing
standing_code = code_by (RowMap × List ℕ) (coded× rows_code (coded_list coded_ℕ)) (λ s. (s.rows, s.widths)) (λ p. record { rows = p.0; widths = p.1 }) (λ _. refl)
