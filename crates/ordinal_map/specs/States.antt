-- The rows of a type in the previous state, and those that the current one has so far.
use Rattle.std.specs.Prelude.{refl}
use Rattle.std.specs.Coded.{Coded, code_by, coded×, coded_ℕ}
use Rattle.std.specs.FinMap.{code}
use Rattle.row_model.specs.contracts.row.Row as row_contract
use Rattle.row_model.specs.Table.{RowMap}

pub record States : Type 0 where
  pub previous : RowMap
  pub current : RowMap

abbrev pub rows_code : Coded RowMap
rows_code = code coded_ℕ (row_contract.the_row).coded

abbrev pub states_code : Coded States
states_code = code_by (RowMap × RowMap) (coded× rows_code rows_code) (λ s. (s.previous, s.current)) (λ p. record { previous = p.0; current = p.1 }) (λ _. refl)
