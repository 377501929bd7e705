-- What is kept of a type from the last step, and the rows that the type had before it.
use Rattle.std.specs.Prelude.{◌≡◌, ◌==◌, ◌<◌, ◌-◌, ◌^◌, ℕ, Bool, not, List, [], ◌∷◌, None, IsSome, All, zip, length, refl}
use Rattle.std.specs.Coded.{Coded, code_by, coded×, coded_ℕ, coded_list}
use Rattle.std.specs.List.{AllZip, list_any}
use Rattle.std.specs.List.Sorted.{IsStrictlyIncreasing}
use Rattle.std.specs.FinMap.{get, insert, retain_keys}
use Rattle.row_model.specs.declared.row.Row.{Row}
use Rattle.row_model.specs.contracts.row.Row as row_contract
use Rattle.schema_model.specs.declared.schema.Schema.{Schema}
use Rattle.row_model.specs.Table.{IsTableOf, RowMap, Table}

-- What the last step changed of a type: the ordinals that came, those that left, and the row of each that left.
pub record PastPart : Type 0 where
  pub came : List ℕ
  pub gone : List ℕ
  pub rows : List Row

-- whether the ordinal came in the last step
abbrev pub is_new : PastPart → ℕ → Bool
is_new part ordinal = list_any (λ came. came == ordinal) part.came

-- each ordinal that left, with the row that it had
abbrev pub left_rows : PastPart → List (ℕ × Row)
left_rows part = zip part.gone part.rows

-- the rows with some entries put in
unfoldable pub with_rows : RowMap → List (ℕ × Row) → RowMap
with_rows rows [] = rows
with_rows rows (e ∷ es) = insert (with_rows rows es) e.0 e.1

-- The rows before the step: those now without the ones that came, and with the ones that left.
unfoldable pub rows_before : RowMap → PastPart → RowMap
rows_before now part = with_rows (retain_keys now (λ ordinal. not (is_new part ordinal))) (left_rows part)

-- the same of each type
unfoldable pub table_before : Table → List PastPart → Table
table_before (rows ∷ table) (part ∷ past) = rows_before rows part ∷ table_before table past
table_before _ _ = []

-- What is kept fits the rows now: the ordinals that came rise and are live, and those that left rise, are not live, and have a row each.
pub record FitsPast (now : RowMap) (part : PastPart) : Type 0 where
  pub came_rise : IsStrictlyIncreasing part.came
  pub came_live : All (λ ordinal. IsSome (get now ordinal)) part.came
  pub gone_rise : IsStrictlyIncreasing part.gone
  pub gone_free : All (λ ordinal. get now ordinal ≡ None) part.gone
  pub gone_small : All (λ ordinal. ordinal < 2 ^ 32 - 1) part.gone
  pub rows : length part.rows ≡ length part.gone

-- What is kept of each type gives the rows before, which fit the types of a model.
pub record HasBefore (schemas : List Schema) (table : Table) (past : List PastPart) : Type 0 where
  pub fits : AllZip FitsPast table past
  pub rows : IsTableOf schemas (table_before table past)

-- Nothing is kept of a type that the last step did not name.
abbrev pub no_part : PastPart
no_part = record { came = []; gone = []; rows = [] }

abbrev pub past_code : Coded PastPart
past_code =
    code_by (List ℕ × (List ℕ × List Row)) (coded× (coded_list coded_ℕ) (coded× (coded_list coded_ℕ) (coded_list (row_contract.the_row).coded))) (λ p. (p.came, (p.gone, p.rows))) (λ p. record { came = p.0; gone = p.1.0; rows = p.1.1 }) (λ _. refl)
