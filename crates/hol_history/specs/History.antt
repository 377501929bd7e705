-- What a history stands for: the state before each of its steps.
use Rattle.std.specs.Prelude.{◌==◌, ℕ, List, [], ◌∷◌, Option, map, take, length, refl}
use Rattle.std.specs.Coded.{Coded, code_by, coded×, coded_ℕ, coded_list}
use Rattle.std.specs.List.{find, sum_by}
use Rattle.std.specs.Option.{option_map}
use Rattle.schema_model.specs.declared.schema.Schema.{Schema}
use Rattle.row_model.specs.Before.{HasBefore, PastPart, past_code, table_before}
use Rattle.row_model.specs.Table.{Table}

-- A step: the version that it led from, and what it changed of each type.
pub record PastStep : Type 0 where
  pub from : ℕ
  pub past : List PastPart

-- How many steps a history keeps at most, and those that it keeps, the newest first.
pub record PastSteps : Type 0 where
  pub bound : ℕ
  pub steps : List PastStep

-- The version and the table before each step, the newest first, where this table stands behind the newest one.
unfoldable pub tables_of : Table → List PastStep → List (ℕ × Table)
tables_of now [] = []
tables_of now (step ∷ steps) = (step.from, table_before now step.past) ∷ tables_of (table_before now step.past) steps

-- the table of the first pair of a version, if there is one
abbrev pub table_then : List (ℕ × Table) → ℕ → Option Table
table_then tables version = option_map (λ pair. pair.1) (find (λ pair. pair.0 == version) tables)

-- The steps lead to this table of the model: what the newest one changed fits it, and the other steps lead to the table before.
unfoldable pub StandsOn : List Schema → Table → List PastStep → Type 0
StandsOn schemas now [] = Unit {0}
StandsOn schemas now (step ∷ steps) = HasBefore schemas now step.past × StandsOn schemas (table_before now step.past) steps

-- the versions that the steps led from
abbrev pub versions : List PastStep → List ℕ
versions steps = map (λ step. step.from) steps

-- The history with a step at the front, cut to the bound.
abbrev pub pushed : PastSteps → ℕ → List PastPart → PastSteps
pushed history from past = record history { steps = take history.bound (record { from = from; past = past } ∷ history.steps) }

-- how many rows left in a step
abbrev pub rows_left_in : PastStep → ℕ
rows_left_in step = sum_by (λ part. length part.rows) step.past

-- how many rows left in all the steps
abbrev pub rows_left : List PastStep → ℕ
rows_left steps = sum_by rows_left_in steps

abbrev pub step_code : Coded PastStep
step_code = code_by (ℕ × List PastPart) (coded× coded_ℕ (coded_list past_code)) (λ s. (s.from, s.past)) (λ p. record { from = p.0; past = p.1 }) (λ _. refl)

abbrev pub steps_code : Coded PastSteps
steps_code = code_by (ℕ × List PastStep) (coded× coded_ℕ (coded_list step_code)) (λ h. (h.bound, h.steps)) (λ p. record { bound = p.0; steps = p.1 }) (λ _. refl)
