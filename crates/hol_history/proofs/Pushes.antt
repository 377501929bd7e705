-- The tables of a history that gets a step in front and is cut to its bound; which steps it reaches.
use Rattle.std.proofs.Common.{◌≡◌, ◌<◌, ◌≤◌, ℕ, zero, suc, List, [], ◌∷◌, length, map, take, Option, Some, None, Result, Ok, Err, refl, sym, ap, ◌∙◌, subst, arith}
use Rattle.std.specs.Prelude.{◌↔◌, Contains, IsTrue, OnOk, is_some, slice_get}
use Rattle.std.proofs.lemmas.Bool.{false≢true}
use Rattle.std.proofs.lemmas.Option.{slice_get_within}
use Rattle.std.proofs.lemmas.List.{nil_from_length}
use Rattle.schema_model.specs.declared.schema.Schema.{Schema}
use Rattle.row_model.specs.Before.{HasBefore, PastPart, table_before}
use Rattle.row_model.specs.Table.{Table}
use Rattle.hol_history.specs.History.{PastStep, PastSteps, StandsOn, pushed, tables_of, versions}
use Rattle.hol_history.specs.Steps.{IsPlaceOf}

-- the tables of the newest steps are the first ones
tables_taken : (count : ℕ) (now : Table) (steps : List PastStep) → tables_of now (take count steps) ≡ take count (tables_of now steps)
unfolding tables_of
tables_taken zero now steps = refl
tables_taken (suc count) now [] = refl
tables_taken (suc count) now (step ∷ steps) = ap (λ (rest : List (ℕ × Table)). (step.from, table_before now step.past) ∷ rest) (tables_taken count (table_before now step.past) steps)

stands_taken : (count : ℕ) (schemas : List Schema) (now : Table) (steps : List PastStep) → StandsOn schemas now steps → StandsOn schemas now (take count steps)
unfolding StandsOn
stands_taken zero schemas now steps stands = tt
stands_taken (suc count) schemas now [] stands = tt
stands_taken (suc count) schemas now (step ∷ steps) stands = (stands.0, stands_taken count schemas (table_before now step.past) steps stands.1)

-- what follows from an answer
on_ok : {T E : Type 0} (r : Result T E) (P Q : Type 0) → OnOk r P → (P → Q) → OnOk r Q
on_ok (Ok x) P Q p so = so p
on_ok (Err e) P Q p so = tt

module _ (schemas : List Schema) (now : Table) (old new : PastSteps) (from : ℕ) (past : List PastPart) (is : new ≡ pushed old from past) where
  pub tables_pushed : tables_of now new.steps ≡ take old.bound ((from, table_before now past) ∷ tables_of (table_before now past) old.steps)
  unfolding tables_of
  tables_pushed = ap (λ (h : PastSteps). tables_of now h.steps) is ∙ tables_taken old.bound now (record { from = from; past = past } ∷ old.steps)

  stands_front : HasBefore schemas now past → StandsOn schemas (table_before now past) old.steps → StandsOn schemas now (record { from = from; past = past } ∷ old.steps)
  unfolding StandsOn
  stands_front has stood = (has, stood)

  pub stands_pushed : HasBefore schemas now past → StandsOn schemas (table_before now past) old.steps → StandsOn schemas now new.steps
  stands_pushed has stood =
      subst (λ (h : PastSteps). StandsOn schemas now h.steps) (sym is) (stands_taken old.bound schemas now (record { from = from; past = past } ∷ old.steps) (stands_front has stood))

-- the history with a step at the front, cut to the bound
abbrev pub with_step : PastSteps → PastStep → PastSteps
with_step history step = record { bound = history.bound; steps = take history.bound (step ∷ history.steps) }

module _ {T E : Type 0} (r : Result T E) (schemas : List Schema) (now : Table) (old new : PastSteps) (step : PastStep) (from : ℕ) (past : List PastPart) (is : OnOk r (new ≡ with_step old step))
    (same : step ≡ record { from = from; past = past }) where
  pub tables_put : OnOk r (tables_of now new.steps ≡ take old.bound ((from, table_before now past) ∷ tables_of (table_before now past) old.steps))
  tables_put = on_ok r (new ≡ with_step old step) (tables_of now new.steps ≡ take old.bound ((from, table_before now past) ∷ tables_of (table_before now past) old.steps)) is
      (λ put. tables_pushed schemas now old new from past (put ∙ ap (with_step old) same))

  pub stands_put : HasBefore schemas now past → StandsOn schemas (table_before now past) old.steps → OnOk r (StandsOn schemas now new.steps)
  stands_put has stood = on_ok r (new ≡ with_step old step) (StandsOn schemas now new.steps) is (λ put. stands_pushed schemas now old new from past (put ∙ ap (with_step old) same) has stood)

-- a history of bound 0 keeps no step
pub pushed_none : (history : PastSteps) (from : ℕ) (past : List PastPart) → length history.steps ≤ history.bound → history.bound ≡ 0 → history ≡ pushed history from past
pushed_none history from past few none =
    let empty : history.steps ≡ [] = nil_from_length history.steps (omega arith) in
    let step : PastStep = record { from = from; past = past } in
    let with_steps : List PastStep → PastSteps = λ steps. record { bound = history.bound; steps = steps } in
    ap with_steps empty ∙ sym (ap (λ (count : ℕ). with_steps (take count (step ∷ history.steps))) none)

-- ---- versions

version_at : (steps : List PastStep) (place : ℕ) (step : PastStep) → slice_get steps place ≡ Some step → Contains (versions steps) step.from
version_at [] place step is = absurd cc
version_at (s ∷ steps) zero step is = let same : s ≡ step = cc in (0, omega arith, ap (λ (x : PastStep). x.from) same)
version_at (s ∷ steps) (suc place) step is = let (k, inside, at) = version_at steps place step is in (suc k, omega arith, at)

at_version : (steps : List PastStep) (version : ℕ) → Contains (versions steps) version → (place : ℕ) × (step : PastStep) × (slice_get steps place ≡ Some step) × (step.from ≡ version)
at_version [] version (k, inside, at) = absurd (omega arith)
at_version (s ∷ steps) version (zero, inside, at) = (0, s, refl, at)
at_version (s ∷ steps) version (suc k, inside, at) = let (place, step, is, from) = at_version steps version (k, omega arith, at) in (suc place, step, is, from)

-- a search for the place of a version finds one exactly where the version is reached
pub place_tells : (steps : List PastStep) (version : ℕ) (found : Option ℕ) → IsPlaceOf steps version found → IsTrue (is_some found) ↔ Contains (versions steps) version
place_tells steps version None none = (λ never. absurd (false≢true never), λ there. let (place, step, is, from) = at_version steps version there in absurd (none place step is from))
place_tells steps version (Some place) is = (λ found. subst (Contains (versions steps)) is.0.2 (version_at steps place is.0.0 is.0.1), λ there. refl)

pub place_within : (steps : List PastStep) (version place : ℕ) → IsPlaceOf steps version (Some place) → place < length steps
place_within steps version place is = slice_get_within steps place is.0.0 is.0.1

-- the versions of the tables are those of the steps
pub table_versions : (now : Table) (steps : List PastStep) → map (λ pair. pair.0) (tables_of now steps) ≡ versions steps
unfolding tables_of
table_versions now [] = refl
table_versions now (step ∷ steps) = ap (λ (rest : List ℕ). step.from ∷ rest) (table_versions (table_before now step.past) steps)
