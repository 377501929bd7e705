-- A row that no step touched has the key that it had.
use Rattle.std.proofs.Common.{◌≡◌, ◌<◌, ◌≤◌, ℕ, zero, suc, List, [], ◌∷◌, length, false, ◌∙◌, subst, arith}
use Rattle.std.specs.Prelude.{IsSome}
use Rattle.schema_model.specs.declared.model.path.Path.{Path}
use Rattle.schema_model.specs.declared.schema.Schema.{Schema}
use Rattle.row_model.specs.Before.{table_before}
use Rattle.row_model.specs.Key.{key_of}
use Rattle.row_model.specs.Table.{IsClosed, IsLive, Table}
use Rattle.hol_history.specs.History.{PastStep, StandsOn, tables_of}
use Rattle.hol_history.specs.Steps.{touches_at}
use Rattle.hol_history.specs.Then.{table_at}
use Rattle.hol_history.proofs.OldTables.{untouched_row}
use Rattle.key_index.proofs.KeptKeys.{key_kept}
use Rattle.state_moves.proofs.Came.{one_row}
use Rattle.hollow_machine.specs.Kept.{AreClosed}

module _ (schemas : List Schema) (t o : ℕ) (paths : List Path) where
  -- behind one step
  one_step : (now : Table) (step : PastStep) (steps : List PastStep) → IsClosed schemas now → StandsOn schemas now (step ∷ steps) → IsClosed schemas (table_before now step.past) →
      ((q : ℕ) → q ≤ 0 → touches_at (step ∷ steps) q t o ≡ false) → IsLive (table_before now step.past) t o → IsLive now t o × (key_of schemas now t paths o ≡ key_of schemas (table_before now step.past) t paths o)
  unfolding StandsOn tables_of
  one_step now step steps closed stands closed_before none live =
      let live_now : IsLive now t o = subst IsSome (untouched_row schemas now (step ∷ steps) 0 t o (omega arith) stands none) live in
      (live_now, key_kept schemas (table_before now step.past) now closed_before closed (one_row now step.past stands.0.fits) paths t o live live_now)

  -- Behind all steps.
  pub key_now : (now : Table) (steps : List PastStep) (place : ℕ) → IsClosed schemas now → StandsOn schemas now steps → AreClosed schemas (tables_of now steps) → place < length steps →
      ((q : ℕ) → q ≤ place → touches_at steps q t o ≡ false) → IsLive (table_at now steps place) t o → IsLive now t o × (key_of schemas now t paths o ≡ key_of schemas (table_at now steps place) t paths o)
  unfolding StandsOn tables_of
  key_now now [] place closed stands all inside none live = absurd (omega (arith, inside))
  key_now now (step ∷ steps) zero closed stands all inside none live = one_step now step steps closed stands (all 0 (step.from, table_before now step.past) (omega arith)) none live
  key_now now (step ∷ steps) (suc place) closed stands all inside none live =
      let before = table_before now step.past in
      let closed_before = all 0 (step.from, before) (omega arith) in
      let earlier = key_now before steps place closed_before stands.1 (λ k d within. all (suc k) d (omega (arith, within))) (omega (arith, inside)) (λ q le. none (suc q) (omega (arith, le))) live in
      let here = one_step now step steps closed stands closed_before (λ q le. none q (omega (arith, le))) earlier.0 in
      (here.0, here.1 ∙ earlier.1)
