use Rattle.std.proofs.Common.{◌≡◌, ◌+◌, ◌≤◌, map, take}
use Rattle.std.specs.Prelude.{All, filter, sum_by}
use Rattle.read_engine.specs.Kept.{count_came}
use Rattle.read_engine.proofs.keeping.ready_all.Given as goal

abbrev pub invariant-loop-place : goal.invariant-loop-place
invariant-loop-place g l = record {
  kept : map g.I.StepIndex.still l.indexes ≡ map g.I.StepIndex.still l.initial.indexes;
  ready : All (g.I.StepIndex.is_ready l.rows.schemas l.rows.table) (take l.place l.indexes);
  least : l.initial.steps + sum_by (λ kept. count_came l.past (g.I.StepIndex.type_of kept)) (filter g.I.StepIndex.has_next (take l.place l.indexes)) ≤ l.steps;
  most : l.steps ≤ l.initial.steps + sum_by (λ kept. count_came l.past (g.I.StepIndex.type_of kept)) (take l.place l.initial.indexes);
}
