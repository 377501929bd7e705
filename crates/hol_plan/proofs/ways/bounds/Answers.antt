use Rattle.std.proofs.Common.{ltb, leb, rules}
use Rattle.std.proofs.lemmas.List.Sorted.{IsPartitionPoint-from_clause, IsPartitionedBy-leb, IsPartitionedBy-ltb}
use Rattle.hol_plan.specs.declared.steps.Step.{Step}
use Rattle.hol_plan.proofs.Grouping.{in_order, group_is}
use Rattle.hol_plan.proofs.ways.bounds.Goals as goal

pub returns-clause-order : goal.returns-clause-order
returns-clause-order c = in_order c.args.steps.now c.args.place c.partition_point-first.result c.partition_point-behind.result
    (IsPartitionPoint-from_clause (λ (s : Step). ltb s.end c.args.place) _ _ c.partition_point-first.ensures.partitioned (IsPartitionedBy-ltb (λ (s : Step). s.end) c.args.steps.now c.args.place c.requires) (λ a r q k. search rules))
    (IsPartitionPoint-from_clause (λ (s : Step). leb s.end c.args.place) _ _ c.partition_point-behind.ensures.partitioned (IsPartitionedBy-leb (λ (s : Step). s.end) c.args.steps.now c.args.place c.requires) (λ a r q k. search rules))
    c.partition_point-first.ensures.bound c.partition_point-behind.ensures.bound

pub returns-clause-group : goal.returns-clause-group
returns-clause-group c = group_is c.args.steps.now c.args.place c.partition_point-first.result c.partition_point-behind.result
    (IsPartitionPoint-from_clause (λ (s : Step). ltb s.end c.args.place) _ _ c.partition_point-first.ensures.partitioned (IsPartitionedBy-ltb (λ (s : Step). s.end) c.args.steps.now c.args.place c.requires) (λ a r q k. search rules))
    (IsPartitionPoint-from_clause (λ (s : Step). leb s.end c.args.place) _ _ c.partition_point-behind.ensures.partitioned (IsPartitionedBy-leb (λ (s : Step). s.end) c.args.steps.now c.args.place c.requires) (λ a r q k. search rules))
    c.partition_point-first.ensures.bound c.partition_point-behind.ensures.bound
