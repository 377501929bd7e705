use Rattle.std.proofs.Common.{◌≡◌, ◌≤◌}
use Rattle.hollow_machine.specs.Kept.{IsReader, reader_of}
use Rattle.plan_orders.proofs.Going.{HasGone}
use Rattle.plan_orders.proofs.goto_order.go_along.Given as goal

abbrev pub invariant-loop-name : goal.invariant-loop-name
invariant-loop-name g l =
    ((g.S.BlobStore.seen l.store).held ≡ (g.S.BlobStore.seen l.initial.store).held)
    × ((g.S.BlobStore.seen l.store).puts ≡ (g.S.BlobStore.seen l.initial.store).puts)
    × ((g.S.BlobStore.seen l.initial.store).faults ≤ (g.S.BlobStore.seen l.store).faults)
    × IsReader (reader_of l.consumer l.version l.history)
    × HasGone (g.S.BlobStore.seen l.initial.store).held (reader_of l.initial.consumer l.initial.version l.initial.history) (reader_of l.consumer l.version l.history) l.names l.applied l.name-index
