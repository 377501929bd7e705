use Rattle.std.proofs.Common.{◌≡◌, ◌≤◌, take}
use Rattle.std.specs.Prelude.{All, IfSome}
use Rattle.chain_store.specs.Tags.{IsTagged}
use Rattle.chain_store.proofs.tags.are_tagged.Given as goal

abbrev pub invariant-loop-name : goal.invariant-loop-name
invariant-loop-name g l =
    ((g.S.BlobStore.seen l.store).held ≡ (g.S.BlobStore.seen l.initial.store).held)
    × ((g.S.BlobStore.seen l.store).puts ≡ (g.S.BlobStore.seen l.initial.store).puts)
    × ((g.S.BlobStore.seen l.initial.store).faults ≤ (g.S.BlobStore.seen l.store).faults)
    × IfSome (g.S.BlobStore.seen l.initial.store).held (λ held. All (λ name. ¬ IsTagged held l.bits name) (take l.name-index l.listed))
