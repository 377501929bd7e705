use Rattle.std.proofs.Common.{◌≡◌, ◌≤◌, ◌<◌, take, None}
use Rattle.std.specs.Prelude.{IfSome}
use Rattle.chain_check.specs.Walk.{Passes, calls_by, compared_in}
use Rattle.chain_check.proofs.checking.check_each.Given as goal

-- the walk has passed the first versions
abbrev pub invariant-loop-place : goal.invariant-loop-place
invariant-loop-place g l = record {
  passes : Passes (calls_by g.W.Walk.loads g.W.Walk.steps g.W.Walk.tag g.W.Rows.schemas g.W.Rows.table) (g.S.BlobStore.seen l.initial.store).held None (take l.place l.versions)
      (record { walker = l.initial.walker; fresh = l.initial.fresh }) (record { walker = l.walker; fresh = l.fresh });
  counted : IfSome (g.S.BlobStore.seen l.initial.store).held (λ store. l.compared ≡ compared_in store (take l.place l.versions));
  few : l.compared ≤ l.place;
  loaded : 0 < l.place → g.W.Walk.is_loaded l.walker;
  kept : (g.S.BlobStore.seen l.store).held ≡ (g.S.BlobStore.seen l.initial.store).held;
  later : (g.S.BlobStore.seen l.initial.store).faults ≤ (g.S.BlobStore.seen l.store).faults;
  unput : (g.S.BlobStore.seen l.store).puts ≡ (g.S.BlobStore.seen l.initial.store).puts;
}
