use Rattle.std.proofs.Common.{get_or, take, ◌+◌, subst, sym}
use Rattle.std.proofs.lemmas.List.{get_or_default, take_all}
use Rattle.hol_io.specs.declared.name.BlobName.TheVariants.{Snapshot}
use Rattle.hol_plan.specs.Start.{IsNearest}
use Rattle.hol_plan.specs.Ways.{way_at}
use Rattle.hol_plan.proofs.Nearest.{nearest_more, nearest_same}
use Rattle.hol_plan.proofs.start.nearest_snapshot.Goals as goal
use Rattle.hol_plan.proofs.start.nearest_snapshot.Goals.{in-Some, in_default}

pub loop-name-preserved : goal.loop-name-preserved
loop-name-preserved c =
    let blobs = c.args.blobs.now in
    let i = c.loop-name.name-index in
    let name = get_or blobs i (Snapshot 0) in
    let itself = get_or_default blobs i (Snapshot 0) name c.loop-name-test.true in
    let near = c.loop-name.invariant in
    elim c.match-snapshot_start.branch [
      | in-Some w ↦ subst (IsNearest (take (i + 1) blobs) c.args.versions.now (way_at c.args.ways.now)) (sym w.nearest-is)
          (nearest_more c.args.versions.now (way_at c.args.ways.now) c.requires blobs i name c.loop-name.nearest w.in-Some.start w.nearer.result c.loop-name-test.true itself w.in-Some.ensures w.nearer.ensures near)
      | in_default w ↦ subst (IsNearest (take (i + 1) blobs) c.args.versions.now (way_at c.args.ways.now)) (sym w.nearest-is)
          (nearest_same c.args.versions.now (way_at c.args.ways.now) c.requires blobs i name c.loop-name.nearest c.loop-name-test.true itself w.in_default.ensures near)
    ]

pub returns : goal.returns
returns c = subst (λ l. IsNearest l c.args.versions.now (way_at c.args.ways.now) c.loop-name.nearest) (take_all c.loop-name.name-index c.args.blobs.now c.loop-name-test.false) c.loop-name.invariant
