use Rattle.std.proofs.Common.{List, map, take, subst}
use Rattle.std.specs.List.{All}
use Rattle.std.proofs.lemmas.List.{take_all}
use Rattle.std.proofs.lemmas.List.Elements.{All-more}
use Rattle.blob_faults.specs.Rows.{counts}
use Rattle.blob_faults.proofs.EachOf.{fails_at}
use Rattle.snapshot_blob.specs.declared.part.TypePart.{TypePart}
use Rattle.snapshot_blob.specs.Stated.{KeepsCounts}
use Rattle.snapshot_blob.proofs.Trials.{all_counts, counts_kept}
use Rattle.snapshot_blob.proofs.types.check_counts.Goals as goal

pub returns-in-Some : goal.returns-in-Some
returns-in-Some c =
    let before : List TypePart = take c.loop-part.part-index c.args.parts.now in
    fails_at (λ (part : TypePart). counts part.section.max part.section.total) c.args.parts.now c.loop-part.part-index c.part-item.result (map (λ part. tt) before) c.in-Some.fault
    c.loop-part-test.true c.part-item.is (all_counts before c.loop-part.invariant) c.in-Some.ensures

pub loop-part-preserved : goal.loop-part-preserved
loop-part-preserved c =
    All-more KeepsCounts c.args.parts.now c.loop-part.part-index c.part-item.result c.loop-part-test.true c.loop-part.invariant
    (subst KeepsCounts c.part-item.is (counts_kept c.part-item.result c.in_default.ensures))

pub returns : goal.returns
returns c = subst (λ (parts : List TypePart). All KeepsCounts parts) (take_all c.loop-part.part-index c.args.parts.now c.loop-part-test.false) c.loop-part.invariant
