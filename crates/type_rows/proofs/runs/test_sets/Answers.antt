use Rattle.std.proofs.Common.{ℕ, List, arith}
use Rattle.bucket_codec.specs.BucketPlace.{FailsBucketRow}
use Rattle.bucket_codec.specs.BucketRows.{FailsAt, SpellsAt}
use Rattle.object_codec.proofs.Soundness.{was_none, was_some}
use Rattle.type_rows.proofs.RunFaults.{SpellsSomePairs, buckets_fail, buckets_spell, holds_at, of_section}
use Rattle.type_rows.proofs.FoundRows.{listed_below, read_there}
use Rattle.type_rows.proofs.FirstPlaces.{failed_here, rows_tested, spelled_more}
use Rattle.type_rows.proofs.runs.test_sets.Goals as goal

pub fault-requires : goal.fault-requires
fault-requires c =
    let section = c.args.section.now in
    let place = c.from-place.result in
    let at = read_there c.args.live.now c.loop-ordinal.ordinal-index place (omega (arith, c.loop-ordinal-test.true)) c.from-place.ensures in
    holds_at c.args.shape.now section c.bucket_rows-rows.result place c.requires.buckets c.requires.readable c.bucket_rows-rows.ensures
    (listed_below section c.args.live.now c.loop-ordinal.ordinal-index place c.requires.live c.requires.placed at)

pub run_length-requires : goal.run_length-requires
run_length-requires c =
    let section = c.args.section.now in
    let place = c.from-place.result in
    let at = read_there c.args.live.now c.loop-ordinal.ordinal-index place (omega (arith, c.loop-ordinal-test.true)) c.from-place.ensures in
    holds_at c.args.shape.now section c.bucket_rows-rows.result place c.requires.buckets c.requires.readable c.bucket_rows-rows.ensures
    (listed_below section c.args.live.now c.loop-ordinal.ordinal-index place c.requires.live c.requires.placed at)

pub returns-in-Some : goal.returns-in-Some
returns-in-Some c =
    let section = c.args.section.now in
    let rows = c.bucket_rows-rows.result in
    let place = c.from-place.result in
    let at = read_there c.args.live.now c.loop-ordinal.ordinal-index place (omega (arith, c.loop-ordinal-test.true)) c.from-place.ensures in
    let fails = was_some ((pairs : List (ℕ × ℕ)) × SpellsAt rows place pairs) (FailsAt rows place) c.in_ok-fault.field-0 c.in-Some.fault c.in-Some.is c.in_ok-fault.ensures in
    failed_here c.args.shape.now section c.args.live.now c.loop-ordinal.ordinal-index place c.in-Some.fault c.requires.live c.requires.placed c.loop-ordinal.invariant at
    (buckets_fail c.args.shape.now section place c.in-Some.fault c.requires.buckets
    (of_section (λ widths total first second. FailsBucketRow widths total first second place c.in-Some.fault) section rows c.bucket_rows-rows.ensures fails))

pub loop-ordinal-preserved : goal.loop-ordinal-preserved
loop-ordinal-preserved c =
    let section = c.args.section.now in
    let rows = c.bucket_rows-rows.result in
    let place = c.from-place.result in
    let at = read_there c.args.live.now c.loop-ordinal.ordinal-index place (omega (arith, c.loop-ordinal-test.true)) c.from-place.ensures in
    let spells = was_none ((pairs : List (ℕ × ℕ)) × SpellsAt rows place pairs) (FailsAt rows place) c.in_ok-fault.field-0 c.in_default.is c.in_ok-fault.ensures in
    spelled_more c.args.shape.now section c.args.live.now c.loop-ordinal.ordinal-index place c.loop-ordinal.invariant at
    (buckets_spell c.args.shape.now section place c.requires.buckets (of_section (SpellsSomePairs place) section rows c.bucket_rows-rows.ensures spells))

pub returns : goal.returns
returns c =
    rows_tested c.args.shape.now c.args.section.now c.args.live.now c.loop-ordinal.ordinal-index c.requires.live c.requires.rising c.requires.placed c.loop-ordinal.invariant (omega (arith, c.loop-ordinal-test.false))
