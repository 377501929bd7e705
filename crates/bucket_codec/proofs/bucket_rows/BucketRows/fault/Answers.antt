use Rattle.std.proofs.Common.{ℕ, List, Err, MatchOption}
use Rattle.std.proofs.lemmas.Result.{IfOk-weaker}
use Rattle.row_model.specs.declared.packed.PlaceFault.{PlaceFault}
use Rattle.bucket_codec.specs.Buckets.{run_of, IsFaultOf}
use Rattle.bucket_codec.specs.BucketRows.{SpellsAt, FailsAt}
use Rattle.bucket_codec.proofs.PlaceRows.{place_tells}
use Rattle.bucket_codec.proofs.PlaceTests.{spells_there, fault_is}
use Rattle.bucket_codec.proofs.bucket_rows.BucketRows.fault.Goals as goal

pub returns-in-Spells : goal.returns-in-Spells
returns-in-Spells c =
    let rows = c.args.self.now in
    spells_there rows.widths.now rows.total rows.first.now rows.second.now c.args.place (run_of c.in-Some.buckets) c.size.result c.in-Some.ensures.0 c.in-Some.ensures.1 c.size.ensures c.in-Spells.ensures

pub returns-in-Fails : goal.returns-in-Fails
returns-in-Fails c =
    let rows = c.args.self.now in
    place_tells rows.widths.now rows.total rows.first.now rows.second.now c.args.place c.size.result (run_of c.in-Some.buckets) (Err (PlaceFault.Bad c.in-Fails.reason)) c.in-Some.ensures.0 c.in-Some.ensures.1
    c.size.ensures c.in-Fails.ensures

pub returns-in-Far : goal.returns-in-Far
returns-in-Far c =
    let rows = c.args.self.now in
    IfOk-weaker c.fault_of.result (λ found. IsFaultOf c.pairs.result found) (λ found. MatchOption found ((pairs : List (ℕ × ℕ)) × SpellsAt rows c.args.place pairs) (FailsAt rows c.args.place))
    (λ found is. fault_is rows.widths.now rows.total rows.first.now rows.second.now c.args.place c.pairs.result found is c.pairs.ensures) c.fault_of.ensures
