use Rattle.std.proofs.Common.{arith}
use Rattle.bucket_codec.proofs.Writing.{still_holds, put_empty}
use Rattle.bucket_codec.proofs.Clearing.{cleared_more, cleared_all}
use Rattle.bucket_codec.proofs.run.Run.clear.Goals as goal

pub put-requires-clause-held : goal.put-requires-clause-held
put-requires-clause-held c =
    still_holds c.args.words.now c.loop-place.words c.args.self.key_width c.args.self.value_width c.args.self.start c.args.self.size c.loop-place.invariant.front.long c.requires

pub loop-place-preserved : goal.loop-place-preserved
loop-place-preserved c =
    cleared_more c.args.words.now c.loop-place.words _ c.args.self.key_width c.args.self.value_width c.args.self.start c.args.self.size c.loop-place.place (omega arith) c.loop-place.invariant
    (put_empty c.args.self.key_width c.all_ones-empty.result _ _ c.put.ensures.is c.all_ones-empty.ensures) c.put.ensures.value c.put.ensures.others c.put.ensures.front c.put.ensures.back

pub returns : goal.returns
returns c =
    cleared_all c.args.words.now c.loop-place.words c.args.self.key_width c.args.self.value_width c.args.self.start c.args.self.size c.loop-place.place (omega arith) c.loop-place.invariant
