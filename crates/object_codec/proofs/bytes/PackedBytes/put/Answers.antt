use Rattle.std.proofs.Common.{arith}
use Rattle.object_codec.specs.Bytes.{bytes_of}
use Rattle.object_codec.proofs.BytesInWords.{bytes_long, put_more, put_all}
use Rattle.object_codec.proofs.bytes.PackedBytes.put.Goals as goal

pub loop-at-preserved : goal.loop-at-preserved
loop-at-preserved c =
    let packed = c.args.self in
    put_more c.args.out.now.items c.loop-at.out.items c.push.new.self.items (bytes_of packed) c.loop-at.at c.byte.result
    (omega (arith, bytes_long packed.words.now packed.start packed.len)) c.byte.ensures c.loop-at.invariant c.in_ok-push.ensures.items

pub returns : goal.returns
returns c =
    let packed = c.args.self in
    put_all c.args.out.now.items c.loop-at.out.items (bytes_of packed) c.loop-at.at (omega (arith, bytes_long packed.words.now packed.start packed.len)) c.loop-at.invariant
