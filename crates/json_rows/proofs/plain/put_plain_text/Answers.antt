use Rattle.std.proofs.Common.{[], ◌∷◌, ◌++◌, ap, ◌∙◌, arith}
use Rattle.object_codec.specs.Bytes.{bytes_of}
use Rattle.object_codec.proofs.BytesInWords.{bytes_long, put_more, put_all}
use Rattle.json_rows.proofs.PackedTexts.{quoted_put}
use Rattle.json_rows.proofs.plain.put_plain_text.Goals as goal

pub loop-at-preserved : goal.loop-at-preserved
loop-at-preserved c =
    let bytes = c.args.bytes in
    let put = c.push_reserved-in-loop-at.ensures in (
      put_more c.push_reserved.new.self.items c.loop-at.out.items c.push_reserved-in-loop-at.new.self.items (bytes_of bytes) c.loop-at.at c.byte.result
          (omega (arith, bytes_long bytes.words.now bytes.start bytes.len)) c.byte.ensures c.loop-at.invariant.0 put.items,
      omega (arith, c.loop-at.invariant.1, put.len, put.capacity),
    )

pub returns-clause-put : goal.returns-clause-put
returns-clause-put c =
    let bytes = c.args.bytes in
    quoted_put c.args.out.now.items c.push_reserved.new.self.items c.loop-at.out.items c.push_reserved-2.new.self.items (bytes_of bytes)
    (c.push_reserved.ensures.items ∙ ap (λ t. t ++ 34 ∷ []) c.in_ok-reserve.ensures.items)
    (put_all c.push_reserved.new.self.items c.loop-at.out.items (bytes_of bytes) c.loop-at.at (omega (arith, bytes_long bytes.words.now bytes.start bytes.len)) c.loop-at.invariant.0)
    c.push_reserved-2.ensures.items
