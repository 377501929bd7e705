use Rattle.std.proofs.Common.{◌≡◌, ◌+◌, ◌*◌, ◌/◌, ◌++◌, take, arith, refl, subst, sym, ◌∙◌}
use Rattle.object_codec.specs.Bytes.{bytes_of}
use Rattle.object_codec.proofs.BytesInWords.{bytes_long}
use Rattle.record_copies.proofs.WordBytes.{eight_more, on_put, word_bytes}
use Rattle.record_copies.proofs.bytes.put_bytes.Goals as goal

pub loop-index-preserved : goal.loop-index-preserved
loop-index-preserved c =
    let bytes = c.args.bytes in
    let word = word_bytes bytes.words.now bytes.start bytes.len (8 * (bytes.start + 8 * c.loop-index.index)) c.loop-index.index c.element-word.result (omega arith) refl c.element-word.ensures in
    eight_more c.args.out.now.items c.loop-index.out.items c.extend_from_slice.new.self.items (bytes_of bytes) c.to_le_bytes.result c.loop-index.index c.loop-index.invariant (c.to_le_bytes.ensures ∙ word) c.in_ok-extend_from_slice.ensures.items

pub returns : goal.returns
returns c =
    let bytes = c.args.bytes in
    let past = c.loop-index-test.false in
    let within = c.loop-index.auto.index-end in
    let all : c.loop-index.index ≡ bytes.len / 8 = omega arith in
    let so_far = subst (λ n. c.loop-index.out.items ≡ c.args.out.now.items ++ take (8 * n) (bytes_of bytes)) all c.loop-index.invariant in
    on_put c.put.result c.args.out.now.items c.loop-index.out.items c.put.new.out.items (bytes_of bytes) (bytes_of c.between.result) (bytes.len / 8) bytes.len so_far c.between.ensures (omega arith)
    (sym (bytes_long bytes.words.now bytes.start bytes.len)) c.put.ensures
