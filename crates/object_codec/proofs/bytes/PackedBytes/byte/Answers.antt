use Rattle.std.proofs.Common.{◌∙◌, ◌+◌, ◌*◌}
use Rattle.object_codec.proofs.BytesInWords.{byte_is, byte_below}
use Rattle.object_codec.proofs.bytes.PackedBytes.byte.Goals as goal

pub returns : goal.returns
returns c = c.element.ensures ∙ byte_is c.args.self.words.now c.args.self.start c.args.self.len c.args.at c.requires

pub overflow_cast-result : goal.overflow_cast-result
overflow_cast-result c = record { fits = byte_below c.args.self.words.now ((c.args.self.start + c.args.at) * 8) c.element.result c.element.ensures }
