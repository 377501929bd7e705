use Rattle.object_codec.proofs.BytesInWords.{bytes_between}
use Rattle.object_codec.proofs.bytes.PackedBytes.between.Goals as goal

pub returns : goal.returns
returns c = bytes_between c.args.self.words.now c.args.self.start c.args.self.len c.args.start c.args.end c.requires.rises c.requires.within
