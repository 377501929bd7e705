use Rattle.blob_frame.specs.Item.{fixed, signed, varint, name, run, skipped, end}
use Rattle.blob_frame.proofs.laws.one_item.Goals as goal

pub returns : goal.returns
returns c = record {
  number = λ w. (fixed w).decided;
  signed = signed.decided;
  varint = λ limit. (varint limit).decided;
  name = name.decided;
  run = λ count. (run count).decided;
  skipped = λ count. (skipped count).decided;
  end = end.decided;
}
