use Rattle.blob_frame.specs.Item.{fixed, signed, varint, name, run, skipped, end}
use Rattle.blob_frame.specs.SchemaForm.{schema, schemas}
use Rattle.blob_frame.specs.Header.{header}
use Rattle.blob_frame.proofs.laws.each_place.Goals as goal

pub returns : goal.returns
returns c = record {
  number = λ w. (fixed w).decided.some;
  signed = signed.decided.some;
  varint = λ limit. (varint limit).decided.some;
  name = name.decided.some;
  run = λ count. (run count).decided.some;
  skipped = λ count. (skipped count).decided.some;
  end = end.decided.some;
  schema = schema.decided.some;
  schemas = schemas.decided.some;
  header = header.decided.some;
}
