use Rattle.blob_frame.specs.SchemaForm.{schema, schemas}
use Rattle.blob_frame.proofs.laws.one_schema.Goals as goal

pub returns : goal.returns
returns c = record { schema = schema.decided; schemas = schemas.decided }
