use Rattle.blob_cursor.proofs.Decided.{exactly_told}
use Rattle.blob_cursor.proofs.cursor.Cursor.read_header.Goals as goal

pub returns-clause-exact : goal.returns-clause-exact
returns-clause-exact g c = exactly_told _ _ _ _ _ c.header.ensures.reads.tells
