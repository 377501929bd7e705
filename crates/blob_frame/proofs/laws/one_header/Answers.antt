use Rattle.blob_frame.specs.Header.{header}
use Rattle.blob_frame.proofs.laws.one_header.Goals as goal

pub returns : goal.returns
returns c = header.decided
