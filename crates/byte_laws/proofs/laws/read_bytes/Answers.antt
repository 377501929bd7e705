use Rattle.byte_laws.proofs.LoadedRows.{loaded_bytes}
use Rattle.byte_laws.proofs.PatchedRows.{patched_bytes}
use Rattle.byte_laws.proofs.ReadRecords.{read_are}
use Rattle.byte_laws.proofs.laws.read_bytes.Goals as goal

pub returns : goal.returns
returns c = record { json = read_are; blob = loaded_bytes; delta = patched_bytes }
