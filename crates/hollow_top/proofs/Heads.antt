-- What opening a blob and reading its header say of the answer.
use Rattle.std.proofs.Common.{◌≡◌, ℕ, List, Option, Ok, Err, refl, sym, subst}
use Rattle.hol_io.specs.declared.name.BlobName.{BlobName}
use Rattle.blob_frame.specs.declared.fault.BlobFault.{BlobFault}
use Rattle.blob_frame.specs.declared.fault.BlobFault.TheVariants as fault
use Rattle.blob_cursor.specs.Opened.{TellsHeader}
use Rattle.hol_answers.specs.declared.refusal.Refusal.{Refusal}
use Rattle.hol_answers.specs.declared.refusal.Refusal.TheVariants.{NoBlob, TooLarge}
use Rattle.hol_answers.specs.Refusal.{bad_item}
use Rattle.hollow_machine.specs.Blobs.{HeadRefusal}
use Rattle.hol_answers.specs.BlobRefusal.{refusal_of_blob}

-- the refusal for a fault of the header is that of the content
pub refused : (name : BlobName) (content : Option (List ℕ)) (found : BlobFault) (refusal : Refusal) → TellsHeader name content (Err found) → Ok refusal ≡ refusal_of_blob name found →
    HeadRefusal name content refusal
refused name content (fault.NoBlob other) refusal tells is =
    let same : refusal ≡ NoBlob name = cc in subst (HeadRefusal name content) (sym same) (refl, tells.1)
refused name content (fault.Large what) refusal tells is =
    let same : refusal ≡ TooLarge what = cc in subst (HeadRefusal name content) (sym same) tells
refused name content (fault.Bad at reason) refusal (blob, there, short, stuck) is =
    let same : refusal ≡ bad_item name at reason = cc in subst (HeadRefusal name content) (sym same) (blob, there, short, stuck, refl, refl)
refused name content fault.Store refusal tells is = absurd cc
refused name content fault.Memory refusal tells is = absurd cc
refused name content _ refusal tells is = absurd tells
