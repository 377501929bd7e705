-- The names of an answer's members rise.
use Rattle.std.proofs.Common.{◌≡◌, true, Option, Some, None, refl}
use Rattle.hol_answers.specs.declared.refusal.ItemFault.{ItemFault}
use Rattle.hol_answers.specs.declared.refusal.Refusal.{Refusal}
use Rattle.hol_answers.specs.declared.refusal.RowPlace.{RowPlace}
use Rattle.hol_answers.specs.declared.refusal.Refusal.TheVariants.{BadBlob}
use Rattle.hol_answers.specs.declared.reply.Reply.{Reply}
use Rattle.hol_answers.specs.declared.reply.Reply.TheVariants.{Refused}
use Rattle.hol_answers.specs.Rising.{is_rising}
use Rattle.hol_answers.specs.Refusal.{bad_blob_data, refusal_data}
use Rattle.hol_answers.specs.Reply.{reply_data}

fault_rises : (fault : ItemFault) (row : Option RowPlace) → is_rising (bad_blob_data fault row) ≡ true
fault_rises fault None = refl
fault_rises fault (Some row) = refl

refusal_rises : (refusal : Refusal) → is_rising (refusal_data refusal) ≡ true
refusal_rises (BadBlob fault) = fault_rises fault fault.row
refusal_rises _ = refl

pub rises : (reply : Reply) → is_rising (reply_data reply) ≡ true
rises (Refused refusal) = refusal_rises refusal
rises _ = refl
