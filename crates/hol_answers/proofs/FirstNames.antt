-- Lines of refusals are told from all other lines by the name of their first member, and refusals by the member `error`.
use Rattle.std.proofs.Common.{◌≡◌, ◌≢◌, [], ◌∷◌, ◌++◌, false, true, Option, Some, None, refl, ap, sym, ◌∙◌}
use Rattle.serde_json.proofs.OnLiterals.{serde_json_on_literals}
use Rattle.serde_json.specs.Written.{compact_text}
use Rattle.hol_answers.specs.declared.refusal.ItemFault.{ItemFault}
use Rattle.hol_answers.specs.declared.refusal.Refusal.{Refusal}
use Rattle.hol_answers.specs.declared.refusal.RowPlace.{RowPlace}
use Rattle.hol_answers.specs.declared.refusal.Refusal.TheVariants.{BadBlob}
use Rattle.hol_answers.specs.declared.reply.Reply.{Reply}
use Rattle.hol_answers.specs.declared.reply.Reply.TheVariants.{Refused}
use Rattle.hol_answers.specs.Marks.{is_marked, tells_error}
use Rattle.hol_answers.specs.Refusal.{bad_blob_data, refusal_data, refusal_line}
use Rattle.hol_answers.specs.Reply.{is_refusal, line_of, reply_data}

marked_fault : (fault : ItemFault) (row : Option RowPlace) → is_marked (compact_text (bad_blob_data fault row) ++ 10 ∷ []) ≡ true
unfolding serde_json_on_literals
marked_fault fault None = refl
marked_fault fault (Some row) = refl

pub marked : (refusal : Refusal) → is_marked (refusal_line refusal) ≡ true
unfolding serde_json_on_literals
marked (BadBlob fault) = marked_fault fault fault.row
marked _ = refl

-- the other answers are not marked
pub unmarked : (reply : Reply) → is_refusal reply ≡ false → is_marked (line_of reply) ≡ false
unfolding serde_json_on_literals
unmarked (Refused refusal) other = absurd cc
unmarked _ other = refl

-- so the line of a refusal is that of no other answer
pub apart : (refusal : Refusal) (reply : Reply) → is_refusal reply ≡ false → line_of reply ≢ refusal_line refusal
apart refusal reply other same = let both : true ≡ false = sym (marked refusal) ∙ ap is_marked (sym same) ∙ unmarked reply other in cc

-- each refusal has a member `error`, and no other answer has one
told_fault : (fault : ItemFault) (row : Option RowPlace) → tells_error (bad_blob_data fault row) ≡ true
told_fault fault None = refl
told_fault fault (Some row) = refl

refusal_told : (refusal : Refusal) → tells_error (refusal_data refusal) ≡ true
refusal_told (BadBlob fault) = told_fault fault fault.row
refusal_told _ = refl

pub told : (reply : Reply) → tells_error (reply_data reply) ≡ is_refusal reply
told (Refused refusal) = refusal_told refusal
told _ = refl
