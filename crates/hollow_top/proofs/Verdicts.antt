-- Lines of refusals are told from all other lines by the name of their first member.
use Rattle.std.proofs.Common.{◌≡◌, ◌↔◌, ℕ, List, [], ◌∷◌, ◌++◌, Bool, true, false, Option, Some, None, Ok, Err, OnSome, refl, sym, ap, ◌∙◌, subst, arith}
use Rattle.std.proofs.lemmas.List.{append_cancel_left}
use Rattle.std.specs.List.{concat}
use Rattle.serde_json.proofs.OnLiterals.{serde_json_on_literals}
use Rattle.hol_answers.specs.declared.reply.Reply.{Reply}
use Rattle.hol_answers.specs.declared.reply.Reply.TheVariants.{Refused}
use Rattle.hollow_top.specs.declared.stop.Stop.{Stop}
use Rattle.hollow_top.specs.declared.stop.Stop.TheVariants.{Memory, Sink, Store as StoreFailed}
use Rattle.hollow_top.specs.Command.{IsLineOf}
use Rattle.hol_answers.specs.Refusal.{refusal_line}
use Rattle.hol_answers.specs.Reply.{is_refusal, line_of}
use Rattle.hollow_top.specs.RowLines.{Listed, IsRowLine, AreLinesOf, LeavesLines}
use Rattle.hollow_top.specs.Run.{status_of}
use Rattle.hol_answers.specs.Marks.{is_marked}
use Rattle.hol_answers.proofs.FirstNames.{marked, apart}
use Rattle.hollow_top.specs.Stopping.{GainsRefusal, IsVerdict, Leaves}

-- a text that is not marked is no refusal's line
unmarked_none : (text : List ℕ) → is_marked text ≡ false → IsVerdict text false
unmarked_none text other refusal same = let both : true ≡ false = sym (marked refusal) ∙ ap is_marked (sym same) ∙ other in cc

-- the line of an answer is that of a refusal exactly where the answer is one
line_verdict : (reply : Reply) → IsVerdict (line_of reply) (is_refusal reply)
line_verdict reply = by_flag (is_refusal reply) refl
  where
    refused : (reply : Reply) → is_refusal reply ≡ true → IsVerdict (line_of reply) true
    refused (Refused refusal) is = (refusal, refl)
    refused _ is = absurd cc

    by_flag : (flag : Bool) → is_refusal reply ≡ flag → IsVerdict (line_of reply) flag
    by_flag true is = refused reply is
    by_flag false is = λ refusal. apart refusal reply is

pub line_of_verdict : (reply : Reply) (text : List ℕ) (refused : Bool) → IsLineOf (λ answer. answer ≡ reply) text refused → IsVerdict text refused
line_of_verdict reply text refused (answer, same, text_is, verdict) =
    subst (λ v. IsVerdict text v) (sym verdict) (subst (λ t. IsVerdict t (is_refusal answer)) (sym text_is) (line_verdict answer))

-- the line of a row begins with its ordinal, and the text of no rows is empty
row_unmarked : (row : Listed) (line rest : List ℕ) → IsRowLine row line → is_marked (line ++ rest) ≡ false
unfolding serde_json_on_literals
row_unmarked row line rest (printed, prints, is) = ap (λ t. is_marked (t ++ rest)) is

lines_verdict : (rows : List Listed) (text : List ℕ) → AreLinesOf rows text → IsVerdict text false
lines_verdict [] text ([], are, is) = unmarked_none text (ap is_marked is)
lines_verdict [] text (line ∷ lines, are, is) = absurd are
lines_verdict (row ∷ rows) text ([], are, is) = absurd are
lines_verdict (row ∷ rows) text (line ∷ lines, are, is) = unmarked_none text (ap is_marked is ∙ row_unmarked row line (concat lines) are.0)

-- what writing the lines of rows leaves is no refusal
pub written_rows : (rows : List Listed) (before after : Option (List ℕ)) → LeavesLines rows before after (Ok tt) → Leaves IsVerdict before after (Ok false)
written_rows rows before after (text, are, gained) = (text, lines_verdict rows text are, gained)

pub stopped_rows : (rows : List Listed) (before after : Option (List ℕ)) (stop : Stop) → LeavesLines rows before after (Err stop) → Leaves IsVerdict before after (Err stop)
stopped_rows rows before after Sink (text, count, are, part, gained) = (text, false, count, lines_verdict rows text are, part, gained)
stopped_rows rows before after Memory left = tt
stopped_rows rows before after StoreFailed left = tt

-- the status of a verdict is 1 exactly where the line of a refusal was gained
pub status_tells : (before after : Option (List ℕ)) (refused : Bool) (status : ℕ) → status ≡ status_of refused → Leaves IsVerdict before after (Ok refused) →
    OnSome before ((status ≡ 1) ↔ GainsRefusal before after)
status_tells None after refused status is left = tt
status_tells (Some xs) None refused status is left = absurd left.2
status_tells (Some xs) (Some ys) true status is (text, (refusal, same), gained) =
    ((λ one. (refusal, gained ∙ ap (λ t. xs ++ t) same)), (λ gains. is))
status_tells (Some xs) (Some ys) false status is (text, none, gained) =
    ((λ one. absurd (omega (arith, one, is))), (λ gains. absurd (none gains.0 (append_cancel_left xs text (refusal_line gains.0) (sym gained ∙ gains.1)))))
