-- Answers that say one line.
use Rattle.std.specs.Prelude.{◌≡◌}
use Rattle.hol_answers.specs.declared.reply.Reply.{Reply}
use Rattle.hol_answers.specs.Reply.{is_refusal, reply_data}

-- Both are one JSON object, and a refusal or none.
abbrev pub SaysOne : Reply → Reply → Type 0
SaysOne one other = (reply_data one ≡ reply_data other) × (is_refusal one ≡ is_refusal other)
