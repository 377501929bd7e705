use Rattle.std.proofs.Common.{[], ◌∷◌, ◌++◌, ap, ◌∙◌}
use Rattle.hol_answers.specs.Reply.{reply_data}
use Rattle.hol_answers.proofs.Sent.{text_sent}
use Rattle.hol_answers.proofs.reply.lent_line.Goals as goal

pub returns : goal.returns
unfolding lib.Utf8.encode
returns c =
    let sent = c.in-Ok.ensures.events in
    c.in_ok-push.ensures.bytes ∙ ap (λ t. t ++ 10 ∷ []) (text_sent (reply_data c.args.reply.now) sent.0 _ sent.1 sent.2)
