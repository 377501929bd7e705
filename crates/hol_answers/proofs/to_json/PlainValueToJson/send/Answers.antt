use Rattle.std.proofs.lemmas.Result.{on_ok_weaker}
use Rattle.hol_answers.proofs.Sent.{sends}
use Rattle.hol_answers.proofs.to_json.PlainValueToJson.send.Goals as goal

pub returns : goal.returns
returns g c =
    on_ok_weaker c.serialize.result (λ sent. rw (← c.value.ensures.value) (sends _ _ _ (sent, c.value.ensures.plain))) c.serialize.ensures
