use Rattle.std.proofs.lemmas.Result.{on_ok_weaker}
use Rattle.hol_answers.proofs.Sent.{pair_sent, sends}
use Rattle.hol_answers.proofs.to_json.Tuple2ToJson.send.Goals as goal

pub returns : goal.returns
returns g c =
    on_ok_weaker c.end_seq.result (λ ends. sends _ _ _ (pair_sent _ _ _ _ _ _ _ c.in_ok-begin_seq.ensures c.in_ok-send.ensures c.in_ok-send-2.ensures ends)) c.end_seq.ensures
