use Rattle.std.proofs.lemmas.Result.{on_ok_weaker}
use Rattle.hol_answers.proofs.Sent.{object_sent, sends}
use Rattle.hol_answers.proofs.member.send_object.Goals as goal

pub returns : goal.returns
returns g c =
    on_ok_weaker c.end_map.result (λ ends. sends _ _ _ (object_sent c.args.members.now _ _ _ _ c.in_ok-begin_map.ensures c.in_ok-send_members.ensures ends)) c.end_map.ensures
