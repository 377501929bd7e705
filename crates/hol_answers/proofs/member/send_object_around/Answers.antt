use Rattle.std.proofs.lemmas.Result.{on_ok_weaker}
use Rattle.hol_answers.proofs.Sent.{object_around_sent, sends}
use Rattle.hol_answers.proofs.member.send_object_around.Goals as goal

pub returns : goal.returns
returns g c =
    on_ok_weaker c.end_map.result
    (λ ends. sends _ _ _ (object_around_sent c.args.front.now c.args.back.now c.args.name.now _ _ _ _ _ _ _ _ c.in_ok-begin_map.ensures c.in_ok-send_members.ensures c.in_ok-key.ensures c.in_ok-send.ensures c.in_ok-send_members-2.ensures ends))
    c.end_map.ensures
