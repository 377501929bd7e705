use Rattle.std.proofs.Common.{drop}
use Rattle.serde.specs.Event.{Log}
use Rattle.serde_json.specs.Data.{Members}
use Rattle.hol_answers.specs.Content.{members_before}
use Rattle.hol_answers.specs.Sent.{SendsMembersPlain}
use Rattle.hol_answers.proofs.member.send_members.Given as goal

-- whatever ends the object well from here ends it well from the start
abbrev pub invariant-loop-member : goal.invariant-loop-member
invariant-loop-member g l =
    (rest : Members) (end : Log) → SendsMembersPlain (members_before (drop l.member-index l.members) rest) (g.S.Serializer.written l.out) end
    → SendsMembersPlain (members_before l.members rest) (g.S.Serializer.written l.initial.out) end
