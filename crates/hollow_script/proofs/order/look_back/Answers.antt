use Rattle.hollow_machine.specs.Kept.{reader_of}
use Rattle.hollow_script.proofs.Looking.{looks_here}
use Rattle.hollow_script.proofs.Ordering.{looks, was_stays, wasget_stays}
use Rattle.hollow_script.proofs.order.look_back.Goals as goal

pub returns-in-Was-clause-reply : goal.returns-in-Was-clause-reply
returns-in-Was-clause-reply c =
    was_stays c.args.order.now (reader_of c.args.consumer.now c.args.version c.args.history.now) c.was.result c.in-Was.wanted c.in-Was.type_name c.in-Was.ordinal c.in-Was.is c.was.ensures.reply

pub returns-in-WasGet-clause-reply : goal.returns-in-WasGet-clause-reply
returns-in-WasGet-clause-reply c =
    wasget_stays c.args.order.now (reader_of c.args.consumer.now c.args.version c.args.history.now) c.was_get.result c.in-WasGet.wanted c.in-WasGet.type_name c.in-WasGet.values c.in-WasGet.is
    c.was_get.ensures.reply

pub look-requires : goal.look-requires
look-requires c = looks_here c.args.order.now c.requires.order c.in_default.not-Was c.in_default.not-WasGet

pub returns-in_default-clause-reply : goal.returns-in_default-clause-reply
returns-in_default-clause-reply c = looks c.args.order.now (reader_of c.args.consumer.now c.args.version c.args.history.now) c.look.result c.look.ensures.reply
