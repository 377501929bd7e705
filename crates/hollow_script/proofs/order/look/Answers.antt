use Rattle.hol_orders.specs.declared.order.Order.TheVariants as order
use Rattle.hollow_script.proofs.Looking.{look_is, no_other_look}
use Rattle.hollow_script.proofs.order.look.Goals as goal

pub returns-in-Get-clause-reply : goal.returns-in-Get-clause-reply
returns-in-Get-clause-reply c = look_is c.args.order.now (order.Get c.in-Get.type_name c.in-Get.values) c.args.consumer.now c.get.result c.in-Get.is c.get.ensures.reply

pub returns-in-Find-clause-reply : goal.returns-in-Find-clause-reply
returns-in-Find-clause-reply c = look_is c.args.order.now (order.Find c.in-Find.type_name c.in-Find.paths c.in-Find.values) c.args.consumer.now c.find.result c.in-Find.is c.find.ensures.reply

pub returns-in-WalkFind-clause-reply : goal.returns-in-WalkFind-clause-reply
returns-in-WalkFind-clause-reply c = look_is c.args.order.now (order.WalkFind c.in-WalkFind.type_name c.in-WalkFind.path c.in-WalkFind.value) c.args.consumer.now c.walk_find.result c.in-WalkFind.is c.walk_find.ensures.reply

pub returns-in-Live-clause-reply : goal.returns-in-Live-clause-reply
returns-in-Live-clause-reply c = look_is c.args.order.now (order.Live c.in-Live.type_name) c.args.consumer.now c.live.result c.in-Live.is c.live.ensures.reply

pub returns-in-Row-clause-reply : goal.returns-in-Row-clause-reply
returns-in-Row-clause-reply c = look_is c.args.order.now (order.Row c.in-Row.type_name c.in-Row.ordinal) c.args.consumer.now c.row.result c.in-Row.is c.row.ensures.reply

pub returns-in-Has-clause-reply : goal.returns-in-Has-clause-reply
returns-in-Has-clause-reply c = look_is c.args.order.now (order.Has c.in-Has.type_name c.in-Has.ordinal c.in-Has.element) c.args.consumer.now c.has.result c.in-Has.is c.has.ensures.reply

pub returns-in-At-clause-reply : goal.returns-in-At-clause-reply
returns-in-At-clause-reply c = look_is c.args.order.now (order.At c.in-At.type_name c.in-At.ordinal c.in-At.key) c.args.consumer.now c.at.result c.in-At.is c.at.ensures.reply

pub returns-in-Past-clause-reply : goal.returns-in-Past-clause-reply
returns-in-Past-clause-reply c = look_is c.args.order.now (order.Past c.in-Past.type_name) c.args.consumer.now c.past.result c.in-Past.is c.past.ensures.reply

pub returns-in-Stat-clause-reply : goal.returns-in-Stat-clause-reply
returns-in-Stat-clause-reply c = look_is c.args.order.now order.Stat c.args.consumer.now c.stat.result c.in-Stat.is c.stat.ensures.reply

pub unreachable-requires : goal.unreachable-requires
unreachable-requires c = no_other_look c.args.order.now c.requires c.in_default.not-Get c.in_default.not-Find c.in_default.not-Live c.in_default.not-Row c.in_default.not-Has c.in_default.not-At c.in_default.not-Past c.in_default.not-Stat c.in_default.not-WalkFind
