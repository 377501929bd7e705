-- The laws of the order `stat`.
use Rattle.std.proofs.Common.{Option, Some, None, false, refl, sym, subst, ◌∙◌}
use Rattle.hol_orders.specs.declared.kind.Kind.{Kind}
use Rattle.hol_answers.specs.declared.reply.Reply.{Reply}
use Rattle.read_engine.specs.Position.{Position}
use Rattle.hollow_machine.specs.StatOrder.{StatReply, stat_form}
use Rattle.chain_laws.specs.Answers.{SaysOne}
use Rattle.chain_laws.proofs.Answering.{IsUnpublished}
use Rattle.chain_laws.proofs.Lawful.{IsLawful, looks_lawful}
use Rattle.chain_laws.proofs.OneLook.{says}

one_stat : (consumer : Option Position) (a b : Reply) → StatReply consumer a → StatReply consumer b → SaysOne a b
one_stat None a b one other = says a b (one ∙ sym other)
one_stat (Some now) a b one other = says a b (one ∙ sym other)

stat_unpublished : (consumer : Option Position) (answer : Reply) → StatReply consumer answer → IsUnpublished answer
stat_unpublished None answer is = subst IsUnpublished (sym is) refl
stat_unpublished (Some now) answer is = subst IsUnpublished (sym is) refl

pub stat_lawful : IsLawful Kind.Stat stat_form
stat_lawful = looks_lawful Kind.Stat (λ consumer asked answer. StatReply consumer answer) false
    (λ consumer asked one other typed is also. one_stat consumer one other is also)
    (λ consumer asked answer is. stat_unpublished consumer answer is)
    (λ can. absurd cc)
