-- The laws of the order `load`.
use Rattle.std.proofs.Common.{ℕ, Some, refl, sym, ap, subst}
use Rattle.std.proofs.lemmas.List.Elements.{All-nil}
use Rattle.hol_answers.specs.declared.reply.Reply.TheVariants as reply
use Rattle.hollow_machine.specs.LoadOrder.{load_form}
use Rattle.chain_laws.specs.Consumers.{IsOld}
use Rattle.chain_laws.proofs.ConsumerMoves.{loads_at}
use Rattle.chain_laws.proofs.TypedConsumers.{load_typed}
use Rattle.chain_laws.proofs.Lawful.{IsLawful, IsLeft, LeavesOf, left_same, moves_lawful, says_both}
use Rattle.hol_orders.specs.declared.kind.Kind.{Kind}
use Rattle.chain_laws.proofs.OneMove.{one_load}

pub load_leaves : LeavesOf load_form
load_leaves machine version (reply.Load tag) next (blob, position, at, loads, tag_is, next_is) = (
  refl,
  subst (IsLeft machine) (sym next_is) record {
    store = refl;
    producer = refl;
    typed = λ typed. load_typed blob position loads;
    moves = λ chain holds of.
        (let (is, version_is) = loads_at machine.store chain holds version blob position at loads in (is, ap (λ (v : ℕ). Some v) (sym version_is), All-nil (IsOld chain position.schemas)));
  },
)
load_leaves machine version (reply.Refused refusal) next step = (refl, left_same machine next step.1)
load_leaves machine version _ next step = absurd step

pub load_lawful : IsLawful Kind.Load load_form
load_lawful = moves_lawful Kind.Load load_form refl
    (λ written machine sound version one other next after is also. says_both one other next after (one_load machine version one other next after is also)) load_leaves
