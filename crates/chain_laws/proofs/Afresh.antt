-- What is answered of a consumer's state is answered as where the consumer has it afresh, and the other way round.
use Rattle.std.proofs.Common.{◌≡◌, ℕ, List, Some, sym, ap, subst, ◌∙◌}
use Rattle.std.specs.Prelude.{◌↔◌}
use Rattle.schema_model.specs.declared.schema.Schema.{Schema}
use Rattle.row_model.specs.Table.{Table}
use Rattle.read_engine.specs.Position.{rows_now}
use Rattle.hol_orders.specs.declared.order.Order.{Order}
use Rattle.hol_orders.specs.declared.order.Order.TheVariants as order
use Rattle.hol_orders.specs.Order.{asked_of, kind_of}
use Rattle.hol_answers.specs.declared.reply.Reply.{Reply}
use Rattle.hollow_machine.specs.State.{Machine, with_consumer, with_reader}
use Rattle.hollow_machine.specs.Step.{Step}
use Rattle.written_laws.specs.Chain.{Chain, IsChain}
use Rattle.written_laws.specs.HoldsChain.{HoldsChain}
use Rattle.written_laws.specs.Quiet.{IsQuiet}
use Rattle.chain_laws.specs.Consumers.{Fresh, IsConsumerOf, IsHome, IsIn}
use Rattle.chain_laws.specs.Headline.{IsOfState}
use Rattle.chain_laws.specs.KeptIndexes.{AreIndexes}
use Rattle.chain_laws.specs.KeptWalks.{AreWalks}
use Rattle.chain_laws.proofs.EachKind.{laws}
use Rattle.chain_laws.proofs.FreshAnswers.{quiet, rows_same, sees, stood}
use Rattle.chain_laws.proofs.FreshWalks.{walkindex_afresh}

pub afresh_there : (machine fresh next : Machine) (chain : Chain) (asked : Order) (answer : Reply) → IsOfState (kind_of asked) → IsChain chain → IsConsumerOf chain machine.consumer → Fresh chain machine fresh
    → Step machine asked answer next → Step fresh asked answer fresh
afresh_there machine fresh next chain asked answer of_state sound of afresh step =
    (laws (kind_of asked)).afresh of_state machine fresh chain sound of afresh (asked_of asked) answer next step

module _ (machine fresh : Machine) (chain : Chain) (sound : IsChain chain) (of : IsConsumerOf chain machine.consumer) (afresh : Fresh chain machine fresh) where
  fresh_is_in : IsIn chain afresh.position
  fresh_is_in =
      let there : IsIn chain afresh.now = stood machine fresh chain sound of afresh in
      let model : afresh.now.schemas ≡ afresh.position.schemas = sym afresh.model in
      let kept : AreIndexes afresh.position.schemas afresh.position.indexes =
      subst (AreIndexes afresh.position.schemas) (sym afresh.indexes) (subst (λ (s : List Schema). AreIndexes s afresh.now.indexes) model there.indexes) in
      let rows = rows_same machine fresh chain sound of afresh in
      let walked : AreWalks afresh.position.schemas (rows_now afresh.position) afresh.position.walks =
      subst (AreWalks afresh.position.schemas (rows_now afresh.position)) (sym afresh.walks)
      (subst (λ (t : Table). AreWalks afresh.position.schemas t afresh.now.walks) rows (subst (λ (s : List Schema). AreWalks s (rows_now afresh.now) afresh.now.walks) model there.walks)) in
      record {
        version = afresh.version;
        state = afresh.state;
        there = afresh.there;
        sees = afresh.sees;
        home = subst (IsHome chain) model there.home;
        quiet = subst (λ (s : List Schema). IsQuiet s afresh.state) model (quiet machine fresh chain sound of afresh);
        indexes = kept;
        walks = walked;
      }

  fresh_of : IsConsumerOf chain fresh.consumer
  fresh_of = subst (λ (m : Machine). IsConsumerOf chain m.consumer) (sym afresh.is) fresh_is_in

  -- the machine is so to the one that has its state afresh
  back : Fresh chain fresh machine
  back = record {
    now = afresh.position;
    was = ap (λ (m : Machine). m.consumer) afresh.is;
    version = afresh.version;
    state = afresh.state;
    there = afresh.there;
    tag = afresh.sees.tag;
    position = afresh.now;
    model = sym afresh.model;
    sees = sees machine fresh chain sound of afresh;
    indexes = sym afresh.indexes;
    walks = sym afresh.walks;
    last = machine.version;
    past = machine.past;
    is = (λ i. with_consumer machine (afresh.was i)) ∙ (λ i. record (with_reader (sym afresh.is i) (Some afresh.now) machine.version) { past = machine.past });
  }

pub answered_afresh : (machine fresh : Machine) (chain : Chain) (asked : Order) (answer : Reply) → IsOfState (kind_of asked) → HoldsChain machine.store chain → IsConsumerOf chain machine.consumer
    → Fresh chain machine fresh → Step machine asked answer machine ↔ Step fresh asked answer fresh
answered_afresh machine fresh chain asked answer of_state holds of afresh = (
  (λ step. afresh_there machine fresh machine chain asked answer of_state holds.sound of afresh step),
  (λ step. afresh_there fresh machine fresh chain asked answer of_state holds.sound (fresh_of machine fresh chain holds.sound of afresh) (back machine fresh chain holds.sound of afresh) step),
)

-- a walk index that is asked for is answered so too, and behind it the one is so to the other
module _ (machine fresh : Machine) (chain : Chain) (name path : List ℕ) (answer : Reply) (holds : HoldsChain machine.store chain) (of : IsConsumerOf chain machine.consumer) (afresh : Fresh chain machine fresh) where
  pub walk_afresh : (next : Machine) → Step machine (order.WalkIndex name path) answer next → (after : Machine) × Step fresh (order.WalkIndex name path) answer after × Fresh chain next after
  walk_afresh next step = walkindex_afresh machine fresh chain holds.sound of afresh name path answer next step

  pub walk_answered : ((next : Machine) × Step machine (order.WalkIndex name path) answer next) ↔ ((after : Machine) × Step fresh (order.WalkIndex name path) answer after)
  walk_answered = (
    (λ step. let there = walk_afresh step.0 step.1 in (there.0, there.1)),
    (λ step. let there = walkindex_afresh fresh machine chain holds.sound (fresh_of machine fresh chain holds.sound of afresh) (back machine fresh chain holds.sound of afresh) name path answer step.0 step.1 in (there.0, there.1)),
  )
