-- Over a store that holds a chain the announced version is restored, where its snapshot is there, as the state of the chain that it is.
use Rattle.std.proofs.Common.{◌≡◌, ℕ, ℤ, Some, refl, sym, ap, subst, ◌∙◌}
use Rattle.std.specs.Prelude.{IsSome}
use Rattle.hol_io.specs.declared.name.BlobName.TheVariants.{Snapshot}
use Rattle.row_model.specs.Table.{Table}
use Rattle.row_model.proofs.RowsFrom.{get_in}
use Rattle.write_engine.specs.Agreement.{HoldsOnce}
use Rattle.read_engine.specs.Position.{Position, rows_now}
use Rattle.hol_answers.specs.declared.reply.Reply.{Reply}
use Rattle.hol_answers.specs.declared.reply.Reply.TheVariants as reply
use Rattle.hollow_machine.specs.RestoreOrder.{IsLast, RestoreStep, producer_at}
use Rattle.hollow_machine.specs.State.{Machine, with_producer}
use Rattle.written_laws.specs.Chain.{Chain, ChainState, HasVersion}
use Rattle.written_laws.specs.HoldsChain.{HoldsChain, IsThere}
use Rattle.chain_laws.specs.Consumers.{StandsAt}
use Rattle.chain_laws.proofs.ConsumerMoves.{loads_state}
use Rattle.chain_laws.proofs.ConsumerOrders.{can_load}
use Rattle.chain_laws.proofs.OneRestore.{one_restore}
use Rattle.chain_laws.proofs.RestoreLaws.{last_state}

module _ (machine : Machine) (chain : Chain) (holds : HoldsChain machine.store chain) (version : ℕ) (last : IsLast machine.store version) (whole : IsThere machine.store (Snapshot version)) where
  -- no row stands twice in a state of the chain
  state_once : (state : ChainState) (position : Position) → HasVersion chain version state → StandsAt state position → HoldsOnce (rows_now position)
  state_once state position there stands =
      let sound = holds.sound.sound version state there in
      let here : HoldsOnce state.table =
      record {
        once = λ t a b row at_a at_b. sound.once t a b row (sym (get_in state.table t a) ∙ at_a) (sym (get_in state.table t b) ∙ at_b);
        low = λ t ordinal live. sound.ordinals t ordinal (subst IsSome (get_in state.table t ordinal) live);
      } in
      subst (λ (table : Table). HoldsOnce table) (sym stands.rows) here

  -- the state of the version, and a position there
  record IsRestored : Type 0 where
    pub state : ChainState
    pub there : HasVersion chain version state
    pub position : Position
    pub stands : StandsAt state position
    pub step : RestoreStep machine version (reply.Restore position.tag version) (with_producer machine (Some (producer_at position version)))

  restored : IsRestored
  restored =
      let (state, there, published) = last_state machine.store chain holds version last in
      let (blob, position, at, loads) = can_load machine chain version state holds there whole in
      let stands = loads_state machine.store chain holds version state blob position there at loads in
      record {
        state = state;
        there = there;
        position = position;
        stands = stands;
        step = (refl, last, (position, (blob, at, loads), state_once state position there stands, refl, refl));
      }

  pub restore_taken : (position : Position) × RestoreStep machine version (reply.Restore position.tag version) (with_producer machine (Some (producer_at position version)))
  restore_taken = (restored.position, restored.step)

  pub restore_only : (answer : Reply) (next : Machine) → RestoreStep machine version answer next
      → (state : ChainState) × (position : Position) × HasVersion chain version state × StandsAt state position × (answer ≡ reply.Restore state.tag version)
      × (next ≡ with_producer machine (Some (producer_at position version)))
  restore_only answer next step =
      let position = restored.position in
      let one = one_restore machine version answer (reply.Restore position.tag version) next (with_producer machine (Some (producer_at position version))) step restored.step in
      (restored.state, position, restored.there, restored.stands, one.0 ∙ ap (λ (t : ℤ). reply.Restore t version) restored.stands.tag, one.1)
