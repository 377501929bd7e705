-- The laws of the order `restore`.
use Rattle.std.proofs.Common.{◌≡◌, ◌∙◌, ℕ, List, Some, inl, inr, refl, sym, ap, subst, arith}
use Rattle.std.specs.Prelude.{IsTrue}
use Rattle.hol_io.specs.declared.name.BlobName.TheVariants.{Announced}
use Rattle.hol_io.specs.Store.{Store, told}
use Rattle.schema_model.specs.declared.schema.Schema.{Schema}
use Rattle.schema_model.specs.Growth.{Grows}
use Rattle.schema_growth.proofs.Growths.{grows_itself}
use Rattle.seen_rows.proofs.Views.{own_view}
use Rattle.write_engine.specs.Agreement.{HoldsOnce}
use Rattle.snapshot_blob.proofs.StoredRows.{stored_rows}
use Rattle.read_engine.specs.Position.{Position, rows_now}
use Rattle.step_laws.proofs.Positions.{load_position}
use Rattle.hol_orders.specs.declared.kind.Kind.{Kind}
use Rattle.hol_answers.specs.declared.reply.Reply.{Reply}
use Rattle.hol_answers.specs.declared.reply.Reply.TheVariants as reply
use Rattle.hollow_machine.specs.RestoreOrder.{IsLast, IsStored, RestoreStep, producer_at, restore_form}
use Rattle.hollow_machine.specs.State.{Machine}
use Rattle.written_laws.specs.Chain.{Chain, ChainState, HasVersion}
use Rattle.written_laws.specs.HoldsChain.{HoldsChain}
use Rattle.written_laws.specs.SeenChain.{seen_in}
use Rattle.chain_laws.specs.Consumers.{IsReaderOf}
use Rattle.chain_laws.specs.Producers.{IsAt, IsOver, IsProducerOf, KeepsChain}
use Rattle.chain_laws.proofs.ConsumerMoves.{loads_state}
use Rattle.chain_laws.proofs.Lawful.{IsLawful, IsSoundMachine, KeepsOf, same_keeps, same_of, says_both, stays_sound}
use Rattle.chain_laws.proofs.OneCycle.{IsOnce}
use Rattle.chain_laws.proofs.OneRestore.{one_restore}
use Rattle.byte_laws.proofs.ReadTexts.{loaded_texts}
use Rattle.chain_laws.proofs.StoreNames.{announces_version, one_announced}

-- ---- what the snapshot of the announced version is

module _ (store : Store) (chain : Chain) (holds : HoldsChain store chain) (version : ℕ) (last : IsLast store version) where
  -- the announced version is that of a published state
  pub last_state : (state : ChainState) × HasVersion chain version state × IsTrue state.published
  last_state =
      let (v, published, announced) = holds.announced in
      let same : v ≡ version = one_announced (told (Some store) Announced) v version announced last.announced in
      elim published.is [
        | inl none ↦ absurd (let is = announces_version (told (Some store) Announced) version last.there last.announced in let low = is.0 in omega (arith, low, same, none))
        | inr found ↦ subst (λ (k : ℕ). (state : ChainState) × HasVersion chain k state × IsTrue state.published) same found
      ]

  module _ (position : Position) (stored : IsStored store version position) where
    state_at : IsAt chain (producer_at position version)
    state_at =
        let (state, there, published) = last_state in
        let (blob, at, loads) = stored in
        let stands = loads_state store chain holds version state blob position there at loads in
        let sound = holds.sound.sound version state there in
        record {
          state = state;
          there = there;
          published = published;
          tag = stands.tag;
          grows = subst (λ (m : List Schema). Grows state.model m) (sym stands.model) (grows_itself state.model);
          rows = stands.rows ∙ sym (own_view state.model state.table sound.model sound.rows) ∙ ap (λ (m : List Schema). seen_in m state) (sym stands.model);
          stored = stored_rows blob loads.0 loads.1.0 position.schemas position.halves loads.1.1;
        }

    -- so a producer that is restored of it is one of the chain
    restored_over : IsOver chain (producer_at position version)
    restored_over =
        let (blob, at, (head, accepted, tag, before, bare, unwalked)) = stored in
        record { model = accepted.1.state.model; texts = loaded_texts blob head position.schemas position.halves accepted; stands = inr state_at }

-- ---- what a restore leaves

restore_keeps : KeepsOf Kind.Restore restore_form
restore_keeps machine chain kept over line order orders version asks_it (reply.Restore tag restored) next (is, last, (position, stored, once, tag_is, next_is)) =
    let new = restored_over machine.store chain kept.holds version last position stored in
    let both = subst (λ (m : Machine). KeepsChain m.store chain × IsProducerOf chain m.producer) (sym next_is) (kept, new) in
    (chain, refl, both.0, both.1, (λ v s there. there))
restore_keeps machine chain kept over line order orders version asks_it (reply.Refused refusal) next step =
    same_keeps machine line chain kept over (reply.Refused refusal) next refl step.1
restore_keeps machine chain kept over line order orders version asks_it _ next step = absurd step

restored_once : (position : Position) (version : ℕ) (store : Store) → IsStored store version position → HoldsOnce (rows_now position) → IsOnce (producer_at position version)
restored_once position version store (blob, at, loads) once =
    let is = load_position blob position loads in
    record { model = is.model; rows = is.rows; once = once }

restore_sound : (machine : Machine) → IsSoundMachine machine → (version : ℕ) (answer : Reply) (next : Machine) → RestoreStep machine version answer next → IsSoundMachine next
restore_sound machine sound version (reply.Restore tag restored) next (is, last, (position, stored, once, tag_is, next_is)) =
    subst IsSoundMachine (sym next_is) (restored_once position version machine.store stored once, sound.1)
restore_sound machine sound version (reply.Refused refusal) next step = stays_sound machine sound next step.1
restore_sound machine sound version _ next step = absurd step

restore_moves : (machine : Machine) (chain : Chain) → IsReaderOf chain machine → (version : ℕ) (answer : Reply) (next : Machine) → RestoreStep machine version answer next
    → IsReaderOf chain next
restore_moves machine chain of version (reply.Restore tag restored) next (is, last, (position, stored, once, tag_is, next_is)) =
    subst (IsReaderOf chain) (sym next_is) of
restore_moves machine chain of version (reply.Refused refusal) next step = same_of machine chain of next step.1
restore_moves machine chain of version _ next step = absurd step

pub restore_lawful : IsLawful Kind.Restore restore_form
restore_lawful = record {
  once = λ written machine sound version one other next after is also. says_both one other next after (one_restore machine version one other next after is also);
  sound = restore_sound;
  keeps = restore_keeps;
  moves = λ machine chain holds of version answer next is. restore_moves machine chain of version answer next is;
  afresh = λ can. absurd cc;
}
