-- The orders that look have an answer.
use Rattle.std.proofs.Common.{ℕ, true, false, Option, None, Some, inl, inr, refl}
use Rattle.std.specs.Prelude.{Contains}
use Rattle.std.specs.FinMap.{keys}
use Rattle.std.proofs.lemmas.Bool.{false≢true}
use Rattle.ordinal_set.specs.Ordinals.{bound_of}
use Rattle.schema_model.specs.declared.schema.name.Name.{Name}
use Rattle.schema_model.specs.declared.schema.Shape.{Shape}
use Rattle.row_model.specs.BothStates.{rows_in}
use Rattle.row_model.specs.Table.{IsLive, row_at}
use Rattle.type_state.specs.Lookup.{elements_of, pairs_of}
use Rattle.read_engine.specs.Position.{Position, rows_now}
use Rattle.hol_answers.specs.declared.refusal.Refusal.{Refusal}
use Rattle.hol_answers.specs.declared.refusal.Refusal.TheVariants as refusal
use Rattle.hol_answers.specs.declared.reply.Reply.{Reply}
use Rattle.hol_answers.specs.declared.reply.Reply.TheVariants as reply
use Rattle.hollow_machine.specs.HistoryOrders.{history_form}
use Rattle.hollow_machine.specs.KeyPaths.{HasShape, IsMap, IsSet}
use Rattle.hollow_machine.specs.MemberOrders.{IsRowOf, MemberRefusal, TellsElement, TellsValue, at_form, has_form}
use Rattle.hollow_machine.specs.RowOrders.{ListsLive, live_form}
use Rattle.hollow_machine.specs.State.{Machine, with_bound}
use Rattle.hollow_machine.specs.StatOrder.{StatReply, counts_of_types, stat_form}
use Rattle.answer_laws.specs.Answered.{IsAnsweredBy, IsSound}
use Rattle.answer_laws.proofs.Answering.{of_consumer}
use Rattle.answer_laws.proofs.Deciding.{decide}
use Rattle.answer_laws.proofs.Ordinals.{live_below, some_ordinals}

-- ---- what is told of the whole

stat_told : (consumer : Option Position) → ((answer : Reply) → StatReply consumer answer → ⊥) → ⊥
stat_told None none = none (reply.Refused refusal.NoState) refl
stat_told (Some now) none = none (reply.Stat now.tag (counts_of_types now.schemas now.halves)) refl

pub stat_answered : (machine : Machine) → IsSound machine → (asked : Unit {0}) → IsAnsweredBy stat_form machine asked
stat_answered machine sound asked none = stat_told machine.consumer (λ answer told. none answer machine (told, refl))

pub history_answered : (machine : Machine) → IsSound machine → (bound : ℕ) → IsAnsweredBy history_form machine bound
history_answered machine sound bound none = none (reply.History bound) (with_bound machine bound) (refl, refl)

-- ---- live ordinals

pub live_answered : (machine : Machine) → IsSound machine → (name : Name) → IsAnsweredBy live_form machine name
live_answered machine sound name none = of_consumer machine.consumer sound.consumer name ListsLive (λ now position t is unlisted.
    some_ordinals (IsLive (rows_now now) t) (bound_of (keys (rows_in (rows_now now) t))) (live_below (rows_now now) t) (λ ordinals rising are.
    unlisted (reply.Live ordinals) (record { rising = rising; are = are }))) (λ answer told. none answer machine (told, refl))

-- ---- sets and maps

-- a row is one of this shape, or there is a reason why it is not looked into
row_or_refused : (Is : Shape → Type 0) (name : Name) (ordinal : ℕ) (now : Position) (t : ℕ) → (IsRowOf Is ordinal now t → ⊥) → ((told : Refusal) → MemberRefusal Is name ordinal now t told → ⊥) → ⊥
row_or_refused Is name ordinal now t no_row no_refusal = decide (HasShape Is now.schemas t) (λ shape. elim shape [
  | inl has ↦ decide (IsLive (rows_now now) t ordinal) (λ live. elim live [
    | inl here ↦ no_row (has, here)
    | inr dead ↦ no_refusal (refusal.NoRow (record { type_name = name; ordinal = ordinal })) (has, refl, refl, dead)
  ])
  | inr other ↦ no_refusal (refusal.WrongKind name) (refl, other)
])

pub has_answered : (machine : Machine) → IsSound machine → (asked : Name × ℕ × ℕ) → IsAnsweredBy has_form machine asked
has_answered machine sound (name, ordinal, element) none = of_consumer machine.consumer sound.consumer name (TellsElement name ordinal element) (λ now position t is untold.
    row_or_refused IsSet name ordinal now t
    (λ row. decide (Contains (elements_of (row_at (rows_now now) t ordinal)) element) (λ either. elim either [
      | inl among ↦ untold (reply.Has true) (row, (λ yes. among, λ there. refl))
      | inr missing ↦ untold (reply.Has false) (row, (λ yes. absurd (false≢true yes), λ there. absurd (missing there)))
    ]))
    (λ refused tells. untold (reply.Refused refused) tells)) (λ answer told. none answer machine (told, refl))

pub at_answered : (machine : Machine) → IsSound machine → (asked : Name × ℕ × ℕ) → IsAnsweredBy at_form machine asked
at_answered machine sound (name, ordinal, key) none = of_consumer machine.consumer sound.consumer name (TellsValue name ordinal key) (λ now position t is untold.
    row_or_refused IsMap name ordinal now t
    (λ row. decide ((value : ℕ) × Contains (pairs_of (row_at (rows_now now) t ordinal)) (key, value)) (λ either. elim either [
      | inl found ↦ untold (reply.At (Some found.0)) (row, found.1)
      | inr missing ↦ untold (reply.At None) (row, λ value there. missing (value, there))
    ]))
    (λ refused tells. untold (reply.Refused refused) tells)) (λ answer told. none answer machine (told, refl))
