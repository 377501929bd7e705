-- The laws of the order `change`: it keeps and leaves what the cycle of the edited list does.
use Rattle.std.proofs.Common.{◌≡◌, ℕ, pos, List, Bool, true, false, Option, Some, None, refl, sym, subst, ap}
use Rattle.std.specs.Prelude.{IsSomeAnd}
use Rattle.serde_json.specs.Data.{null}
use Rattle.state_blobs.specs.Published.{Published}
use Rattle.hol_orders.specs.declared.kind.Kind.{Kind}
use Rattle.hol_orders.specs.declared.order.Order.TheVariants as order
use Rattle.hol_orders.specs.declared.order.StateChange.{StateChange}
use Rattle.hol_orders.specs.Kind.{shape}
use Rattle.hol_orders.specs.Order.{Asking, Orders}
use Rattle.hol_orders.specs.Parts.{AskedChange, asked_change}
use Rattle.hol_answers.specs.declared.reply.Change.{Change}
use Rattle.hol_answers.specs.declared.reply.Reply.{Reply}
use Rattle.hol_answers.specs.declared.reply.Reply.TheVariants as reply
use Rattle.hollow_machine.specs.ChangeOrder.{ChangeStep, Misses, change_form}
use Rattle.hollow_machine.specs.CycleOrder.{CycleStep, SucceedsAfter}
use Rattle.hollow_machine.specs.Records.{cycle_of_change}
use Rattle.hollow_machine.specs.State.{Machine}
use Rattle.written_laws.specs.Chain.{Chain}
use Rattle.chain_laws.proofs.CycleLaws.{KeepsCycle, cycle_keeps, cycle_moves, cycle_sound}
use Rattle.chain_laws.proofs.Lawful.{IsLawful, IsOneOf, IsSoundOf, Keeps, KeepsOf, MovesOf, same_keeps, same_of, stays_sound}

-- what the cycle of the edited list answers
abbrev cycle_reply : Change → Reply
cycle_reply change = reply.Cycle change.changed change.published change.version

module _ (machine next : Machine) (asked : AskedChange) where
  pub as_cycle : (change : Change) → ChangeStep machine asked (reply.Change change) next → CycleStep machine (cycle_of_change asked) (cycle_reply change) next
  as_cycle change is = (is.0, of_last machine.producer is.1)
    where
      of_last : (found : Option Published) → IsSomeAnd found (λ last. Misses last asked.remove change.missing × SucceedsAfter machine last (cycle_of_change asked) change.changed change.published next)
          → IsSomeAnd found (λ last. SucceedsAfter machine last (cycle_of_change asked) change.changed change.published next)
      of_last None is = absurd is
      of_last (Some last) is = is.1

pub change_sound : IsSoundOf change_form
change_sound machine sound asked (reply.Change change) next is = cycle_sound machine sound (cycle_of_change asked) (cycle_reply change) next (as_cycle machine next asked change is)
change_sound machine sound asked (reply.Refused refusal) next is = stays_sound machine sound next is.1
change_sound machine sound asked _ next is = absurd is

pub change_moves : MovesOf change_form
change_moves machine chain holds of asked (reply.Change change) next is = cycle_moves machine chain holds of (cycle_of_change asked) (cycle_reply change) next (as_cycle machine next asked change is)
change_moves machine chain holds of asked (reply.Refused refusal) next is = same_of machine chain of next is.1
change_moves machine chain holds of asked _ next is = absurd is

-- as the cycle keeps the chain, so does the line that asks for the change
line_keeps : (machine : Machine) (line : List ℕ) (chain : Chain) (wanted : StateChange) (names : List (List ℕ)) (missing : ℕ) (published : Bool) (version : ℕ) (next : Machine)
    → Orders line (order.Change wanted) → (asked_change wanted).version ≡ version → KeepsCycle machine (cycle_of_change (asked_change wanted)) (reply.Cycle names published version) chain next
    → Keeps machine line (reply.Change (record { changed = names; missing = missing; published = published; version = version })) chain next
line_keeps machine line chain wanted names missing true version next orders same (after, grows, kept, over, longer) =
    (after, (order.Change wanted, cycle_of_change (asked_change wanted), orders, refl, same, grows), kept, over, longer)
line_keeps machine line chain wanted names missing false version next orders same keeps = keeps

-- what an order of this kind asks for
abbrev change_in : (kind : Kind) → (shape kind).Asked → AskedChange
change_in Kind.Change asked = asked
change_in _ asked = record { version = 0; tag = pos 0; put = null; remove = null }

pub change_keeps : KeepsOf Kind.Change change_form
change_keeps machine chain kept over line (order.Change wanted) orders asked asks_it (reply.Change change) next step =
    let stepped = subst (λ (a : AskedChange). ChangeStep machine a (reply.Change change) next) (sym (ap (λ (asking : Asking). change_in asking.kind asking.asked) asks_it)) step in
    line_keeps machine line chain wanted change.changed change.missing change.published change.version next orders (sym stepped.0)
    (cycle_keeps machine chain kept over (cycle_of_change (asked_change wanted)) (cycle_reply change) next orders.0.0 orders.0.1 (as_cycle machine next (asked_change wanted) change stepped))
change_keeps machine chain kept over line (order.Change wanted) orders asked asks_it (reply.Refused refusal) next step = same_keeps machine line chain kept over (reply.Refused refusal) next refl step.1
change_keeps machine chain kept over line (order.Change wanted) orders asked asks_it _ next step = absurd step
change_keeps machine chain kept over line _ orders asked asks_it answer next step = let kinds = ap (λ (asking : Asking). asking.kind) asks_it in absurd cc

-- the laws of a change, where it is answered in one way
pub change_lawful : IsOneOf change_form → IsLawful Kind.Change change_form
change_lawful one = record {
  once = one;
  sound = change_sound;
  keeps = change_keeps;
  moves = change_moves;
  afresh = λ can. absurd cc;
}
