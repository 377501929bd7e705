-- An order of each kind that is settled has an answer.
use Rattle.std.proofs.Common.{◌⊎◌, inl, inr}
use Rattle.hol_orders.specs.declared.kind.Kind.{Kind}
use Rattle.hol_orders.specs.declared.order.Order.{Order}
use Rattle.hol_orders.specs.Kind.{shape}
use Rattle.hol_orders.specs.Order.{IsOrder, asked_of, kind_of}
use Rattle.hollow_machine.specs.State.{Machine}
use Rattle.hollow_machine.specs.Step.{form}
use Rattle.answer_laws.specs.Answered.{IsAnswered, IsAnsweredBy, IsSettled, IsShowing, IsSound}
use Rattle.answer_laws.specs.Shown.{IsShown}
use Rattle.answer_laws.proofs.Blobs.{load_answered, step_answered}
use Rattle.answer_laws.proofs.LookUps.{find_answered, index_answered}
use Rattle.answer_laws.proofs.Changing.{change_answered}
use Rattle.answer_laws.proofs.Checking.{check_answered}
use Rattle.answer_laws.proofs.Cycling.{cycle_answered}
use Rattle.answer_laws.proofs.Going.{goto_answered}
use Rattle.answer_laws.proofs.Growing.{grow_answered}
use Rattle.answer_laws.proofs.Models.{model_answered}
use Rattle.answer_laws.proofs.Plans.{plan_answered}
use Rattle.answer_laws.proofs.Restoring.{restore_answered}
use Rattle.answer_laws.proofs.Showing.{get_answered, past_answered, row_answered, was_answered, wasget_answered}
use Rattle.answer_laws.proofs.Looks.{at_answered, has_answered, history_answered, live_answered, stat_answered}
use Rattle.answer_laws.proofs.Walks.{walkfind_answered, walkindex_answered}

answers : (kind : Kind) → IsSettled kind → (machine : Machine) → IsSound machine → (asked : (shape kind).Asked) → (shape kind).spelling.Fits asked → IsAnsweredBy (form kind) machine asked
answers Kind.Model settled machine sound asked fits = model_answered machine sound asked fits
answers Kind.Cycle settled machine sound asked fits = cycle_answered machine sound asked
answers Kind.Restore settled machine sound asked fits = restore_answered machine sound asked
answers Kind.Load settled machine sound asked fits = load_answered machine sound asked
answers Kind.Step settled machine sound asked fits = step_answered machine sound asked
answers Kind.Index settled machine sound asked fits = index_answered machine sound asked
answers Kind.Find settled machine sound asked fits = find_answered machine sound asked
answers Kind.Live settled machine sound asked fits = live_answered machine sound asked
answers Kind.Has settled machine sound asked fits = has_answered machine sound asked
answers Kind.At settled machine sound asked fits = at_answered machine sound asked
answers Kind.Check settled machine sound asked fits = check_answered machine sound asked
answers Kind.Stat settled machine sound asked fits = stat_answered machine sound asked
answers Kind.Grow settled machine sound asked fits = grow_answered machine sound asked fits
answers Kind.Plan settled machine sound asked fits = plan_answered machine sound asked
answers Kind.Goto settled machine sound asked fits = goto_answered machine sound asked
answers Kind.Change settled machine sound asked fits = change_answered machine sound asked
answers Kind.WalkIndex settled machine sound asked fits = walkindex_answered machine sound asked
answers Kind.WalkFind settled machine sound asked fits = walkfind_answered machine sound asked
answers Kind.History settled machine sound asked fits = history_answered machine sound asked
answers _ settled machine sound asked fits = absurd settled

pub each_answered : (machine : Machine) (order : Order) → IsSound machine → IsOrder order → IsSettled (kind_of order) → IsAnswered machine order
each_answered machine order sound is settled = answers (kind_of order) settled machine sound (asked_of order) is

shows : (kind : Kind) → IsShowing kind → (machine : Machine) → IsShown machine → (asked : (shape kind).Asked) → IsAnsweredBy (form kind) machine asked
shows Kind.Get showing machine shown asked = get_answered machine shown asked
shows Kind.Row showing machine shown asked = row_answered machine shown asked
shows Kind.Past showing machine shown asked = past_answered machine shown asked
shows Kind.Was showing machine shown asked = was_answered machine shown asked
shows Kind.WasGet showing machine shown asked = wasget_answered machine shown asked
shows _ showing machine shown asked = absurd showing

pub each_shown : (machine : Machine) (order : Order) → IsShown machine → IsShowing (kind_of order) → IsAnswered machine order
each_shown machine order shown showing = shows (kind_of order) showing machine shown (asked_of order)

-- the orders of each kind are settled, or show records
pub each_kind : (kind : Kind) → IsSettled kind ⊎ IsShowing kind
each_kind Kind.Model = inl tt
each_kind Kind.Cycle = inl tt
each_kind Kind.Restore = inl tt
each_kind Kind.Load = inl tt
each_kind Kind.Step = inl tt
each_kind Kind.Index = inl tt
each_kind Kind.Get = inr tt
each_kind Kind.Find = inl tt
each_kind Kind.Live = inl tt
each_kind Kind.Row = inr tt
each_kind Kind.Has = inl tt
each_kind Kind.At = inl tt
each_kind Kind.Past = inr tt
each_kind Kind.Check = inl tt
each_kind Kind.Stat = inl tt
each_kind Kind.Grow = inl tt
each_kind Kind.Plan = inl tt
each_kind Kind.Goto = inl tt
each_kind Kind.Change = inl tt
each_kind Kind.WalkIndex = inl tt
each_kind Kind.WalkFind = inl tt
each_kind Kind.History = inl tt
each_kind Kind.Was = inr tt
each_kind Kind.WasGet = inr tt
