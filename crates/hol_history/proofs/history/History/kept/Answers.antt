use Rattle.std.proofs.Common.{◌≡◌, ◌<◌, ◌≤◌, ◌-◌, ℕ, false, length, sym, subst, arith}
use Rattle.std.proofs.lemmas.Option.{slice_get_read}
use Rattle.hol_history.specs.History.{PastSteps}
use Rattle.hol_history.specs.Kept.{TellsKept}
use Rattle.hol_history.specs.declared.history.Kept.TheVariants.{Absent, Left}
use Rattle.hol_history.specs.Steps.{touches_at}
use Rattle.hol_history.proofs.Looking.{first_tells, first_within, none_tells, step_touched, type_within}
use Rattle.hol_history.proofs.history.History.kept.Goals as goal

pub returns-in_default : goal.returns-in_default
returns-in_default c =
    let inside : c.args.place < length c.self.inside.steps.items = subst (λ (h : PastSteps). c.args.place < length h.steps) (sym c.self.view_is) c.requires in
    subst (λ (h : PastSteps). (place : ℕ) → place ≤ c.args.place → touches_at h.steps place c.args.type_index c.args.ordinal ≡ false) c.self.view_is
    (none_tells c.self.inside.spots c.self.inside.next c.self.inside.steps.items c.self.invariant.touched c.args.type_index c.args.ordinal c.args.place inside (rw c.in_default.is at c.first_touch.ensures))

pub part-requires : goal.part-requires
part-requires c =
    let inside : c.args.place < length c.self.inside.steps.items = subst (λ (h : PastSteps). c.args.place < length h.steps) (sym c.self.view_is) c.requires in
    let within = first_within c.self.inside.spots c.self.inside.next c.self.inside.steps.items c.self.invariant.touched c.args.type_index c.args.ordinal c.args.place inside c.in-Some.first c.in-Some.ensures in
    let step_is = slice_get_read c.self.inside.steps.items (length c.self.inside.steps.items) (c.self.inside.next - 1 - c.in-Some.first) c.index-step.result.now (omega arith) within c.index-step.ensures in
    type_within c.index-step.result.now.past c.args.type_index c.args.ordinal
    (step_touched c.self.inside.spots c.self.inside.next c.self.inside.steps.items c.self.invariant.touched c.args.type_index c.args.ordinal c.args.place inside c.in-Some.first c.in-Some.ensures c.index-step.result.now step_is)

pub returns-in-Some-left_row : goal.returns-in-Some-left_row
returns-in-Some-left_row c =
    let inside : c.args.place < length c.self.inside.steps.items = subst (λ (h : PastSteps). c.args.place < length h.steps) (sym c.self.view_is) c.requires in
    let within = first_within c.self.inside.spots c.self.inside.next c.self.inside.steps.items c.self.invariant.touched c.args.type_index c.args.ordinal c.args.place inside c.in-Some.first c.in-Some.ensures in
    let step_is = slice_get_read c.self.inside.steps.items (length c.self.inside.steps.items) (c.self.inside.next - 1 - c.in-Some.first) c.index-step.result.now (omega arith) within c.index-step.ensures in
    subst (λ (h : PastSteps). TellsKept h.steps c.args.place c.args.type_index c.args.ordinal (Left c.in-Some-left_row.row)) c.self.view_is (
      c.self.inside.next - 1 - c.in-Some.first,
      c.index-step.result.now,
      c.part.result.now,
      first_tells c.self.inside.spots c.self.inside.next c.self.inside.steps.items c.self.invariant.touched c.args.type_index c.args.ordinal c.args.place inside c.in-Some.first c.in-Some.ensures c.index-step.result.now c.part.result.now step_is c.part.ensures,
      c.in-Some-left_row.ensures.row,
    )

pub returns-in-None : goal.returns-in-None
returns-in-None c =
    let inside : c.args.place < length c.self.inside.steps.items = subst (λ (h : PastSteps). c.args.place < length h.steps) (sym c.self.view_is) c.requires in
    let within = first_within c.self.inside.spots c.self.inside.next c.self.inside.steps.items c.self.invariant.touched c.args.type_index c.args.ordinal c.args.place inside c.in-Some.first c.in-Some.ensures in
    let step_is = slice_get_read c.self.inside.steps.items (length c.self.inside.steps.items) (c.self.inside.next - 1 - c.in-Some.first) c.index-step.result.now (omega arith) within c.index-step.ensures in
    subst (λ (h : PastSteps). TellsKept h.steps c.args.place c.args.type_index c.args.ordinal Absent) c.self.view_is (
      c.self.inside.next - 1 - c.in-Some.first,
      c.index-step.result.now,
      c.part.result.now,
      first_tells c.self.inside.spots c.self.inside.next c.self.inside.steps.items c.self.invariant.touched c.args.type_index c.args.ordinal c.args.place inside c.in-Some.first c.in-Some.ensures c.index-step.result.now c.part.result.now step_is c.part.ensures,
      c.in-None.ensures.row,
    )
