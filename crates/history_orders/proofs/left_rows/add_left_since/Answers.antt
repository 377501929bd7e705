use Rattle.std.proofs.Common.{Global, Vec, ◌+◌, ℕ, List, ap, sym, subst}
use Rattle.history_orders.specs.Left.{HasAll, HasLeftIn}
use Rattle.history_orders.proofs.Leaving.{step_more, step_none}
use Rattle.history_orders.proofs.left_rows.add_left_since.Goals.{in-Some+in_ok-add_left, in_default}
use Rattle.history_orders.proofs.left_rows.add_left_since.Goals as goal

pub loop-place-preserved : goal.loop-place-preserved
loop-place-preserved c =
    let steps = c.args.history.now.steps in
    let t = c.args.type_index in
    let paths = c.args.paths.now in
    let key = c.args.key.now in
    let place = c.loop-place.place in
    let before = c.loop-place.among.items in
    let listed = c.match-part.among.items in
    let so_far = c.loop-place.invariant in
    let more = λ (os : List ℕ). HasLeftIn steps (place + 1) t paths key os × HasAll c.args.among.now.items os in
    elim c.match-part.branch [
      | in-Some+in_ok-add_left w ↦
          let added = w.add_left.new.among.items in
          subst more (sym (ap (λ (vec : Vec ℕ Global). vec.items) w.among-is)) (
            step_more paths key steps t place before added so_far.0 w.in-Some.part.now (sym w.in-Some.ensures) w.in_ok-add_left.ensures.kept w.in_ok-add_left.ensures.left,
            λ ordinal there. w.in_ok-add_left.ensures.kept ordinal (so_far.1 ordinal there),
          )
      | in_default w ↦
          let is = ap (λ (vec : Vec ℕ Global). vec.items) w.among-is in
          (step_none paths key steps t place before listed so_far.0 (sym w.in_default.ensures) is, subst (HasAll c.args.among.now.items) (sym is) so_far.1)
    ]
