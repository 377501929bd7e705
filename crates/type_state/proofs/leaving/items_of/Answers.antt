use Rattle.std.proofs.Common.{◌≡◌, sym, ◌∙◌}
use Rattle.schema_model.specs.declared.schema.Shape.{Shape}
use Rattle.type_state.proofs.LeavingRows.{lists_stand, runs_stand}
use Rattle.type_state.proofs.leaving.items_of.Goals.{in-List+in_ok-lists-in-List, in_default+in_ok-runs-in_default}
use Rattle.type_state.proofs.leaving.items_of.Goals as goal

pub returns-clause-stands : goal.returns-clause-stands
returns-clause-stands c = elim c.match-shape.branch [
  | in-List+in_ok-lists-in-List w ↦ lists_stand c.args.shape.now c.args.rows.now.rows w.in_ok-lists-in-List.field-0 (record { columns = c.new.result; items = c.match-shape.items }) c.requires
      (λ key fields same. let e : Shape.List w.in-List.field-0 ≡ Shape.Object key fields = sym w.in-List.is ∙ same in absurd cc) w.in_ok-lists-in-List.ensures c.new.ensures.items w.items-is
  | in_default+in_ok-runs-in_default w ↦ runs_stand c.args.shape.now c.args.rows.now.rows w.in_ok-runs-in_default.field-0 (record { columns = c.new.result; items = c.match-shape.items }) c.requires w.in_default.not-Object w.in_ok-runs-in_default.ensures
      c.new.ensures.items w.items-is
]
