use Rattle.std.proofs.Common.{rules, [], ◌∙◌, ap, sym, subst}
use Rattle.std.specs.FinMap.{values}
use Rattle.row_model.specs.Row.{FitsShape, stored_row}
use Rattle.std.proofs.Common.{◌≡◌}
use Rattle.packed_half.specs.Laying.{CanLay, EachRowOf}
use Rattle.type_rows.specs.Ends.{AreOfKind}
use Rattle.type_rows.specs.Holds.{HoldsRows}
use Rattle.type_rows.specs.Loads.{IsLoadFault}
use Rattle.type_rows.specs.Patches.{RefusesMove}
use Rattle.type_rows.specs.MoveFault.{FailsMove}
use Rattle.type_state.specs.declared.differences.Differences.{Differences}
use Rattle.type_state.specs.PackedRows.{Standing}
use Rattle.type_state.specs.declared.moving.Move.{Move}
use Rattle.type_state.specs.Differences.{rows_with}
use Rattle.type_state.specs.Kept.{half_rows}
use Rattle.type_state.specs.Moved.{IsMoveOf}
use Rattle.type_state.proofs.Halves.{half_fits, half_held, half_kinds, half_stored}
use Rattle.type_state.proofs.HeldMoves.{is_load_fault, refuses_move}
use Rattle.type_state.proofs.LiveSets.{keys_moved}
use Rattle.type_state.proofs.MovedHalf.{can_lay}
use Rattle.type_state.proofs.Moves.{are_apart}
use Rattle.type_state.proofs.moving.moved.Goals as goal

pub planned-requires-clause-kinds : goal.planned-requires-clause-kinds
planned-requires-clause-kinds c = subst (λ (s : Standing). AreOfKind c.args.schema.now.shape s.rows) (sym c.new-rows.ensures) (half_kinds c.args.schema.now.shape c.args.current.half.now c.args.current.words.now c.requires.kept)

pub planned-requires-clause-held : goal.planned-requires-clause-held
planned-requires-clause-held c = subst (λ (s : Standing). HoldsRows c.args.schema.now.shape s.widths [] (values s.rows)) (sym c.new-rows.ensures) (half_held c.args.schema.now.shape c.args.current.half.now c.args.current.words.now c.requires.kept)

pub returns-in_err-counted-clause-tells : goal.returns-in_err-counted-clause-tells
returns-in_err-counted-clause-tells c =
    let told : RefusesMove c.args.schema.now.shape c.args.patch.now (half_rows c.args.schema.now.shape c.args.current.half.now c.args.current.words.now) c.in_err-counted.field-0.0 =
    subst (λ (s : Standing). RefusesMove c.args.schema.now.shape c.args.patch.now s.rows c.in_err-counted.field-0.0) c.new-rows.ensures
    (refuses_move c.args.schema.now.shape c.args.patch.now c.new-rows.result.rows c.in_err-counted.field-0.0 c.in_err-counted.ensures.tells) in
    search rules

pub returns-in_err-counted-clause-kind : goal.returns-in_err-counted-clause-kind
returns-in_err-counted-clause-kind c =
    let told : IsLoadFault c.in_err-counted.field-0.0 = is_load_fault c.args.schema.now.shape c.args.patch.now c.new-rows.result.rows c.in_err-counted.field-0.0 c.in_err-counted.ensures.tells in
    search rules

pub returns-in_err-counted-clause-fault : goal.returns-in_err-counted-clause-fault
returns-in_err-counted-clause-fault c =
    let told : FailsMove c.args.schema.now.shape c.args.patch.now (half_rows c.args.schema.now.shape c.args.current.half.now c.args.current.words.now) c.in_err-counted.field-0.0 =
    subst (λ (s : Standing). FailsMove c.args.schema.now.shape c.args.patch.now s.rows c.in_err-counted.field-0.0) c.new-rows.ensures c.in_err-counted.ensures.tells in
    search rules

pub half_of-requires : goal.half_of-requires
half_of-requires c = are_apart c.args.schema.now.shape c.args.patch.now c.new-rows.result.rows c.in_ok-counted.counted.plan.differences c.in_ok-counted.ensures.known

pub returns-clause-tells : goal.returns-clause-tells
returns-clause-tells c =
    let shape = c.args.schema.now.shape in
    let patch = c.args.patch.now in
    let rows = c.new-rows.result.rows in
    let counted = c.in_ok-counted.counted in
    let ds = counted.plan.differences in
    let half = c.in_ok-half_of.field-0.half in
    let known = c.in_ok-counted.ensures.known in
    let fits = subst (λ (s : Standing). EachRowOf s.rows (FitsShape shape)) (sym c.new-rows.ensures) (half_fits c.args.schema.now.shape c.args.current.half.now c.args.current.words.now c.requires.kept) in
    let stored = subst (λ (s : Standing). EachRowOf s.rows (λ row. stored_row row ≡ row)) (sym c.new-rows.ensures) (half_stored c.args.schema.now.shape c.args.current.half.now c.args.current.words.now c.requires.kept) in
    let live = keys_moved rows ds known.added.rows (known.added.keys ∙ sym (ap (λ p. p.added) known.lent)) known.added.are ∙ sym c.in_ok-half_of.ensures.live in
    let can : CanLay shape half (rows_with rows ds) =
    can_lay shape patch half counted.totals rows (rows_with rows ds) c.requires.readable (c.in_ok-half_of.ensures.layout ∙ c.in_ok-counted.ensures.layout) live c.in_ok-half_of.ensures.total c.in_ok-half_of.ensures.lengths
    c.in_ok-counted.ensures.totals c.in_ok-counted.ensures.long c.in_ok-counted.ensures.tells c.in_ok-counted.ensures.kinds fits stored in
    let next : Move = record { half = half; differences = ds } in
    let is : IsMoveOf shape patch rows next = record { moved = c.in_ok-counted.ensures.tells; can = can; apart = are_apart shape patch rows ds known; of = record { same = known.of; widths = ap (λ l. l.widths) (c.in_ok-half_of.ensures.layout ∙ c.in_ok-counted.ensures.layout) ∙ sym (ap (λ p. p.widths) known.lent) } } in
    subst (λ (xs : Differences). IsMoveOf shape patch (half_rows c.args.schema.now.shape c.args.current.half.now c.args.current.words.now) record { half = half; differences = xs }) (sym c.in_ok-half_of.ensures.differences) (subst (λ (s : Standing). IsMoveOf shape patch s.rows next) c.new-rows.ensures is)
