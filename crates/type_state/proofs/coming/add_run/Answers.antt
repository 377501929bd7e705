use Rattle.std.proofs.Common.{arith, ◌+◌, ◌<◌, ◌^◌, ℕ, List, refl, subst}
use Rattle.std.specs.Prelude.{slice_index}
use Rattle.type_rows.proofs.Places.{wide_narrow}
use Rattle.type_state.proofs.ComingRows.{end_small, run_comes}
use Rattle.type_state.proofs.coming.add_run.Goals as goal

pub overflow_cast-totals : goal.overflow_cast-totals
overflow_cast-totals c =
    let low : c.from.result + c.from-2.result < 2 ^ slice_index c.args.patch.now.widths 0 =
    subst (λ (widths : List ℕ). c.from.result + c.from-2.result < 2 ^ slice_index widths 0) c.as_slice.ensures (c.holds_items.ensures c.if-not-holds_items.false) in
    let small = end_small (slice_index c.args.patch.now.widths 0) (c.from.result + c.from-2.result) (wide_narrow c.args.shape.now _ c.args.patch.now.widths c.requires.readable.well.wide 0) low in
    record { fits = small }

pub returns : goal.returns
returns c = λ t row spells.
    let low : c.from.result + c.from-2.result < 2 ^ slice_index c.args.patch.now.widths 0 =
    subst (λ (widths : List ℕ). c.from.result + c.from-2.result < 2 ^ slice_index widths 0) c.as_slice.ensures (c.holds_items.ensures c.if-not-holds_items.false) in
    run_comes c.args.shape.now c.args.patch.now c.args.place row c.args.totals.now
    (record { ends = record { offsets = c.args.totals.now.ends.offsets; items = c.from.result + c.from-2.result }; bytes = c.args.totals.now.bytes }) (c.from.result + c.from-2.result)
    c.requires.runs (omega (arith, c.from.ensures, c.from-2.ensures, c.items_in-items.ensures)) low refl refl refl spells
