use Rattle.std.proofs.Common.{◌+◌, ℕ, List, get_or, sym, subst, arith, Fits, w64}
use Rattle.object_codec.specs.Cell.{IsWithin}
use Rattle.object_codec.specs.ObjectPlace.{part_at}
use Rattle.object_codec.specs.Packing.{IsGap}
use Rattle.object_codec.proofs.FieldWidths.{record_fits, widths_long, wide_at, within}
use Rattle.record_copies.proofs.Gaps.{gap_all, gap_more, gap_none}
use Rattle.record_copies.proofs.gap.is_gap.Goals as goal

pub overflow_cast-size : goal.overflow_cast-size
overflow_cast-size c = record { fits = omega (arith, c.total_width-size.ensures.total, record_fits c.args.fields.now c.args.widths.now _ _ _ c.requires.1) }

pub loop-index-init : goal.loop-index-init
loop-index-init c = gap_none c.args.fields.now c.args.widths.now c.args.first.now c.args.place

pub bounds-widths-index : goal.bounds-widths-index
bounds-widths-index c = omega (arith, widths_long c.args.fields.now c.args.widths.now _ _ _ c.requires.1)

pub is_gap_at-requires-clause-wide : goal.is_gap_at-requires-clause-wide
is_gap_at-requires-clause-wide c = wide_at c.args.fields.now c.args.widths.now _ _ _ c.loop-index.index c.index-fields-index.result c.requires.1 (omega arith) c.index-fields-index.is

pub is_gap_at-requires-clause-within : goal.is_gap_at-requires-clause-within
is_gap_at-requires-clause-within c =
    subst (λ (size : ℕ). IsWithin c.args.first.now size c.args.place c.loop-index.before (get_or c.args.widths.now c.loop-index.index 0)) (sym c.total_width-size.ensures.total)
    (within c.args.fields.now c.args.widths.now c.args.first.now _ c.args.place c.loop-index.index c.loop-index.before c.requires.1 (omega arith) c.loop-index.invariant.summed)

pub overflow_add-before : goal.overflow_add-before
overflow_add-before c =
    let held = (within c.args.fields.now c.args.widths.now c.args.first.now _ c.args.place c.loop-index.index c.loop-index.before c.requires.1 (omega arith) c.loop-index.invariant.summed).fits in
    subst (λ (w : ℕ). Fits w64 (c.loop-index.before + w)) (sym c.from-before.ensures) (record { fits = omega (arith, held) })

pub loop-index-preserved : goal.loop-index-preserved
loop-index-preserved c =
    gap_more c.args.fields.now c.args.widths.now c.args.first.now c.args.place c.total_width-size.result c.loop-index.index c.loop-index.before c.from-before.result c.index-fields-index.result c.loop-index.invariant
    (omega arith) (widths_long c.args.fields.now c.args.widths.now _ _ _ c.requires.1) c.index-fields-index.is c.total_width-size.ensures.total c.from-before.ensures
    (subst (λ (w : ℕ). (area : List ℕ) → IsGap c.index-fields-index.result.kind (part_at c.args.first.now c.total_width-size.result c.args.place c.loop-index.before w area)) (sym c.from-before.ensures) (c.is_gap_at.ensures c.if-not-is_gap_at.false))

pub returns : goal.returns
returns c = λ is areas filled.
    gap_all c.args.fields.now c.args.widths.now c.args.first.now areas c.args.place c.loop-index.index c.loop-index.before c.loop-index.invariant (omega arith)
    (widths_long c.args.fields.now c.args.widths.now _ _ _ c.requires.1) filled
