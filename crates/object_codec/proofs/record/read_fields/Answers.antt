use Rattle.std.proofs.Common.{rules, Err, arith, sym, subst, get_or}
use Rattle.object_codec.specs.Cell.{IsWithin}
use Rattle.object_codec.specs.ObjectPlace.{SpellsObject, TellsObject}
use Rattle.object_codec.proofs.FieldWidths.{record_fits, widths_long, within, wide_at}
use Rattle.object_codec.proofs.Fields.{stepped, failed, finished}
use Rattle.object_codec.proofs.record.read_fields.Goals as goal

pub overflow_cast-size : goal.overflow_cast-size
overflow_cast-size g c = omega (arith, c.total_width-size.ensures.total, record_fits c.args.fields.now c.args.widths.now _ _ _ c.requires)

pub bounds-widths-index : goal.bounds-widths-index
bounds-widths-index g c = omega (arith, widths_long c.args.fields.now c.args.widths.now _ _ _ c.requires)

pub value-requires-clause-wide : goal.value-requires-clause-wide
value-requires-clause-wide g c = wide_at c.args.fields.now c.args.widths.now _ _ _ c.loop-index.index c.index-fields-index.result c.requires (omega arith) c.index-fields-index.is

pub value-requires-clause-within : goal.value-requires-clause-within
value-requires-clause-within g c =
    subst
    (λ size. IsWithin (g.P.Parts.first_words c.args.parts.now) size c.args.place c.loop-index.before (get_or c.args.widths.now c.loop-index.index 0))
    (sym c.total_width-size.ensures.total)
    (within c.args.fields.now c.args.widths.now _ _ _ c.loop-index.index c.loop-index.before c.requires (omega arith) c.loop-index.invariant.summed)

pub returns-in_err-value : goal.returns-in_err-value
returns-in_err-value g c =
    let told : TellsObject c.args.fields.now c.args.widths.now (g.P.Parts.first_words c.args.parts.now) (g.P.Parts.area_bytes c.args.parts.now) c.args.place (Err c.in_err-value.field-0.0) =
    failed c.args.fields.now c.args.widths.now _ _ c.total_width-size.result _ c.loop-index.index c.loop-index.before c.loop-index.values.items c.index-fields-index.result _
    c.requires (omega arith) c.index-fields-index.is c.total_width-size.ensures.total c.loop-index.invariant c.in_err-value.ensures in
    search rules

pub overflow_add-before : goal.overflow_add-before
overflow_add-before g c =
    omega (
      arith,
      within c.args.fields.now c.args.widths.now _ _ _ c.loop-index.index c.loop-index.before c.requires (omega arith) c.loop-index.invariant.summed,
      record_fits c.args.fields.now c.args.widths.now _ _ _ c.requires,
    )

pub loop-index-preserved : goal.loop-index-preserved
loop-index-preserved g c =
    rw (c.from-before.ensures, c.in_ok-push.ensures.items)
    (stepped c.args.fields.now c.args.widths.now _ _ c.total_width-size.result _ c.loop-index.index c.loop-index.before c.loop-index.values.items c.index-fields-index.result c.in_ok-value.value
    c.requires (omega arith) c.index-fields-index.is c.total_width-size.ensures.total c.loop-index.invariant c.in_ok-value.ensures)

pub returns : goal.returns
returns g c =
    subst
    (λ all. SpellsObject c.args.fields.now c.args.widths.now (g.P.Parts.first_words c.args.parts.now) (g.P.Parts.area_bytes c.args.parts.now) c.args.place all)
    (sym c.from_vec.ensures)
    (finished c.args.fields.now c.args.widths.now _ _ _ c.loop-index.index c.loop-index.before c.loop-index.values.items c.requires (omega arith) c.loop-index.invariant)
