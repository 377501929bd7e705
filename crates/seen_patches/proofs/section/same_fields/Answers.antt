use Rattle.std.proofs.Common.{◌∙◌, ap, sym, arith}
use Rattle.schema_model.specs.declared.schema.Field.{Field}
use Rattle.schema_model.proofs.SameLists.{same_more}
use Rattle.schema_model.proofs.Ways.{name_agrees}
use Rattle.seen_patches.proofs.SameFields.{same_at}
use Rattle.seen_patches.proofs.section.same_fields.Goals as goal

pub loop-place-preserved : goal.loop-place-preserved
loop-place-preserved c =
    let mine = c.args.mine.now in
    let theirs = c.args.theirs.now in
    let place = c.loop-place.place in
    let one = c.index-mine-place.result in
    let other = c.index-theirs-place.result in
    let names = name_agrees one c.text.result.now c.text-in-loop-place.result.now c.text.ensures c.if-ne.ensures ∙ c.text-in-loop-place.ensures ∙ ap (λ (f : Field). f.name) (sym c.index-theirs-place.is) in
    same_more mine theirs place one other c.loop-place-test.true (omega (arith, c.loop-place-test.true, c.if-mine-theirs.false)) c.index-mine-place.is c.index-theirs-place.is
    (same_at mine theirs place one other c.requires c.loop-place-test.true (omega (arith, c.loop-place-test.true, c.if-mine-theirs.false)) c.index-mine-place.is c.index-theirs-place.is names) c.loop-place.invariant
