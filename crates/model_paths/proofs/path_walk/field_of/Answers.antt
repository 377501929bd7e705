use Rattle.std.proofs.Common.{◌≡◌, ◌∙◌, sym, refl, arith, length, false, true}
use Rattle.std.proofs.lemmas.Option.{slice_get_read, slice_get_within}
use Rattle.std.proofs.lemmas.Slice.Eq.{bytes_eq-Decides}
use Rattle.schema_model.proofs.Ways.{no_field_more}
use Rattle.model_paths.proofs.path_walk.field_of.Goals as goal

pub returns-then-eq : goal.returns-then-eq
returns-then-eq c =
    let fields = c.args.fields.now in (
      c.index-fields-place.result,
      slice_get_read fields (length fields) c.loop-place.place c.index-fields-place.result refl (omega arith) c.index-fields-place.is,
      sym c.text.ensures ∙ (bytes_eq-Decides c.text.result.now c.args.name.now).0 (sym c.eq.ensures ∙ c.if-eq.true),
    )

pub loop-place-preserved : goal.loop-place-preserved
loop-place-preserved c =
    let fields = c.args.fields.now in
    no_field_more fields c.args.name.now c.loop-place.place c.index-fields-place.result
    (slice_get_read fields (length fields) c.loop-place.place c.index-fields-place.result refl (omega arith) c.index-fields-place.is)
    (λ same. let good = (bytes_eq-Decides c.text.result.now c.args.name.now).1 (c.text.ensures ∙ same) in
    let bad : false ≡ true = sym (sym c.eq.ensures ∙ c.if-eq.false) ∙ good in cc)
    c.loop-place.invariant

pub returns : goal.returns
returns c = λ i f at same. c.loop-place.invariant i f (let inside = slice_get_within c.args.fields.now i f at in omega arith) at same
