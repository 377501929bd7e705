use Rattle.std.proofs.Common.{◌≡◌, ◌∙◌, sym, subst}
use Rattle.std.specs.Prelude.{IsSomeAnd}
use Rattle.std.proofs.lemmas.Option.{slice_get-get_or}
use Rattle.std.proofs.lemmas.Slice.Eq.{bytes_eq-Decides}
use Rattle.schema_model.specs.declared.schema.Field.{Field}
use Rattle.record_tokens.proofs.tree.place_from.Goals as goal

pub returns-then-eq-clause-named : goal.returns-then-eq-clause-named
returns-then-eq-clause-named c =
    let name = c.args.name.now in
    subst (λ o. IsSomeAnd o (λ (field : Field). field.name ≡ name)) (sym (slice_get-get_or c.args.fields.now c.loop-place.place c.index-fields-place.result c.loop-place-test.true))
    (sym c.text.ensures ∙ (bytes_eq-Decides c.text.result.now name).0 (sym c.if-eq.ensures))
