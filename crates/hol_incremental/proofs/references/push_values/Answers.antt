use Rattle.std.proofs.Common.{◌≡◌, ◌∙◌, ◌<◌, ◌++◌, List, flat_map, get_or, length, sym, ap, take, zip, inl, inr, arith}
use Rattle.std.proofs.lemmas.Bool.{cases_lt}
use Rattle.row_model.specs.declared.row.Value.{Value}
use Rattle.row_model.specs.Row.{references_of_value}
use Rattle.schema_model.specs.declared.schema.Field.{Field}
use Rattle.hol_incremental.specs.Counts.{indexed}
use Rattle.hol_incremental.proofs.NamedSteps.{flat_more, zip_all, zip_all', zip_at, zip_inside}
use Rattle.hol_incremental.proofs.references.push_values.Goals as goal

pub loop-place-preserved : goal.loop-place-preserved
loop-place-preserved c =
    let fields = c.args.fields.now in
    let values = c.args.values.now in
    let field = c.index-fields-place.result in
    let value = c.index-values-place.result in
    let place = c.loop-place.place in
    let low = c.loop-place-test.true in
    let few = c.min-place-end.ensures in
    let inside : place < length fields = omega (arith, low, few) in
    let inside' : place < length values = omega (arith, low, few) in
    let at = zip_at fields values place field value inside inside' ∙ (λ i. (get_or fields place field, sym c.index-values-place.is i)) in
    flat_more c.args.model.now (λ (part : Field × Value). references_of_value part.0.kind part.1) (zip fields values) place (field, value) c.args.named.now.items c.loop-place.named.items c.push_value.new.named.items
    (zip_inside fields values place inside inside') c.loop-place.invariant
    (c.in_ok-push_value.ensures ∙ ap (λ (part : Field × Value). c.loop-place.named.items ++ indexed c.args.model.now (references_of_value part.0.kind part.1)) (sym at))

pub returns : goal.returns
returns c =
    let fields = c.args.fields.now in
    let values = c.args.values.now in
    let place = c.loop-place.place in
    let high = c.loop-place-test.false in
    let few = c.min-place-end.ensures in
    let all : take place (zip fields values) ≡ zip fields values =
    elim (cases_lt place (length fields)) [
      | inr long ↦ zip_all fields values place long
      | inl short ↦ zip_all' fields values place (omega (arith, high, few, short))
    ] in
    c.loop-place.invariant ∙ ap (λ (parts : List (Field × Value)). c.args.named.now.items ++ indexed c.args.model.now (flat_map (λ part. references_of_value part.0.kind part.1) parts)) all
