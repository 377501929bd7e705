use Rattle.std.proofs.Common.{◌≡◌, ◌∙◌, ap, sym, refl, ◌+◌, ◌++◌, ◌∷◌, [], take, length, arith}
use Rattle.std.proofs.lemmas.List.{length-take, length-map}
use Rattle.std.proofs.lemmas.Option.{slice_get_read}
use Rattle.schema_model.specs.Parts.{field_names, name_index}
use Rattle.schema_model.proofs.Indexing.{take_names}
use Rattle.seen_patches.proofs.named_fields.NamedFields.new.Goals as goal

pub loop-place-preserved : goal.loop-place-preserved
loop-place-preserved c =
    let names = field_names c.args.fields.now in
    let front = take c.loop-place.place names in
    let item = slice_get_read c.args.fields.now (length c.args.fields.now) c.loop-place.place c.index-fields-place.result refl (omega arith) c.index-fields-place.is in
    let added : front ++ c.text.result.now ∷ [] ≡ take (c.loop-place.place + 1) names =
    ap (λ n. front ++ n ∷ []) c.text.ensures ∙ sym (take_names (λ f. f.name) c.args.fields.now c.loop-place.place c.index-fields-place.result item) in
    let long : length front ≡ c.loop-place.place = length-take c.loop-place.place names ∙ omega (arith, length-map c.args.fields.now (λ f. f.name)) in
    λ n. c.in_ok-add_name.ensures front c.loop-place.invariant long n ∙ ap (λ xs. name_index xs n) added
