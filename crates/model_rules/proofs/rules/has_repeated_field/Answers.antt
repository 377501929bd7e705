use Rattle.std.proofs.Common.{◌≡◌, ◌∙◌, ap, subst, sym, ◌+◌, ◌++◌, ◌∷◌, [], take, length, arith, below_more, refl, false, true}
use Rattle.std.proofs.lemmas.List.{length-take, length-map}
use Rattle.std.proofs.lemmas.Option.{slice_get_read}
use Rattle.std.specs.Option.{is_none}
use Rattle.std.specs.List.{Contains}
use Rattle.schema_model.specs.Parts.{field_names, name_index}
use Rattle.schema_model.proofs.Indexing.{take_names, item_name, contained, not_contained}
use Rattle.model_rules.proofs.rules.has_repeated_field.Goals as goal

pub returns-then-not-branch : goal.returns-then-not-branch
returns-then-not-branch c =
    let front = take c.loop-place.place (field_names c.args.fields.now) in
    let item = slice_get_read c.args.fields.now (length c.args.fields.now) c.loop-place.place c.index-fields-place.result refl (omega arith) c.index-fields-place.is in
    let name = item_name (λ f. f.name) c.args.fields.now c.loop-place.place c.index-fields-place.result item in
    let old : is_none (name_index front c.text.result.now) ≡ false =
    ap is_none (sym (c.loop-place.invariant.0 c.text.result.now)) ∙ sym c.in_ok-add_name.ensures.added ∙ c.if-not-branch.true in (
      λ t. (
        c.loop-place.place,
        omega (arith, length-map c.args.fields.now (λ f. f.name)),
        subst (λ n. Contains front n) (c.text.ensures ∙ sym name) (contained front c.text.result.now old),
      ),
      λ t. refl,
    )

pub loop-place-preserved : goal.loop-place-preserved
loop-place-preserved c =
    let names = field_names c.args.fields.now in
    let front = take c.loop-place.place names in
    let item = slice_get_read c.args.fields.now (length c.args.fields.now) c.loop-place.place c.index-fields-place.result refl (omega arith) c.index-fields-place.is in
    let name = item_name (λ f. f.name) c.args.fields.now c.loop-place.place c.index-fields-place.result item in
    let added : front ++ c.text.result.now ∷ [] ≡ take (c.loop-place.place + 1) names =
    ap (λ n. front ++ n ∷ []) c.text.ensures ∙ sym (take_names (λ f. f.name) c.args.fields.now c.loop-place.place c.index-fields-place.result item) in
    let long : length front ≡ c.loop-place.place = length-take c.loop-place.place names ∙ omega (arith, length-map c.args.fields.now (λ f. f.name)) in
    let fresh : is_none (name_index front c.text.result.now) ≡ true =
    ap is_none (sym (c.loop-place.invariant.0 c.text.result.now)) ∙ sym c.in_ok-add_name.ensures.added ∙ c.if-not-branch.false in (
      λ n. c.in_ok-add_name.ensures.indexes front c.loop-place.invariant.0 long n ∙ ap (λ xs. name_index xs n) added,
      below_more _ _ c.loop-place.invariant.1 (λ stands. not_contained front c.text.result.now fresh (subst (λ n. Contains front n) (name ∙ sym c.text.ensures) stands)),
    )

pub returns : goal.returns
returns c = (λ e. absurd (let bad : false ≡ true = e in cc), λ some. absurd (c.loop-place.invariant.1 some.0 (omega (arith, some.1, length-map c.args.fields.now (λ f. f.name))) some.2))
