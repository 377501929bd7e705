use Rattle.std.proofs.Common.{◌∙◌, ℕ, List, sym, ap, subst}
use Rattle.std.specs.Prelude.{All}
use Rattle.schema_model.specs.declared.model.path.Path.{Path}
use Rattle.schema_model.specs.Parts.{shape_key}
use Rattle.schema_model.specs.Path.{Resolves}
use Rattle.hol_incremental.proofs.KeyTexts.{texts_are, texts_known}
use Rattle.hol_incremental.proofs.key_paths.key_paths.Goals as goal

pub resolve_all-requires-clause-resolved : goal.resolve_all-requires-clause-resolved
resolve_all-requires-clause-resolved c =
    let m = c.args.model.now in
    let t = c.args.type_index in
    let texts = texts_are m t c.schema.result.now c.schema.ensures.value ∙ ap shape_key c.in-Object.is ∙ c.in-Some.is in
    subst (λ (ts : List (List ℕ)). All (λ text. ((path : Path) → ¬ Resolves m t text path) → ⊥) ts) (sym c.as_slice.ensures) (texts_known m c.schema.ensures.model t c.in-Some.texts texts)
