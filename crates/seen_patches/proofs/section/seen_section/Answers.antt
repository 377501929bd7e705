use Rattle.std.proofs.Common.{◌≡◌, ◌∙◌, List, true, false, sym, subst}
use Rattle.std.proofs.lemmas.Bool.{true≢false}
use Rattle.schema_model.specs.declared.schema.Field.{Field}
use Rattle.seen_patches.specs.Seen.{AreColumns}
use Rattle.seen_patches.proofs.Columned.{well_columns}
use Rattle.seen_patches.proofs.section.seen_section.Goals as goal

pub with_columns-requires-clause-columns : goal.with_columns-requires-clause-columns
with_columns-requires-clause-columns c =
    subst (λ (fields : List Field). AreColumns fields c.args.raw) (sym c.fields-others.ensures)
    (well_columns c.args.mine.now c.args.theirs.now c.args.raw c.requires.agree
    (λ same.
    let yes : c.same_fields.result ≡ true = c.same_fields.ensures.1 (c.fields-own.ensures ∙ same ∙ sym c.fields-others.ensures) in
    let no : c.same_fields.result ≡ false = c.if-same_fields.false in
    true≢false (sym yes ∙ no))
    c.requires.well)
