use Rattle.std.proofs.Common.{◌∙◌, sym}
use Rattle.std.proofs.lemmas.Bool.{true≢false}
use Rattle.delta_blob.proofs.NameTelling.{behind_few, behind_once, names_blamed}
use Rattle.delta_blob.proofs.names.names_fault.Goals as goal

pub returns-then-is_behind_names-clause-once : goal.returns-then-is_behind_names-clause-once
returns-then-is_behind_names-clause-once c =
    behind_once c.args.parts.now c.args.fault c.in-Broken.rule c.in-Broken.type_index c.in-Broken.is c.requires (c.is_behind_names.ensures.0 c.if-is_behind_names.true)

pub returns-then-is_behind_names-clause-few : goal.returns-then-is_behind_names-clause-few
returns-then-is_behind_names-clause-few c =
    behind_few c.args.parts.now c.args.fault c.in-Broken.rule c.in-Broken.type_index c.in-Broken.is c.requires (c.is_behind_names.ensures.0 c.if-is_behind_names.true)

pub returns-else-is_behind_names-clause-blames : goal.returns-else-is_behind_names-clause-blames
returns-else-is_behind_names-clause-blames c = λ spelled.
    names_blamed c.args.parts.now c.args.fault c.in-Broken.rule c.in-Broken.type_index c.index-parts-type_index.result c.in-Broken.is c.requires
    (λ behind. true≢false (sym (c.is_behind_names.ensures.1 behind) ∙ c.if-is_behind_names.false)) spelled
