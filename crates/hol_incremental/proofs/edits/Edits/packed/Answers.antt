use Rattle.std.proofs.Common.{◌∙◌, ap, subst, sym}
use Rattle.std.specs.Prelude.{IfSome}
use Rattle.kept_sections.specs.Sections.{AreSectionsFor}
use Rattle.hol_incremental.specs.EditKeys.{Editing, MaybeSections}
use Rattle.hol_incremental.proofs.edits.Edits.packed.Goals as goal

pub returns : goal.returns
returns c = λ schemas previous next ready.
    subst (λ (packed : MaybeSections). IfSome packed (AreSectionsFor schemas previous next)) (sym (c.as_ref.ensures.value ∙ ap (λ (e : Editing). e.next_sections) c.self.view_is)) ready.sections
