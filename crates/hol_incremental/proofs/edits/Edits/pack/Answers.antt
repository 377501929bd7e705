use Rattle.std.proofs.Common.{◌∙◌, ap, refl, subst, sym}
use Rattle.std.specs.Prelude.{IfSome}
use Rattle.kept_sections.specs.Sections.{AreSections}
use Rattle.hol_incremental.specs.EditKeys.{AreReady, Editing, MaybeSections}
use Rattle.hol_incremental.proofs.KeptEdits.{packed_edits}
use Rattle.hol_incremental.proofs.edits.Edits.pack.Goals as goal

pub sections_of-requires-clause-kept : goal.sections_of-requires-clause-kept
sections_of-requires-clause-kept g c =
    let schemas = g.B.Rows.schemas c.args.next.now in
    subst (λ (kept : MaybeSections). IfSome kept (AreSections schemas (g.A.Rows.table c.args.previous.now))) (sym (c.as_ref-kept.ensures.value ∙ ap (λ (e : Editing). e.sections) c.self.view_is)) c.requires.ready.now.sections

pub returns : goal.returns
returns g c =
    let schemas = g.B.Rows.schemas c.args.next.now in
    let previous = g.A.Rows.table c.args.previous.now in
    let next = g.B.Rows.table c.args.next.now in
    record {
      ready = packed_edits schemas previous next _ (subst (AreReady schemas previous next) (sym c.self.view_is) c.requires.ready) c.in_ok-sections.sections c.in_ok-sections.ensures _ refl;
    }
