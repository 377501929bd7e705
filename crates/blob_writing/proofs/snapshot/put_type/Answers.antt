use Rattle.std.proofs.Common.{subst}
use Rattle.std.specs.Prelude.{IfSome, option_copied}
use Rattle.kept_sections.specs.Sections.{AreSectionsFor}
use Rattle.blob_writing.proofs.Planning.{chosen_there, has_chosen, has_section, section_there, suits_new}
use Rattle.blob_writing.proofs.snapshot.put_type.Goals as goal

pub get-section-requires : goal.get-section-requires
get-section-requires g c =
    let schemas = g.B.Rows.schemas c.args.new.now in
    let old = g.A.Rows.table c.args.old.now in
    let new = g.B.Rows.table c.args.new.now in
    has_section schemas old new c.in-Some.sections.now (subst (λ lent. IfSome (option_copied lent) (AreSectionsFor schemas old new)) c.in-Some.is c.requires.sections) c.args.type_index c.requires.known

pub put_section-requires-clause-chosen : goal.put_section-requires-clause-chosen
put_section-requires-clause-chosen g c =
    let schemas = g.B.Rows.schemas c.args.new.now in
    let old = g.A.Rows.table c.args.old.now in
    let new = g.B.Rows.table c.args.new.now in
    let are = subst (λ lent. IfSome (option_copied lent) (AreSectionsFor schemas old new)) c.in-Some.is c.requires.sections in
    (section_there schemas old new c.in-Some.sections.now are c.args.type_index c.get-section.result.now c.get-section.ensures).chosen

pub put_section-requires-clause-packed : goal.put_section-requires-clause-packed
put_section-requires-clause-packed g c =
    let schemas = g.B.Rows.schemas c.args.new.now in
    let old = g.A.Rows.table c.args.old.now in
    let new = g.B.Rows.table c.args.new.now in
    let are = subst (λ lent. IfSome (option_copied lent) (AreSectionsFor schemas old new)) c.in-Some.is c.requires.sections in
    (section_there schemas old new c.in-Some.sections.now are c.args.type_index c.get-section.result.now c.get-section.ensures).packed

pub get-chosen-requires : goal.get-chosen-requires
get-chosen-requires g c =
    has_chosen (g.B.Rows.schemas c.args.new.now) (g.A.Rows.table c.args.old.now) (g.B.Rows.table c.args.new.now) c.args.plan.now c.requires.plan c.args.type_index c.requires.known

pub snapshot_rows-requires-clause-chosen : goal.snapshot_rows-requires-clause-chosen
snapshot_rows-requires-clause-chosen g c =
    suits_new (g.B.Rows.schemas c.args.new.now) (g.A.Rows.table c.args.old.now) (g.B.Rows.table c.args.new.now) c.args.plan.now c.requires.plan c.args.type_index c.requires.states c.requires.known
    c.get-chosen.result.now c.get-chosen.ensures

pub put_section-requires-2-clause-chosen : goal.put_section-requires-2-clause-chosen
put_section-requires-2-clause-chosen g c =
    chosen_there (g.B.Rows.schemas c.args.new.now) (g.A.Rows.table c.args.old.now) (g.B.Rows.table c.args.new.now) c.args.plan.now c.requires.plan c.args.type_index c.get-chosen.result.now c.get-chosen.ensures
