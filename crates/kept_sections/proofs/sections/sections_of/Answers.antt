use Rattle.std.proofs.Common.{◌<◌, List, ap, arith, length}
use Rattle.std.specs.Prelude.{option_copied}
use Rattle.std.proofs.lemmas.Option.{slice_get-get_or}
use Rattle.schema_model.specs.declared.schema.Schema.{Schema}
use Rattle.row_packing.specs.Chosen.{shape_at}
use Rattle.row_packing.proofs.ByType.{one_more}
use Rattle.kept_sections.specs.Sections.{IsPackedFor}
use Rattle.kept_sections.proofs.SectionLists.{kept_is, kept_long, measured_is, measured_long, packed_by_copy}
use Rattle.kept_sections.proofs.sections.sections_of.Goals as goal

pub bounds-measured-type_index : goal.bounds-measured-type_index
bounds-measured-type_index g c =
    let schemas = g.B.Rows.schemas c.args.new.now in
    let types = ap (λ (s : List Schema). length s) c.model.ensures.model in
    let long = measured_long schemas (g.A.Rows.table c.args.old.now) (g.B.Rows.table c.args.new.now) c.args.measured.now c.requires.measured in
    omega (arith, c.loop-type_index-test.true, c.len-type_index-end.ensures.count, types, long)

pub kept_of-before-requires : goal.kept_of-before-requires
kept_of-before-requires g c =
    let schemas = g.B.Rows.schemas c.args.new.now in
    let types = ap (λ (s : List Schema). length s) c.model.ensures.model in
    kept_long schemas (g.A.Rows.table c.args.old.now) (option_copied c.args.kept) c.loop-type_index.type_index (omega (arith, c.loop-type_index-test.true, c.len-type_index-end.ensures.count, types)) c.requires.kept

pub section_of-requires-clause-chosen : goal.section_of-requires-clause-chosen
section_of-requires-clause-chosen g c =
    let schemas = g.B.Rows.schemas c.args.new.now in
    let old = g.A.Rows.table c.args.old.now in
    let new = g.B.Rows.table c.args.new.now in
    let k = c.loop-type_index.type_index in
    let types = ap (λ (s : List Schema). length s) c.model.ensures.model in
    let long = measured_long schemas old new c.args.measured.now c.requires.measured in
    let known : k < length schemas = omega (arith, c.loop-type_index-test.true, c.len-type_index-end.ensures.count, types) in
    (measured_is schemas old new c.args.measured.now c.requires.measured k _ (slice_get-get_or c.args.measured.now k c.index-measured-type_index.result (omega (arith, known, long)))).chosen (c.requires.states.keeps k known)

pub section_of-requires-clause-kept : goal.section_of-requires-clause-kept
section_of-requires-clause-kept g c =
    kept_is (g.B.Rows.schemas c.args.new.now) (g.A.Rows.table c.args.old.now) (option_copied c.args.kept) (option_copied c.kept_of-before.result) c.loop-type_index.type_index c.kept_of-before.ensures c.requires.kept

pub loop-type_index-preserved : goal.loop-type_index-preserved
loop-type_index-preserved g c =
    let schemas = g.B.Rows.schemas c.args.new.now in
    let old = g.A.Rows.table c.args.old.now in
    let new = g.B.Rows.table c.args.new.now in
    let k = c.loop-type_index.type_index in
    let types = ap (λ (s : List Schema). length s) c.model.ensures.model in
    let long = measured_long schemas old new c.args.measured.now c.requires.measured in
    let known : k < length schemas = omega (arith, c.loop-type_index-test.true, c.len-type_index-end.ensures.count, types) in
    let chosen = (measured_is schemas old new c.args.measured.now c.requires.measured k _ (slice_get-get_or c.args.measured.now k c.index-measured-type_index.result (omega (arith, known, long)))).chosen (c.requires.states.keeps k known) in
    one_more (λ t section. IsPackedFor (shape_at schemas t) old new t section) k c.loop-type_index.sections _ _ c.loop-type_index.invariant
    (packed_by_copy (shape_at schemas k) old new k _ c.in_ok-copy.field-0 c.in_ok-packed.packed c.in_ok-copy.ensures chosen c.in_ok-packed.ensures) c.in_ok-push.ensures.ok
