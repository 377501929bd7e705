use Rattle.std.proofs.Common.{◌∙◌, ◌<◌, List, All, ap, arith, length, slice_get, subst, sym}
use Rattle.schema_model.specs.declared.schema.Schema.{Schema}
use Rattle.schema_model.specs.declared.schema.Shape.{Shape}
use Rattle.row_model.specs.BothStates.{rows_of_both}
use Rattle.row_model.specs.Table.{IsTableOf}
use Rattle.object_codec.specs.Widths.{live_rows}
use Rattle.row_packing.specs.Chosen.{IsRowOf, shape_at}
use Rattle.row_packing.specs.Measured.{IsMeasured}
use Rattle.row_packing.proofs.ByType.{one_more}
use Rattle.row_packing.proofs.Suiting.{rows_known, shape_is}
use Rattle.kept_sums.specs.States.{AreSumsOfStates}
use Rattle.hol_incremental.proofs.SumLists.{sums_at}
use Rattle.hol_incremental.proofs.measuring.measured_all.Goals as goal

pub measured-requires : goal.measured-requires
measured-requires g c =
    let S = g.B.Rows.schemas c.args.new.now in
    let k = c.loop-type_index.type_index in
    let types = ap (λ (s : List Schema). length s) (c.model.ensures.model ∙ c.requires.model) in
    let known : k < length S = omega (arith, c.loop-type_index-test.true, c.len-type_index-end.ensures.count, types) in
    let at = ap (λ (s : List Schema). slice_get s k) (sym c.model-model.ensures.model) ∙ c.schema.ensures.value in
    let both = rows_of_both (g.A.Rows.table c.args.old.now) (g.B.Rows.table c.args.new.now) in
    (both k, sums_at S both c.args.both_sums.now c.requires.both k known c.index-both_sums-place.result c.index-both_sums-place.is c.schema.result.now at)

pub loop-type_index-preserved : goal.loop-type_index-preserved
loop-type_index-preserved g c =
    let S = g.B.Rows.schemas c.args.new.now in
    let X = g.A.Rows.table c.args.old.now in
    let Y = g.B.Rows.table c.args.new.now in
    let k = c.loop-type_index.type_index in
    let schema = c.schema.result.now in
    let one = c.in_ok-one.one in
    let types = ap (λ (s : List Schema). length s) (c.model.ensures.model ∙ c.requires.model) in
    let known : k < length S = omega (arith, c.loop-type_index-test.true, c.len-type_index-end.ensures.count, types) in
    let at = ap (λ (s : List Schema). slice_get s k) (sym c.model-model.ensures.model) ∙ c.schema.ensures.value in
    let is = shape_is S k schema at in
    let fits = subst (λ (s : List Schema). IsTableOf s X) c.requires.model c.model.ensures.fits in
    let rows = subst (λ (shape : Shape). All (IsRowOf shape) (rows_of_both X Y k)) is (rows_known S X Y k known fits c.model-model.ensures.fits) in
    let sums : AreSumsOfStates schema.shape X Y k c.index-old_sums-place.result c.index-new_sums-place.result c.index-both_sums-place.result = record {
      before = sums_at S (live_rows X) c.args.old_sums.now c.requires.old k known c.index-old_sums-place.result c.index-old_sums-place.is schema at;
      after = sums_at S (live_rows Y) c.args.new_sums.now c.requires.new k known c.index-new_sums-place.result c.index-new_sums-place.is schema at;
      both = sums_at S (rows_of_both X Y) c.args.both_sums.now c.requires.both k known c.index-both_sums-place.result c.index-both_sums-place.is schema at;
    } in
    one_more (λ t measured. IsMeasured (shape_at S t) X Y t measured) k c.loop-type_index.all _ one c.loop-type_index.invariant
    (subst (λ (shape : Shape). IsMeasured shape X Y k one) (sym is) (c.in_ok-one.ensures X Y k sums c.greatest_ordinal.ensures rows)) c.in_ok-push.ensures.ok
