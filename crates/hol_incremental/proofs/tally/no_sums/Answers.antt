use Rattle.std.proofs.Common.{◌≡◌, [], length, subst, sym, arith}
use Rattle.schema_model.specs.declared.schema.Shape.{Shape}
use Rattle.row_packing.proofs.Suiting.{shape_is}
use Rattle.kept_sums.specs.Sums.{AreSumsOf}
use Rattle.hol_incremental.proofs.SumLists.{none_all, none_more, none_start}
use Rattle.hol_incremental.proofs.tally.no_sums.Goals as goal

pub loop-type_index-init : goal.loop-type_index-init
loop-type_index-init c = none_start c.args.model.now c.new-sums.result.items c.new-sums.ensures.items

pub loop-type_index-preserved : goal.loop-type_index-preserved
loop-type_index-preserved c =
    let schemas = c.args.model.now in
    let t = c.loop-type_index.type_index in
    none_more schemas t c.loop-type_index.sums.items c.push.new.self.items c.in_ok-one.one c.loop-type_index.invariant
    (subst (λ (shape : Shape). AreSumsOf shape [] c.in_ok-one.one) (sym (shape_is schemas t c.schema.result.now c.schema.ensures.value)) c.in_ok-one.ensures) c.in_ok-push.ensures.items

pub returns : goal.returns
returns c =
    let high = c.loop-type_index-test.false in
    let low = c.loop-type_index.auto.type_index-end in
    let count = c.len-type_index-end.ensures.count in
    let end : c.loop-type_index.type_index ≡ length c.args.model.now = omega (arith, high, low, count) in
    none_all c.args.model.now c.loop-type_index.type_index c.loop-type_index.sums.items c.loop-type_index.invariant end
