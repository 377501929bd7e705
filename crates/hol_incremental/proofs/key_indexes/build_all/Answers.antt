use Rattle.std.proofs.Common.{◌<◌, ap, length, arith}
use Rattle.hol_incremental.proofs.KeyedSizes.{counted_more, no_size}
use Rattle.hol_incremental.proofs.LackingRows.{built_more, built_none}
use Rattle.hol_incremental.proofs.ShallowTypes.{type_at}
use Rattle.hol_incremental.proofs.key_indexes.build_all.Goals as goal

pub loop-type_index-init : goal.loop-type_index-init
loop-type_index-init g c = record {
  built = built_none (g.R.Rows.schemas c.args.rows.now) (g.R.Rows.table c.args.rows.now) c.new-keys.result.items c.new-keys.ensures.items;
  counted = let a = no_size (g.R.Rows.table c.args.rows.now) in omega (arith, a);
}

pub loop-type_index-preserved : goal.loop-type_index-preserved
loop-type_index-preserved g c =
    let schemas = g.R.Rows.schemas c.args.rows.now in
    let table = g.R.Rows.table c.args.rows.now in
    let k = c.loop-type_index.type_index in
    let many = ap (λ schemas. length schemas) c.model.ensures.model in
    let inside : k < length schemas = omega (arith, c.loop-type_index-test.true, c.len-type_index-end.ensures.count, many) in
    let type = type_at schemas k inside in
    record {
      built = built_more schemas table k c.loop-type_index.keys.items c.push.new.self.items c.in_ok-index.index c.loop-type_index.invariant.built c.in_ok-index.ensures.index c.in_ok-push.ensures.items;
      counted = counted_more schemas k type.0 type.1 table c.args.steps.now c.loop-type_index.steps c.build_one.new.steps c.loop-type_index.invariant.counted c.in_ok-index.ensures.counted;
    }
