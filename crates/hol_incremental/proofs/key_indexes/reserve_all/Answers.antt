use Rattle.std.proofs.Common.{◌∙◌, ◌<◌, ap, length, get_or, arith, refl}
use Rattle.std.proofs.lemmas.Option.{slice_get-get_or, slice_get_within}
use Rattle.hol_incremental.specs.Keeping.{settled}
use Rattle.hol_incremental.proofs.IndexRows.{same_settled}
use Rattle.hol_incremental.proofs.KeyedSizes.{coming_more, no_size}
use Rattle.hol_incremental.proofs.LackingRows.{ready_set}
use Rattle.hol_incremental.proofs.MappedLists.{map_set_same}
use Rattle.hol_incremental.proofs.ShallowTypes.{type_at}
use Rattle.hol_incremental.proofs.key_indexes.reserve_all.Goals as goal

pub loop-type_index-init : goal.loop-type_index-init
loop-type_index-init g c = record {
  kept = refl;
  ready = λ t index low at. absurd (omega (arith, low));
  counted = λ both either. (let a = no_size (g.A.Rows.table c.args.before.now) in let b = no_size both in omega (arith, a, b));
}

pub reserve_type-requires-clause-index : goal.reserve_type-requires-clause-index
reserve_type-requires-clause-index g c =
    let keys = c.loop-type_index.keys in
    let k = c.loop-type_index.type_index in
    let now = same_settled (g.A.Rows.schemas c.args.before.now) (g.A.Rows.table c.args.before.now) c.args.keys.now keys c.loop-type_index.invariant.kept c.requires.keys in
    let long = now.types in
    let many = ap (λ schemas. length schemas) (c.model.ensures.model ∙ c.requires.model) in
    let inside : k < length keys = omega (arith, c.loop-type_index-test.true, c.len-type_index-end.ensures.count, many, long) in
    now.each k (get_or keys k c.index-keys-place.result) (slice_get-get_or keys k c.index-keys-place.result inside)

pub returns-in_err-reserve_type-clause-kept : goal.returns-in_err-reserve_type-clause-kept
returns-in_err-reserve_type-clause-kept g c =
    map_set_same settled c.loop-type_index.keys c.loop-type_index.type_index c.reserve_type.new.index c.index-keys-place.result c.reserve_type.ensures.kept ∙ c.loop-type_index.invariant.kept

pub loop-type_index-preserved : goal.loop-type_index-preserved
loop-type_index-preserved g c =
    let schemas = g.A.Rows.schemas c.args.before.now in
    let k = c.loop-type_index.type_index in
    let many = ap (λ schemas. length schemas) (c.model.ensures.model ∙ c.requires.model) in
    let inside : k < length schemas = omega (arith, c.loop-type_index-test.true, c.len-type_index-end.ensures.count, many) in
    let type = type_at schemas k inside in
    record {
      kept = map_set_same settled c.loop-type_index.keys k c.reserve_type.new.index c.index-keys-place.result c.reserve_type.ensures.kept ∙ c.loop-type_index.invariant.kept;
      ready = ready_set schemas (g.B.Rows.table c.args.next.now) k c.loop-type_index.keys c.reserve_type.new.index c.loop-type_index.invariant.ready c.in_ok-reserve_type.ensures.ready;
      counted = λ both either.
          coming_more schemas (g.A.Rows.table c.args.before.now) (g.B.Rows.table c.args.next.now) both either k type.0 type.1 c.args.steps.now c.loop-type_index.steps c.reserve_type.new.steps
          (c.loop-type_index.invariant.counted both either) c.in_ok-reserve_type.ensures.counted;
    }

pub returns-clause-ready : goal.returns-clause-ready
returns-clause-ready g c = λ t index at.
    let now = same_settled (g.A.Rows.schemas c.args.before.now) (g.A.Rows.table c.args.before.now) c.args.keys.now c.loop-type_index.keys c.loop-type_index.invariant.kept c.requires.keys in
    let long = now.types in
    let many = ap (λ schemas. length schemas) (c.model.ensures.model ∙ c.requires.model) in
    let inside = slice_get_within c.loop-type_index.keys t index at in
    c.loop-type_index.invariant.ready t index (omega (arith, c.loop-type_index-test.false, c.len-type_index-end.ensures.count, many, long, inside)) at
