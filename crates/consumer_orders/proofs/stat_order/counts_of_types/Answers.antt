use Rattle.std.proofs.Common.{◌≡◌, List, length, ap, ◌∙◌, arith, rules}
use Rattle.schema_model.specs.declared.schema.Schema.{Schema}
use Rattle.consumer_orders.proofs.Counting.{none_yet, type_in, types_all, types_more}
use Rattle.consumer_orders.proofs.stat_order.counts_of_types.Goals as goal

pub loop-type_index-init : goal.loop-type_index-init
loop-type_index-init c = none_yet c.args.consumer.now c.new-types.result c.requires c.new-types.ensures

pub counts_of_type-requires : goal.counts_of_type-requires
counts_of_type-requires c =
    let long = ap (λ (ss : List Schema). length ss) c.model.ensures.model in
    type_in c.args.consumer.now c.loop-type_index.type_index c.now-rows.result.schemas c.now-rows.ensures.schemas (omega (arith, c.loop-type_index-test.true, c.loop-type_index.auto.type_index-end, c.len-type_index-end.ensures.count, long))

pub loop-type_index-preserved : goal.loop-type_index-preserved
loop-type_index-preserved c =
    types_more c.args.consumer.now c.loop-type_index.type_index c.loop-type_index.types c.push.new.self c.in_ok-counts_of_type.field-0 c.loop-type_index.invariant c.in_ok-counts_of_type.ensures (search rules)

pub returns : goal.returns
returns c =
    let end : c.loop-type_index.type_index ≡ c.len-type_index-end.result = omega (arith, c.loop-type_index-test.false, c.loop-type_index.auto.type_index-end) in
    types_all c.args.consumer.now c.loop-type_index.type_index c.loop-type_index.types c.now-rows.result.schemas c.now-rows.ensures.schemas
    (end ∙ c.len-type_index-end.ensures.count ∙ ap (λ (ss : List Schema). length ss) c.model.ensures.model) c.loop-type_index.invariant
