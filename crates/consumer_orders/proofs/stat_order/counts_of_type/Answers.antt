use Rattle.std.proofs.Common.{◌≡◌, ◌<◌, List, Some, length, ap, sym, subst, ◌∙◌}
use Rattle.std.specs.Prelude.{slice_get}
use Rattle.schema_model.specs.declared.schema.Schema.{Schema}
use Rattle.consumer_orders.proofs.Counting.{counts_are, type_of}
use Rattle.consumer_orders.proofs.stat_order.counts_of_type.Goals as goal

pub schema-requires : goal.schema-requires
schema-requires c =
    subst (λ (ss : List Schema). c.args.type_index < length ss) (sym c.model.ensures.model)
    (type_of c.args.consumer.now c.args.type_index c.now-rows.result.schemas c.now-rows.ensures.schemas c.requires)

pub returns : goal.returns
returns c =
    let there : slice_get c.now-rows.result.schemas c.args.type_index ≡ Some c.schema.result.now =
    ap (λ (ss : List Schema). slice_get ss c.args.type_index) (sym c.model.ensures.model) ∙ c.schema.ensures.value
    in
    counts_are c.args.type_index c.now-rows.result.schemas c.schema.result.now c.in_ok-copy.field-0 c.live_count.result c.words_held.result c.bytes_held.result c.max.result there c.in_ok-copy.ensures
    c.args.consumer.now c.now-rows.ensures.schemas c.now-rows.ensures.position c.requires c.live_count.ensures c.max.ensures c.words_held.ensures c.bytes_held.ensures
