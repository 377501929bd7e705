use Rattle.std.specs.declared.alloc.AllocError.{AllocError}
use Rattle.serde_json.specs.View.{items_view, view}
use Rattle.hollow_machine.specs.KeyPaths.{texts_in}
use Rattle.consumer_orders.proofs.Naming.{named_found, named_kept, named_resolved}
use Rattle.consumer_orders.proofs.look_up.look_up.Goals as goal

pub look_up_in-requires-clause-kept : goal.look_up_in-requires-clause-kept
look_up_in-requires-clause-kept c =
    let index = c.in-Some-named_index.index in
    let texts = texts_in (items_view c.args.texts.now) in (
      c.args.type_index,
      named_resolved c.args.consumer.now c.in-Some.model.now c.args.type_index index.number texts index.paths.now c.in-Some.ensures c.in-Some-named_index.ensures,
      named_kept c.args.consumer.now c.args.type_index index.number texts index.paths.now c.in-Some-named_index.ensures,
    )

pub returns-in-Some-named_index : goal.returns-in-Some-named_index
returns-in-Some-named_index c =
    let index = c.in-Some-named_index.index in
    let texts = texts_in (items_view c.args.texts.now) in
    named_found AllocError c.args.consumer.now c.args.name.now texts (view c.args.values.now) c.args.type_index index.number index.paths.now c.look_up_in.result c.in-Some-named_index.ensures
    (c.look_up_in.ensures c.args.type_index (named_kept c.args.consumer.now c.args.type_index index.number texts index.paths.now c.in-Some-named_index.ensures))
