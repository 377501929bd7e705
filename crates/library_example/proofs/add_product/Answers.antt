use Rattle.serde_json.specs.View.{view}
use Rattle.hollow.specs.record_trees.Tree.{plain}
use Rattle.library_example.proofs.Publishing.{record_fits}
use Rattle.library_example.proofs.add_product.Goals as goal

pub add-requires-clause-fits : goal.add-requires-clause-fits
add-requires-clause-fits c =
    record_fits c.args.producer.now.schemas c.model.result.now c.model-2.result.now c.in-Some.product (view c.in_ok-json.json) (plain c.in_ok-record.record) c.read_tree_fits.ensures
    c.model.ensures c.model-2.ensures c.in-Some.ensures.model c.in_ok-record.ensures
