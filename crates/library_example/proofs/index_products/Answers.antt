use Rattle.library_example.proofs.LookingUp.{paths_there}
use Rattle.library_example.proofs.index_products.Goals as goal

pub add_index-requires-clause-resolved : goal.add_index-requires-clause-resolved
add_index-requires-clause-resolved g c =
    paths_there c.args.consumer.now c.in-Some.model.now c.in_ok-product.product c.in_ok-product.paths c.in-Some.ensures c.in_ok-product.ensures.resolved
