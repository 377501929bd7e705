use Rattle.std.proofs.Common.{◌≡◌, false}
use Rattle.library_example.proofs.add_products.Given as goal

abbrev pub invariant-loop-product : goal.invariant-loop-product
invariant-loop-product l = l.producer.closed ≡ false
