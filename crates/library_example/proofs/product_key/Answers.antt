use Rattle.std.proofs.Common.{[], ◌∷◌, ◌∙◌}
use Rattle.library_example.proofs.LookingUp.{one_resolved}
use Rattle.library_example.proofs.product_key.Goals as goal

-- the text is "id"
pub returns-clause-resolved : goal.returns-clause-resolved
returns-clause-resolved c =
    one_resolved c.args.model.now c.in-Some.product (105 ∷ 100 ∷ []) c.in_ok-path.path c.from_vec.result c.in_ok-path.ensures.tells (c.from_vec.ensures ∙ c.in_ok-vec.ensures.items)
