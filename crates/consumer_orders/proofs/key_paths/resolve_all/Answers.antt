use Rattle.std.proofs.Common.{ℕ, List, subst, sym}
use Rattle.schema_model.specs.Path.{Resolves}
use Rattle.hollow_machine.specs.KeyPaths.{IsFirstLost}
use Rattle.consumer_orders.proofs.KeyWays.{first_lost, no_way, resolve_more}
use Rattle.consumer_orders.proofs.key_paths.resolve_all.Goals as goal

pub returns-in-Err-BadPath : goal.returns-in-Err-BadPath
returns-in-Err-BadPath c =
    let never = no_way c.args.model.now c.args.type_index c.text-item.result c.text.result.now c.in-Err-BadPath.field-0 c.text.ensures c.in-Err-BadPath.field-0-is c.in-Err-BadPath.ensures.tells in
    subst (λ (lost : List ℕ). IsFirstLost c.args.model.now c.args.type_index c.args.texts.now lost) (sym c.in_ok-copy-in-Err-BadPath.ensures)
    (first_lost c.args.model.now c.args.type_index c.args.texts.now c.loop-text.text-index c.loop-text.paths c.text-item.result c.loop-text-test.true c.text-item.is c.loop-text.invariant never)

pub loop-text-preserved : goal.loop-text-preserved
loop-text-preserved c =
    resolve_more c.args.model.now c.args.type_index c.args.texts.now c.loop-text.text-index c.text-item.result c.loop-text.paths _ c.in-Ok.path c.loop-text-test.true c.text-item.is c.loop-text.invariant
    (subst (λ (w : List ℕ). Resolves c.args.model.now c.args.type_index w c.in-Ok.path) c.text.ensures c.in-Ok.ensures.tells) c.in_ok-push-in-Ok.ensures.ok
