use Rattle.std.proofs.Common.{◌+◌, ℕ, List, sym, subst, take}
use Rattle.std.specs.List.{AllZip}
use Rattle.schema_model.specs.declared.model.path.Path.{Path}
use Rattle.schema_model.specs.Path.{Resolves}
use Rattle.hol_incremental.proofs.LoopLists.{zip_more}
use Rattle.hol_incremental.proofs.key_paths.resolve_all.Goals as goal

pub loop-text-preserved : goal.loop-text-preserved
loop-text-preserved c =
    let R : List ℕ → Path → Type 0 = λ text path. Resolves c.args.model.now c.args.type_index text path in
    subst (λ (paths : List Path). AllZip R (take (c.loop-text.text-index + 1) c.args.texts.now) paths) (sym c.in_ok-push.ensures.ok)
    (zip_more R c.args.texts.now c.loop-text.paths c.loop-text.text-index c.text-item.result c.in_ok-resolve_one.field-0 c.loop-text-test.true c.loop-text.invariant
    (subst (λ (text : List ℕ). R text c.in_ok-resolve_one.field-0) c.text-item.is c.in_ok-resolve_one.ensures))
