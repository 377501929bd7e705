use Rattle.std.proofs.Common.{◌∙◌, ◌+◌, ℕ, List, Some, sym, ap, take}
use Rattle.schema_model.specs.declared.model.path.Path.{Path}
use Rattle.row_model.specs.declared.row.Value.{Value}
use Rattle.record_trees.specs.Tree.{plain}
use Rattle.hol_incremental.specs.Roots.{key_of_tree, tree_value}
use Rattle.hol_incremental.proofs.LoopLists.{key_more, key_none}
use Rattle.hol_incremental.proofs.tree_key.tree_key.Goals as goal

pub returns-in-None : goal.returns-in-None
returns-in-None c =
    let tree = plain c.args.tree.now in
    let items = c.as_slice-path-items.result.now in
    let at = ap (λ (p : Path). tree_value tree p.fields) (sym c.path-item.is) ∙ ap (λ (fields : List ℕ). tree_value tree fields) (sym c.as_slice.ensures) ∙ sym c.in_ok-value.ensures ∙ c.in-None.is in
    sym (ap (λ (ps : List Path). key_of_tree ps tree) (sym c.as_slice-path-items.ensures) ∙ key_none tree items c.loop-path.path-index c.path-item.result c.loop-path-test.true at)

pub loop-path-preserved : goal.loop-path-preserved
loop-path-preserved c =
    let tree = plain c.args.tree.now in
    let items = c.as_slice-path-items.result.now in
    let i = c.loop-path.path-index in
    let at = ap (λ (p : Path). tree_value tree p.fields) (sym c.path-item.is) ∙ ap (λ (fields : List ℕ). tree_value tree fields) (sym c.as_slice.ensures) ∙ sym c.in_ok-value.ensures ∙ c.in-Some.is in
    ap (λ (ps : List Path). key_of_tree (take (i + 1) ps) tree) (sym c.as_slice-path-items.ensures)
    ∙ key_more tree items i c.path-item.result c.loop-path.key c.in-Some.value c.loop-path-test.true (ap (λ (ps : List Path). key_of_tree (take i ps) tree) c.as_slice-path-items.ensures ∙ c.loop-path.invariant) at
    ∙ ap (λ (key : List Value). Some key) (sym c.in_ok-push-in-Some.ensures.ok)
