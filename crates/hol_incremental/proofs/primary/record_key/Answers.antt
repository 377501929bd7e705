use Rattle.std.proofs.Common.{◌≡◌, ◌∙◌, ℕ, List, Option, Some, None, Result, Ok, Err, sym, ap, subst}
use Rattle.std.specs.Prelude.{IfOk}
use Rattle.schema_model.specs.declared.model.path.Path.{Path}
use Rattle.schema_model.specs.declared.model.rule.Rule.TheVariants.{DuplicateName}
use Rattle.schema_model.specs.declared.schema.Schema.{Schema}
use Rattle.schema_model.specs.Model.{IsModel}
use Rattle.row_model.specs.declared.row.Value.{Value}
use Rattle.row_model.specs.PlainTree.{PlainTree}
use Rattle.record_trees.specs.Tree.{plain}
use Rattle.hol_incremental.specs.EditKeys.{TellsKeyPaths}
use Rattle.hol_incremental.specs.Roots.{AreKeyPaths, TellsTreeKey, key_of_tree}
use Rattle.hol_incremental.proofs.FoundPaths.{paths_once}
use Rattle.hol_incremental.proofs.primary.record_key.Goals as goal

-- a record's key along the paths of its type's primary key tells its primary key
tells : (schemas : List Schema) → IsModel schemas → (t : ℕ) (tree : PlainTree) (paths : List Path) → AreKeyPaths schemas t paths → (key : Option (List Value)) → key ≡ key_of_tree paths tree → TellsTreeKey schemas t tree key
tells schemas model t tree paths are None is =
    λ key found. (let e : None ≡ Some key = is ∙ ap (λ (ps : List Path). key_of_tree ps tree) (paths_once schemas (model DuplicateName) t paths found.0 are found.1) ∙ found.2 in cc)
tells schemas model t tree paths are (Some key) is = (paths, are, sym is)

each : {E : Type 0} (schemas : List Schema) → IsModel schemas → (t : ℕ) (tree : PlainTree) (paths : List Path) → AreKeyPaths schemas t paths → (result : Result (Option (List Value)) E) → IfOk result (λ key. key ≡ key_of_tree paths tree)
    → IfOk result (TellsTreeKey schemas t tree)
each schemas model t tree paths are (Ok key) is = tells schemas model t tree paths are key is
each schemas model t tree paths are (Err e) is = tt

pub returns-in-Some : goal.returns-in-Some
returns-in-Some c =
    each c.args.model.now c.len-types.ensures.model c.args.type_index (plain c.args.tree.now) c.in-Some.paths (subst (λ (found : Option (List Path)). TellsKeyPaths c.args.model.now c.args.type_index found) c.in-Some.is c.in_ok-paths.ensures) c.tree_key.result
    c.tree_key.ensures
