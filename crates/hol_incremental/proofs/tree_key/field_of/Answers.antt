use Rattle.std.proofs.Common.{◌∙◌, Option, refl, ap}
use Rattle.std.specs.Option.{option_map}
use Rattle.row_model.specs.PlainTree.{PlainTree}
use Rattle.record_trees.specs.Tree.{plain, trees}
use Rattle.record_trees.specs.declared.tree.Tree.{Tree}
use Rattle.record_trees.proofs.Arms.{object_image}
use Rattle.hol_incremental.specs.Roots.{tree_in}
use Rattle.hol_incremental.proofs.LoopLists.{part_of_plain}
use Rattle.hol_incremental.proofs.tree_key.field_of.Goals as goal

pub returns-in-Object : goal.returns-in-Object
returns-in-Object c =
    ap (λ (found : Option Tree). option_map plain found) c.part_at.ensures ∙ part_of_plain (trees c.in-Object.parts) c.args.field
    ∙ ap (λ (t : PlainTree). tree_in t c.args.field) (object_image c.args.tree.now c.in-Object.parts (trees c.in-Object.parts) c.in-Object.is refl)
