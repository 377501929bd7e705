use Rattle.std.proofs.Common.{◌∙◌, ℕ, List, Option, ap, subst}
use Rattle.std.proofs.lemmas.Result.{on_ok_weaker}
use Rattle.record_trees.specs.declared.tree.Tree.{Tree}
use Rattle.key_index.specs.Indexed.{Indexed}
use Rattle.hol_incremental.specs.Changes.{records}
use Rattle.hol_incremental.specs.Edited.{Keys}
use Rattle.hol_incremental.specs.EditKeys.{Editing}
use Rattle.hol_incremental.specs.Leaves.{AreLeaving}
use Rattle.hol_incremental.proofs.LeaveEntries.{all_leaving}
use Rattle.hol_incremental.proofs.edits.Edits.find_leaving.Goals as goal

pub returns-clause-leaving : goal.returns-clause-leaving
returns-clause-leaving c =
    let slice = c.as_slice-keys.result.now in
    let tops = c.args.tops.now in
    on_ok_weaker c.add_removed.result
    (λ more.
    subst (λ (keys : List (Option Indexed)). AreLeaving keys (records c.args.puts.now) c.args.removes.now tops c.add_removed.new.leaving) (c.as_slice-keys.ensures.value ∙ ap (λ (e : Editing). e.keys) c.self.view_is)
    (subst (λ (puts : List (ℕ × Tree)). AreLeaving slice (records puts) c.args.removes.now tops c.add_removed.new.leaving) c.as_slice.ensures
    (subst (λ (removes : Keys). AreLeaving slice (records c.as_slice.result.now) removes tops c.add_removed.new.leaving) c.as_slice-2.ensures
    (all_leaving slice c.as_slice.result.now c.as_slice-2.result.now tops c.args.leaving.now c.add_replaced.new.leaving c.add_removed.new.leaving c.requires.none c.in_ok-add_replaced.ensures more))))
    c.add_removed.ensures.leaving
