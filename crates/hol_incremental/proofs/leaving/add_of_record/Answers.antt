use Rattle.std.proofs.Common.{◌≡◌, ◌∙◌, Some, sym, ap}
use Rattle.std.specs.Prelude.{option_copied}
use Rattle.record_trees.specs.Tree.{plain}
use Rattle.hol_incremental.specs.Leaves.{IsOfRecord, IsUnder}
use Rattle.hol_incremental.specs.Roots.{key_of_tree}
use Rattle.hol_incremental.proofs.LeaveSteps.{leave_same}
use Rattle.hol_incremental.proofs.LeavingKeys.{key_of_record, record_of_key}
use Rattle.hol_incremental.proofs.leaving.add_of_record.Goals as goal

pub returns-in_ok-add_of_key : goal.returns-in_ok-add_of_key
returns-in_ok-add_of_key c =
    let keys = c.args.keys.now in
    let t = c.args.type_index in
    let tree = plain c.args.tree.now in
    let index = c.in-Some.index.now in
    let key = c.in-Some-2.key in
    let is = sym c.index_at.ensures ∙ ap option_copied c.in-Some.is in
    let of : key_of_tree index.paths tree ≡ Some key = ap (λ paths. key_of_tree paths tree) (sym c.paths.ensures) ∙ sym c.in_ok-key.ensures ∙ c.in-Some-2.is in
    leave_same c.args.tops.now (λ row. (row.0 ≡ t) × IsUnder keys t key row.1) (λ row. (row.0 ≡ t) × IsOfRecord keys t tree row.1) c.args.leaving.now c.add_of_key.new.leaving
    (λ row both. (both.0, record_of_key keys t index is key tree of row.1 both.1)) (λ row both. (both.0, key_of_record keys t index is key tree of row.1 both.1)) c.in_ok-add_of_key.ensures.leaving
