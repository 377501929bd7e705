use Rattle.std.proofs.Common.{◌≡◌, ◌∙◌, ◌-◌, ◌<◌, ◌^◌, ℕ, List, sym, ap, subst}
use Rattle.std.specs.Prelude.{All, Contains, option_copied}
use Rattle.hol_incremental.specs.Leaves.{IsUnder}
use Rattle.hol_incremental.proofs.LeaveSteps.{leave_same}
use Rattle.hol_incremental.proofs.LeavingKeys.{found_is, low_under, of_under, under_of}
use Rattle.hol_incremental.proofs.leaving.add_of_key.Goals as goal

pub add_all-requires : goal.add_all-requires
add_all-requires c =
    let is = sym c.index_at.ensures ∙ ap option_copied c.in-Some.is in
    subst (λ (xs : List ℕ). All (λ o. o < 2 ^ 32 - 1) xs) (sym c.as_slice.ensures)
    (low_under c.args.keys.now c.args.type_index c.in-Some.index.now is c.args.key.now _ c.in_ok-ordinals.ensures c.requires)

pub returns-clause-leaving : goal.returns-clause-leaving
returns-clause-leaving c =
    let is = sym c.index_at.ensures ∙ ap option_copied c.in-Some.is in
    let t = c.args.type_index in
    let keys = c.args.keys.now in
    let key = c.args.key.now in
    leave_same c.args.tops.now (λ row. (row.0 ≡ t) × Contains c.as_slice.result.now row.1) (λ row. (row.0 ≡ t) × IsUnder keys t key row.1) c.args.leaving.now c.add_all.new.leaving
    (λ row both. (both.0, under_of keys t c.in-Some.index.now is key _ c.in_ok-ordinals.ensures row.1 (subst (λ (xs : List ℕ). Contains xs row.1) c.as_slice.ensures both.1)))
    (λ row both. (both.0, subst (λ (xs : List ℕ). Contains xs row.1) (sym c.as_slice.ensures) (of_under keys t c.in-Some.index.now is key _ c.in_ok-ordinals.ensures row.1 both.1)))
    c.in_ok-add_all.ensures

pub returns-clause-found : goal.returns-clause-found
returns-clause-found c =
    let is = sym c.index_at.ensures ∙ ap option_copied c.in-Some.is in
    found_is c.args.keys.now c.args.type_index c.in-Some.index.now is c.args.key.now _ c.in_ok-ordinals.ensures c.is_empty.result c.is_empty.ensures
