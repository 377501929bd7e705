-- How many places have no way yet.
use Rattle.std.proofs.Common.{◌≡◌, ℕ, ◌+◌, ◌<◌, List, get_or, set, length, Option, Some, None, cond, ap, arith}
use Rattle.std.specs.Option.{is_none}
use Rattle.std.proofs.lemmas.List.Sums.{sum_by-set}
use Rattle.hol_plan.specs.declared.ways.Way.{Way}
use Rattle.hol_plan.specs.Ways.{unreached}

-- Where the first way from a place is found, one place fewer has none.
pub unreached-set_new : (ways : List (Option Way)) (place : ℕ) (way : Way) → place < length ways → get_or ways place None ≡ None → unreached (set ways place (Some way)) + 1 ≡ unreached ways
unreached-set_new ways place way within none =
    let both = sum_by-set (λ (w : Option Way). cond (is_none w) 1 0) ways place (Some way) None within in
    let one : ◌≡◌ {A = ℕ} (cond (is_none (get_or ways place None)) 1 0) 1 = ap {A = Option Way} {B = ℕ} (λ w. cond (is_none w) 1 0) none in
    omega (arith, both, one)

-- Where another was found, as many as before.
pub unreached-set_old : (ways : List (Option Way)) (place : ℕ) (old way : Way) → place < length ways → get_or ways place None ≡ Some old → unreached (set ways place (Some way)) ≡ unreached ways
unreached-set_old ways place old way within some =
    let both = sum_by-set (λ (w : Option Way). cond (is_none w) 1 0) ways place (Some way) None within in
    let one : ◌≡◌ {A = ℕ} (cond (is_none (get_or ways place None)) 1 0) 0 = ap {A = Option Way} {B = ℕ} (λ w. cond (is_none w) 1 0) some in
    omega (arith, both, one)
