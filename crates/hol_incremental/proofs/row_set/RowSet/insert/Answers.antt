use Rattle.std.proofs.Common.{◌≡◌, ◌∙◌, ◌++◌, ◌∷◌, ℕ, List, [], Bool, sym, ap, subst, arith}
use Rattle.std.specs.Prelude.{if◌then◌else◌}
use Rattle.hol_incremental.specs.RowSets.{IsSetOf}
use Rattle.hol_incremental.proofs.RowBits.{set_kept, set_more}
use Rattle.hol_incremental.proofs.row_set.RowSet.insert.Goals as goal

pub invariant_of-self : goal.invariant_of-self
invariant_of-self c = subst (λ (rows : List (ℕ × ℕ)). IsSetOf rows c.self.inside.sets.items) (sym c.reserve.ensures.items) c.self.invariant

pub invariant_of-self-in_err-put_bit : goal.invariant_of-self-in_err-put_bit
invariant_of-self-in_err-put_bit c =
    subst (λ (rows : List (ℕ × ℕ)). IsSetOf rows c.put_bit.new.sets.items) (sym c.reserve.ensures.items)
    (set_kept c.self.inside.rows.items c.self.inside.sets.items c.put_bit.new.sets.items c.self.invariant c.in_err-put_bit.ensures.refused)

pub invariant_of-self-2 : goal.invariant_of-self-2
invariant_of-self-2 c =
    let room = c.in_ok-reserve.ensures.ok in
    let done = c.push.ensures.succeeds (omega (arith, room)) in
    let row = c.args.row in
    let items : c.push.new.self.items ≡ c.reserve.new.self.items ++ row ∷ [] =
    c.push.ensures.items ∙ ap (λ (b : Bool). if b then c.reserve.new.self.items ++ row ∷ [] else c.reserve.new.self.items) done in
    subst (λ (rows : List (ℕ × ℕ)). IsSetOf rows c.put_bit.new.sets.items) (sym (items ∙ ap (λ (rows : List (ℕ × ℕ)). rows ++ row ∷ []) c.reserve.ensures.items))
    (set_more c.self.inside.rows.items c.self.inside.sets.items c.put_bit.new.sets.items row c.self.invariant c.in_ok-put_bit.ensures.put)
