-- Rows that differ from others under one ordinal: what is found there.
use Rattle.std.proofs.Common.{◌≡◌, ℕ, true, false, Option, None, Some, ap, subst, ◌∙◌, arith}
use Rattle.std.specs.Prelude.{cond}
use Rattle.std.specs.Ordering.{nat_cmp, eq_by_cmp}
use Rattle.std.specs.Cmp.{nat_cmp_total}
use Rattle.std.specs.FinMap.{get, get-insert, get-remove, same_map, nat_cmp-IsAntisymmetric}
use Rattle.row_model.specs.declared.row.Row.{Row}
use Rattle.row_model.specs.Table.{RowMap}
use Rattle.type_rows.specs.Differing.{differ_at}

pub same_key : (q : ℕ) → eq_by_cmp nat_cmp q q ≡ true
same_key q = grind arith

pub other_key : (q o : ℕ) → (q ≡ o → ⊥) → eq_by_cmp nat_cmp q o ≡ false
other_key q o other = grind arith

pub same_rows : (m n : RowMap) → ((q : ℕ) → get m q ≡ get n q) → m ≡ n
same_rows m n same = same_map nat_cmp_total nat_cmp-IsAntisymmetric m n same

-- What is under an ordinal once a difference is put in.
pub differ_found : (rows : RowMap) (d : ℕ × Option Row) (q : ℕ) → get (differ_at rows d) q ≡ cond (eq_by_cmp nat_cmp q d.0) d.1 (get rows q)
differ_found rows (o, None) q = get-remove nat_cmp_total rows o q
differ_found rows (o, Some row) q = get-insert nat_cmp_total rows o row q

pub differs_here : (rows : RowMap) (d : ℕ × Option Row) (q : ℕ) → q ≡ d.0 → get (differ_at rows d) q ≡ d.1
differs_here rows d q same = differ_found rows d q ∙ ap (λ b. cond b d.1 (get rows q)) (subst (λ o. eq_by_cmp nat_cmp q o ≡ true) same (same_key q))

pub differs_there : (rows : RowMap) (d : ℕ × Option Row) (q : ℕ) → (q ≡ d.0 → ⊥) → get (differ_at rows d) q ≡ get rows q
differs_there rows d q other = differ_found rows d q ∙ ap (λ b. cond b d.1 (get rows q)) (other_key q d.0 other)
