use Rattle.std.proofs.Common.{◌∙◌, ◌<◌, ℕ, List, length, sym, subst}
use Rattle.std.specs.Prelude.{All}
use Rattle.hol_incremental.proofs.DroppedRows.{named_inside}
use Rattle.hol_incremental.proofs.counting.count_row.Goals as goal

pub raise_all-requires : goal.raise_all-requires
raise_all-requires g c =
    let S = g.R.Rows.schemas c.args.rows.now in
    let same = c.as_slice.ensures.value ∙ c.in_ok-named.ensures.named in
    subst (λ (n : ℕ). All (λ (row : ℕ × ℕ). row.0 < n) c.as_slice.result.now) (sym c.requires.types)
    (subst (λ (rows : List (ℕ × ℕ)). All (λ (row : ℕ × ℕ). row.0 < length S) rows) (sym same)
    (named_inside S (g.R.Rows.table c.args.rows.now) c.args.type_index c.args.ordinal c.requires.fits.types c.requires.closed c.requires.live))
