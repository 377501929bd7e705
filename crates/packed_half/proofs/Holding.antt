-- Lemmas on the rows that a layout holds: what the widths hold of each row, and of all together.
use Rattle.std.proofs.Common.{ℕ, ◌^◌, ◌<◌, List, [], ◌∷◌, ◌++◌, sym, subst, arith, append-nil, append_assoc}
use Rattle.std.specs.Prelude.{All}
use Rattle.std.proofs.lemmas.List.Elements.{All-cons, All-head, All-tail}
use Rattle.std.proofs.lemmas.Nat.{pow_pos}
use Rattle.schema_model.specs.declared.schema.Shape.{Shape}
use Rattle.row_model.specs.declared.row.Row.{Row}
use Rattle.type_rows.specs.Holds.{FitsRow, HoldsRow, HoldsRows}
use Rattle.type_rows.specs.Layout.{item_count}
use Rattle.type_rows.specs.WordsHeld.{field_bytes}
use Rattle.packed_half.proofs.RowPlaces.{all_none}

-- what each row has whose parts fit
pub each_held : (shape : Shape) (widths : List ℕ) (P : Row → Type 0) → ((ends : ℕ → ℕ) (items : ℕ) (row : Row) → FitsRow shape widths ends items row → P row)
    → (before rest : List Row) → HoldsRows shape widths before rest → All P rest
each_held shape widths P gives before [] held = all_none P
each_held shape widths P gives before (row ∷ rest) held =
    All-cons P row rest (gives (λ f. field_bytes f (before ++ row ∷ [])) (item_count (before ++ row ∷ [])) row held.0)
    (each_held shape widths P gives (before ++ row ∷ []) rest held.1)

-- what the rows up to each have, all have
pub all_held : (shape : Shape) (widths : List ℕ) (R : Row → Type 0) (Q : List Row → Type 0) → ((rows : List Row) (row : Row) → R row → HoldsRow shape widths rows row → Q rows)
    → (before rest : List Row) → Q before → All R rest → HoldsRows shape widths before rest → Q (before ++ rest)
all_held shape widths R Q gives before [] first all held = subst Q (sym (append-nil before)) first
all_held shape widths R Q gives before (row ∷ rest) first all held =
    subst Q (append_assoc before (row ∷ []) rest)
    (all_held shape widths R Q gives (before ++ row ∷ []) rest (gives (before ++ row ∷ []) row (All-head R row rest all) held.0) (All-tail R row rest all) held.1)

-- some power of two is above none
pub none_below : (width : ℕ) → 0 < 2 ^ width
none_below width = let some = pow_pos width in omega arith
