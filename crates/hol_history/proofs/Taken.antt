-- The first of some things, one after another.
use Rattle.std.proofs.Common.{◌≡◌, ◌+◌, ℕ, List, [], ◌∷◌, ◌++◌, take, Option, Some, None, ap, sym, ◌∙◌}
use Rattle.std.specs.Prelude.{IsSomeAnd, slice_get}
use Rattle.std.proofs.lemmas.List.{take_more}
use Rattle.std.proofs.lemmas.Option.{get_or_from_slice_get, slice_get_within}
use Rattle.row_model.specs.declared.row.Row.{Row}
use Rattle.row_model.specs.Before.{PastPart}

pub next_taken : {A : Type 0} (xs : List A) (i : ℕ) (x : A) → slice_get xs i ≡ Some x → take (i + 1) xs ≡ take i xs ++ x ∷ []
next_taken xs i x is = take_more xs i x (slice_get_within xs i x is) ∙ ap (λ z. take i xs ++ z ∷ []) (get_or_from_slice_get xs i x x is)

-- ---- the parts of a step

-- one more row of those that left in a part
pub rows_more : (found : Option PastPart) (rows new : List Row) (i : ℕ) (row : Row) → IsSomeAnd found (λ part. rows ≡ take i part.rows) → IsSomeAnd found (λ part. slice_get part.rows i ≡ Some row)
    → new ≡ rows ++ row ∷ [] → IsSomeAnd found (λ part. new ≡ take (i + 1) part.rows)
rows_more None rows new i row so_far is put = absurd so_far
rows_more (Some part) rows new i row so_far is put = put ∙ ap (λ xs. xs ++ row ∷ []) so_far ∙ sym (next_taken part.rows i row is)

-- one more part of a step
pub parts_more : (past parts new : List PastPart) (i : ℕ) (part : PastPart) → parts ≡ take i past → slice_get past i ≡ Some part → new ≡ parts ++ part ∷ [] → new ≡ take (i + 1) past
parts_more past parts new i part so_far is put = put ∙ ap (λ xs. xs ++ part ∷ []) so_far ∙ sym (next_taken past i part is)
