-- Lemmas on the ordinals of a type that are gone through.
use Rattle.std.proofs.Common.{◌≡◌, ◌≤◌, ◌<◌, ℕ, zero, suc, List, [], ◌∷◌, length, get_or, inl, inr, refl, subst, ◌∙◌, arith}
use Rattle.std.specs.Prelude.{All, Contains}
use Rattle.std.proofs.lemmas.Bool.{cases_lt}
use Rattle.row_model.specs.Table.{Table, IsBound, IsLive}
use Rattle.column_rows.specs.declared.looked.Looked.{Looked}
use Rattle.column_rows.specs.Looked.{IsLooked, count_of, ordinal_of}

in_default : (xs : List ℕ) (k c d : ℕ) → k < length xs → get_or xs k c ≡ get_or xs k d
in_default [] k c d inside = absurd (omega arith)
in_default (x ∷ xs) zero c d inside = refl
in_default (x ∷ xs) (suc k) c d inside = in_default xs k c d (omega arith)

-- what holds of each ordinal that is gone through, and of each under which there is no row, holds of each that is looked at
pub all_looked : (P : ℕ → Type 0) (table : Table) (type_index bound reached : ℕ) (looked : Looked) → IsBound table type_index bound → count_of looked bound ≤ reached
    → ((ordinal : ℕ) → (IsLive table type_index ordinal → ⊥) → P ordinal) → ((k : ℕ) → k < reached → P (ordinal_of looked k)) → (ordinal : ℕ) → IsLooked looked ordinal → P ordinal
all_looked P table type_index bound reached Looked.All is past dead each ordinal seen = elim (cases_lt ordinal reached) [
  | inl below ↦ each ordinal below
  | inr above ↦ dead ordinal (λ live. let inside = is.above ordinal live in omega (arith, inside, above, past))
]
all_looked P table type_index bound reached (Looked.At ordinals) is past dead each ordinal seen =
    let at : get_or ordinals.now seen.0 0 ≡ ordinal = in_default ordinals.now seen.0 0 ordinal seen.1 ∙ seen.2 in
    subst P at (each seen.0 (omega (arith, seen.1, past)))

-- what holds of each ordinal of a list holds of all
pub all_at : (P : ℕ → Type 0) (ordinals : List ℕ) → ((ordinal : ℕ) → Contains ordinals ordinal → P ordinal) → All P ordinals
all_at P ordinals each k d inside = each (get_or ordinals k d) (k, inside, in_default ordinals k (get_or ordinals k d) d inside)
