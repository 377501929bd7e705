-- The names of types: one more behind those before it.
use Rattle.std.proofs.Common.{◌≡◌, ◌<◌, ◌+◌, ℕ, List, [], ◌∷◌, ◌++◌, Some, get_or, length, take, sym, subst}
use Rattle.std.specs.List.{slice_get}
use Rattle.std.specs.Prelude.{IsSomeAnd}
use Rattle.std.proofs.lemmas.List.{take_more}
use Rattle.std.proofs.lemmas.Slice.Zip.{all_zipped_more}
use Rattle.schema_model.specs.declared.schema.Schema.{Schema}
use Rattle.hollow_machine.specs.CycleOrder.{AreNamed}

pub named_more : (schemas : List Schema) (types : List ℕ) (i : ℕ) (names after : List (List ℕ)) (schema : Schema) (name : List ℕ) → i < length types → slice_get schemas (get_or types i 0) ≡ Some schema →
    name ≡ schema.name → after ≡ names ++ name ∷ [] → AreNamed schemas (take i types) names → AreNamed schemas (take (i + 1) types) after
named_more schemas types i names after schema name inside found same is named =
    let fits : IsSomeAnd (slice_get schemas (get_or types i 0)) (λ known. known.name ≡ name) = subst (λ got. IsSomeAnd got (λ known. known.name ≡ name)) (sym found) (sym same) in
    subst (λ (ns : List (List ℕ)). AreNamed schemas (take (i + 1) types) ns) (sym is)
    (subst (λ (ts : List ℕ). AreNamed schemas ts (names ++ name ∷ [])) (sym (take_more types i 0 inside))
    (all_zipped_more (λ t given. IsSomeAnd (slice_get schemas t) (λ known. known.name ≡ given)) (take i types) names (get_or types i 0) name named fits))
