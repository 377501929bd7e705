-- The paths of a key that an order asks for: they resolve, or there is a reason why not.
use Rattle.std.proofs.Common.{◌≡◌, ℕ, List, [], ◌∷◌, Option, None, Some, inl, inr, refl, sym, subst}
use Rattle.std.specs.Prelude.{IsSomeAnd, slice_get}
use Rattle.std.specs.List.{AllZip}
use Rattle.std.proofs.lemmas.Option.{slice_get-get_or}
use Rattle.schema_model.specs.declared.model.path.Path.{Path}
use Rattle.schema_model.specs.declared.schema.name.Name.{Name}
use Rattle.schema_model.specs.declared.schema.Schema.{Schema}
use Rattle.schema_model.specs.declared.schema.Shape.{Shape}
use Rattle.schema_model.specs.Parts.{index_of_type}
use Rattle.schema_model.specs.Path.{Resolves}
use Rattle.schema_model.proofs.Ways.{type_inside}
use Rattle.hol_answers.specs.declared.refusal.Refusal.TheVariants.{BadPath, WrongKind}
use Rattle.hollow_machine.specs.KeyPaths.{AreKeyPaths, HasKeyTexts, HasShape, IsBadPath, IsFirstLost, IsObject, PathsRefusal, key_texts}
use Rattle.answer_laws.proofs.Deciding.{decide}

module _ (schemas : List Schema) (t : ℕ) where
  -- each text resolves, or one is the first that does not
  all_or_lost : (texts : List (List ℕ)) → ((paths : List Path) → AllZip (λ text path. Resolves schemas t text path) texts paths → ⊥) → ((lost : List ℕ) → IsFirstLost schemas t texts lost → ⊥) → ⊥
  all_or_lost [] no_paths no_lost = no_paths [] tt
  all_or_lost (text ∷ texts) no_paths no_lost = decide ((path : Path) × Resolves schemas t text path) (λ either. elim either [
    | inl here ↦ all_or_lost texts (λ paths each. no_paths (here.0 ∷ paths) (here.1, each)) (λ lost first. no_lost lost (inr (here, first)))
    | inr never ↦ no_lost text (inl (refl, λ path leads. never (path, leads)))
  ])

  -- the texts of the key, if there is one
  texts_there : (texts : List (List ℕ)) (schema : Schema) → slice_get schemas t ≡ Some schema → HasKeyTexts schemas t texts (key_texts schema.shape texts)
  texts_there texts schema at = subst (λ (o : Option Schema). IsSomeAnd o (λ s. key_texts s.shape texts ≡ key_texts schema.shape texts)) (sym at) refl

  paths_or_lost : (texts : List (List ℕ)) (asked : Option (List (List ℕ))) → HasKeyTexts schemas t texts asked → ((paths : List Path) → AreKeyPaths schemas t texts paths → ⊥)
      → ((lost : List ℕ) → IsBadPath schemas t texts lost → ⊥) → ⊥
  paths_or_lost texts None has no_paths no_lost = no_lost [] (inl (has, refl))
  paths_or_lost texts (Some asked) has no_paths no_lost =
      all_or_lost asked (λ paths each. no_paths paths (asked, has, each)) (λ lost first. no_lost lost (inr (asked, has, first)))

  -- that there are neither such paths of a type of records nor a reason why not cannot be
  pub paths_or_refused : (name : Name) (texts : List (List ℕ)) (schema : Schema) → slice_get schemas t ≡ Some schema → ((paths : List Path) → HasShape IsObject schemas t → AreKeyPaths schemas t texts paths → ⊥)
      → ((lost : List ℕ) → PathsRefusal schemas t name texts (BadPath lost) → ⊥) → (PathsRefusal schemas t name texts (WrongKind name) → ⊥) → ⊥
  paths_or_refused name texts schema at no_paths no_lost no_kind = decide (HasShape IsObject schemas t) (λ either. elim either [
    | inl has ↦ paths_or_lost texts (key_texts schema.shape texts) (texts_there texts schema at) (λ paths are. no_paths paths has are) (λ lost bad. no_lost lost (has, bad))
    | inr other ↦ no_kind (refl, other)
  ])

-- the schema of a type of a name
pub schema_there : (schemas : List Schema) (name : List ℕ) (t : ℕ) → index_of_type schemas name ≡ Some t → (schema : Schema) × (slice_get schemas t ≡ Some schema)
schema_there schemas name t is =
    let some : Schema = record { name = []; shape = Shape.Set [] } in
    let there = slice_get-get_or schemas t some (type_inside schemas name t is) in
    (_, there)
