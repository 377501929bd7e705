-- The texts of a type's primary key, and the paths to which they resolve.
use Rattle.std.proofs.Common.{◌≡◌, ℕ, List, [], ◌∷◌, Some, slice_get, ap}
use Rattle.std.specs.Prelude.{All, option_and_then}
use Rattle.std.specs.List.{AllZip}
use Rattle.std.proofs.lemmas.List.Elements.{All-cons, All-nil}
use Rattle.schema_model.specs.declared.model.path.Path.{Path}
use Rattle.schema_model.specs.declared.schema.Schema.{Schema}
use Rattle.schema_model.specs.Model.{IsModel}
use Rattle.schema_model.specs.Parts.{shape_key}
use Rattle.schema_model.specs.Path.{Resolves}
use Rattle.hol_incremental.specs.Roots.{key_texts}
use Rattle.hol_incremental.proofs.FoundPaths.{texts_resolve}

pub texts_are : (schemas : List Schema) (t : ℕ) (schema : Schema) → slice_get schemas t ≡ Some schema → key_texts schemas t ≡ shape_key schema.shape
texts_are schemas t schema is = ap (option_and_then (λ (s : Schema). shape_key s.shape)) is

known : (schemas : List Schema) (t : ℕ) (texts : List (List ℕ)) (paths : List Path) → AllZip (λ text path. Resolves schemas t text path) texts paths → All (λ text. ((path : Path) → ¬ Resolves schemas t text path) → ⊥) texts
known schemas t [] paths zip = All-nil (λ text. ((path : Path) → ¬ Resolves schemas t text path) → ⊥)
known schemas t (text ∷ texts) [] zip = absurd zip
known schemas t (text ∷ texts) (path ∷ paths) zip =
    All-cons (λ text. ((path : Path) → ¬ Resolves schemas t text path) → ⊥) text texts (λ none. none path zip.0) (known schemas t texts paths zip.1)

pub texts_known : (schemas : List Schema) → IsModel schemas → (t : ℕ) (texts : List (List ℕ)) → key_texts schemas t ≡ Some texts → All (λ text. ((path : Path) → ¬ Resolves schemas t text path) → ⊥) texts
texts_known schemas model t texts is = let found = texts_resolve schemas model t texts is in known schemas t texts found.0 found.1
