-- The paths to which the texts of a key resolve.
use Rattle.std.proofs.Common.{◌≡◌, ◌+◌, ◌<◌, ◌≤◌, inl, inr, ℕ, zero, suc, List, [], ◌∷◌, ◌++◌, length, take, get_or, Some, Err, refl, sym, ap, ◌∙◌, subst, arith}
use Rattle.std.specs.Prelude.{All}
use Rattle.std.specs.List.{AllZip}
use Rattle.std.proofs.lemmas.List.{take_all, take_more}
use Rattle.std.proofs.lemmas.Slice.Zip.{all_zipped_more}
use Rattle.schema_model.specs.declared.model.path.Path.{Path}
use Rattle.schema_model.specs.declared.schema.Schema.{Schema}
use Rattle.schema_model.specs.declared.model.faults.PathFault.{PathFault}
use Rattle.schema_model.specs.declared.model.faults.PathFault.TheVariants as path_fault
use Rattle.schema_model.specs.Faults.{TellsPath}
use Rattle.row_model.specs.Key.{IsResolved}
use Rattle.schema_model.specs.Path.{Leads, Resolves, path_names}
use Rattle.hol_answers.specs.declared.refusal.Refusal.TheVariants.{BadPath}
use Rattle.hollow_machine.specs.KeyPaths.{AreKeyPaths, HasKeyTexts, HasShape, IsFirstLost, IsObject}
use Rattle.consumer_orders.specs.Sought.{TellsKeyPaths, TellsResolved}
use Rattle.consumer_orders.specs.declared.key_paths.KeyPaths.{KeyPaths}
use Rattle.consumer_orders.specs.declared.key_paths.KeyPaths.TheVariants as key_paths

-- Each text resolves to its path.
abbrev pub AllResolve : List Schema → ℕ → List (List ℕ) → List Path → Type 0
AllResolve schemas t texts paths = AllZip (λ text path. Resolves schemas t text path) texts paths

-- One text more resolves.
pub resolve_more : (schemas : List Schema) (t : ℕ) (texts : List (List ℕ)) (place : ℕ) (text : List ℕ) (paths paths' : List Path) (path : Path) → place < length texts → text ≡ get_or texts place text →
    AllResolve schemas t (take place texts) paths → Resolves schemas t text path → paths' ≡ paths ++ path ∷ [] → AllResolve schemas t (take (place + 1) texts) paths'
resolve_more schemas t texts place text paths paths' path inside is so_far resolves added =
    let front : take (place + 1) texts ≡ take place texts ++ text ∷ [] = take_more texts place text inside ∙ ap (λ (w : List ℕ). take place texts ++ w ∷ []) (sym is) in
    subst (λ (front : List (List ℕ)). AllResolve schemas t front paths') (sym front)
    (subst (λ (ps : List Path). AllResolve schemas t (take place texts ++ text ∷ []) ps) (sym added)
    (all_zipped_more (λ text path. Resolves schemas t text path) (take place texts) paths text path so_far resolves))

-- Behind all texts each resolves.
pub all_resolve : (schemas : List Schema) (t : ℕ) (texts : List (List ℕ)) (place : ℕ) (paths : List Path) → length texts ≤ place → AllResolve schemas t (take place texts) paths → AllResolve schemas t texts paths
all_resolve schemas t texts place paths past so_far = subst (λ (front : List (List ℕ)). AllResolve schemas t front paths) (take_all place texts past) so_far

-- The first text that does not resolve, behind some that do.
pub first_lost : (schemas : List Schema) (t : ℕ) (texts : List (List ℕ)) (place : ℕ) (paths : List Path) (lost : List ℕ) → place < length texts → lost ≡ get_or texts place lost →
    AllResolve schemas t (take place texts) paths → ((path : Path) → Resolves schemas t lost path → ⊥) → IsFirstLost schemas t texts lost
first_lost schemas t [] place paths lost inside is so_far never = absurd (omega (arith, inside))
first_lost schemas t (text ∷ texts) zero paths lost inside is so_far never = inl (is, λ path. subst (λ (w : List ℕ). Resolves schemas t w path → ⊥) is (never path))
first_lost schemas t (text ∷ texts) (suc place) [] lost inside is so_far never = absurd so_far
first_lost schemas t (text ∷ texts) (suc place) (path ∷ paths) lost inside is so_far never =
    inr ((path, so_far.0), first_lost schemas t texts place paths lost (omega (arith, inside)) is so_far.1 never)

-- A text of which that is told does not resolve.
pub no_way : (schemas : List Schema) (t : ℕ) (text word : List ℕ) (fault : PathFault) → word ≡ text → fault ≡ path_fault.BadPath → TellsPath schemas t word (Err fault) → (path : Path) → Resolves schemas t text path → ⊥
no_way schemas t text word fault same is tells =
    subst (λ (w : List ℕ). (path : Path) → Resolves schemas t w path → ⊥) same (subst (λ (f : PathFault). TellsPath schemas t word (Err f)) is tells)

-- What is told of the texts of a key tells of the key.
pub asked_for : (schemas : List Schema) (t : ℕ) (name : List ℕ) (texts asked : List (List ℕ)) (r : KeyPaths) → HasShape IsObject schemas t → HasKeyTexts schemas t texts (Some asked) →
    TellsResolved schemas t asked r → TellsKeyPaths schemas t name texts r
asked_for schemas t name texts asked (key_paths.Resolved paths) shape key tells = (shape, (asked, key, tells))
asked_for schemas t name texts asked (key_paths.Refused (BadPath lost)) shape key tells = (shape, inr (asked, key, tells))
asked_for schemas t name texts asked (key_paths.Refused _) shape key tells = absurd tells

-- one path more is resolved
one_resolved : (schemas : List Schema) (t : ℕ) (text : List ℕ) (path : Path) (paths : List Path) → Resolves schemas t text path → All (IsResolved schemas t) paths → All (IsResolved schemas t) (path ∷ paths)
one_resolved schemas t text path paths resolves rest zero other inside = (text, resolves)
one_resolved schemas t text path paths resolves rest (suc place) other inside = rest place other (omega (arith, inside))

pub all_resolved : (schemas : List Schema) (t : ℕ) (texts : List (List ℕ)) (paths : List Path) → AllResolve schemas t texts paths → All (IsResolved schemas t) paths
all_resolved schemas t texts [] zip = λ place path inside. absurd (omega (arith, inside))
all_resolved schemas t [] (path ∷ paths) zip = absurd zip
all_resolved schemas t (text ∷ texts) (path ∷ paths) zip = one_resolved schemas t text path paths zip.0 (all_resolved schemas t texts paths zip.1)

-- Each path of a key is resolved.
pub key_resolved : (schemas : List Schema) (t : ℕ) (texts : List (List ℕ)) (paths : List Path) → AreKeyPaths schemas t texts paths → All (IsResolved schemas t) paths
key_resolved schemas t texts paths (asked, key, zip) = all_resolved schemas t asked paths zip

-- They are resolved from the types at which they begin.
pub own_types : (schemas : List Schema) (t : ℕ) (paths : List Path) → All (IsResolved schemas t) paths → All (λ path. IsResolved schemas path.type_index path) paths
own_types schemas t paths resolved = λ place other inside.
    let one = resolved place other inside in
    (one.0, (refl, subst (λ (u : ℕ). Leads schemas u (path_names one.0) (get_or paths place other).fields) (sym one.1.0) one.1.1))
