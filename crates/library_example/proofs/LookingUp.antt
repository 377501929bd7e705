-- What holds of a consumer's schemas and indexes holds where it stands.
use Rattle.std.proofs.Common.{◌≡◌, ◌<◌, ℕ, zero, suc, List, [], ◌∷◌, Option, Some, None, get_or, length, subst, sym, arith}
use Rattle.std.specs.Prelude.{All, Contains, IsSomeAnd, slice_get}
use Rattle.std.proofs.lemmas.Option.{slice_get_within}
use Rattle.hollow.specs.schema_model.declared.model.path.Path.{Path}
use Rattle.hollow.specs.schema_model.Path.{Resolves}
use Rattle.hollow.specs.schema_model.declared.schema.Schema.{Schema}
use Rattle.hollow.specs.row_model.declared.row.Value.{Value}
use Rattle.hollow.specs.row_model.Key.{AreMatches, IsResolved}
use Rattle.hollow.specs.row_model.Table.{Table, IsLive}
use Rattle.hollow.specs.read_engine.Indexes.{index_by}
use Rattle.hollow.specs.read_engine.Position.{Index, Position, rows_now}

-- a path to which a text leads is resolved, and so is the list of it
pub one_resolved : (schemas : List Schema) (t : ℕ) (text : List ℕ) (path : Path) (paths : List Path) → Resolves schemas t text path → paths ≡ path ∷ [] → All (IsResolved schemas t) paths
one_resolved schemas t text path paths resolves is = subst (λ (ps : List Path). All (IsResolved schemas t) ps) (sym is) (λ place other inside. alone place other inside)
  where
    alone : (place : ℕ) (other : Path) → place < 1 → IsResolved schemas t (get_or (path ∷ []) place other)
    alone zero other inside = (text, resolves)
    alone (suc place) other inside = absurd (omega (arith, inside))

-- a type of the consumer's schemas is one of its state
pub type_there : (consumer : Option Position) (schemas : List Schema) (t : ℕ) → IsSomeAnd consumer (λ now. now.schemas ≡ schemas) → t < length schemas → IsSomeAnd consumer (λ now. t < length now.schemas)
type_there None schemas t same there = absurd same
type_there (Some now) schemas t same there = subst (λ (s : List Schema). t < length s) (sym same) there

-- paths that are resolved in the consumer's schemas are so in its state
pub paths_there : (consumer : Option Position) (schemas : List Schema) (t : ℕ) (paths : List Path) → IsSomeAnd consumer (λ now. now.schemas ≡ schemas) → All (IsResolved schemas t) paths → IsSomeAnd consumer (λ now. All (IsResolved now.schemas t) paths)
paths_there None schemas t paths same resolved = absurd same
paths_there (Some now) schemas t paths same resolved = subst (λ (s : List Schema). All (IsResolved s t) paths) (sym same) resolved

-- the number of what is kept is one of those that are kept
pub number_inside : (consumer : Option Position) (number t : ℕ) (paths : List Path) → IsSomeAnd consumer (λ now. slice_get now.indexes number ≡ Some (index_by t paths)) → IsSomeAnd consumer (λ now. number < length now.indexes)
number_inside None number t paths kept = absurd kept
number_inside (Some now) number t paths kept = slice_get_within now.indexes number (index_by t paths) kept

-- what the index finds is live
pub found_live : (consumer : Option Position) (number t : ℕ) (paths : List Path) (key : List Value) (ordinals : List ℕ) (ordinal : ℕ) (table : Table) → IsSomeAnd consumer (λ now. slice_get now.indexes number ≡ Some (index_by t paths)) →
    IsSomeAnd consumer (λ now. IsSomeAnd (slice_get now.indexes number) (λ kept. AreMatches now.schemas (rows_now now) kept.type_index kept.paths key ordinals)) →
    IsSomeAnd consumer (λ now. rows_now now ≡ table) → Contains ordinals ordinal → IsLive table t ordinal
found_live None number t paths key ordinals ordinal table kept matches same in_it = absurd kept
found_live (Some now) number t paths key ordinals ordinal table kept matches same in_it =
    let found = subst (λ (o : Option Index). IsSomeAnd o (λ k. AreMatches now.schemas (rows_now now) k.type_index k.paths key ordinals)) kept matches in
    subst (λ (rows : Table). IsLive rows t ordinal) same ((found.are ordinal).0 in_it).0
