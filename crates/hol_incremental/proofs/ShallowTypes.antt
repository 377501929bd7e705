-- The rows that a live row names are live, and of types that are less deep.
use Rattle.std.proofs.Common.{◌≡◌, ◌∙◌, ◌<◌, ℕ, zero, suc, List, [], ◌∷◌, Option, Some, None, length, map, get_or, slice_get, refl, ap, arith}
use Rattle.std.specs.Prelude.{All, IsSome, IsSomeAnd}
use Rattle.std.specs.List.{cons_option, filter_map}
use Rattle.std.specs.Option.{option_map}
use Rattle.std.proofs.lemmas.Option.{get_or_from_slice_get, slice_get-map, slice_get_within, slice_get-get_or}
use Rattle.schema_model.specs.declared.schema.name.Name.{Name}
use Rattle.schema_model.specs.declared.schema.Schema.{Schema}
use Rattle.schema_model.specs.Model.{HasChain, named_indexes, type_graph}
use Rattle.schema_model.specs.Parts.{index_of_type, named_types, shape_names}
use Rattle.row_model.specs.declared.row.Row.{Row}
use Rattle.row_model.specs.Row.{references_of_row}
use Rattle.row_model.specs.Table.{IsClosed, IsLive, Table, row_at}
use Rattle.row_model.proofs.NamedTypes.{row_named}

-- no chain of so many references begins at the type
abbrev pub IsShallow : List Schema → ℕ → ℕ → Type 0
IsShallow schemas depth t = ¬ HasChain (type_graph schemas) depth t

-- the type of this name has the row, and is no deeper than so many types
abbrev pub IsReached : List Schema → Table → ℕ → Name → ℕ → Type 0
IsReached schemas table depth name ordinal = IsSomeAnd (index_of_type schemas name) (λ u. IsLive table u ordinal × IsShallow schemas depth u)

-- ---- types

pub type_at : {A : Type 0} (xs : List A) (t : ℕ) → t < length xs → (x : A) × (slice_get xs t ≡ Some x)
type_at [] t inside = absurd (omega arith)
type_at (x ∷ xs) zero inside = (x, refl)
type_at (x ∷ xs) (suc t) inside = type_at xs t (omega arith)

pub live_inside : (table : Table) (t o : ℕ) → IsLive table t o → t < length table
live_inside [] zero o live = absurd cc
live_inside [] (suc t) o live = absurd cc
live_inside (r ∷ table) zero o live = omega arith
live_inside (r ∷ table) (suc t) o live = let below = live_inside table t o live in omega arith

pub live_type : (schemas : List Schema) (table : Table) (t o : ℕ) → length table ≡ length schemas → IsLive table t o → (schema : Schema) × (slice_get schemas t ≡ Some schema)
live_type schemas table t o types live = let inside = live_inside table t o live in type_at schemas t (omega arith)

pub live_row : (found : Option Row) → IsSome found → (row : Row) × (found ≡ Some row)
live_row None live = absurd cc
live_row (Some row) live = (row, refl)

pub some_type : (found : Option ℕ) → (found ≡ None → ⊥) → (u : ℕ) × (found ≡ Some u)
some_type None known = absurd (known refl)
some_type (Some u) known = (u, refl)

pub filtered_at : {X Y : Type 0} (h : X → Option Y) (xs : List X) (i : ℕ) (x : X) (y : Y) → slice_get xs i ≡ Some x → h x ≡ Some y → (k : ℕ) × (slice_get (filter_map h xs) k ≡ Some y)
filtered_at h [] i x y at e = absurd cc
filtered_at h (z ∷ zs) zero x y at e = let same : z ≡ x = cc in (0, rw (same, e) refl)
filtered_at h (z ∷ zs) (suc i) x y at e = let (k, more) = filtered_at h zs i x y at e in elim (h z) as (λ o. (j : ℕ) × (slice_get (cons_option o (filter_map h zs)) j ≡ Some y)) [ None ↦ (k, more) | Some w ↦ (suc k, more) ]

-- a chain of references begins at a type that names the first one of a chain
pub chain_more : (schemas : List Schema) (depth t : ℕ) (schema : Schema) → slice_get schemas t ≡ Some schema
    → (name : Name) (j u : ℕ) → slice_get (named_types schema) j ≡ Some name → index_of_type schemas name ≡ Some u → HasChain (type_graph schemas) depth u → HasChain (type_graph schemas) (suc depth) t
unfolding HasChain
chain_more schemas depth t schema found name j u at is chain =
    let (k, inside) = filtered_at (index_of_type schemas) (named_types schema) j name u at is in
    let row : get_or (type_graph schemas) t [] ≡ named_indexes schemas schema =
    get_or_from_slice_get (type_graph schemas) t (named_indexes schemas schema) [] (slice_get-map (named_indexes schemas) schemas t ∙ ap (option_map (named_indexes schemas)) found) in
    rw row (k, u, slice_get_within (named_indexes schemas schema) k u inside, get_or_from_slice_get (named_indexes schemas schema) k u u inside, chain)

-- an empty chain begins at each type
pub empty_chain : (schemas : List Schema) (t : ℕ) → t < length schemas → HasChain (type_graph schemas) 0 t
unfolding HasChain
empty_chain schemas t inside = rw (length_graph schemas schemas) inside
  where
    length_graph : (all some : List Schema) → length (map (named_indexes all) some) ≡ length some
    length_graph all [] = refl
    length_graph all (s ∷ some) = ap suc (length_graph all some)

pub none_shallow : (schemas : List Schema) (t : ℕ) → t < length schemas → IsShallow schemas 0 t → ⊥
none_shallow schemas t inside shallow = shallow (empty_chain schemas t inside)

-- ---- what a row names

-- each name in a row is one of those of its type
each_name : (names : List Name) → All (λ name. (j : ℕ) × (slice_get names j ≡ Some name)) names
each_name names k d inside = (k, slice_get-get_or names k d inside)

module _ (schemas : List Schema) (table : Table) (t ordinal : ℕ) (schema : Schema) (row : Row) (found : slice_get schemas t ≡ Some schema) where
  -- the types that a row names
  pub names_of_type : All (λ (named : Name × ℕ). (j : ℕ) × (slice_get (named_types schema) j ≡ Some named.0)) (references_of_row schema.shape row)
  names_of_type = row_named (λ name. (j : ℕ) × (slice_get (named_types schema) j ≡ Some name)) schema.shape row (each_name (shape_names schema.shape))

  both_hold : (index : Option ℕ) (P Q : ℕ → Type 0) → IsSomeAnd index P → ((u : ℕ) → index ≡ Some u → Q u) → IsSomeAnd index (λ u. P u × Q u)
  both_hold None P Q there each = there
  both_hold (Some u) P Q there each = (there, each u refl)

  pub rows_reached : (depth : ℕ) → IsClosed schemas table → row_at table t ordinal ≡ Some row → IsShallow schemas (suc depth) t → All (λ named. IsReached schemas table depth named.0 named.1) (references_of_row schema.shape row)
  rows_reached depth closed at shallow = λ k d inside.
      let named = get_or (references_of_row schema.shape row) k d in
      let (j, stands) = names_of_type k d inside in
      both_hold (index_of_type schemas named.0) (λ u. IsLive table u named.1) (IsShallow schemas depth) (closed t ordinal schema row found at k d inside)
      (λ u is chain. shallow (chain_more schemas depth t schema found named.0 j u stands is chain))
