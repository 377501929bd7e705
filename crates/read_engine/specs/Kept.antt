-- What is kept of the indexes and walk indexes of a consumer: the keys or the entries of the rows of each, and while a step is taken those of the rows that come.
use Rattle.std.specs.Prelude.{◌≡◌, ◌⊎◌, ◌+◌, ℕ, Bool, List, None, Some, IsSomeAnd, is_some, length, map, slice_get, sum_by, unwrap_or}
use Rattle.std.proofs.Common.{ap, subst, sym}
use Rattle.std.specs.Option.{option_map_or}
use Rattle.schema_model.specs.declared.model.walk_path.WalkPath.{WalkPath}
use Rattle.schema_model.specs.declared.schema.Schema.{Schema}
use Rattle.row_model.specs.Table.{Table}
use Rattle.key_index.specs.Indexed.{AreKeysOf, Follows, Indexed}
use Rattle.hol_paths.specs.Walked.{FollowsWalk, Walked}
use Rattle.row_model.specs.Before.{PastPart}
use Rattle.row_model.specs.Reach.{AreEntries}
use Rattle.read_engine.specs.Position.{Index, IsIndexOf, IsWalkOf}
use Rattle.read_engine.specs.Walks.{HasFewEntries}

-- which index it is
abbrev pub index_kept : Indexed → Index
index_kept kept = record { type_index = kept.type_index; paths = kept.paths }

-- the index with nothing reserved
abbrev pub settled : Indexed → Indexed
settled kept = record { type_index = kept.type_index; paths = kept.paths; keys = kept.keys; next = None }

-- the index with what was reserved as its keys
abbrev pub moved_on : Indexed → Indexed
moved_on kept = record { type_index = kept.type_index; paths = kept.paths; keys = unwrap_or kept.next kept.keys; next = None }

-- It is an index of the rows of a state, and nothing is reserved.
pub record IsKept (schemas : List Schema) (table : Table) (kept : Indexed) : Type 0 where
  pub of : IsIndexOf schemas (index_kept kept)
  pub keys : AreKeysOf schemas table kept.type_index kept.paths kept.keys
  pub none : kept.next ≡ None

-- The keys of the rows of a state are reserved.
abbrev pub IsReserved : List Schema → Table → Indexed → Type 0
IsReserved schemas table kept = IsSomeAnd kept.next (AreKeysOf schemas table kept.type_index kept.paths)

-- The rows that come follow those of the index, by the part of its type.
pub record FollowsPart (schemas : List Schema) (table : Table) (past : List PastPart) (kept : Indexed) : Type 0 where
  pub of : IsIndexOf schemas (index_kept kept)
  pub part : PastPart
  pub there : slice_get past kept.type_index ≡ Some part
  pub follows : Follows kept.keys schemas table kept.type_index kept.paths part.gone part.came

-- the paths of walk indexes
abbrev pub paths_of : List Walked → List WalkPath
paths_of walks = map (λ (walked : Walked). walked.path) walks

-- the walk index with nothing reserved
abbrev pub walk_settled : Walked → Walked
walk_settled walked = record { path = walked.path; entries = walked.entries; next = None }

-- the walk index with what was reserved as its entries
abbrev pub walk_moved_on : Walked → Walked
walk_moved_on walked = record { path = walked.path; entries = unwrap_or walked.next walked.entries; next = None }

-- It is a walk index of the rows of a state, and nothing is reserved.
pub record IsWalkKept (schemas : List Schema) (table : Table) (walked : Walked) : Type 0 where
  pub of : IsWalkOf schemas walked.path
  pub entries : AreEntries schemas table walked.path.type_index walked.path.parts walked.entries
  pub none : walked.next ≡ None

-- The entries of the rows of a state are reserved, where these are not more than a walk index may have; else nothing is.
abbrev pub IsWalkReady : List Schema → Table → Walked → Type 0
IsWalkReady schemas table walked =
    (HasFewEntries schemas table walked.path × IsSomeAnd walked.next (AreEntries schemas table walked.path.type_index walked.path.parts))
    ⊎ ((¬ HasFewEntries schemas table walked.path) × (walked.next ≡ None))

-- The rows that come follow those of the walk index, by the part of its type.
pub record FollowsWalkPart (schemas : List Schema) (table : Table) (past : List PastPart) (walked : Walked) : Type 0 where
  pub of : IsWalkOf schemas walked.path
  pub part : PastPart
  pub there : slice_get past walked.path.type_index ≡ Some part
  pub follows : FollowsWalk walked.entries schemas table walked.path.type_index walked.path.parts part.gone part.came

-- how many ordinals came in a type
abbrev pub count_came : List PastPart → ℕ → ℕ
count_came past type_index = option_map_or (λ part. length part.came) (slice_get past type_index) 0

-- how many came in the types of indexes of both kinds
abbrev pub came_all : List PastPart → List Indexed → List Walked → ℕ
came_all past indexes walks = sum_by (λ (kept : Indexed). count_came past kept.type_index) indexes + sum_by (λ (walked : Walked). count_came past walked.path.type_index) walks

-- whether entries of the rows that come are reserved
abbrev pub has_walk_next : Walked → Bool
has_walk_next walked = is_some walked.next

-- ---- what does not depend on what is reserved

pub key_type_once : (a b : Indexed) → settled a ≡ settled b → a.type_index ≡ b.type_index
key_type_once a b same = ap (λ (kept : Indexed). kept.type_index) same

pub walk_type_once : (a b : Walked) → walk_settled a ≡ walk_settled b → a.path.type_index ≡ b.path.type_index
walk_type_once a b same = ap (λ (walked : Walked). walked.path.type_index) same

pub part_follows : (schemas : List Schema) (table : Table) (past : List PastPart) (a b : Indexed) → settled a ≡ settled b → FollowsPart schemas table past b → FollowsPart schemas table past a
part_follows schemas table past a b same follows =
    let there : FollowsPart schemas table past (settled b) = record { of = follows.of; part = follows.part; there = follows.there; follows = follows.follows } in
    let here : FollowsPart schemas table past (settled a) = subst (FollowsPart schemas table past) (sym same) there in
    record { of = here.of; part = here.part; there = here.there; follows = here.follows }

pub walk_follows : (schemas : List Schema) (table : Table) (past : List PastPart) (a b : Walked) → walk_settled a ≡ walk_settled b → FollowsWalkPart schemas table past b → FollowsWalkPart schemas table past a
walk_follows schemas table past a b same follows =
    let there : FollowsWalkPart schemas table past (walk_settled b) = record { of = follows.of; part = follows.part; there = follows.there; follows = follows.follows } in
    let here : FollowsWalkPart schemas table past (walk_settled a) = subst (FollowsWalkPart schemas table past) (sym same) there in
    record { of = here.of; part = here.part; there = here.there; follows = here.follows }
