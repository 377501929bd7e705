-- The rows that come follow the keys of an index, and what is reserved becomes its keys.
use Rattle.std.proofs.Common.{◌≡◌, ◌<◌, ◌⊎◌, inl, inr, ℕ, List, [], ◌∷◌, ◌+◌, Bool, true, cond, length, map, get_or, Option, Some, None, refl, sym, ap, ◌∙◌, subst, arith}
use Rattle.std.specs.Prelude.{All, IsSome, IsSomeAnd, IsTrue, Contains, MatchOption, filter, is_some, sum_by, unwrap_or}
use Rattle.std.specs.List.{AllZip}
use Rattle.std.specs.FinMap.{get}
use Rattle.std.proofs.lemmas.Bool.{false≢true}
use Rattle.std.proofs.lemmas.List.{get_or_default}
use Rattle.std.proofs.lemmas.List.Elements.{All-cons, All-head, All-nil, All-tail}
use Rattle.std.proofs.lemmas.List.Sums.{sum_by-cons}
use Rattle.schema_model.specs.declared.model.path.Path.{Path}
use Rattle.row_model.specs.declared.row.Row.{Row}
use Rattle.schema_model.specs.declared.schema.Schema.{Schema}
use Rattle.row_model.specs.Key.{IsResolved, key_of}
use Rattle.row_model.specs.Table.{IsClosed, IsLive, IsTableOf, Table, row_at}
use Rattle.key_index.specs.Indexed.{AreKeysOf, HaveOneRow, Indexed, KeyMap}
use Rattle.row_model.specs.Before.{FitsPast, PastPart, no_part, table_before}
use Rattle.read_engine.specs.Kept.{FollowsPart, IsKept, IsReserved, count_came, index_kept, key_type_once, moved_on, settled}
use Rattle.read_engine.specs.Position.{IsIndexOf}
use Rattle.hol_paths.specs.Walked.{IsStepOf}
use Rattle.state_moves.proofs.Came.{one_row}
use Rattle.state_moves.proofs.Tables.{live_or_none}
use Rattle.read_engine.proofs.TypeSteps.{came as came_of, gone as gone_of, not_live, part_there, step_of}

-- ---- the keys of rows

module _ (schemas : List Schema) (table : Table) (t : ℕ) (paths : List Path) (keys : KeyMap) (are : AreKeysOf schemas table t paths keys) where
  -- an ordinal with no row has no key
  pub no_key : (o : ℕ) → row_at table t o ≡ None → get keys o ≡ None
  no_key o none = subst (λ (found : Option Row). MatchOption found (get keys o ≡ None) (λ row. get keys o ≡ Some (key_of schemas table t paths o))) none (are o)

  -- a live one has that of its row
  pub key_at : (o : ℕ) → IsLive table t o → get keys o ≡ Some (key_of schemas table t paths o)
  key_at o live = of_row (row_at table t o) refl
    where
      of_row : (found : Option Row) → row_at table t o ≡ found → get keys o ≡ Some (key_of schemas table t paths o)
      of_row None none = absurd (false≢true (subst IsSome none live))
      of_row (Some row) is = subst (λ (found : Option Row). MatchOption found (get keys o ≡ None) (λ row. get keys o ≡ Some (key_of schemas table t paths o))) is (are o)

  -- and only those are indexed
  pub keyed_live : (o : ℕ) → IsSome (get keys o) → IsLive table t o
  keyed_live o some = of_row (row_at table t o) refl
    where
      of_row : (found : Option Row) → row_at table t o ≡ found → IsLive table t o
      of_row None none = absurd (false≢true (subst IsSome (no_key o none) some))
      of_row (Some row) is = subst IsSome (sym is) refl

  pub live_keyed : (o : ℕ) → IsLive table t o → IsSome (get keys o)
  live_keyed o live = subst IsSome (sym (key_at o live)) refl

-- ---- a step

abbrev pub KeyLaw : Type 0
KeyLaw = (schemas : List Schema) (old new : Table) (t ordinal : ℕ) (paths : List Path) → IsTableOf schemas old → IsTableOf schemas new → IsClosed schemas old → IsClosed schemas new → HaveOneRow old new
    → All (IsResolved schemas t) paths → IsLive old t ordinal → IsLive new t ordinal → key_of schemas new t paths ordinal ≡ key_of schemas old t paths ordinal

module _ (law : KeyLaw) (schemas : List Schema) (old table : Table) (past : List PastPart) (fits : AllZip FitsPast table past) (before : table_before table past ≡ old) (of_old : IsTableOf schemas old) (of_new : IsTableOf schemas table)
    (closed_old : IsClosed schemas old) (closed_new : IsClosed schemas table) where
  module _ (kept : Indexed) (is_kept : IsKept schemas old kept) where
    abbrev pub t : ℕ
    t = kept.type_index

    abbrev pub part : PastPart
    part = get_or past t no_part

    came : (o : ℕ) → (Contains part.came o → IsLive table t o × ¬ IsLive old t o) × (IsLive table t o × ¬ IsLive old t o → Contains part.came o)
    came = came_of schemas old table past fits before of_new t is_kept.of.type_there

    gone : (o : ℕ) → (Contains part.gone o → IsLive old t o × ¬ IsLive table t o) × (IsLive old t o × ¬ IsLive table t o → Contains part.gone o)
    gone = gone_of schemas old table past fits before of_new t is_kept.of.type_there

    step : IsStepOf old table t part.gone part.came
    step = step_of schemas old table past fits before of_new t is_kept.of.type_there

    live_keyed_old : (o : ℕ) → IsLive old t o → IsSome (get kept.keys o)
    live_keyed_old = live_keyed schemas old t kept.paths kept.keys is_kept.keys

    goes : (o : ℕ) → IsLive table t o → (IsSome (get kept.keys o) × ¬ Contains part.gone o) ⊎ Contains part.came o
    goes o live = elim (live_or_none old t o) [
      | inl was ↦ inl (live_keyed_old o was, λ among. ((gone o).0 among).1 live)
      | inr none ↦ inr ((came o).1 (live, not_live old t o none))
    ]

    comes : (o : ℕ) → (IsSome (get kept.keys o) × ¬ Contains part.gone o) ⊎ Contains part.came o → IsLive table t o
    comes o (inr among) = ((came o).0 among).0
    comes o (inl (keyed, stays)) = elim (live_or_none table t o) [
      | inl live ↦ live
      | inr none ↦ absurd (stays ((gone o).1 (keyed_live schemas old t kept.paths kept.keys is_kept.keys o keyed, not_live table t o none)))
    ]

    stays : (o : ℕ) → IsLive table t o → (Contains part.came o → ⊥) → get kept.keys o ≡ Some (key_of schemas table t kept.paths o)
    stays o live not_new = elim (live_or_none old t o) [
      | inl was ↦
          key_at schemas old t kept.paths kept.keys is_kept.keys o was
          ∙ ap Some (sym (law schemas old table t o kept.paths of_old of_new closed_old closed_new (subst (λ (was : Table). HaveOneRow was table) before (one_row table past fits)) is_kept.of.resolved was live))
      | inr none ↦ absurd (not_new ((came o).1 (live, not_live old t o none)))
    ]

    pub follows_part : FollowsPart schemas table past kept
    follows_part = record {
      of = is_kept.of;
      part = part;
      there = part_there schemas old table past fits before of_new t is_kept.of.type_there;
      follows = record {
        removed_rise = step.removed_rise;
        added_rise = step.added_rise;
        removed_there = λ k d inside. live_keyed_old (get_or part.gone k d) ((gone (get_or part.gone k d)).0 (k, inside, get_or_default part.gone k (get_or part.gone k d) d inside)).0;
        added_free = λ k d inside.
            elim (live_or_none old t (get_or part.came k d)) [
              | inl was ↦ absurd (((came (get_or part.came k d)).0 (k, inside, get_or_default part.came k (get_or part.came k d) d inside)).1 was)
              | inr none ↦ no_key schemas old t kept.paths kept.keys is_kept.keys (get_or part.came k d) none
            ];
        live = λ o. (goes o, comes o);
        stays = stays;
      };
    }

  pub all_follow : (indexes : List Indexed) → All (IsKept schemas old) indexes → All (FollowsPart schemas table past) indexes
  all_follow [] all = All-nil (FollowsPart schemas table past)
  all_follow (kept ∷ rest) all =
      All-cons (FollowsPart schemas table past) kept rest (follows_part kept (All-head (IsKept schemas old) kept rest all)) (all_follow rest (All-tail (IsKept schemas old) kept rest all))

-- ---- what was reserved

-- what is there, of which a fact holds
from_some : {A : Type 0} (P : A → Type 0) (found : Option A) (d : A) → IsSomeAnd found P → P (unwrap_or found d)
from_some P None d h = absurd h
from_some P (Some x) d h = h

module _ (schemas : List Schema) (old table : Table) where
  -- an index that is moved on is one of the rows that came
  moved_kept : (now was : Indexed) → settled now ≡ settled was → IsReserved schemas table now → IsKept schemas old was → IsKept schemas table (moved_on now)
  moved_kept now was same reserved kept = record {
    of = subst (IsIndexOf schemas) (sym (ap index_kept same)) kept.of;
    keys = from_some (AreKeysOf schemas table now.type_index now.paths) now.next now.keys reserved;
    none = refl;
  }

  pub all_moved : (now was : List Indexed) → map settled now ≡ map settled was → All (IsReserved schemas table) now → All (IsKept schemas old) was → All (IsKept schemas table) (map moved_on now)
  all_moved [] was same reserved kept = All-nil (IsKept schemas table)
  all_moved (n ∷ now) [] same reserved kept = absurd cc
  all_moved (n ∷ now) (w ∷ was) same reserved kept =
      let first : settled n ≡ settled w = cc in
      let rest : map settled now ≡ map settled was = cc in
      All-cons (IsKept schemas table) (moved_on n) (map moved_on now) (moved_kept n w first (All-head (IsReserved schemas table) n now reserved) (All-head (IsKept schemas old) w was kept))
      (all_moved now was rest (All-tail (IsReserved schemas table) n now reserved) (All-tail (IsKept schemas old) w was kept))

-- with nothing reserved each is as it was
pub all_settled : (schemas : List Schema) (table : Table) (indexes : List Indexed) → All (IsKept schemas table) indexes → map settled indexes ≡ indexes
all_settled schemas table [] kept = refl
all_settled schemas table (k ∷ indexes) kept =
    let none = (All-head (IsKept schemas table) k indexes kept).none in
    let rest = all_settled schemas table indexes (All-tail (IsKept schemas table) k indexes kept) in
    λ i. record { type_index = k.type_index; paths = k.paths; keys = k.keys; next = sym none i } ∷ rest i

-- they are the same indexes
pub same_indexes : (now was : List Indexed) → map settled now ≡ map settled was → map index_kept (map moved_on now) ≡ map index_kept was
same_indexes [] [] same = refl
same_indexes [] (w ∷ was) same = absurd cc
same_indexes (n ∷ now) [] same = absurd cc
same_indexes (n ∷ now) (w ∷ was) same =
    let first : settled n ≡ settled w = cc in
    let rest : map settled now ≡ map settled was = cc in
    let here : index_kept n ≡ index_kept w = ap index_kept first in
    let behind = same_indexes now was rest in
    λ i. here i ∷ behind i

-- each has something reserved
pub all_reserved : (schemas : List Schema) (table : Table) (indexes : List Indexed) → All (IsReserved schemas table) indexes → All (λ kept. IsTrue (is_some kept.next)) indexes
all_reserved schemas table [] all = All-nil (λ (kept : Indexed). IsTrue (is_some kept.next))
all_reserved schemas table (k ∷ indexes) all =
    All-cons (λ (kept : Indexed). IsTrue (is_some kept.next)) k indexes (some k.next (All-head (IsReserved schemas table) k indexes all)) (all_reserved schemas table indexes (All-tail (IsReserved schemas table) k indexes all))
  where
    some : (found : Option KeyMap) → IsSomeAnd found (AreKeysOf schemas table k.type_index k.paths) → IsSome found
    some None h = absurd h
    some (Some keys) h = refl

-- an index whose reserved keys are its keys now
pub moves_on : (old new : Indexed) → old.next ≡ Some new.keys → (new.type_index ≡ old.type_index) × (new.paths ≡ old.paths) → new.next ≡ None → new ≡ moved_on old
moves_on old new updated (type_is, paths_are) none =
    let keys : new.keys ≡ unwrap_or old.next old.keys = sym (ap (λ (found : Option KeyMap). unwrap_or found old.keys) updated) in
    λ i. record { type_index = type_is i; paths = paths_are i; keys = keys i; next = none i }

-- where each has something reserved, each is counted
pub all_counted : (schemas : List Schema) (table : Table) (past : List PastPart) (now was : List Indexed) → map settled now ≡ map settled was → All (IsReserved schemas table) now
    → sum_by (λ (kept : Indexed). count_came past kept.type_index) (filter (λ (kept : Indexed). is_some kept.next) now) ≡ sum_by (λ (kept : Indexed). count_came past kept.type_index) was
all_counted schemas table past [] [] same all = refl
all_counted schemas table past [] (w ∷ was) same all = absurd cc
all_counted schemas table past (n ∷ now) [] same all = absurd cc
all_counted schemas table past (n ∷ now) (w ∷ was) same all =
    let first : settled n ≡ settled w = cc in
    let rest : map settled now ≡ map settled was = cc in
    let behind = all_counted schemas table past now was rest (All-tail (IsReserved schemas table) n now all) in
    let takes : is_some n.next ≡ true = some n.next (All-head (IsReserved schemas table) n now all) in
    let count : List Indexed → ℕ = sum_by (λ (kept : Indexed). count_came past kept.type_index) in
    ap (λ (b : Bool). count (cond b (n ∷ filter (λ (kept : Indexed). is_some kept.next) now) (filter (λ (kept : Indexed). is_some kept.next) now))) takes
    ∙ sum_by-cons (λ (kept : Indexed). count_came past kept.type_index) n (filter (λ (kept : Indexed). is_some kept.next) now)
    ∙ (λ i. count_came past (key_type_once n w first i) + behind i)
    ∙ sym (sum_by-cons (λ (kept : Indexed). count_came past kept.type_index) w was)
  where
    some : (found : Option KeyMap) → IsSomeAnd found (AreKeysOf schemas table n.type_index n.paths) → is_some found ≡ true
    some None h = absurd h
    some (Some keys) h = refl
