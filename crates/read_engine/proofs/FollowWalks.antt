-- The rows that come follow the entries of a walk index, and what is reserved becomes its entries.
use Rattle.std.proofs.Common.{◌≡◌, ◌⊎◌, inl, inr, ℕ, List, [], ◌∷◌, Bool, true, false, cond, map, Option, Some, None, Result, Ok, Err, refl, sym, ap, ◌∙◌, subst}
use Rattle.std.specs.Prelude.{All, IsSome, IsSomeAnd, IsTrue, OnErr, OnOk, filter, is_some, unwrap_or}
use Rattle.std.specs.List.{AllZip}
use Rattle.std.proofs.lemmas.List.Elements.{All-cons, All-head, All-nil, All-tail}
use Rattle.hol_varint.specs.Yields.{Yields}
use Rattle.schema_model.specs.declared.model.walk_path.WalkPart.{WalkPart}
use Rattle.schema_model.specs.declared.model.walk_path.WalkPath.{WalkPath}
use Rattle.schema_model.specs.declared.schema.Schema.{Schema}
use Rattle.row_model.specs.Before.{FitsPast, PastPart, no_part, table_before}
use Rattle.row_model.specs.Reach.{AreEntries}
use Rattle.row_model.specs.Table.{IsClosed, IsTableOf, Table}
use Rattle.key_index.specs.Indexed.{HaveOneRow}
use Rattle.hol_paths.specs.declared.fault.WalkFault.{WalkFault}
use Rattle.hol_paths.specs.declared.fault.WalkFault.TheVariants as fault
use Rattle.hol_paths.specs.Walked.{Entry, FollowsWalk, HasManyEntries, IsFree, IsStepOf, Walked}
use Rattle.state_moves.proofs.Came.{one_row}
use Rattle.read_engine.specs.Kept.{FollowsWalkPart, IsWalkKept, IsWalkReady, has_walk_next, paths_of, walk_moved_on, walk_settled}
use Rattle.read_engine.specs.Position.{IsWalkOf}
use Rattle.read_engine.specs.Taken.{TakesWalks}
use Rattle.read_engine.specs.Walks.{AreThose, HasFewEntries}
use Rattle.read_engine.proofs.Those.{all_taken, taken_those}
use Rattle.read_engine.proofs.TypeSteps.{part, part_there, step_of}

abbrev pub WalkLaw : Type 0
WalkLaw = (schemas : List Schema) (old new : Table) (t : ℕ) (parts : List WalkPart) (entries : List Entry) (removed added : List ℕ) → IsTableOf schemas old → IsTableOf schemas new → IsClosed schemas old → IsClosed schemas new → HaveOneRow old new
    → IsStepOf old new t removed added → AreEntries schemas old t parts entries → FollowsWalk entries schemas new t parts removed added

module _ (law : WalkLaw) (schemas : List Schema) (old table : Table) (past : List PastPart) (fits : AllZip FitsPast table past) (before : table_before table past ≡ old) (of_old : IsTableOf schemas old) (of_new : IsTableOf schemas table)
    (closed_old : IsClosed schemas old) (closed_new : IsClosed schemas table) where
  pub follows_walk : (walked : Walked) → IsWalkKept schemas old walked → FollowsWalkPart schemas table past walked
  follows_walk walked kept =
      let t = walked.path.type_index in
      record {
        of = kept.of;
        part = part schemas old table past fits before of_new t kept.of.type_there;
        there = part_there schemas old table past fits before of_new t kept.of.type_there;
        follows = law schemas old table t walked.path.parts walked.entries _ _ of_old of_new closed_old closed_new
            (subst (λ (was : Table). HaveOneRow was table) before (one_row table past fits)) (step_of schemas old table past fits before of_new t kept.of.type_there) kept.entries;
      }

  pub all_follow_walks : (walks : List Walked) → All (IsWalkKept schemas old) walks → All (FollowsWalkPart schemas table past) walks
  all_follow_walks [] all = All-nil (FollowsWalkPart schemas table past)
  all_follow_walks (walked ∷ rest) all =
      All-cons (FollowsWalkPart schemas table past) walked rest (follows_walk walked (All-head (IsWalkKept schemas old) walked rest all)) (all_follow_walks rest (All-tail (IsWalkKept schemas old) walked rest all))

-- ---- what was reserved

-- what the answer to a reservation leaves
pub ready_walk : (schemas : List Schema) (table : Table) (old now : Walked) (answer : Result (Unit {0}) WalkFault) → walk_settled now ≡ walk_settled old
    → Yields IsFree answer (Err fault.Entries) (HasManyEntries schemas table old.path.type_index old.path.parts) → OnOk answer (IsSomeAnd now.next (AreEntries schemas table old.path.type_index old.path.parts)) → OnErr answer (now.next ≡ None)
    → (answer ≡ Err fault.Memory → ⊥) → IsWalkReady schemas table now
ready_walk schemas table old now (Ok done) same many reserved refused other =
    let path : now.path ≡ old.path = ap (λ (w : Walked). w.path) same in inl (
      subst (HasFewEntries schemas table) (sym path) (λ has. elim (many.1 has) [ inl wrong ↦ absurd cc | inr free ↦ absurd free ]),
      subst (λ (p : WalkPath). IsSomeAnd now.next (AreEntries schemas table p.type_index p.parts)) (sym path) reserved,
    )
ready_walk schemas table old now (Err fault.Entries) same many reserved refused other =
    let path : now.path ≡ old.path = ap (λ (w : Walked). w.path) same in
    inr (subst (λ (p : WalkPath). HasFewEntries schemas table p → ⊥) (sym path) (λ few. few (many.0 refl)), refused)
ready_walk schemas table old now (Err fault.Memory) same many reserved refused other = absurd (other refl)

-- a walk index whose reserved entries are its entries now
pub walk_moves_on : (old new : Walked) → old.next ≡ Some new.entries → new.path ≡ old.path → new.next ≡ None → new ≡ walk_moved_on old
walk_moves_on old new updated path_is none =
    let entries : new.entries ≡ unwrap_or old.next old.entries = sym (ap (λ found. unwrap_or found old.entries) updated) in
    λ i. record { path = path_is i; entries = entries i; next = none i }

-- with nothing reserved each is as it was
pub walks_settled : (schemas : List Schema) (table : Table) (walks : List Walked) → All (IsWalkKept schemas table) walks → map walk_settled walks ≡ walks
walks_settled schemas table [] kept = refl
walks_settled schemas table (w ∷ walks) kept =
    let none = (All-head (IsWalkKept schemas table) w walks kept).none in
    let rest = walks_settled schemas table walks (All-tail (IsWalkKept schemas table) w walks kept) in
    λ i. record { path = w.path; entries = w.entries; next = sym none i } ∷ rest i

-- they have the same paths
pub same_paths : (now was : List Walked) → map walk_settled now ≡ map walk_settled was → paths_of now ≡ paths_of was
same_paths [] [] same = refl
same_paths [] (w ∷ was) same = absurd cc
same_paths (n ∷ now) [] same = absurd cc
same_paths (n ∷ now) (w ∷ was) same =
    let first : walk_settled n ≡ walk_settled w = cc in
    let rest : map walk_settled now ≡ map walk_settled was = cc in
    let here : n.path ≡ w.path = ap (λ (walked : Walked). walked.path) first in
    let behind = same_paths now was rest in
    λ i. here i ∷ behind i

moved_paths : (walks : List Walked) → paths_of (map walk_moved_on walks) ≡ paths_of walks
moved_paths [] = refl
moved_paths (w ∷ walks) = ap (λ rest. w.path ∷ rest) (moved_paths walks)

module _ (schemas : List Schema) (table : Table) where
  -- each is of a path of the model
  of_all : (now was : List Walked) → paths_of now ≡ paths_of was → All (λ (w : Walked). IsWalkOf schemas w.path) was → All (λ (w : Walked). IsWalkOf schemas w.path) now
  of_all [] was same all = All-nil (λ (w : Walked). IsWalkOf schemas w.path)
  of_all (n ∷ now) [] same all = absurd cc
  of_all (n ∷ now) (w ∷ was) same all =
      let first : n.path ≡ w.path = cc in
      let rest : paths_of now ≡ paths_of was = cc in
      All-cons (λ (w : Walked). IsWalkOf schemas w.path) n now (subst (IsWalkOf schemas) (sym first) (All-head (λ (w : Walked). IsWalkOf schemas w.path) w was all))
      (of_all now was rest (All-tail (λ (w : Walked). IsWalkOf schemas w.path) w was all))

  kept_of : (old : Table) (was : List Walked) → All (IsWalkKept schemas old) was → All (λ (w : Walked). IsWalkOf schemas w.path) was
  kept_of old [] all = All-nil (λ (w : Walked). IsWalkOf schemas w.path)
  kept_of old (w ∷ was) all = All-cons (λ (w : Walked). IsWalkOf schemas w.path) w was (All-head (IsWalkKept schemas old) w was all).of (kept_of old was (All-tail (IsWalkKept schemas old) w was all))

  -- one that is ready is taken exactly where it may be kept
  told : (walked : Walked) → IsWalkReady schemas table walked → (HasFewEntries schemas table walked.path × IsTrue (has_walk_next walked)) ⊎ ((HasFewEntries schemas table walked.path → ⊥) × (has_walk_next walked ≡ false))
  told walked (inl (few, some)) = inl (few, by (AreEntries schemas table walked.path.type_index walked.path.parts) walked.next some)
    where
      by : {A : Type 0} (P : A → Type 0) (found : Option A) → IsSomeAnd found P → IsTrue (is_some found)
      by P None h = absurd h
      by P (Some x) h = refl
  told walked (inr (many, none)) = inr (many, ap (λ found. is_some found) none)

  all_told : (walks : List Walked) → All (IsWalkReady schemas table) walks
      → All (λ (w : Walked). (HasFewEntries schemas table w.path × IsTrue (has_walk_next w)) ⊎ ((HasFewEntries schemas table w.path → ⊥) × (has_walk_next w ≡ false))) walks
  all_told [] all = All-nil (λ (w : Walked). (HasFewEntries schemas table w.path × IsTrue (has_walk_next w)) ⊎ ((HasFewEntries schemas table w.path → ⊥) × (has_walk_next w ≡ false)))
  all_told (w ∷ walks) all =
      All-cons (λ (w : Walked). (HasFewEntries schemas table w.path × IsTrue (has_walk_next w)) ⊎ ((HasFewEntries schemas table w.path → ⊥) × (has_walk_next w ≡ false))) w walks
      (told w (All-head (IsWalkReady schemas table) w walks all)) (all_told walks (All-tail (IsWalkReady schemas table) w walks all))

  -- one that is turned is one of the rows that came
  moved_walk : (walked : Walked) → IsWalkOf schemas walked.path → IsWalkReady schemas table walked → IsTrue (has_walk_next walked) → IsWalkKept schemas table (walk_moved_on walked)
  moved_walk walked of (inl (few, some)) takes = record { of = of; entries = from walked.next some; none = refl }
    where
      from : (found : Option (List Entry)) → IsSomeAnd found (AreEntries schemas table walked.path.type_index walked.path.parts) → AreEntries schemas table walked.path.type_index walked.path.parts (unwrap_or found walked.entries)
      from None h = absurd h
      from (Some entries) h = h
  moved_walk walked of (inr (many, none)) takes = let no : is_some walked.next ≡ false = ap (λ found. is_some found) none in absurd cc

  turned_kept : (walks : List Walked) → All (λ (w : Walked). IsWalkOf schemas w.path) walks → All (IsWalkReady schemas table) walks → All (IsWalkKept schemas table) (map walk_moved_on (filter has_walk_next walks))
  turned_kept [] of ready = All-nil (IsWalkKept schemas table)
  turned_kept (w ∷ walks) of ready =
      by (turned_kept walks (All-tail (λ (w : Walked). IsWalkOf schemas w.path) w walks of) (All-tail (IsWalkReady schemas table) w walks ready)) (has_walk_next w) refl
    where
      by : All (IsWalkKept schemas table) (map walk_moved_on (filter has_walk_next walks)) → (b : Bool) → has_walk_next w ≡ b
          → All (IsWalkKept schemas table) (map walk_moved_on (cond b (w ∷ filter has_walk_next walks) (filter has_walk_next walks)))
      by rest true takes =
          All-cons (IsWalkKept schemas table) (walk_moved_on w) (map walk_moved_on (filter has_walk_next walks))
          (moved_walk w (All-head (λ (w : Walked). IsWalkOf schemas w.path) w walks of) (All-head (IsWalkReady schemas table) w walks ready) takes) rest
      by rest false leaves = rest

  -- what a step makes of the walk indexes
  pub takes_walks : (old : Table) (now was : List Walked) → map walk_settled now ≡ map walk_settled was → All (IsWalkReady schemas table) now → All (IsWalkKept schemas old) was
      → TakesWalks schemas table was (map walk_moved_on (filter has_walk_next now))
  takes_walks old now was same ready kept =
      let paths = same_paths now was same in
      let few = taken_those (HasFewEntries schemas table) (λ (w : Walked). w.path) has_walk_next now (all_told now ready) in
      record {
        kept = turned_kept now (of_all now was paths (kept_of old was kept)) ready;
        keeps = subst (λ (before : List WalkPath). AreThose (HasFewEntries schemas table) before (paths_of (map walk_moved_on (filter has_walk_next now)))) paths
            (subst (AreThose (HasFewEntries schemas table) (paths_of now)) (sym (moved_paths (filter has_walk_next now))) few);
      }
