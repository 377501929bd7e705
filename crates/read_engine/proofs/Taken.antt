-- What a step takes and leaves.
use Rattle.std.proofs.Common.{◌≡◌, ◌≤◌, ◌<◌, ◌+◌, ◌⊎◌, inl, inr, ℕ, ℤ, Bool, List, [], ◌++◌, length, map, Result, Ok, Err, refl, sym, ap, ◌∙◌, subst, arith}
use Rattle.std.specs.Prelude.{All, IfErr, IsErrAnd, OnErr}
use Rattle.std.specs.List.{AllZip}
use Rattle.schema_model.specs.declared.schema.Schema.{Schema}
use Rattle.schema_model.specs.declared.limit.Limit.TheVariants.{Indexes}
use Rattle.schema_model.specs.Limit.{number_of_limit}
use Rattle.row_model.specs.Table.{IsClosed, IsTableOf, Table}
use Rattle.type_state.specs.State.{Half, State}
use Rattle.type_state.specs.Views.{table_of}
use Rattle.delta_blob.specs.declared.patch.PatchPart.{PatchPart}
use Rattle.schema_model.specs.declared.model.walk_path.WalkPath.{WalkPath}
use Rattle.key_index.specs.Indexed.{Indexed}
use Rattle.hol_paths.specs.Walked.{Walked}
use Rattle.row_model.specs.Before.{FitsPast, PastPart, table_before}
use Rattle.read_engine.specs.Indexes.{CountsNew, CountsStep}
use Rattle.state_moves.specs.Moving.{MovesParts, StaysCurrent, coming_halves}
use Rattle.read_engine.specs.Taken.{CountsTaken, IsTaken, ReadsSome, TakesParts, TakesWalks}
use Rattle.read_engine.specs.Walks.{HasFewEntries, KeepsWalks}
use Rattle.read_engine.specs.Kept.{FollowsPart, FollowsWalkPart, IsKept, IsWalkKept, came_all, index_kept, paths_of}
use Rattle.read_engine.specs.Position.{Index, IsIndexOf, IsPosition, IsWalkOf, Position, rows_now}
use Rattle.state_moves.specs.Halves.{current_halves}
use Rattle.read_engine.specs.Standing.{IsStanding, position_of}
use Rattle.read_engine.proofs.Counted.{counts_new}
use Rattle.read_engine.proofs.Follow.{KeyLaw, all_follow}
use Rattle.read_engine.proofs.FollowWalks.{WalkLaw, all_follow_walks}
use Rattle.read_engine.proofs.Those.{those_all, those_few}

-- ---- exits

pub on_err : {T E : Type 0} (r : Result T E) (P : Type 0) → P → OnErr r P
on_err (Ok x) P p = tt
on_err (Err e) P p = p

pub err_exit : {T E : Type 0} (r : Result T E) (P : E → Type 0) (e : E) → IsErrAnd r (λ fault. fault ≡ e) → P e → IfErr r P
err_exit (Ok x) P e is p = absurd is
err_exit (Err fault) P e is p = subst P (sym is) p

-- ---- before the moves

-- the rows that come follow each index
pub all_ready : KeyLaw → (schemas : List Schema) (parts : List PatchPart) (before states : List State) (named : List Bool) (past : List PastPart) → MovesParts schemas parts before states named past
    → IsTableOf schemas (table_of (current_halves before)) → IsClosed schemas (table_of (current_halves before))
    → (indexes : List Indexed) → All (IsKept schemas (table_of (current_halves before))) indexes → All (FollowsPart schemas (table_of (coming_halves states named)) past) indexes
all_ready law schemas parts before states named past moves was closed indexes kept =
    all_follow law schemas (table_of (current_halves before)) (table_of (coming_halves states named)) past moves.fits moves.was was moves.coming.fits closed moves.closed indexes kept

pub walks_ready : WalkLaw → (schemas : List Schema) (parts : List PatchPart) (before states : List State) (named : List Bool) (past : List PastPart) → MovesParts schemas parts before states named past
    → IsTableOf schemas (table_of (current_halves before)) → IsClosed schemas (table_of (current_halves before))
    → (walks : List Walked) → All (IsWalkKept schemas (table_of (current_halves before))) walks → All (FollowsWalkPart schemas (table_of (coming_halves states named)) past) walks
walks_ready law schemas parts before states named past moves was closed walks kept =
    all_follow_walks law schemas (table_of (current_halves before)) (table_of (coming_halves states named)) past moves.fits moves.was was moves.coming.fits closed moves.closed walks kept

-- where it stands if the current halves stay
pub stands_still : (tag : ℤ) (schemas : List Schema) (before states : List State) (past : List PastPart) (indexes : List Indexed) (walks : List Walked) → IsStanding tag schemas before past indexes walks → StaysCurrent before states → IsStanding tag schemas states past indexes walks
stands_still tag schemas before states past indexes walks stands stays =
    let still = sym stays.halves in
    record {
      named = stays.schemas ∙ stands.named;
      fits = subst (λ (halves : List Half). AllZip FitsPast (table_of halves) past) still stands.fits;
      position = subst (λ (halves : List Half). IsPosition record { tag = tag; schemas = schemas; halves = halves; before = table_before (table_of halves) past; indexes = map index_kept indexes; walks = paths_of walks }) still stands.position;
      indexes = subst (λ (halves : List Half). All (IsKept schemas (table_of halves)) indexes) still stands.indexes;
      walks = subst (λ (halves : List Half). All (IsWalkKept schemas (table_of halves)) walks) still stands.walks;
    }

-- ---- behind them

module _ (tag other : ℤ) (schemas : List Schema) (parts : List PatchPart) (before after : List State) (kept past : List PastPart) (indexes moved : List Indexed) (walks moved_walks : List Walked) (stands : IsStanding other schemas before kept indexes walks) (takes : TakesParts schemas parts before after past)
    (same : map index_kept moved ≡ map index_kept indexes) (follow : All (IsKept schemas (table_of (current_halves after))) moved)
    (walked : TakesWalks schemas (table_of (current_halves after)) walks moved_walks) where
  here : table_of (current_halves after) ≡ table_of (coming_halves takes.mid takes.named)
  here = ap table_of takes.halves

  before_is : table_before (table_of (current_halves after)) past ≡ table_of (current_halves before)
  before_is = ap (λ (table : Table). table_before table past) here ∙ takes.moves.was

  pub stands_after : IsStanding tag schemas after past moved moved_walks
  stands_after = record {
    named = takes.same ∙ stands.named;
    fits = subst (λ (table : Table). AllZip FitsPast table past) (sym here) takes.moves.fits;
    position = record {
      model = stands.position.model;
      rows = subst (IsTableOf schemas) (sym here) takes.moves.coming.fits;
      closed = subst (IsClosed schemas) (sym here) takes.moves.closed;
      rows_before = subst (IsTableOf schemas) (sym before_is) stands.position.rows;
      closed_before = subst (IsClosed schemas) (sym before_is) stands.position.closed;
      indexes = subst (All (IsIndexOf schemas)) (sym same) stands.position.indexes;
      few = subst (λ (xs : List Index). length xs ≤ number_of_limit Indexes) (sym same) stands.position.few;
      walks = those_all (HasFewEntries schemas (table_of (current_halves after))) (IsWalkOf schemas) (paths_of walks) (paths_of moved_walks) walked.keeps stands.position.walks;
      few_walks = let few = those_few (HasFewEntries schemas (table_of (current_halves after))) (paths_of walks) (paths_of moved_walks) walked.keeps in let all = stands.position.few_walks in omega (arith, few, all);
    };
    indexes = follow;
    walks = walked.kept;
  }

  pub is_taken : (from : Position) → position_of other schemas before kept indexes walks ≡ from → IsTaken tag parts from (position_of tag schemas after past moved moved_walks)
  is_taken from view = subst (λ (p : Position). IsTaken tag parts p (position_of tag schemas after past moved moved_walks)) view record {
    before = before;
    mid = takes.mid;
    named = takes.named;
    past = past;
    at = record { schemas = stands.named; halves = refl };
    moves = takes.moves;
    walks = paths_of moved_walks;
    keeps = subst (λ (table : Table). KeepsWalks schemas table (paths_of walks) (paths_of moved_walks)) here walked.keeps;
    is = λ i. record { tag = tag; schemas = schemas; halves = takes.halves i; before = before_is i; indexes = same i; walks = paths_of moved_walks };
  }

  within : All (λ (kept : Indexed). kept.type_index < length (table_of (current_halves after))) indexes
  within k d inside = let known = (stands.indexes k d inside).of.type_there in omega (arith, known, ap length here, takes.moves.coming.fits.types)

  walks_within : All (λ (w : Walked). w.path.type_index < length (table_of (current_halves after))) walks
  walks_within k d inside = let known = (stands.walks k d inside).of.type_there in omega (arith, known, ap length here, takes.moves.coming.fits.types)

  moved_within : All (λ (w : Walked). w.path.type_index < length (table_of (current_halves after))) moved_walks
  moved_within k d inside = let known = (walked.kept k d inside).of.type_there in omega (arith, known, ap length here, takes.moves.coming.fits.types)

  -- how many came, of each index
  pub counts_step : (was is : ℕ) → was + came_all past indexes moved_walks ≤ is → is ≤ was + came_all past indexes walks → (from : Position) → position_of other schemas before kept indexes walks ≡ from
      → CountsStep from (position_of tag schemas after past moved moved_walks) was is
  counts_step was is least most from view =
      let to : Position = position_of tag schemas after past moved moved_walks in
      let types : List Index → List Walked → List ℕ = λ xs ws. map (λ (i : Index). i.type_index) xs ++ map (λ (path : WalkPath). path.type_index) (paths_of ws) in
      subst (λ (p : Position). CountsStep p to was is) view (
        came_all past indexes moved_walks,
        came_all past indexes walks,
        subst (λ (xs : List Index). CountsNew to (types xs moved_walks) (came_all past indexes moved_walks)) (sym same) (counts_new to past stands_after.fits refl indexes moved_walks within moved_within),
        counts_new to past stands_after.fits refl indexes walks within walks_within,
        least,
        most,
      )

-- ---- where memory is refused

module _ (tag other : ℤ) (schemas : List Schema) (parts : List PatchPart) (before : List State) (kept : List PastPart) (indexes : List Indexed) (walks : List Walked) (stands : IsStanding other schemas before kept indexes walks) (was is : ℕ)
    (reads : ReadsSome schemas parts before indexes walks was is) where
  -- where the step would have led
  abbrev pub goes_to : Position
  goes_to = record { tag = tag; schemas = schemas; halves = coming_halves reads.mid reads.named; before = table_of (current_halves before); indexes = map index_kept indexes; walks = [] }

  inside : All (λ (kept : Indexed). kept.type_index < length (rows_now goes_to)) indexes
  inside k d within = let known = (stands.indexes k d within).of.type_there in omega (arith, known, reads.moves.coming.fits.types)

  walks_inside : All (λ (w : Walked). w.path.type_index < length (rows_now goes_to)) walks
  walks_inside k d within = let known = (stands.walks k d within).of.type_there in omega (arith, known, reads.moves.coming.fits.types)

  -- and what was counted of it
  pub counts_taken : (from : Position) → position_of other schemas before kept indexes walks ≡ from → CountsTaken tag parts from was is
  counts_taken from view = subst (λ (p : Position). CountsTaken tag parts p was is) view (
    goes_to,
    record {
      before = before;
      mid = reads.mid;
      named = reads.named;
      past = reads.past;
      at = record { schemas = stands.named; halves = refl };
      moves = reads.moves;
      walks = [];
      keeps = refl;
      is = refl;
    },
    (came_all reads.past indexes walks, counts_new goes_to reads.past reads.moves.fits (sym reads.moves.was) indexes walks inside walks_inside, reads.later, reads.most),
  )

-- nothing was counted, or what the step would count
pub part_counted : (tag other : ℤ) (schemas : List Schema) (parts : List PatchPart) (before : List State) (kept : List PastPart) (indexes : List Indexed) (walks : List Walked) → IsStanding other schemas before kept indexes walks → (was is : ℕ)
    → (is ≡ was) ⊎ ReadsSome schemas parts before indexes walks was is → (from : Position) → position_of other schemas before kept indexes walks ≡ from → (is ≡ was) ⊎ CountsTaken tag parts from was is
part_counted tag other schemas parts before kept indexes walks stands was is (inl same) from view = inl same
part_counted tag other schemas parts before kept indexes walks stands was is (inr reads) from view = inr (counts_taken tag other schemas parts before kept indexes walks stands was is reads from view)
