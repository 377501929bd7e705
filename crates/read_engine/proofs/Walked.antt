-- What the walk indexes of a consumer answer of its rows, and where it stands with one more.
use Rattle.std.proofs.Common.{◌≡◌, ◌<◌, inr, ℕ, ℤ, List, [], ◌∷◌, ◌++◌, length, map, Option, Some, None, Result, Ok, Err, refl, sym, ap, ◌∙◌, subst, arith}
use Rattle.std.specs.Prelude.{All, IfOk, IsSomeAnd, Contains, OnOk, slice_get}
use Rattle.std.specs.declared.alloc.AllocError.{AllocError}
use Rattle.std.specs.Option.{option_map}
use Rattle.std.proofs.lemmas.List.{map-append, length-map, length-append}
use Rattle.std.proofs.lemmas.List.Elements.{All-append, All-cons, All-nil}
use Rattle.std.proofs.lemmas.Option.{get_or_from_slice_get, slice_get-map, slice_get_within}
use Rattle.hol_varint.specs.Yields.{Yields}
use Rattle.schema_model.specs.Limit.{number_of_limit}
use Rattle.schema_model.specs.declared.limit.Limit.TheVariants.{Walks}
use Rattle.schema_model.specs.declared.model.walk_path.WalkPath.{WalkPath}
use Rattle.schema_model.specs.declared.schema.Schema.{Schema}
use Rattle.row_model.specs.Before.{PastPart}
use Rattle.row_model.specs.Reach.{AreEntries, AreWalked, AreWalkMatches, Reach}
use Rattle.row_model.specs.Table.{IsClosed, IsLive, Table}
use Rattle.row_model.specs.declared.row.Value.{Value}
use Rattle.type_state.specs.State.{State}
use Rattle.type_state.specs.Views.{table_of}
use Rattle.key_index.specs.Indexed.{CountsLive, Indexed}
use Rattle.hol_paths.specs.declared.fault.WalkFault.{WalkFault}
use Rattle.hol_paths.specs.declared.fault.WalkFault.TheVariants as fault
use Rattle.hol_paths.specs.Walked.{AreWith, CountsOwners, HasManyEntries, IsFree, IsWalkIndexOf, Walked}
use Rattle.state_moves.specs.Halves.{current_halves}
use Rattle.read_engine.specs.Kept.{IsWalkKept, paths_of}
use Rattle.read_engine.specs.Position.{IsWalkOf, Position, rows_now}
use Rattle.read_engine.specs.Standing.{HasParts, IsStanding, position_of, stands_at}
use Rattle.read_engine.specs.Walks.{AddsWalk, CountsWalked}
use Rattle.read_engine.proofs.Answered.{last_there}
use Rattle.read_engine.proofs.RisingOf.{rising_of}

-- ---- answers

module _ (schemas : List Schema) (table : Table) (walked : Walked) (is : IsWalkKept schemas table walked) where
  abbrev pub t : ℕ
  t = walked.path.type_index

  -- the rows that reach a value
  are_matches : (value : Value) (ordinals : List ℕ) → AreWith walked.entries value ordinals → AreWalkMatches schemas table t walked.path.parts value ordinals
  are_matches value ordinals found = record {
    rising = found.rising;
    are = λ o. (λ among. (is.entries.are o value).0 ((found.are o).0 among), λ reaches. (found.are o).1 ((is.entries.are o value).1 reaches));
  }

-- ---- a walk index by its number

module _ (tag : ℤ) (schemas : List Schema) (states : List State) (past : List PastPart) (indexes : List Indexed) (walks : List Walked) (stands : IsStanding tag schemas states past indexes walks) (n : ℕ) (walked : Walked) (there : slice_get walks n ≡ Some walked) where
  abbrev pub position : Position
  position = position_of tag schemas states past indexes walks

  is_kept : IsWalkKept schemas (table_of (current_halves states)) walked
  is_kept = subst (IsWalkKept schemas (table_of (current_halves states))) (get_or_from_slice_get walks n walked walked there) (stands.walks n walked (within_of there))
    where
      within_of : slice_get walks n ≡ Some walked → n < length walks
      within_of is = slice_get_within walks n walked is

  walk_there : slice_get position.walks n ≡ Some walked.path
  walk_there = slice_get-map (λ (w : Walked). w.path) walks n ∙ ap (option_map (λ (w : Walked). w.path)) there

  matched : (value : Value) (ordinals : List ℕ) → AreWith walked.entries value ordinals
      → IsSomeAnd (slice_get position.walks n) (λ path. AreWalkMatches position.schemas (rows_now position) path.type_index path.parts value ordinals)
  matched value ordinals found =
      subst (λ (path : Option WalkPath). IsSomeAnd path (λ path. AreWalkMatches position.schemas (rows_now position) path.type_index path.parts value ordinals)) (sym walk_there)
      (are_matches schemas (table_of (current_halves states)) walked is_kept value ordinals found)

  pub walks_matched : (value : Value) (answer : Result (List ℕ) AllocError) → IfOk answer (AreWith walked.entries value)
      → IfOk answer (λ ordinals. IsSomeAnd (slice_get position.walks n) (λ path. AreWalkMatches position.schemas (rows_now position) path.type_index path.parts value ordinals))
  walks_matched value (Ok ordinals) found = matched value ordinals found
  walks_matched value (Err e) found = tt

  pub counts_walked : (count : ℕ) → CountsOwners walked.entries count → IsSomeAnd (slice_get position.walks n) (λ path. CountsWalked position path count)
  counts_walked count (ordinals, apart, are, long) =
      let (ys, rise, has, same) = rising_of ordinals apart in
      subst (λ (path : Option WalkPath). IsSomeAnd path (λ path. CountsWalked position path count)) (sym walk_there) (
        ys,
        record {
          rising = rise;
          are = λ o. (
            λ among. let (value, entry) = (are o).0 ((has o).0 among) in let (live, reach) = (is_kept.entries.are o value).0 entry in (live, value, reach),
            λ reaches. let (live, value, reach) = reaches in (has o).1 ((are o).1 (value, (is_kept.entries.are o value).1 (live, reach))),
          );
        },
        long ∙ sym same,
      )

-- ---- one more walk index

module _ (tag : ℤ) (schemas : List Schema) (states : List State) (past : List PastPart) (indexes : List Indexed) (walks : List Walked) (stands : IsStanding tag schemas states past indexes walks) (walked : Walked)
    (is : IsWalkKept schemas (table_of (current_halves states)) walked) (few : length walks < number_of_limit Walks) where
  pub stands_walking : IsStanding tag schemas states past indexes (walks ++ walked ∷ [])
  stands_walking = record {
    named = stands.named;
    fits = stands.fits;
    position = record {
      model = stands.position.model;
      rows = stands.position.rows;
      closed = stands.position.closed;
      rows_before = stands.position.rows_before;
      closed_before = stands.position.closed_before;
      indexes = stands.position.indexes;
      few = stands.position.few;
      walks = subst (All (IsWalkOf schemas)) (sym (map-append (λ (w : Walked). w.path) walks (walked ∷ [])))
          (All-append (IsWalkOf schemas) (paths_of walks) (walked.path ∷ []) stands.position.walks (All-cons (IsWalkOf schemas) walked.path [] is.of (All-nil (IsWalkOf schemas))));
      few_walks = omega (arith, few, length-map (walks ++ walked ∷ []) (λ (w : Walked). w.path), length-append walks (walked ∷ []));
    };
    indexes = stands.indexes;
    walks = All-append (IsWalkKept schemas (table_of (current_halves states))) walks (walked ∷ []) stands.walks
        (All-cons (IsWalkKept schemas (table_of (current_halves states))) walked [] is (All-nil (IsWalkKept schemas (table_of (current_halves states)))));
  }

-- the position with one more
adds_walk : (tag : ℤ) (schemas : List Schema) (states : List State) (past : List PastPart) (indexes : List Indexed) (walks : List Walked) (walked : Walked) (path : WalkPath) (now : List Walked) (n : ℕ) → now ≡ walks ++ walked ∷ []
    → walked.path ≡ path → (Contains (paths_of walks) path → ⊥) → length walks < number_of_limit Walks → n ≡ length walks
    → AddsWalk path (position_of tag schemas states past indexes walks) (position_of tag schemas states past indexes now) n
adds_walk tag schemas states past indexes walks walked path now n pushed is none few last =
    let long : length (paths_of walks) ≡ length walks = length-map walks (λ (w : Walked). w.path) in
    let after : paths_of now ≡ paths_of walks ++ path ∷ [] = ap paths_of pushed ∙ map-append (λ (w : Walked). w.path) walks (walked ∷ []) ∙ ap (λ (one : WalkPath). paths_of walks ++ one ∷ []) is in
    let at : n ≡ length (paths_of walks) = last ∙ sym long in (
      inr (none, omega (arith, few, long), after),
      (λ i. slice_get (after i) (at i)) ∙ last_there (paths_of walks) path,
      refl,
    )

module _ (tag : Option ℤ) (schemas : List Schema) (states : List State) (past : List PastPart) (indexes : List Indexed) (walks : List Walked) (has : HasParts tag schemas states past indexes walks) (now : Option Position)
    (view : stands_at tag schemas states past indexes walks ≡ now) (path : WalkPath) (none : IsSomeAnd now (λ position. Contains position.walks path → ⊥)) where
  module _ (walked : Walked) (is : IsSomeAnd now (λ position. IsWalkKept position.schemas (rows_now position) walked × (walked.path ≡ path))) (few : length walks < number_of_limit Walks) (after : List Walked)
      (pushed : after ≡ walks ++ walked ∷ []) where
    pub has_walk : HasParts tag schemas states past indexes after
    has_walk = subst (HasParts tag schemas states past indexes) (sym pushed)
        (of_tag tag has (subst (λ (n : Option Position). IsSomeAnd n (λ position. IsWalkKept position.schemas (rows_now position) walked × (walked.path ≡ path))) (sym view) is))
      where
        of_tag : (t : Option ℤ) → HasParts t schemas states past indexes walks → IsSomeAnd (stands_at t schemas states past indexes walks) (λ position. IsWalkKept position.schemas (rows_now position) walked × (walked.path ≡ path))
            → HasParts t schemas states past indexes (walks ++ walked ∷ [])
        of_tag None nothing kept_is = absurd kept_is
        of_tag (Some at) stands kept_is = stands_walking at schemas states past indexes walks stands walked kept_is.0 few

    pub walk_added : (number : ℕ) → number ≡ length walks → IsSomeAnd now (λ from. IsSomeAnd (stands_at tag schemas states past indexes after) (λ to. AddsWalk path from to number))
    walk_added number last =
        subst (λ (n : Option Position). IsSomeAnd n (λ from. IsSomeAnd (stands_at tag schemas states past indexes after) (λ to. AddsWalk path from to number))) view
        (of_tag tag (subst (λ (n : Option Position). IsSomeAnd n (λ position. Contains position.walks path → ⊥)) (sym view) none)
        (subst (λ (n : Option Position). IsSomeAnd n (λ position. IsWalkKept position.schemas (rows_now position) walked × (walked.path ≡ path))) (sym view) is))
      where
        of_tag : (t : Option ℤ) → IsSomeAnd (stands_at t schemas states past indexes walks) (λ position. Contains position.walks path → ⊥)
            → IsSomeAnd (stands_at t schemas states past indexes walks) (λ position. IsWalkKept position.schemas (rows_now position) walked × (walked.path ≡ path))
            → IsSomeAnd (stands_at t schemas states past indexes walks) (λ from. IsSomeAnd (stands_at t schemas states past indexes after) (λ to. AddsWalk path from to number))
        of_tag None absent kept_is = absurd absent
        of_tag (Some at) absent kept_is = adds_walk at schemas states past indexes walks walked path after number pushed kept_is.1 absent few last

-- ---- a walk index that is made of the rows of a position

module _ (path : WalkPath) (schemas : List Schema) (table : Table) where
  of_position : (at : Position) → at.schemas ≡ schemas → rows_now at ≡ table → IsWalkOf at.schemas path → (answer : Result Walked WalkFault) → IfOk answer (IsWalkIndexOf schemas table path) → IfOk answer (λ index. index.next ≡ None)
      → IfOk answer (λ index. IsWalkKept at.schemas (rows_now at) index × (index.path ≡ path))
  of_position at are is of (Err e) by none = tt
  of_position at are is of (Ok index) by none = (
    record {
      of = subst (IsWalkOf at.schemas) (sym by.path_is) of;
      entries =
          subst (λ (p : WalkPath). AreEntries at.schemas (rows_now at) p.type_index p.parts index.entries) (sym by.path_is)
          (subst (λ (rows : Table). AreEntries at.schemas rows path.type_index path.parts index.entries) (sym is) (subst (λ (s : List Schema). AreEntries s table path.type_index path.parts index.entries) (sym are) by.entries_are));
      none = none;
    },
    by.path_is,
  )

  pub walk_built : (now : Option Position) → IsSomeAnd now (λ position. position.schemas ≡ schemas) → IsSomeAnd now (λ position. rows_now position ≡ table) → IsSomeAnd now (λ position. IsWalkOf position.schemas path)
      → (answer : Result Walked WalkFault) → IfOk answer (IsWalkIndexOf schemas table path) → IfOk answer (λ index. index.next ≡ None)
      → IfOk answer (λ index. IsSomeAnd now (λ position. IsWalkKept position.schemas (rows_now position) index × (index.path ≡ path)))
  walk_built None are is of answer by none = absurd of
  walk_built (Some at) are is of answer by none = of_position at are is of answer by none

  pub walk_passes : (now : Option Position) → IsSomeAnd now (λ position. position.schemas ≡ schemas) → IsSomeAnd now (λ position. rows_now position ≡ table) → (answer : Result Walked WalkFault)
      → Yields IsFree answer (Err fault.Entries) (HasManyEntries schemas table path.type_index path.parts)
      → Yields IsFree answer (Err fault.Entries) (IsSomeAnd now (λ position. HasManyEntries position.schemas (rows_now position) path.type_index path.parts))
  walk_passes None are is answer yields = absurd are
  walk_passes (Some at) are is answer yields =
      subst (λ (rows : Table). Yields IsFree answer (Err fault.Entries) (HasManyEntries at.schemas rows path.type_index path.parts)) (sym is)
      (subst (λ (s : List Schema). Yields IsFree answer (Err fault.Entries) (HasManyEntries s table path.type_index path.parts)) (sym are) yields)

  pub walk_counts : {T E : Type 0} (now : Option Position) (t before after : ℕ) (answer : Result T E) → IsSomeAnd now (λ position. rows_now position ≡ table) → OnOk answer (CountsLive table t before after)
      → OnOk answer (IsSomeAnd now (λ position. CountsLive (rows_now position) t before after))
  walk_counts None t before after answer is counts = absurd is
  walk_counts (Some at) t before after answer is counts = subst (λ (rows : Table). OnOk answer (CountsLive rows t before after)) (sym is) counts
