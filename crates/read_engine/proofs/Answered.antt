-- What the indexes of a consumer answer of its rows, and where it stands with one more.
use Rattle.std.proofs.Common.{◌≡◌, ◌<◌, inr, ℕ, ℤ, List, [], ◌∷◌, ◌++◌, length, map, Option, Some, None, Result, Ok, Err, refl, sym, ap, ◌∙◌, subst, arith}
use Rattle.std.specs.Prelude.{All, IfOk, IsSome, IsSomeAnd, Contains, slice_get}
use Rattle.std.specs.declared.alloc.AllocError.{AllocError}
use Rattle.std.specs.FinMap.{get}
use Rattle.std.specs.Option.{option_map}
use Rattle.std.proofs.lemmas.List.{map-append, length-map, length-append}
use Rattle.std.proofs.lemmas.List.Elements.{All-append, All-cons, All-nil}
use Rattle.std.proofs.lemmas.Option.{get_or_from_slice_get, slice_get-map, slice_get_within}
use Rattle.schema_model.specs.declared.limit.Limit.TheVariants.{Indexes}
use Rattle.schema_model.specs.declared.model.path.Path.{Path}
use Rattle.row_model.specs.declared.row.Value.{Value}
use Rattle.schema_model.specs.declared.schema.Schema.{Schema}
use Rattle.row_model.specs.Key.{AreKeyed, AreMatches, IsResolved, key_of}
use Rattle.schema_model.specs.Limit.{number_of_limit}
use Rattle.row_model.specs.Table.{IsLive, Table}
use Rattle.type_state.specs.State.{State}
use Rattle.type_state.specs.Views.{table_of}
use Rattle.key_index.specs.Indexed.{AreKeysOf, AreUnder, CountsKeys, Indexed, IsIndexBy}
use Rattle.hol_paths.specs.Walked.{Walked}
use Rattle.row_model.specs.Before.{PastPart}
use Rattle.read_engine.specs.Indexes.{AddsIndex, CountsKeyed, index_by}
use Rattle.read_engine.specs.Kept.{IsKept, index_kept}
use Rattle.read_engine.specs.Position.{Index, IsIndexOf, Position, rows_now}
use Rattle.state_moves.specs.Halves.{current_halves}
use Rattle.read_engine.specs.Standing.{IsStanding, position_of}
use Rattle.read_engine.proofs.Follow.{key_at, keyed_live}

-- ---- answers

module _ (schemas : List Schema) (table : Table) (kept : Indexed) (is : IsKept schemas table kept) where
  abbrev pub t : ℕ
  t = kept.type_index

  key_is : (o : ℕ) → IsLive table t o → get kept.keys o ≡ Some (key_of schemas table t kept.paths o)
  key_is = key_at schemas table t kept.paths kept.keys is.keys

  -- the rows under a key
  pub are_matches : (key : List Value) (ordinals : List ℕ) → AreUnder kept.keys key ordinals → AreMatches schemas table t kept.paths key ordinals
  are_matches key ordinals under = record { rising = under.rising; are = λ o. (finds o, found o) }
    where
      finds : (o : ℕ) → Contains ordinals o → IsLive table t o × (key_of schemas table t kept.paths o ≡ Some key)
      finds o among =
          let at = (under.are o).0 among in
          let live = keyed_live schemas table t kept.paths kept.keys is.keys o (subst IsSome (sym at) refl) in
          let both : Some (key_of schemas table t kept.paths o) ≡ Some (Some key) = sym (key_is o live) ∙ at in
          (live, cc)

      found : (o : ℕ) → IsLive table t o × (key_of schemas table t kept.paths o ≡ Some key) → Contains ordinals o
      found o (live, same) = (under.are o).1 (key_is o live ∙ ap Some same)

  -- the rows that have a key
  pub are_keyed : (count : ℕ) → CountsKeys kept.keys count → (ordinals : List ℕ) × AreKeyed schemas table t kept.paths ordinals × (count ≡ length ordinals)
  are_keyed count (ordinals, rising, are, long) = (ordinals, record { rising = rising; are = λ o. (finds o, found o) }, long)
    where
      of_some : (o : ℕ) (some : Option (Option (List Value))) → get kept.keys o ≡ some → IsSomeAnd some (λ key. IsSome key) → IsLive table t o × IsSome (key_of schemas table t kept.paths o)
      of_some o None is h = absurd h
      of_some o (Some key) at h =
          let live = keyed_live schemas table t kept.paths kept.keys is.keys o (subst IsSome (sym at) refl) in
          let both : Some (key_of schemas table t kept.paths o) ≡ Some key = sym (key_is o live) ∙ at in
          let same : key ≡ key_of schemas table t kept.paths o = cc in
          (live, subst IsSome same h)

      finds : (o : ℕ) → Contains ordinals o → IsLive table t o × IsSome (key_of schemas table t kept.paths o)
      finds o among = of_some o (get kept.keys o) refl ((are o).0 among)

      found : (o : ℕ) → IsLive table t o × IsSome (key_of schemas table t kept.paths o) → Contains ordinals o
      found o (live, some) = (are o).1 (subst (λ (k : Option (Option (List Value))). IsSomeAnd k (λ key. IsSome key)) (sym (key_is o live)) some)

-- ---- an index by its number

module _ (tag : ℤ) (schemas : List Schema) (states : List State) (past : List PastPart) (indexes : List Indexed) (walks : List Walked) (stands : IsStanding tag schemas states past indexes walks) (n : ℕ) (kept : Indexed) (there : slice_get indexes n ≡ Some kept) where
  abbrev pub position : Position
  position = position_of tag schemas states past indexes walks

  is_kept : IsKept schemas (table_of (current_halves states)) kept
  is_kept = subst (IsKept schemas (table_of (current_halves states))) (get_or_from_slice_get indexes n kept kept there) (stands.indexes n kept (within_of there))
    where
      within_of : slice_get indexes n ≡ Some kept → n < length indexes
      within_of is = slice_get_within indexes n kept is

  index_there : slice_get position.indexes n ≡ Some (index_kept kept)
  index_there = slice_get-map index_kept indexes n ∙ ap (option_map index_kept) there

  pub counts_keyed : (count : ℕ) → CountsKeys kept.keys count → IsSomeAnd (slice_get position.indexes n) (λ index. CountsKeyed position index count)
  counts_keyed count counts = subst (λ (found : Option Index). IsSomeAnd found (λ index. CountsKeyed position index count)) (sym index_there) (are_keyed schemas (table_of (current_halves states)) kept is_kept count counts)

  matched : (key : List Value) (ordinals : List ℕ) → AreUnder kept.keys key ordinals → IsSomeAnd (slice_get position.indexes n) (λ index. AreMatches position.schemas (rows_now position) index.type_index index.paths key ordinals)
  matched key ordinals under =
      subst (λ (found : Option Index). IsSomeAnd found (λ index. AreMatches position.schemas (rows_now position) index.type_index index.paths key ordinals)) (sym index_there)
      (are_matches schemas (table_of (current_halves states)) kept is_kept key ordinals under)

  pub all_matched : (key : List Value) (answer : Result (List ℕ) AllocError) → IfOk answer (AreUnder kept.keys key)
      → IfOk answer (λ ordinals. IsSomeAnd (slice_get position.indexes n) (λ index. AreMatches position.schemas (rows_now position) index.type_index index.paths key ordinals))
  all_matched key (Ok ordinals) under = matched key ordinals under
  all_matched key (Err fault) under = tt

-- ---- one more index

module _ (tag : ℤ) (schemas : List Schema) (states : List State) (past : List PastPart) (indexes : List Indexed) (walks : List Walked) (stands : IsStanding tag schemas states past indexes walks) (kept : Indexed) (is : IsKept schemas (table_of (current_halves states)) kept)
    (few : length indexes < number_of_limit Indexes) where
  pub stands_with : IsStanding tag schemas states past (indexes ++ kept ∷ []) walks
  stands_with = record {
    named = stands.named;
    fits = stands.fits;
    position = record {
      model = stands.position.model;
      rows = stands.position.rows;
      closed = stands.position.closed;
      rows_before = stands.position.rows_before;
      closed_before = stands.position.closed_before;
      indexes = subst (All (IsIndexOf schemas)) (sym (map-append index_kept indexes (kept ∷ [])))
          (All-append (IsIndexOf schemas) (map index_kept indexes) (index_kept kept ∷ []) stands.position.indexes (All-cons (IsIndexOf schemas) (index_kept kept) [] is.of (All-nil (IsIndexOf schemas))));
      few = omega (arith, few, length-map (indexes ++ kept ∷ []) index_kept, length-append indexes (kept ∷ []));
      walks = stands.position.walks;
      few_walks = stands.position.few_walks;
    };
    indexes = All-append (IsKept schemas (table_of (current_halves states))) indexes (kept ∷ []) stands.indexes
        (All-cons (IsKept schemas (table_of (current_halves states))) kept [] is (All-nil (IsKept schemas (table_of (current_halves states)))));
    walks = stands.walks;
  }

pub last_there : {A : Type 0} (xs : List A) (x : A) → slice_get (xs ++ x ∷ []) (length xs) ≡ Some x
last_there [] x = refl
last_there (y ∷ xs) x = last_there xs x

-- the position with one more index
pub adds_index : (tag : ℤ) (schemas : List Schema) (states : List State) (past : List PastPart) (indexes : List Indexed) (walks : List Walked) (kept : Indexed) (index : Index) (now : List Indexed) (n : ℕ) → now ≡ indexes ++ kept ∷ [] → index_kept kept ≡ index
    → (Contains (map index_kept indexes) index → ⊥) → length indexes < number_of_limit Indexes → n ≡ length indexes → AddsIndex index (position_of tag schemas states past indexes walks) (position_of tag schemas states past now walks) n
adds_index tag schemas states past indexes walks kept index now n pushed is none few last =
    let long : length (map index_kept indexes) ≡ length indexes = length-map indexes index_kept in
    let after : map index_kept now ≡ map index_kept indexes ++ index ∷ [] = ap (map index_kept) pushed ∙ map-append index_kept indexes (kept ∷ []) ∙ ap (λ (one : Index). map index_kept indexes ++ one ∷ []) is in
    let at : n ≡ length (map index_kept indexes) = last ∙ sym long in (
      inr (none, omega (arith, few, long), after),
      (λ i. slice_get (after i) (at i)) ∙ last_there (map index_kept indexes) index,
      refl,
    )

-- an index that is made of the rows of a position
pub built : (now : Position) (schemas : List Schema) (table : Table) (t : ℕ) (paths : List Path) → schemas ≡ now.schemas → table ≡ rows_now now → t < length now.schemas → All (IsResolved now.schemas t) paths
    → (answer : Result Indexed AllocError) → IfOk answer (IsIndexBy schemas table t paths) → IfOk answer (λ index. index.next ≡ None) → IfOk answer (λ index. IsKept now.schemas (rows_now now) index × (index_kept index ≡ index_by t paths))
built now schemas table t paths of_model of_rows within resolved (Err fault) is none = tt
built now schemas table t paths of_model of_rows within resolved (Ok index) is none = (
  record {
    of = subst (IsIndexOf now.schemas) (sym same) record { type_there = within; resolved = resolved };
    keys = keys;
    none = none;
  },
  same,
)
  where
    same : index_kept index ≡ index_by t paths
    same = λ i. record { type_index = is.type_is i; paths = is.paths_are i }

    keys : AreKeysOf now.schemas (rows_now now) index.type_index index.paths index.keys
    keys =
        subst (λ (of : Index). AreKeysOf now.schemas (rows_now now) of.type_index of.paths index.keys) (sym same)
        (subst (λ (rows : Table). AreKeysOf now.schemas rows t paths index.keys) of_rows (subst (λ (s : List Schema). AreKeysOf s table t paths index.keys) of_model is.keys_are))
