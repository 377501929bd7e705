-- The rows of a producer, seen through a model that grows its own: where they stand, and that they are again the rows of a producer.
use Rattle.std.proofs.Common.{◌≡◌, ◌∷◌, ◌<◌, ◌≤◌, ◌+◌, ◌⊎◌, ◌↔◌, ℕ, List, [], arith, length, Option, Some, None, option_map, inl, inr, refl, sym, ap, subst, ◌∙◌, slice_get, get_or, append-nil, IsTrue}
use Rattle.std.specs.Prelude.{IsSome, nat_eq, option_and_then}
use Rattle.std.specs.FinMap.{empty, get, get-empty}
use Rattle.std.specs.Ordering.{nat_cmp}
use Rattle.std.proofs.lemmas.Bool.{cases_lt}
use Rattle.std.proofs.lemmas.Bool.Decides.{Decides-eqb}
use Rattle.std.proofs.lemmas.List.{length-append}
use Rattle.std.proofs.lemmas.Option.{same_Some, slice_get-get_or, slice_get_read, slice_get_within}
use Rattle.schema_model.specs.declared.schema.Field.{Field}
use Rattle.schema_model.specs.declared.schema.Schema.{Schema}
use Rattle.schema_model.specs.declared.schema.Shape.{Shape}
use Rattle.schema_model.specs.declared.model.rule.Rule.TheVariants.{DuplicateName}
use Rattle.schema_model.specs.Growth.{AreInFront, Grows, GrowsShape, GrowsType, ModelsAgree}
use Rattle.schema_model.specs.Parts.{index_of_type, shape_fields}
use Rattle.schema_growth.proofs.Growths.{fields_apart, grown_agrees, grown_index, name_there, one_of}
use Rattle.schema_model.proofs.ModelFacts.{index_at}
use Rattle.schema_model.proofs.Ways.{type_inside}
use Rattle.row_model.specs.declared.row.Row.{Row}
use Rattle.row_model.specs.Table.{IsBound, IsLive, Table, row_at}
use Rattle.row_model.specs.View.{seen_row}
use Rattle.row_model.proofs.RowsFrom.{get_in}
use Rattle.seen_rows.proofs.ViewClosed.{live_option, view_closed, view_table}
use Rattle.seen_rows.proofs.ViewOnce.{grown_there, view_once}
use Rattle.seen_rows.proofs.ViewPlaces.{none_seen}
use Rattle.seen_rows.proofs.Views.{own_row}
use Rattle.row_packing.specs.Written.{IsStored}
use Rattle.ordinal_map.specs.Assign.{Agree, Holds, IsPast}
use Rattle.ordinal_map.specs.States.{States}
use Rattle.ordinal_map.proofs.SetRows.{same_rows}
use Rattle.write_engine.specs.Agreement.{HoldsOnce}
use Rattle.write_engine.specs.Cycle.{no_rows, rows_in}
use Rattle.write_engine.specs.Grown.{HasStayed, MayGrow, padded_row, seen_of}
use Rattle.write_engine.specs.Production.{IsProducing, current_of, no_states, previous_of}
use Rattle.write_engine.specs.Restoring.{HasDistinctRows}
use Rattle.write_engine.specs.RestoredRows.{HasRowsBelow, HasRowsOf}
use Rattle.write_engine.specs.StoredRows.{AreStored}
use Rattle.write_engine.proofs.Duplicates.{once_distinct}
use Rattle.write_engine.proofs.GrownRows.{seen_padded}
use Rattle.write_engine.proofs.Producing.{count_types, restored_producing}
use Rattle.write_engine.proofs.RestoredTypes.{not_live, row_named}
use Rattle.write_engine.proofs.StateRows.{row_of, row_there}
use Rattle.write_engine.proofs.StoredRows.{seen_stored}

-- ---- a type that has grown, or stayed

no_type : Schema
no_type = record { name = []; shape = Shape.Set [] }

was_live : {X : Type 0} (f : X → X) (o : Option X) → IsSome (option_map f o) → IsSome o
was_live f None live = live
was_live f (Some x) live = refl

same_fields : (fields more : List Field) → AreInFront fields more → length more ≡ length fields → more ≡ fields
same_fields fields more ([], is) long = is ∙ append-nil fields
same_fields fields more (f ∷ rest, is) long = absurd (omega (arith, ap (λ (fs : List Field). length fs) is, long, length-append fields (f ∷ rest)))

-- a shape that has no more fields is the same
same_shape : (own mine : Shape) → GrowsShape own mine → length (shape_fields mine) ≡ length (shape_fields own) → mine ≡ own
same_shape (Shape.Object key fields) (Shape.Object mine_key more) grows long = λ i. Shape.Object (grows.0 i) (same_fields fields more grows.1 long i)
same_shape (Shape.Object key fields) (Shape.List element) grows long = grows
same_shape (Shape.Object key fields) (Shape.Set element) grows long = grows
same_shape (Shape.Object key fields) (Shape.Map from to) grows long = grows
same_shape (Shape.List element) mine grows long = grows
same_shape (Shape.Set element) mine grows long = grows
same_shape (Shape.Map from to) mine grows long = grows

module _ (own grown : List Schema) (t : ℕ) (schema other : Schema) (at : slice_get own t ≡ Some schema) (there : slice_get grown t ≡ Some other) where
  stays : GrowsType schema other → length (shape_fields other.shape) ≡ length (shape_fields schema.shape) → HasStayed own grown t
  stays grows long = record {
    known = slice_get_within own t schema at;
    same = there ∙ (λ i. Some (record { name = grows.named i; shape = same_shape schema.shape other.shape grows.shape long i })) ∙ sym at;
  }

  stayed : HasStayed own grown t → length (shape_fields other.shape) ≡ length (shape_fields schema.shape)
  stayed has = ap (λ (s : Schema). length (shape_fields s.shape)) (same_Some _ _ (sym there ∙ has.same ∙ at))

module _ (own grown : List Schema) (grows : Grows own grown) where
  -- the type of an index, and what it is in the grown model
  abbrev Both : ℕ → Type 0
  Both t = (schema : Schema) × (other : Schema) × (slice_get own t ≡ Some schema) × (slice_get grown t ≡ Some other) × GrowsType schema other

  both_at : (t : ℕ) → t < length own → Both t
  both_at t inside =
      let at : slice_get own t ≡ Some (get_or own t no_type) = slice_get-get_or own t no_type inside in
      let later = one_of (GrowsType (get_or own t no_type)) (slice_get grown t) (grows t (get_or own t no_type) at) in
      (get_or own t no_type, later.0, at, later.1, later.2)

  pub type_there : (t : ℕ) → t < length own → t < length grown
  type_there t inside = let both = both_at t inside in slice_get_within grown t both.1 both.3

  -- a type that has no more fields stays
  pub tells_stayed : (t : ℕ) (schema other : Schema) (fields more : List Field) → slice_get own t ≡ Some schema → slice_get grown t ≡ Some other → fields ≡ shape_fields schema.shape → more ≡ shape_fields other.shape
      → IsTrue (nat_eq (length more) (length fields)) ↔ HasStayed own grown t
  tells_stayed t schema other fields more at there is is_more =
      let later = one_of (GrowsType schema) (slice_get grown t) (grows t schema at) in
      let same : later.0 ≡ other = same_Some _ _ (sym later.1 ∙ there) in
      let decides = Decides-eqb (length more) (length fields) in
      let many : length fields ≡ length (shape_fields schema.shape) = ap (λ (fs : List Field). length fs) is in
      let many_more : length more ≡ length (shape_fields other.shape) = ap (λ (fs : List Field). length fs) is_more in (
        λ yes_it_is. stays own grown t schema other at there (subst (GrowsType schema) same later.2) (sym many_more ∙ decides.0 yes_it_is ∙ many),
        λ has. decides.1 (many_more ∙ stayed own grown t schema other at there has ∙ sym many),
      )

-- ---- all types

module _ (own grown : List Schema) (maps : List States) (may : MayGrow own grown maps) where
  abbrev table : Table
  table = previous_of maps

  abbrev seen : Table
  seen = seen_of own grown maps

  at_type : (t : ℕ) → t < length own → Both own grown may.grows t
  at_type t inside = both_at own grown may.grows t inside

  seen_at : (t : ℕ) (inside : t < length own) (o : ℕ) → row_at seen t o ≡ option_map (seen_row (at_type t inside).0.shape (at_type t inside).1.shape) (row_at table t o)
  seen_at t inside o = let both = at_type t inside in grown_there own grown table may.model may.grows t o both.0 both.1 both.2 both.3

  -- a type that is new has no rows
  new_type : (t : ℕ) (schema : Schema) → slice_get grown t ≡ Some schema → length own ≤ t → (found : Option ℕ) → index_of_type own schema.name ≡ found → found ≡ None
  new_type t schema there past None is = refl
  new_type t schema there past (Some w) is =
      let later : index_of_type grown schema.name ≡ Some w = grown_index own grown schema.name w (may.model DuplicateName) (may.grown_model DuplicateName) may.grows is in
      let here : index_of_type grown schema.name ≡ Some t = (index_at grown schema.name (may.grown_model DuplicateName) t).1 (name_there grown t schema there) in
      absurd (omega (arith, same_Some _ _ (sym later ∙ here), type_inside own schema.name w is, past))

  place_new : (t : ℕ) → length own ≤ t → (found : Option Schema) → slice_get grown t ≡ found → option_and_then (λ (s : Schema). index_of_type own s.name) found ≡ None
  place_new t past None there = refl
  place_new t past (Some schema) there = new_type t schema there past (index_of_type own schema.name) refl

  none_new : (t o : ℕ) → length own ≤ t → IsLive seen t o → ⊥
  none_new t o past live = none_seen own grown table t (place_new t past (slice_get grown t) refl) o live

  live_before : (t o : ℕ) → IsLive seen t o → IsLive table t o
  live_before t o live = elim (cases_lt t (length own)) [
    | inl inside ↦ (let both = at_type t inside in was_live (seen_row both.0.shape both.1.shape) (row_at table t o) (subst IsSome (seen_at t inside o) live))
    | inr past ↦ absurd (none_new t o past live)
  ]

  live_then : (t o : ℕ) → t < length own → IsLive table t o → IsLive seen t o
  live_then t o inside live = let both = at_type t inside in subst IsSome (sym (seen_at t inside o)) (live_option (seen_row both.0.shape both.1.shape) (row_at table t o) live)

  -- a row that is seen has null in each further field
  row_grows : (t o : ℕ) (row : Row) (other : Schema) → t < length own → slice_get grown t ≡ Some other → row_at table t o ≡ Some row → row_at seen t o ≡ Some (padded_row (length (shape_fields other.shape)) row)
  row_grows t o row other inside there at =
      let both = at_type t inside in
      let same : both.1 ≡ other = same_Some _ _ (sym both.3 ∙ there) in
      seen_at t inside o ∙ ap (option_map (seen_row both.0.shape both.1.shape)) at
      ∙ ap Some (seen_padded both.0.shape both.1.shape row both.4.shape (fields_apart grown t both.1 may.grown_model both.3) (may.producing.previous.fits.rows t o both.0 row both.2 at))
      ∙ ap (λ (s : Schema). Some (padded_row (length (shape_fields s.shape)) row)) same

  -- ---- a type's rows as they are read

  states_at : (t : ℕ) (s : States) → t < length own → s ≡ get_or maps t s → slice_get maps t ≡ Some s
  states_at t s inside is = slice_get_read maps (length own) t s (sym (count_types own maps may.producing)) inside is

  read_at : (t o : ℕ) (s : States) → t < length own → s ≡ get_or maps t s → row_at table t o ≡ get s.previous o
  read_at t o s inside is = row_of (λ (states : States). states.previous) maps t s o (states_at t s inside is)

  pub dead_seen : (t o : ℕ) (s : States) → t < length own → s ≡ get_or maps t s → (IsSome (get s.previous o) → ⊥) → IsLive seen t o → ⊥
  dead_seen t o s inside is dead live = dead (subst IsSome (read_at t o s inside is) (live_before t o live))

  pub row_read : (t o : ℕ) (s : States) (row grown_row : Row) (other : Schema) (fields : List Field) → t < length own → s ≡ get_or maps t s → Agree s.previous s.current → IsSome (get s.previous o) → Holds s.previous s.current row o
      → slice_get grown t ≡ Some other → fields ≡ shape_fields other.shape → grown_row ≡ padded_row (length fields) row → row_at seen t o ≡ Some grown_row
  row_read t o s row grown_row other fields inside is agree live holds there are padded =
      row_grows t o row other inside there (row_there (λ s. s.previous) maps t o s row (λ other here. inl here) (states_at t s inside is) agree (subst IsSome (sym (read_at t o s inside is)) live) holds)
      ∙ ap (λ (fs : List Field). Some (padded_row (length fs) row)) (sym are) ∙ ap Some (sym padded)

  -- ---- no row is seen twice

  live_row : (o : Option Row) → IsSome o → (row : Row) × (o ≡ Some row)
  live_row None live = absurd cc
  live_row (Some row) live = (row, refl)

  some_live : (o : Option Row) (row : Row) → o ≡ Some row → IsSome o
  some_live o row is = subst IsSome (sym is) refl

  seen_once : HoldsOnce seen
  seen_once = record {
    once = λ t a b row here there. one t a b row (sym (get_in seen t a) ∙ here) (sym (get_in seen t b) ∙ there);
    low = λ t o live. (may.producing.agree t).low o (inl (subst IsSome (sym (get_in table t o)) (live_before t o (subst IsSome (get_in seen t o) live))));
  }
    where
      one : (t a b : ℕ) (row : Row) → row_at seen t a ≡ Some row → row_at seen t b ≡ Some row → a ≡ b
      one t a b row here there =
          let same = view_once own grown table may.model may.grows may.producing.previous.fits t a b row here there in
          let stood = live_row (row_at table t a) (live_before t a (some_live (row_at seen t a) row here)) in
          (may.producing.agree t).one_ordinal stood.0 a b (inl (get_in table t a ∙ stood.1)) (inl (get_in table t b ∙ sym same ∙ stood.1))

  pub seen_distinct : (t : ℕ) → HasDistinctRows seen t
  seen_distinct t = once_distinct seen seen_once t

  -- a row that is seen stands under no other ordinal
  pub not_twice : (t o first : ℕ) (states : States) (row : Row) → HasRowsBelow seen t o states → row_at seen t o ≡ Some row → get states.previous first ≡ Some row → ⊥
  not_twice t o first states row has at here = seen_distinct t first o (row_named seen t o states row has at first here).equal

  -- ---- what the types have

  -- a type that stays has the rows that it had
  same_at : (t o : ℕ) → HasStayed own grown t → (row : Option Row) → row_at table t o ≡ row → row_at seen t o ≡ row
  same_at t o has None at =
      not_live (row_at seen t o) (λ live. let was = subst IsSome at (live_before t o live) in absurd cc)
  same_at t o has (Some row) at =
      let both = at_type t has.known in
      let same : both.1 ≡ both.0 = same_Some _ _ (sym both.3 ∙ has.same ∙ both.2) in
      seen_at t has.known o ∙ ap (option_map (seen_row both.0.shape both.1.shape)) at
      ∙ ap (λ (s : Schema). Some (seen_row both.0.shape s.shape row)) same
      ∙ ap Some (own_row both.0.shape row (may.producing.previous.fits.rows t o both.0 row both.2 at) (fields_apart own t both.0 may.model both.2))

  pub rows_stay : (t : ℕ) (states : States) → HasStayed own grown t → states.previous ≡ rows_in table t → states.current ≡ empty → HasRowsOf seen t states
  rows_stay t states has before now = record {
    previous = before ∙ same_rows (rows_in table t) (rows_in seen t) (λ q. get_in table t q ∙ sym (same_at t q has (row_at table t q) refl) ∙ sym (get_in seen t q));
    current = now;
    distinct = seen_distinct t;
  }

  pub rows_new : (t : ℕ) (states : States) → length own ≤ t → states ≡ no_states → HasRowsOf seen t states
  rows_new t states past is = record {
    previous = ap (λ (s : States). s.previous) is
        ∙ same_rows empty (rows_in seen t) (λ q. get-empty nat_cmp q ∙ sym (get_in seen t q ∙ not_live (row_at seen t q) (λ live. none_new t q past live)));
    current = ap (λ (s : States). s.current) is;
    distinct = seen_distinct t;
  }

  pub bound_seen : (t bound : ℕ) (s : States) → t < length own → s ≡ get_or maps t s → IsPast s.previous bound → IsBound seen t bound
  bound_seen t bound s inside at is = record {
    above = λ o live. is.above o (subst IsSome (read_at t o s inside at) (live_before t o live));
    least = of_least is.least;
  }
    where
      of_least : (bound ≡ 0) ⊎ ((o : ℕ) × (bound ≡ o + 1) × IsSome (get s.previous o)) → (bound ≡ 0) ⊎ ((o : ℕ) × (bound ≡ o + 1) × IsLive seen t o)
      of_least (inl none) = inl none
      of_least (inr (o, past, live)) = inr (o, past, live_then t o inside (subst IsSome (sym (read_at t o s inside at)) live))

  -- a blob can hold a row that is seen
  seen_is : (f : Row → Row) (o : Option Row) (row : Row) → ((r : Row) → IsStored r → IsStored (f r)) → ((r : Row) → o ≡ Some r → IsStored r) → option_map f o ≡ Some row → IsStored row
  seen_is f None row keeps each is = absurd cc
  seen_is f (Some r) row keeps each is = subst IsStored (same_Some _ _ is) (keeps r (each r refl))

  all_stored : AreStored seen
  all_stored t o row at = elim (cases_lt t (length own)) [
    | inl inside ↦ (let both = at_type t inside in
        seen_is (seen_row both.0.shape both.1.shape) (row_at table t o) row (seen_stored both.0.shape both.1.shape) (may.producing.stored_previous t o) (sym (seen_at t inside o) ∙ at))
    | inr past ↦ absurd (none_new t o past (some_live (row_at seen t o) row at))
  ]

  -- ---- a producer

  agrees : ModelsAgree own grown
  agrees = grown_agrees own grown may.grown_model may.grows

  pub grown_producing : (after : List States) → previous_of after ≡ seen → current_of after ≡ no_rows (length grown) → IsProducing grown after
  grown_producing after before now =
      let fits = may.producing.previous.fits in
      restored_producing grown seen after before now (view_table own grown table (may.model DuplicateName) fits agrees)
      (view_closed own grown table (may.model DuplicateName) fits agrees may.grown_model may.producing.previous.closed) seen_once all_stored
