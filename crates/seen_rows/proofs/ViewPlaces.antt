-- Where the rows stand that are seen through another model.
use Rattle.std.proofs.Common.{◌≡◌, ◌<◌, ◌+◌, ◌⊎◌, ℕ, List, Option, Result, Ok, Err, Some, None, length, inl, inr, option_map, refl, sym, ap, subst, ◌∙◌, slice_get, slice_index_or}
use Rattle.std.specs.Prelude.{IfOk, IsSome, option_and_then}
use Rattle.std.specs.FinMap.{get}
use Rattle.std.proofs.lemmas.Option.{get_or_from_slice_get, same_Some, slice_get-map, slice_get_within}
use Rattle.schema_model.proofs.Ways.{type_inside}
use Rattle.row_model.specs.declared.row.Row.{Row}
use Rattle.schema_model.specs.declared.schema.Schema.{Schema}
use Rattle.schema_model.specs.Parts.{index_of_type}
use Rattle.row_model.specs.Table.{Table, IsBound, IsLive, row_at}
use Rattle.row_model.specs.View.{place_in, seen_row, seen_type, view}
use Rattle.seen_rows.proofs.ViewClosed.{live_option, of_then, row_seen}

was_live : {X : Type 0} (f : X → X) (o : Option X) → IsSome (option_map f o) → IsSome o
was_live f None live = live
was_live f (Some x) live = refl

module _ (own mine : List Schema) (table : Table) (t : ℕ) where
  nothing : (found : Option Schema) → slice_get mine t ≡ found → option_and_then (λ (s : Schema). index_of_type own s.name) found ≡ None → (ordinal : ℕ) → row_at (view mine own table) t ordinal ≡ None
  nothing None at none ordinal = ap (option_and_then (λ rows. get rows ordinal)) (slice_get-map (seen_type own table) mine t ∙ ap (option_map (seen_type own table)) at)
  nothing (Some s) at none ordinal =
      row_seen own table mine t ordinal s at ∙ ap (option_and_then (λ u. option_map (seen_row (slice_index_or own u s).shape s.shape) (row_at table u ordinal))) none

  -- a type that the rows' model lacks has none
  pub none_seen : place_in own mine t ≡ None → (ordinal : ℕ) → IsLive (view mine own table) t ordinal → ⊥
  none_seen none ordinal live = let is : row_at (view mine own table) t ordinal ≡ None = nothing (slice_get mine t) refl none ordinal in let bad = subst IsSome is live in absurd cc

  module _ (u : ℕ) (is : place_in own mine t ≡ Some u) (ordinal : ℕ) where
    -- a row that is seen is that of the type's place
    pub place_seen : (s : Schema) × (slice_get mine t ≡ Some s) × (row_at (view mine own table) t ordinal ≡ option_map (seen_row (slice_index_or own u s).shape s.shape) (row_at table u ordinal))
    place_seen =
        let found = of_then (λ (s : Schema). index_of_type own s.name) (slice_get mine t) u is in (
          found.0,
          found.1,
          row_seen own table mine t ordinal found.0 found.1
              ∙ ap (option_and_then (λ w. option_map (seen_row (slice_index_or own w found.0).shape found.0.shape) (row_at table w ordinal))) found.2,
        )

    pub live_there : IsLive (view mine own table) t ordinal → IsLive table u ordinal
    live_there live = was_live (seen_row (slice_index_or own u place_seen.0).shape place_seen.0.shape) (row_at table u ordinal) (subst IsSome place_seen.2 live)

    pub live_here : IsLive table u ordinal → IsLive (view mine own table) t ordinal
    live_here live = subst IsSome (sym place_seen.2) (live_option (seen_row (slice_index_or own u place_seen.0).shape place_seen.0.shape) (row_at table u ordinal) live)

  pub bound_there : (u bound : ℕ) → place_in own mine t ≡ Some u → IsBound table u bound → IsBound (view mine own table) t bound
  bound_there u bound is bounds = record {
    above = λ ordinal live. bounds.above ordinal (live_there u is ordinal live);
    least = of_least bounds.least;
  }
    where
      of_least : (bound ≡ 0) ⊎ ((ordinal : ℕ) × (bound ≡ ordinal + 1) × IsLive table u ordinal) → (bound ≡ 0) ⊎ ((ordinal : ℕ) × (bound ≡ ordinal + 1) × IsLive (view mine own table) t ordinal)
      of_least (inl none) = inl none
      of_least (inr (ordinal, past, live)) = inr (ordinal, past, live_here u is ordinal live)

  pub bound_none : place_in own mine t ≡ None → IsBound (view mine own table) t 0
  bound_none none = record { above = λ ordinal live. absurd (none_seen none ordinal live); least = inl refl }

  module _ (u : ℕ) (is : place_in own mine t ≡ Some u) where
    pub place_below : u < length own
    place_below = let found = of_then (λ (s : Schema). index_of_type own s.name) (slice_get mine t) u is in type_inside own found.0.name u found.2

    pub type_below : t < length mine
    type_below = let found = of_then (λ (s : Schema). index_of_type own s.name) (slice_get mine t) u is in slice_get_within mine t found.0 found.1

    -- the row that is seen is the row that stands there, seen so
    pub row_there : (ordinal : ℕ) (schema other : Schema) (stored : Row) → slice_get own u ≡ Some schema → slice_get mine t ≡ Some other → row_at table u ordinal ≡ Some stored
        → row_at (view mine own table) t ordinal ≡ Some (seen_row schema.shape other.shape stored)
    row_there ordinal schema other stored at there is_stored =
        let seen = place_seen u is ordinal in
        let same : seen.0 ≡ other = same_Some _ _ (sym seen.1 ∙ there) in
        let own_is : slice_index_or own u seen.0 ≡ schema = get_or_from_slice_get own u schema seen.0 at in
        seen.2 ∙ ap (option_map (seen_row (slice_index_or own u seen.0).shape seen.0.shape)) is_stored ∙ (λ i. Some (seen_row (own_is i).shape (same i).shape stored))

pub ok_weaker : {T E : Type 0} (P Q : T → Type 0) (r : Result T E) → IfOk r P → ((x : T) → P x → Q x) → IfOk r Q
ok_weaker P Q (Ok x) holds weaker = weaker x holds
ok_weaker P Q (Err e) holds weaker = tt
