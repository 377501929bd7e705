-- The maps of all types: those that are made beside the old ones, and the old ones of the types that stay.
use Rattle.std.proofs.Common.{◌≡◌, ◌<◌, ◌≤◌, ◌+◌, ◌⊎◌, ℕ, zero, suc, List, [], ◌∷◌, ◌++◌, arith, length, Some, inl, inr, refl, sym, ap, ap₂, subst, ◌∙◌, slice_get, slice_set, get_or}
use Rattle.std.specs.FinMap.{empty}
use Rattle.std.proofs.lemmas.Bool.{cases_eq, cases_lt}
use Rattle.std.proofs.lemmas.List.{length-append, length-map}
use Rattle.std.proofs.lemmas.Option.{get_or_from_slice_get, same_Some, slice_get-get_or}
use Rattle.schema_model.specs.declared.schema.Schema.{Schema}
use Rattle.row_model.specs.Table.{Table}
use Rattle.row_model.specs.View.{seen_type}
use Rattle.ordinal_map.specs.States.{States}
use Rattle.write_engine.specs.Cycle.{no_rows, rows_in}
use Rattle.write_engine.specs.Grown.{AreFresh, AreKept, HasStayed, MayGrow, seen_of}
use Rattle.write_engine.specs.Production.{IsProducing, current_of, previous_of}
use Rattle.write_engine.specs.RestoredRows.{HasRowsOf}
use Rattle.write_engine.proofs.Filling.{none_at}
use Rattle.write_engine.proofs.GrownTypes.{grown_producing, rows_stay}
use Rattle.write_engine.proofs.Producing.{count_types}
use Rattle.write_engine.proofs.Puts.{rows_at}

-- ---- lists

at_push : (xs : List States) (x y : States) (t : ℕ) → slice_get (xs ++ x ∷ []) t ≡ Some y → (slice_get xs t ≡ Some y) ⊎ ((t ≡ length xs) × (x ≡ y))
at_push [] x y zero at = inr (refl, same_Some _ _ at)
at_push [] x y (suc t) at = absurd cc
at_push (z ∷ xs) x y zero at = inl at
at_push (z ∷ xs) x y (suc t) at = elim (at_push xs x y t at) [ inl there ↦ inl there | inr here ↦ inr (ap suc here.0, here.1) ]

set_there : (xs : List States) (k : ℕ) (x : States) → k < length xs → slice_get (slice_set xs k x) k ≡ Some x
set_there [] k x inside = absurd (omega (arith, inside))
set_there (z ∷ xs) zero x inside = refl
set_there (z ∷ xs) (suc k) x inside = set_there xs k x (omega (arith, inside))

set_beside : (xs : List States) (k t : ℕ) (x : States) → (t ≡ k → ⊥) → slice_get (slice_set xs k x) t ≡ slice_get xs t
set_beside [] k t x apart = refl
set_beside (z ∷ xs) zero zero x apart = absurd (apart refl)
set_beside (z ∷ xs) zero (suc t) x apart = refl
set_beside (z ∷ xs) (suc k) zero x apart = refl
set_beside (z ∷ xs) (suc k) (suc t) x apart = set_beside xs k t x (λ e. apart (ap suc e))

set_length : (xs : List States) (k : ℕ) (x : States) → length (slice_set xs k x) ≡ length xs
set_length [] k x = refl
set_length (z ∷ xs) zero x = refl
set_length (z ∷ xs) (suc k) x = ap suc (set_length xs k x)

all_previous : (fresh : List States) (table : Table) → length fresh ≡ length table → ((t : ℕ) (s : States) → slice_get fresh t ≡ Some s → s.previous ≡ rows_in table t) → previous_of fresh ≡ table
all_previous [] [] long each = refl
all_previous [] (rows ∷ table) long each = absurd (omega (arith, long))
all_previous (s ∷ fresh) [] long each = absurd (omega (arith, long))
all_previous (s ∷ fresh) (rows ∷ table) long each = ap₂ ◌∷◌ (each 0 s refl) (all_previous fresh table (omega (arith, long)) (λ t r at. each (suc t) r at))

all_current : (fresh : List States) → ((t : ℕ) (s : States) → slice_get fresh t ≡ Some s → s.current ≡ empty) → current_of fresh ≡ no_rows (length fresh)
all_current [] each = refl
all_current (s ∷ fresh) each = ap₂ ◌∷◌ (each 0 s refl) (all_current fresh (λ t r at. each (suc t) r at))

-- ---- the maps beside the old ones

module _ (own grown : List Schema) (maps : List States) where
  pub fresh_more : (k : ℕ) (fresh more : List States) (states : States) → AreFresh own grown maps fresh k → (¬ HasStayed own grown k → HasRowsOf (seen_of own grown maps) k states) → more ≡ fresh ++ states ∷ []
      → AreFresh own grown maps more (k + 1)
  fresh_more k fresh more states has of is = record {
    many = ap (λ (xs : List States). length xs) is ∙ omega (arith, has.many, length-append fresh (states ∷ []));
    rows = λ t s at not.
        (elim (at_push fresh states s t (sym (ap (λ (xs : List States). slice_get xs t) is) ∙ at)) [
          | inl there ↦ has.rows t s there not
          | inr here ↦
              (let place : k ≡ t = sym (here.0 ∙ has.many) in
              subst (λ n. HasRowsOf (seen_of own grown maps) n s) place
              (subst (λ r. HasRowsOf (seen_of own grown maps) k r) here.1 (of (λ stayed. not (subst (λ n. HasStayed own grown n) place stayed)))))
        ]);
  }

  -- ---- the old maps of the types that stay

  pub kept_start : (fresh : List States) → AreFresh own grown maps fresh (length grown) → AreKept own grown maps maps fresh 0
  kept_start fresh has = record {
    many = has.many;
    rows = λ t s at which. (elim which [ inl not ↦ has.rows t s at not | inr low ↦ absurd (omega (arith, low)) ]);
    all_left = refl;
    behind = λ t later. refl;
  }

  module _ (k : ℕ) (left fresh : List States) (has : AreKept own grown maps left fresh k) where
    -- what held of the types below holds of one more, where it holds of that one
    further : (t : ℕ) → (¬ HasStayed own grown t) ⊎ (t < k + 1) → (t ≡ k → ⊥) → (¬ HasStayed own grown t) ⊎ (t < k)
    further t (inl not) apart = inl not
    further t (inr low) apart = inr (omega (arith, low, apart))

    pub kept_skip : ¬ HasStayed own grown k → AreKept own grown maps left fresh (k + 1)
    kept_skip not = record {
      many = has.many;
      rows = λ t s at which.
          (elim (cases_eq t k) [
            | inl e ↦ has.rows t s at (inl (λ stayed. not (subst (λ n. HasStayed own grown n) e stayed)))
            | inr apart ↦ has.rows t s at (further t which apart)
          ]);
      all_left = has.all_left;
      behind = λ t later. has.behind t (omega (arith, later));
    }

    pub kept_swap : (old new : States) → MayGrow own grown maps → k < length own → k < length fresh → HasStayed own grown k → old ≡ get_or left k old → AreKept own grown maps (slice_set left k new) (slice_set fresh k old) (k + 1)
    kept_swap old new may inside below stayed is = record {
      many = set_length fresh k old ∙ has.many;
      rows = λ t s at which.
          (elim (cases_eq t k) [
            | inr apart ↦ has.rows t s (sym (set_beside fresh k t old apart) ∙ at) (further t which apart)
            | inl e ↦
                (let same : old ≡ s = same_Some _ _ (sym (set_there fresh k old below) ∙ ap (slice_get (slice_set fresh k old)) (sym e) ∙ at) in
                subst (λ n. HasRowsOf (seen_of own grown maps) n s) (sym e) (subst (λ r. HasRowsOf (seen_of own grown maps) k r) same had))
          ]);
      all_left = set_length left k new ∙ has.all_left;
      behind = λ t later. set_beside left k t new (λ e. omega (arith, later, e)) ∙ has.behind t (omega (arith, later));
    }
      where
        many : length maps ≡ length own
        many = count_types own maps may.producing

        within : k < length left
        within = omega (arith, inside, many, has.all_left)

        -- the map that is taken is the type's old one
        stood : old ≡ get_or maps k old
        stood = sym (get_or_from_slice_get maps k old old (sym (has.behind k (omega arith)) ∙ slice_get-get_or left k old within ∙ ap Some (sym is)))

        had : HasRowsOf (seen_of own grown maps) k old
        had =
            rows_stay own grown maps may k old stayed (ap (λ (s : States). s.previous) stood ∙ sym (rows_at (λ s. s.previous) maps k old (omega (arith, inside, many))))
            (none_at maps k old (may.none ∙ ap no_rows (sym many)) (omega (arith, inside, many)) stood)

    module _ (past : length own ≤ k) where
      all_rows : (t : ℕ) (s : States) → slice_get fresh t ≡ Some s → HasRowsOf (seen_of own grown maps) t s
      all_rows t s at = has.rows t s at (elim (cases_lt t k) [ inl low ↦ inr low | inr high ↦ inl (λ stayed. omega (arith, stayed.known, high, past)) ])

      pub kept_previous : previous_of fresh ≡ seen_of own grown maps
      kept_previous = all_previous fresh (seen_of own grown maps) (has.many ∙ sym (length-map grown (seen_type own (previous_of maps)))) (λ t s at. (all_rows t s at).previous)

      pub kept_current : current_of fresh ≡ no_rows (length grown)
      kept_current = all_current fresh (λ t s at. (all_rows t s at).current) ∙ ap no_rows has.many

      pub kept_producing : MayGrow own grown maps → IsProducing grown fresh
      kept_producing may = grown_producing own grown maps may fresh kept_previous kept_current
