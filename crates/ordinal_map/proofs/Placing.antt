-- A row comes to stand under a free ordinal, or a row that stands enters the current state.
use Rattle.std.proofs.Common.{◌≡◌, ℕ, zero, suc, ◌+◌, [], ◌∷◌, slice_set, ◌<◌, ◌≤◌, ◌^◌, cond, List, Option, Some, None, length, refl, sym, ap, subst, ◌∙◌, inl, inr, arith, ◌⊎◌}
use Rattle.std.specs.Prelude.{Contains, nat_eq, Ok, Err, IsSome, ◌↔◌, option_map}
use Rattle.std.specs.FinMap.{get, insert, empty, get-empty}
use Rattle.std.specs.Ordering.{nat_cmp}
use Rattle.std.proofs.lemmas.Bool.{cases_eq}
use Rattle.row_model.specs.declared.row.Row.{Row}
use Rattle.row_model.specs.Table.{RowMap}
use Rattle.linked_slots.specs.Chained.{Chained, hash_of}
use Rattle.linked_slots.proofs.Tests.{same_test, other_test}
use Rattle.row_hash.specs.Hash.{row_hash}
use Rattle.ordinal_set.specs.Ordinals.{IsLeastFree, with_ordinal}
use Rattle.ordinal_set.proofs.Members.{Contains-with_ordinal_cases, Contains-with_ordinal_itself, Contains-with_ordinal_kept}
use Rattle.ordinal_map.specs.Assign.{Holds, TellsPut}
use Rattle.ordinal_map.specs.Restored.{TellsRestore}
use Rattle.ordinal_map.specs.States.{States}
use Rattle.ordinal_map.specs.KeptRows.{AreHashed, AreKept, IsPlaced, IsRoomy, row_under, rows_of}
use Rattle.ordinal_map.specs.declared.fault.RestoreRowFault.TheVariants.{Equal}
use Rattle.ordinal_map.proofs.Keeping.{absent, below_free, free_under, has_current, has_previous, holds, inside, new_ordinal, states_of}
use Rattle.ordinal_map.proofs.SetRows.{is_some_row, not_free, rows_kept, rows_put}

-- members of a set with an ordinal more, beside those of another set
added : (set other : List ℕ) (o q : ℕ) → Contains (with_ordinal o set) q ⊎ Contains other q → (q ≡ o) ⊎ (Contains set q ⊎ Contains other q)
added set other o q (inl h) =
    elim (Contains-with_ordinal_cases o set q h) [
      | inl old ↦ inr (inl old)
      | inr same ↦ inl (sym same)
    ]
added set other o q (inr h) = inr (inr h)

adding : (set other : List ℕ) (o q : ℕ) → (q ≡ o) ⊎ (Contains set q ⊎ Contains other q) → Contains (with_ordinal o set) q ⊎ Contains other q
adding set other o q (inl same) = inl (subst (Contains (with_ordinal o set)) (sym same) (Contains-with_ordinal_itself o set))
adding set other o q (inr (inl h)) = inl (Contains-with_ordinal_kept o set q h)
adding set other o q (inr (inr h)) = inr h

turned : {A B : Type 0} → A ⊎ B → B ⊎ A
turned (inl a) = inr a
turned (inr b) = inl b

turned_behind : {A B C : Type 0} → A ⊎ (B ⊎ C) → A ⊎ (C ⊎ B)
turned_behind (inl a) = inl a
turned_behind (inr b) = inr (turned b)

-- a row is written under an ordinal
set_here : (rows : List (Option Row)) (o : ℕ) (row : Row) → o < length rows → row_under (slice_set rows o (Some row)) o ≡ Some row
set_here [] o row inside = absurd (omega arith)
set_here (r ∷ rows) zero row inside = refl
set_here (r ∷ rows) (suc o) row inside = set_here rows o row (omega arith)

set_beside : (rows : List (Option Row)) (o q : ℕ) (row : Row) → (q ≡ o → ⊥) → row_under (slice_set rows o (Some row)) q ≡ row_under rows q
set_beside [] o q row apart = refl
set_beside (r ∷ rows) zero zero row apart = absurd (apart refl)
set_beside (r ∷ rows) zero (suc q) row apart = refl
set_beside (r ∷ rows) (suc o) zero row apart = refl
set_beside (r ∷ rows) (suc o) (suc q) row apart = set_beside rows o q row (λ e. apart (omega arith))

pub set_row : (rows middle : List (Option Row)) (o : ℕ) (row : Row) → ((q : ℕ) → row_under middle q ≡ row_under rows q) → o < length middle
    → (q : ℕ) → row_under (slice_set middle o (Some row)) q ≡ cond (nat_eq q o) (Some row) (row_under rows q)
set_row rows middle o row same inside q =
    elim (cases_eq q o) [
      | inl e ↦ ap (row_under (slice_set middle o (Some row))) e ∙ set_here middle o row inside ∙ sym (same_test q o (Some row) (row_under rows q) e)
      | inr apart ↦ set_beside middle o q row apart ∙ same q ∙ sym (other_test q o (Some row) (row_under rows q) apart)
    ]

module _ (rows : List (Option Row)) (chains : Chained) (previous current : List ℕ) (filled : ℕ) (kept : AreKept rows chains previous current filled) (states : States) (seen : states_of rows previous current ≡ states) where
  -- ---- a row that stands enters the current state

  module _ (row : Row) (o : ℕ) (stand : row_under rows o ≡ Some row) where
    pub stand_low : o < 2 ^ 22
    stand_low = let within = inside rows o (is_some_row (row_under rows o) row stand) in omega (arith, within, kept.few)

    pub entered_kept : AreKept rows chains previous (with_ordinal o current) filled
    entered_kept = record {
      few = kept.few;
      roomy = kept.roomy;
      hashed = kept.hashed;
      once = kept.once;
      live = λ q. (
        (λ live. turned (adding current previous o q (inr (turned ((kept.live q).0 live))))),
        (λ member. stands q (added current previous o q (turned member))),
      );
      taken = kept.taken;
    }
      where
        stands : (q : ℕ) → (q ≡ o) ⊎ (Contains current q ⊎ Contains previous q) → IsSome (row_under rows q)
        stands q (inl same) = is_some_row (row_under rows q) row (ap (row_under rows) same ∙ stand)
        stands q (inr member) = (kept.live q).1 (turned member)

    pub entered_tells : TellsPut states row (states_of rows previous (with_ordinal o current)) (Ok o)
    entered_tells =
        subst (λ s. TellsPut s row (states_of rows previous (with_ordinal o current)) (Ok o)) seen (
          inl (holds rows chains previous current filled kept row o stand),
          stand_low,
          (λ i. record { previous = rows_of rows previous; current = rows_put rows rows current o row stand (λ q apart member. refl) i }),
        )

    -- the row stands already where it is to come back
    pub equal_tells : (given : ℕ) → states.current ≡ empty → TellsRestore states given row states (Err (Equal o))
    equal_tells given none = (only_before (subst (λ (s : States). Holds s.previous s.current row o) seen (holds rows chains previous current filled kept row o stand)), refl)
      where
        only_before : Holds states.previous states.current row o → get states.previous o ≡ Some row
        only_before (inl before) = before
        only_before (inr now) = let e = sym now ∙ ap (λ (m : RowMap). get m o) none ∙ get-empty nat_cmp o in absurd cc

  -- the ordinal of a row that comes back is free
  pub no_current : states.current ≡ empty → (o : ℕ) → Contains current o → ⊥
  no_current none o here =
      not_free (get states.current o) (ap (λ (m : RowMap). get m o) none ∙ get-empty nat_cmp o)
      (subst (λ (s : States). IsSome (get s.current o)) seen ((has_current rows chains previous current filled kept o).0 here))

  pub free_before : (o : ℕ) → states.current ≡ empty → get states.previous o ≡ None → row_under rows o ≡ None
  free_before o none free =
      free_under rows chains previous current filled kept o
      (λ here. not_free (get states.previous o) free (subst (λ (s : States). IsSome (get s.previous o)) seen ((has_previous rows chains previous current filled kept o).0 here)))
      (no_current none o)

  -- ---- a row comes to stand under a free ordinal

  module _ (row : Row) (o hash : ℕ) (rows' : List (Option Row)) (chains' : Chained) (is : hash ≡ row_hash row) (placed : IsPlaced rows chains o hash row rows' chains')
      (none : (q : ℕ) → row_under rows q ≡ Some row → ⊥) (free : row_under rows o ≡ None) (few : length rows' ≤ 2 ^ 22) (roomy : IsRoomy chains') where
    here : row_under rows' o ≡ Some row
    here = placed.rows_are o ∙ same_test o o (Some row) (row_under rows o) refl

    here_at : (q : ℕ) → q ≡ o → row_under rows' q ≡ Some row
    here_at q e = ap (row_under rows') e ∙ here

    beside : (q : ℕ) → (q ≡ o → ⊥) → row_under rows' q ≡ row_under rows q
    beside q apart = placed.rows_are q ∙ other_test q o (Some row) (row_under rows q) apart

    placed_hashed : AreHashed rows' chains'
    placed_hashed q =
        elim (cases_eq q o) [
          | inl e ↦ placed.hashes_are q ∙ same_test q o (Some hash) (hash_of chains q) e ∙ ap Some is ∙ ap (option_map row_hash) (sym (here_at q e))
          | inr apart ↦ placed.hashes_are q ∙ other_test q o (Some hash) (hash_of chains q) apart ∙ kept.hashed q ∙ ap (option_map row_hash) (sym (beside q apart))
        ]

    -- what stands there then is the row itself, or stood before
    parted : (r : Row) (q : ℕ) → row_under rows' q ≡ Some r → ((r ≡ row) × (q ≡ o)) ⊎ (row_under rows q ≡ Some r)
    parted r q there =
        elim (cases_eq q o) [
          | inl e ↦ inl ((let same : Some r ≡ Some row = sym there ∙ here_at q e in cc), e)
          | inr apart ↦ inr (sym (beside q apart) ∙ there)
        ]

    placed_once : (r : Row) (a b : ℕ) → row_under rows' a ≡ Some r → row_under rows' b ≡ Some r → a ≡ b
    placed_once r a b first second = both (parted r a first) (parted r b second)
      where
        both : ((r ≡ row) × (a ≡ o)) ⊎ (row_under rows a ≡ Some r) → ((r ≡ row) × (b ≡ o)) ⊎ (row_under rows b ≡ Some r) → a ≡ b
        both (inl it) (inl it') = it.1 ∙ sym it'.1
        both (inl it) (inr stood) = absurd (none b (stood ∙ ap Some it.0))
        both (inr stood) (inl it) = absurd (none a (stood ∙ ap Some it.0))
        both (inr stood) (inr stood') = kept.once r a b stood stood'

    placed_live : (q : ℕ) → IsSome (row_under rows' q) ↔ ((q ≡ o) ⊎ (Contains previous q ⊎ Contains current q))
    placed_live q = (
      (λ live.
          (elim (cases_eq q o) [
            | inl e ↦ inl e
            | inr apart ↦ inr ((kept.live q).0 (subst IsSome (beside q apart) live))
          ])),
      (λ member. stands member),
    )
      where
        stands : (q ≡ o) ⊎ (Contains previous q ⊎ Contains current q) → IsSome (row_under rows' q)
        stands (inl e) = is_some_row (row_under rows' q) row (here_at q e)
        stands (inr member) =
            elim (cases_eq q o) [
              | inl e ↦ is_some_row (row_under rows' q) row (here_at q e)
              | inr apart ↦ subst IsSome (sym (beside q apart)) ((kept.live q).1 member)
            ]

    placed_same : (set : List ℕ) → ((q : ℕ) → Contains set q → IsSome (row_under rows q)) → rows_of rows' set ≡ rows_of rows set
    placed_same set live = rows_kept rows rows' set (λ q member. beside q (λ e. not_free (row_under rows q) (ap (row_under rows) e ∙ free) (live q member)))

    -- it comes into the current state, under the least free ordinal
    module _ (least : IsLeastFree filled previous current o) where
      pub put_kept : AreKept rows' chains' previous (with_ordinal o current) (o + 1)
      put_kept = record {
        few = few;
        roomy = roomy;
        hashed = placed_hashed;
        once = placed_once;
        live = λ q. (
          (λ live. turned (adding current previous o q (turned_behind ((placed_live q).0 live)))),
          (λ member. (placed_live q).1 (turned_behind (added current previous o q (turned member)))),
        );
        taken = λ q below.
            (elim (cases_eq q o) [
              | inl e ↦ is_some_row (row_under rows' q) row (here_at q e)
              | inr apart ↦ subst IsSome (sym (beside q apart)) (below_free rows chains previous current filled kept o least q (omega arith))
            ]);
      }

      pub put_tells : o < 2 ^ 22 → TellsPut states row (states_of rows' previous (with_ordinal o current)) (Ok o)
      put_tells low =
          subst (λ s. TellsPut s row (states_of rows' previous (with_ordinal o current)) (Ok o)) seen (
            new_ordinal rows chains previous current filled kept row o none least,
            low,
            (λ i. record {
              previous = placed_same previous (λ q member. (kept.live q).1 (inl member)) i;
              current = rows_put rows rows' current o row here (λ q apart member. beside q apart) i;
            }),
          )

    -- it comes back to the previous state
    pub restored_kept : AreKept rows' chains' (with_ordinal o previous) current filled
    restored_kept = record {
      few = few;
      roomy = roomy;
      hashed = placed_hashed;
      once = placed_once;
      live = λ q. ((λ live. adding previous current o q ((placed_live q).0 live)), (λ member. (placed_live q).1 (added previous current o q member)));
      taken = λ q below.
          (elim (cases_eq q o) [
            | inl e ↦ is_some_row (row_under rows' q) row (here_at q e)
            | inr apart ↦ subst IsSome (sym (beside q apart)) (kept.taken q below)
          ]);
    }

    pub restored_tells : TellsRestore states o row (states_of rows' (with_ordinal o previous) current) (Ok tt)
    restored_tells = (
      (λ q there. absent rows chains previous current filled kept row q none (subst (λ (s : States). Holds s.previous s.current row q) (sym seen) (inl there))),
      (λ i. record {
        previous = rows_put rows rows' previous o row here (λ q apart member. beside q apart) i;
        current = placed_same current (λ q member. (kept.live q).1 (inr member)) i;
      })
          ∙ ap (λ (s : States). record s { previous = insert s.previous o row }) seen,
    )
