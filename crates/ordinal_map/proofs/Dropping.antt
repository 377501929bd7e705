-- The current state takes all rows of the previous one, or loses one of its own.
use Rattle.std.proofs.Common.{◌≡◌, ℕ, ◌≤◌, ◌^◌, List, Option, Some, length, min, refl, sym, ap, subst, ◌∙◌, inl, inr, arith, ◌⊎◌}
use Rattle.std.specs.Prelude.{Contains, IsSome, ◌↔◌, option_map}
use Rattle.std.specs.FinMap.{empty, get, remove}
use Rattle.std.proofs.lemmas.Bool.{cases_eq}
use Rattle.row_model.specs.declared.row.Row.{Row}
use Rattle.linked_slots.specs.Chained.{Chained, hash_of}
use Rattle.row_hash.specs.Hash.{row_hash}
use Rattle.ordinal_set.specs.Ordinals.{without_ordinal}
use Rattle.ordinal_set.proofs.Lacking.{member_without, without_member}
use Rattle.ordinal_map.specs.States.{States}
use Rattle.ordinal_map.specs.KeptRows.{AreFreed, AreHashed, AreKept, IsRoomy, row_under, rows_of}
use Rattle.ordinal_map.proofs.Keeping.{states_of}
use Rattle.ordinal_map.proofs.Placing.{no_current}
use Rattle.ordinal_map.proofs.SetRows.{member_of, not_free, rows_kept, rows_without, some_row}

module _ (rows : List (Option Row)) (chains : Chained) (previous current : List ℕ) (filled : ℕ) (kept : AreKept rows chains previous current filled) (states : States) (seen : states_of rows previous current ≡ states) where
  -- ---- all rows of the previous state

  pub all_kept : states.current ≡ empty → AreKept rows chains previous previous filled
  all_kept none = record {
    few = kept.few;
    roomy = kept.roomy;
    hashed = kept.hashed;
    once = kept.once;
    live = λ o. ((λ live. inl (before o ((kept.live o).0 live))), (λ member. (kept.live o).1 (inl (either o member))));
    taken = kept.taken;
  }
    where
      before : (o : ℕ) → Contains previous o ⊎ Contains current o → Contains previous o
      before o (inl here) = here
      before o (inr here) = absurd (no_current rows chains previous current filled kept states seen none o here)

      either : (o : ℕ) → Contains previous o ⊎ Contains previous o → Contains previous o
      either o (inl here) = here
      either o (inr here) = here

  pub all_states : states_of rows previous previous ≡ record states { current = states.previous }
  all_states = ap (λ (s : States). record s { current = s.previous }) seen

  -- ---- one row less

  module _ (o : ℕ) (live : IsSome (get states.current o)) where
    pub in_current : Contains current o
    in_current = member_of rows current o (subst (λ (s : States). IsSome (get s.current o)) (sym seen) live)

    pub has_row : IsSome (row_under rows o)
    has_row = (kept.live o).1 (inr in_current)

    pub has_hash : IsSome (hash_of chains o)
    has_hash = let row = some_row (row_under rows o) has_row in subst IsSome (sym (kept.hashed o ∙ ap (option_map row_hash) row.1)) refl

    -- the previous state has it too
    pub left_kept : Contains previous o → AreKept rows chains previous (without_ordinal o current) filled
    left_kept before = record {
      few = kept.few;
      roomy = kept.roomy;
      hashed = kept.hashed;
      once = kept.once;
      live = λ q. ((λ row. still q ((kept.live q).0 row)), (λ member. (kept.live q).1 (old q member)));
      taken = kept.taken;
    }
      where
        still : (q : ℕ) → Contains previous q ⊎ Contains current q → Contains previous q ⊎ Contains (without_ordinal o current) q
        still q (inl here) = inl here
        still q (inr here) =
            elim (cases_eq q o) [
              | inl same ↦ inl (subst (Contains previous) (sym same) before)
              | inr apart ↦ inr (without_member current o q here apart)
            ]

        old : (q : ℕ) → Contains previous q ⊎ Contains (without_ordinal o current) q → Contains previous q ⊎ Contains current q
        old q (inl here) = inl here
        old q (inr here) = inr (member_without current o q here).0

    pub left_states : states_of rows previous (without_ordinal o current) ≡ record states { current = remove states.current o }
    left_states =
        (λ i. record { previous = rows_of rows previous; current = rows_without rows rows current o (λ q apart member. refl) i })
        ∙ ap (λ (s : States). record s { current = remove s.current o }) seen

    -- it was in the current state alone
    module _ (rows' : List (Option Row)) (chains' : Chained) (none : Contains previous o → ⊥) (freed : AreFreed (λ q. q ≡ o) rows chains rows' chains') (same : length rows' ≡ length rows) (roomy : IsRoomy chains') where
      stood : (row : Row) (q : ℕ) → row_under rows' q ≡ Some row → row_under rows q ≡ Some row
      stood row q is =
          elim (cases_eq q o) [
            | inl e ↦ let e' = sym is ∙ (freed.left q e).0 in absurd cc
            | inr apart ↦ sym (freed.stayed q apart).0 ∙ is
          ]

      dropped_hashed : AreHashed rows' chains'
      dropped_hashed q =
          elim (cases_eq q o) [
            | inl e ↦ let gone = freed.left q e in gone.1 ∙ ap (option_map row_hash) (sym gone.0)
            | inr apart ↦ let same = freed.stayed q apart in same.1 ∙ kept.hashed q ∙ ap (option_map row_hash) (sym same.0)
          ]

      dropped_live : (q : ℕ) → IsSome (row_under rows' q) ↔ (Contains previous q ⊎ Contains (without_ordinal o current) q)
      dropped_live q = (
        (λ row.
            (elim (cases_eq q o) [
              | inl e ↦ absurd (not_free (row_under rows' q) (freed.left q e).0 row)
              | inr apart ↦ still apart ((kept.live q).0 (subst IsSome (freed.stayed q apart).0 row))
            ])),
        (λ member. (let old = was member in subst IsSome (sym (freed.stayed q old.0).0) ((kept.live q).1 old.1))),
      )
        where
          still : (q ≡ o → ⊥) → Contains previous q ⊎ Contains current q → Contains previous q ⊎ Contains (without_ordinal o current) q
          still apart (inl here) = inl here
          still apart (inr here) = inr (without_member current o q here apart)

          was : Contains previous q ⊎ Contains (without_ordinal o current) q → (q ≡ o → ⊥) × (Contains previous q ⊎ Contains current q)
          was (inl here) = ((λ e. none (subst (Contains previous) e here)), inl here)
          was (inr here) = let old = member_without current o q here in (old.1, inr old.0)

      pub dropped_kept : (lowered : ℕ) → lowered ≡ min filled o → AreKept rows' chains' previous (without_ordinal o current) lowered
      dropped_kept lowered is = record {
        few = subst (λ n. n ≤ 2 ^ 22) (sym same) kept.few;
        roomy = roomy;
        hashed = dropped_hashed;
        once = λ row a b here there. kept.once row a b (stood row a here) (stood row b there);
        live = dropped_live;
        taken = λ q below. subst IsSome (sym (freed.stayed q (λ e. omega arith)).0) (kept.taken q (omega arith));
      }

      pub dropped_states : states_of rows' previous (without_ordinal o current) ≡ record states { current = remove states.current o }
      dropped_states =
          (λ i. record {
            previous = rows_kept rows rows' previous (λ q member. (freed.stayed q (λ e. none (subst (Contains previous) e member))).0) i;
            current = rows_without rows rows' current o (λ q apart member. (freed.stayed q apart).0) i;
          })
          ∙ ap (λ (s : States). record s { current = remove s.current o }) seen
