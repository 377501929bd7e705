-- What a put tells, exactly.
use Rattle.std.proofs.Common.{◌≡◌, ℕ, ◌<◌, ◌^◌, Some, None, refl, sym, ap, subst, ◌∙◌, inl, inr, arith, ◌⊎◌}
use Rattle.std.specs.Prelude.{Result, Ok, Err, IsSome, is_some}
use Rattle.std.specs.FinMap.{get, insert}
use Rattle.std.proofs.lemmas.Bool.{cases_order, cases_eq}
use Rattle.hol_varint.specs.Yields.{Yields}
use Rattle.row_model.specs.declared.row.Row.{Row}
use Rattle.row_model.specs.Table.{RowMap}
use Rattle.ordinal_map.specs.Assign.{Agree, Holds, IsFreePut, IsLeast, IsPut, IsTaken, TellsPut}
use Rattle.ordinal_map.proofs.SetRows.{get_inserted, get_beside}
use Rattle.ordinal_map.specs.States.{States}
use Rattle.ordinal_map.specs.declared.fault.PutRowFault.{PutRowFault}
use Rattle.ordinal_map.specs.declared.fault.PutRowFault.TheVariants.{TooMany, Memory}

not_taken : (previous current : RowMap) (o : ℕ) → get previous o ≡ None → get current o ≡ None → IsTaken previous current o → ⊥
not_taken previous current o none none_now (inl live) = let e = sym live ∙ ap is_some none in absurd cc
not_taken previous current o none none_now (inr live) = let e = sym live ∙ ap is_some none_now in absurd cc

least_once : (previous current : RowMap) (a b : ℕ) → IsLeast previous current a → IsLeast previous current b → a ≡ b
least_once previous current a b here there =
    elim (cases_order a b) [
      | inl same ↦ same
      | inr apart ↦
          elim apart [
            | inl below ↦ absurd (not_taken previous current a here.free here.free_now (there.below a below))
            | inr above ↦ absurd (not_taken previous current b there.free there.free_now (here.below b above))
          ]
    ]

-- a row gets one ordinal
pub put_once : (previous current : RowMap) (row : Row) (a b : ℕ) → Agree previous current → IsPut previous current row a → IsPut previous current row b → a ≡ b
put_once previous current row a b agree (inl here) (inl there) = agree.one_ordinal row a b here there
put_once previous current row a b agree (inl here) (inr new) = absurd (new.absent a here)
put_once previous current row a b agree (inr new) (inl there) = absurd (new.absent b there)
put_once previous current row a b agree (inr new) (inr new') = least_once previous current a b new.least new'.least

pub found : (old : States) (row : Row) (new : States) (result : Result ℕ PutRowFault) → Agree old.previous old.current → TellsPut old row new result
    → (ordinal : ℕ) → Yields IsFreePut result (Ok ordinal) (IsPut old.previous old.current row ordinal × (ordinal < 2 ^ 22))
found old row new (Ok o) agree tells ordinal = (
  (λ is. (let same : o ≡ ordinal = cc in (subst (λ n. IsPut old.previous old.current row n) same tells.0, subst (λ n. n < 2 ^ 22) same tells.1))),
  (λ put. inl (ap Ok (put_once old.previous old.current row o ordinal agree tells.0 put.0))),
)
found old row new (Err TooMany) agree tells ordinal =
    ((λ is. absurd cc), (λ put. absurd (let same = put_once old.previous old.current row (2 ^ 22) ordinal agree tells.0 put.0 in omega (arith, same, put.1))))
found old row new (Err Memory) agree tells ordinal = ((λ is. absurd cc), (λ put. inr tt))

pub too_many : (old : States) (row : Row) (new : States) (result : Result ℕ PutRowFault) → Agree old.previous old.current → TellsPut old row new result
    → Yields IsFreePut result (Err TooMany) (IsPut old.previous old.current row (2 ^ 22))
too_many old row new (Ok o) agree tells =
    ((λ is. absurd cc), (λ put. absurd (let same = put_once old.previous old.current row o (2 ^ 22) agree tells.0 put in omega (arith, same, tells.1))))
too_many old row new (Err TooMany) agree tells = ((λ is. tells.0), (λ put. inl refl))
too_many old row new (Err Memory) agree tells = ((λ is. absurd cc), (λ put. inr tt))

-- ---- the states agree after a put

same_value : (a b : Row) → Some a ≡ Some b → a ≡ b
same_value a b e = cc

module _ (previous current : RowMap) (row : Row) (ordinal : ℕ) (agree : Agree previous current) (put : IsPut previous current row ordinal) where
  -- what one of the two states holds then is the row itself, or was held before
  abbrev IsItself : Row → ℕ → Type 0
  IsItself r o = (r ≡ row) × (o ≡ ordinal)

  parted : (r : Row) (o : ℕ) → Holds previous (insert current ordinal row) r o → IsItself r o ⊎ Holds previous current r o
  parted r o (inl before) = inr (inl before)
  parted r o (inr now) =
      elim (cases_eq o ordinal) [
        | inl same ↦ inl (same_value r row (sym now ∙ ap (get (insert current ordinal row)) same ∙ get_inserted current ordinal row), same)
        | inr apart ↦ inr (inr (sym (get_beside current ordinal o row apart) ∙ now))
      ]

  free_not_held : (r : Row) → IsLeast previous current ordinal → Holds previous current r ordinal → ⊥
  free_not_held r least (inl before) = let e = sym before ∙ least.free in absurd cc
  free_not_held r least (inr now) = let e = sym now ∙ least.free_now in absurd cc

  its_ordinal : (o : ℕ) → Holds previous current row o → o ≡ ordinal
  its_ordinal o here = elim put [
    | inl held ↦ agree.one_ordinal row o ordinal here held
    | inr new ↦ absurd (new.absent o here)
  ]

  its_row : (r : Row) → Holds previous current r ordinal → r ≡ row
  its_row r here = elim put [
    | inl held ↦ agree.one_row ordinal r row here held
    | inr new ↦ absurd (free_not_held r new.least here)
  ]

  pub agree_put : ordinal < 2 ^ 22 → Agree previous (insert current ordinal row)
  agree_put low = record {
    one_ordinal = λ r a b here there. both_ordinals r a b (parted r a here) (parted r b there);
    one_row = λ o a b here there. both_rows o a b (parted a o here) (parted b o there);
    low = λ o taken. lower o taken;
  }
    where
      both_ordinals : (r : Row) (a b : ℕ) → IsItself r a ⊎ Holds previous current r a → IsItself r b ⊎ Holds previous current r b → a ≡ b
      both_ordinals r a b (inl it) (inl it') = it.1 ∙ sym it'.1
      both_ordinals r a b (inl it) (inr held) = it.1 ∙ sym (its_ordinal b (subst (λ x. Holds previous current x b) it.0 held))
      both_ordinals r a b (inr held) (inl it) = its_ordinal a (subst (λ x. Holds previous current x a) it.0 held) ∙ sym it.1
      both_ordinals r a b (inr held) (inr held') = agree.one_ordinal r a b held held'

      both_rows : (o : ℕ) (a b : Row) → IsItself a o ⊎ Holds previous current a o → IsItself b o ⊎ Holds previous current b o → a ≡ b
      both_rows o a b (inl it) (inl it') = it.0 ∙ sym it'.0
      both_rows o a b (inl it) (inr held) = it.0 ∙ sym (its_row b (subst (λ n. Holds previous current b n) it.1 held))
      both_rows o a b (inr held) (inl it) = its_row a (subst (λ n. Holds previous current a n) it.1 held) ∙ sym it.0
      both_rows o a b (inr held) (inr held') = agree.one_row o a b held held'

      lower : (o : ℕ) → IsTaken previous (insert current ordinal row) o → o < 2 ^ 22
      lower o (inl before) = agree.low o (inl before)
      lower o (inr now) =
          elim (cases_eq o ordinal) [
            | inl same ↦ omega arith
            | inr apart ↦ agree.low o (inr (subst IsSome (get_beside current ordinal o row apart) now))
          ]

pub agree_tells : (old : States) (row : Row) (new : States) (result : Result ℕ PutRowFault) → Agree old.previous old.current → TellsPut old row new result → Agree new.previous new.current
agree_tells old row new (Ok o) agree tells = subst (λ (s : States). Agree s.previous s.current) (sym tells.2) (agree_put old.previous old.current row o agree tells.0 tells.1)
agree_tells old row new (Err TooMany) agree tells = subst (λ (s : States). Agree s.previous s.current) (sym tells.1) agree
agree_tells old row new (Err Memory) agree tells = subst (λ (s : States). Agree s.previous s.current) (sym tells) agree
