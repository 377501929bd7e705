-- Lemmas on the ordinals that one state has and another lacks, and on the rows of both.
use Rattle.std.proofs.Common.{◌≡◌, ◌⊎◌, ℕ, List, [], ◌∷◌, true, false, length, map, Option, Some, None, refl, sym, ap, ◌∙◌, subst, inl, inr}
use Rattle.std.specs.Prelude.{All, Contains, IsSome, is_some, not, option_map, slice_get, ◌==◌}
use Rattle.std.specs.Cmp.{nat_cmp_total}
use Rattle.std.specs.FinMap.{get, keys, nat_cmp-IsAntisymmetric, same_map}
use Rattle.std.specs.List.{cons_option, filter_map, list_any}
use Rattle.std.proofs.lemmas.Bool.{cases_Bool, eq-eqb, eqb-true}
use Rattle.std.proofs.lemmas.List.{length-map}
use Rattle.std.proofs.lemmas.List.Elements.{All-head, All-tail}
use Rattle.std.proofs.lemmas.Option.{slice_get-map}
use Rattle.std.proofs.lemmas.List.Folds.{Any-from_list_any, list_any-from_Any}
use Rattle.ordinal_set.specs.Ordinals.{lacking}
use Rattle.ordinal_set.proofs.Members.{passes-from_filter, Contains-kept}
use Rattle.row_model.specs.Table.{Table, IsLive, RowMap, row_at}
use Rattle.row_model.specs.declared.row.Row.{Row}
use Rattle.row_model.specs.BothStates.{rows_in}
use Rattle.row_model.proofs.RowsFrom.{get_in}
use Rattle.row_packing.specs.Places.{Agree}
use Rattle.row_packing.proofs.LiveRows.{is_live, live_is}
use Rattle.blob_writing.specs.Changes.{IsChanged, gone}

-- ---- which they are

any_member : (numbers : List ℕ) (number : ℕ) → Contains numbers number → list_any (λ n. n == number) numbers ≡ true
any_member numbers number (k, within, same) = list_any-from_Any (λ n. n == number) numbers (k, number, within, same, eq-eqb number number refl)

-- whether a number is in a list
pub contained_or : (numbers : List ℕ) (number : ℕ) → Contains numbers number ⊎ (Contains numbers number → ⊥)
contained_or numbers number =
    elim (cases_Bool (list_any (λ n. n == number) numbers)) [
      | inl found ↦
          let (k, member, within, same, test) = Any-from_list_any (λ n. n == number) numbers found in
          inl (subst (Contains numbers) (eqb-true member number test) (k, within, same))
      | inr none ↦ inr (λ inside. let found = any_member numbers number inside in absurd cc)
    ]

module _ (from to : Table) (index ordinal : ℕ) where
  -- what is gone is not live in the other state
  pub gone_dead : Contains (gone from to index) ordinal → IsLive to index ordinal → ⊥
  unfolding lacking
  gone_dead inside live =
      let found = any_member (keys (rows_in to index)) ordinal (live_is to index ordinal live) in
      let passes = passes-from_filter (λ m. not (list_any (λ n. n == m) (keys (rows_in to index)))) (keys (rows_in from index)) ordinal inside in
      let clash : false ≡ true = sym (ap not found) ∙ passes in
      absurd cc

  -- what is live in the one state alone is gone
  pub dead_gone : IsLive from index ordinal → (IsLive to index ordinal → ⊥) → Contains (gone from to index) ordinal
  unfolding lacking
  dead_gone live dead =
      Contains-kept (λ m. not (list_any (λ n. n == m) (keys (rows_in to index)))) (keys (rows_in from index)) ordinal (live_is from index ordinal live)
      (elim (cases_Bool (list_any (λ n. n == ordinal) (keys (rows_in to index)))) [
        | inl found ↦
            let (k, key, within, same, test) = Any-from_list_any (λ n. n == ordinal) (keys (rows_in to index)) found in
            absurd (dead (is_live to index ordinal (subst (Contains (keys (rows_in to index))) (eqb-true key ordinal test) (k, within, same))))
        | inr none ↦ ap not none
      ])

-- ---- rows of both states

pub dead_row : (row : Option Row) → (IsSome row → ⊥) → row ≡ None
dead_row None dead = refl
dead_row (Some row) dead = absurd (dead refl)

row_in : (old new : Table) (index ordinal : ℕ) → rows_in old index ≡ rows_in new index → row_at old index ordinal ≡ row_at new index ordinal
row_in old new index ordinal same = sym (get_in old index ordinal) ∙ ap (λ (rows : RowMap). get rows ordinal) same ∙ get_in new index ordinal

-- where two states agree and each row that is in one is in the other, the row is the same
alike : (old new : Table) (index ordinal : ℕ) → Agree old new index → ((live : IsLive old index ordinal) → (IsLive new index ordinal → ⊥) → ⊥)
    → ((live : IsLive new index ordinal) → (IsLive old index ordinal → ⊥) → ⊥) → row_at new index ordinal ≡ row_at old index ordinal
alike old new index ordinal agree stays was_there = by_rows (row_at old index ordinal) refl (row_at new index ordinal) refl
  where
    by_rows : (a : Option Row) → row_at old index ordinal ≡ a → (b : Option Row) → row_at new index ordinal ≡ b → row_at new index ordinal ≡ row_at old index ordinal
    by_rows None was None is = is ∙ sym was
    by_rows (Some a) was (Some b) is = is ∙ ap Some (sym (agree ordinal a b was is)) ∙ sym was
    by_rows (Some a) was None is = absurd (stays (ap is_some was) (λ live. let none = sym live ∙ ap is_some is in absurd cc))
    by_rows None was (Some b) is = absurd (was_there (ap is_some is) (λ live. let none = sym live ∙ ap is_some was in absurd cc))

-- an ordinal that neither goes nor comes keeps its row
pub kept_row : (old new : Table) (index ordinal : ℕ) → Agree old new index → (Contains (gone old new index) ordinal → ⊥) → (Contains (gone new old index) ordinal → ⊥)
    → row_at new index ordinal ≡ row_at old index ordinal
kept_row old new index ordinal agree stays old_one =
    alike old new index ordinal agree (λ live dead. stays (dead_gone old new index ordinal live dead)) (λ live dead. old_one (dead_gone new old index ordinal live dead))

-- a type that is not changed keeps its rows
pub unchanged_rows : (old new : Table) (index : ℕ) → Agree old new index → (IsChanged old new index → ⊥) → rows_in new index ≡ rows_in old index
unchanged_rows old new index agree same =
    same_map nat_cmp_total nat_cmp-IsAntisymmetric (rows_in new index) (rows_in old index) (λ ordinal. get_in new index ordinal ∙ row ordinal ∙ sym (get_in old index ordinal))
  where
    row : (ordinal : ℕ) → row_at new index ordinal ≡ row_at old index ordinal
    row ordinal =
        alike old new index ordinal agree (λ live dead. same (λ one. dead (ap is_some (sym (row_in old new index ordinal one)) ∙ live)))
        (λ live dead. same (λ one. dead (ap is_some (row_in old new index ordinal one) ∙ live)))

-- ---- the rows under ordinals that are live

-- the rows under ordinals, in their order
abbrev pub rows_under : Table → ℕ → List ℕ → List Row
rows_under table index ordinals = filter_map (row_at table index) ordinals

one_found : (row : Option Row) (rest : List Row) → IsSome row → map Some (cons_option row rest) ≡ row ∷ map Some rest
one_found None rest live = absurd cc
one_found (Some row) rest live = refl

all_under : (table : Table) (index : ℕ) (ordinals : List ℕ) → All (IsLive table index) ordinals → map Some (rows_under table index ordinals) ≡ map (row_at table index) ordinals
all_under table index [] live = refl
all_under table index (ordinal ∷ rest) live =
    one_found (row_at table index ordinal) (rows_under table index rest) (All-head (IsLive table index) ordinal rest live)
    ∙ ap (λ (rows : List (Option Row)). row_at table index ordinal ∷ rows) (all_under table index rest (All-tail (IsLive table index) ordinal rest live))

same_some : (row other : Option Row) → option_map Some row ≡ Some other → other ≡ row
same_some None other same = absurd cc
same_some (Some row) other same = cc

its_ordinal : (table : Table) (index : ℕ) (ordinal : Option ℕ) (row : Row) → Some (Some row) ≡ option_map (row_at table index) ordinal → (found : ℕ) × (ordinal ≡ Some found) × (row_at table index found ≡ Some row)
its_ordinal table index None row same = absurd cc
its_ordinal table index (Some ordinal) row same = (ordinal, refl, cc)

module _ (table : Table) (index : ℕ) (ordinals : List ℕ) (live : All (IsLive table index) ordinals) where
  beside : (place : ℕ) → option_map Some (slice_get (rows_under table index ordinals) place) ≡ option_map (row_at table index) (slice_get ordinals place)
  beside place =
      sym (slice_get-map Some (rows_under table index ordinals) place) ∙ ap (λ (rows : List (Option Row)). slice_get rows place) (all_under table index ordinals live)
      ∙ slice_get-map (row_at table index) ordinals place

  pub as_many_rows : length (rows_under table index ordinals) ≡ length ordinals
  as_many_rows =
      sym (length-map (rows_under table index ordinals) Some) ∙ ap (λ (rows : List (Option Row)). length rows) (all_under table index ordinals live)
      ∙ length-map ordinals (row_at table index)

  pub row_there : (place ordinal : ℕ) → slice_get ordinals place ≡ Some ordinal → row_at table index ordinal ≡ slice_get (rows_under table index ordinals) place
  row_there place ordinal at =
      same_some (slice_get (rows_under table index ordinals) place) (row_at table index ordinal) (beside place ∙ ap (option_map (row_at table index)) at)

  pub ordinal_there : (place : ℕ) (row : Row) → slice_get (rows_under table index ordinals) place ≡ Some row → (ordinal : ℕ) × (slice_get ordinals place ≡ Some ordinal) × (row_at table index ordinal ≡ Some row)
  ordinal_there place row at = its_ordinal table index (slice_get ordinals place) row (sym (ap (option_map Some) at) ∙ beside place)
