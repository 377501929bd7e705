-- The rows and their chains stay in agreement, and what they say of the two states.
use Rattle.std.proofs.Common.{◌≡◌, ℕ, zero, suc, ◌<◌, ◌≤◌, ◌^◌, ◌∷◌, Bool, true, false, List, [], Option, Some, None, length, refl, sym, ap, subst, ◌∙◌, inl, inr, arith, ◌⊎◌}
use Rattle.std.specs.Prelude.{◌≢◌, Contains, Result, Ok, Err, IfSome, IsErrAnd, IsSome, IsTrue, MatchBool, ◌↔◌, is_some, option_map}
use Rattle.std.specs.FinMap.{get}
use Rattle.std.proofs.lemmas.Bool.{cases_lt}
use Rattle.row_model.specs.declared.row.Row.{Row}
use Rattle.row_model.specs.Table.{RowMap}
use Rattle.linked_slots.specs.Chained.{Chained, hash_of}
use Rattle.row_hash.specs.Hash.{row_hash}
use Rattle.ordinal_set.specs.Ordinals.{IsLeastFree, IsNextMember, TellsNext, bound_of, lacking}
use Rattle.ordinal_set.proofs.Beside.{is_member, lacking_member, member_lacking}
use Rattle.ordinal_set.proofs.Members.{no_member}
use Rattle.ordinal_map.specs.Assign.{Agree, Holds, IsLeast, IsPast, IsPut, IsTaken, TellsPut}
use Rattle.ordinal_map.specs.States.{States}
use Rattle.ordinal_map.specs.KeptRows.{AreAlike, AreKept, Finds, IsRoomy, row_under, rows_of}
use Rattle.ordinal_map.specs.declared.fault.PutRowFault.{PutRowFault}
use Rattle.ordinal_map.specs.declared.fault.PutRowFault.TheVariants.{TooMany, Memory}
use Rattle.ordinal_map.proofs.SetRows.{get_member, get_other, is_some_row, member_of, none_of, not_free, row_held, rows_kept, rows_past, same_rows}

-- the two states
abbrev pub states_of : List (Option Row) → List ℕ → List ℕ → States
states_of rows previous current = record { previous = rows_of rows previous; current = rows_of rows current }

pub inside : (rows : List (Option Row)) (o : ℕ) → IsSome (row_under rows o) → o < length rows
inside [] zero live = absurd cc
inside [] (suc o) live = absurd cc
inside (r ∷ rows) zero live = omega arith
inside (r ∷ rows) (suc o) live = let below = inside rows o live in omega arith

module _ (rows : List (Option Row)) (previous current : List ℕ) where
  pub held : (row : Row) (o : ℕ) → Holds (rows_of rows previous) (rows_of rows current) row o → row_under rows o ≡ Some row
  held row o (inl before) = row_held rows previous o row before
  held row o (inr now) = row_held rows current o row now

  pub taken_in : (o : ℕ) → IsTaken (rows_of rows previous) (rows_of rows current) o → Contains previous o ⊎ Contains current o
  taken_in o (inl before) = inl (member_of rows previous o before)
  taken_in o (inr now) = inr (member_of rows current o now)

-- ---- the invariant

module _ (rows : List (Option Row)) (chains : Chained) (previous current : List ℕ) (filled : ℕ) (kept : AreKept rows chains previous current filled) where
  pub holds : (row : Row) (o : ℕ) → row_under rows o ≡ Some row → Holds (rows_of rows previous) (rows_of rows current) row o
  holds row o is =
      elim ((kept.live o).0 (is_some_row (row_under rows o) row is)) [
        | inl before ↦ inl (get_member rows previous o before ∙ is)
        | inr now ↦ inr (get_member rows current o now ∙ is)
      ]

  pub live_taken : (o : ℕ) → IsTaken (rows_of rows previous) (rows_of rows current) o → IsSome (row_under rows o)
  live_taken o taken = (kept.live o).1 (taken_in rows previous current o taken)

  pub is_taken : (o : ℕ) → Contains previous o ⊎ Contains current o → IsTaken (rows_of rows previous) (rows_of rows current) o
  is_taken o (inl before) = inl (subst IsSome (sym (get_member rows previous o before)) ((kept.live o).1 (inl before)))
  is_taken o (inr now) = inr (subst IsSome (sym (get_member rows current o now)) ((kept.live o).1 (inr now)))

  pub agree : Agree (rows_of rows previous) (rows_of rows current)
  agree = record {
    one_ordinal = λ row a b here there. kept.once row a b (held rows previous current row a here) (held rows previous current row b there);
    one_row = λ o a b here there. (let e : Some a ≡ Some b = sym (held rows previous current a o here) ∙ held rows previous current b o there in cc);
    low = λ o taken. (let within = inside rows o (live_taken o taken) in omega (arith, within, kept.few));
  }

  -- whether a state has a row, by its set
  pub has_previous : (o : ℕ) → Contains previous o ↔ IsSome (get (rows_of rows previous) o)
  has_previous o = (
    (λ here. subst IsSome (sym (get_member rows previous o here)) ((kept.live o).1 (inl here))),
    (λ live. member_of rows previous o live),
  )

  pub has_current : (o : ℕ) → Contains current o ↔ IsSome (get (rows_of rows current) o)
  has_current o = (
    (λ here. subst IsSome (sym (get_member rows current o here)) ((kept.live o).1 (inr here))),
    (λ live. member_of rows current o live),
  )

  -- a row that stands nowhere is in neither state
  pub absent : (row : Row) (o : ℕ) → ((q : ℕ) → row_under rows q ≡ Some row → ⊥) → Holds (rows_of rows previous) (rows_of rows current) row o → ⊥
  absent row o none here = none o (held rows previous current row o here)

  -- the least number in neither set is the least free ordinal
  pub least : (o : ℕ) → (Contains previous o → ⊥) → (Contains current o → ⊥) → ((q : ℕ) → q < o → IsSome (row_under rows q)) → IsLeast (rows_of rows previous) (rows_of rows current) o
  least o free free_now below = record {
    free = get_other rows previous o free;
    free_now = get_other rows current o free_now;
    below = λ q lower. is_taken q ((kept.live q).0 (below q lower));
  }

  pub below_free : (o : ℕ) → IsLeastFree filled previous current o → (q : ℕ) → q < o → IsSome (row_under rows q)
  below_free o free q lower =
      elim (cases_lt q filled) [
        | inl low ↦ kept.taken q low
        | inr high ↦ (kept.live q).1 (free.below q high lower)
      ]

  pub free_under : (o : ℕ) → (Contains previous o → ⊥) → (Contains current o → ⊥) → row_under rows o ≡ None
  free_under o none none_now = none_of (row_under rows o) (λ r is. neither ((kept.live o).0 (is_some_row (row_under rows o) r is)))
    where
      neither : Contains previous o ⊎ Contains current o → ⊥
      neither (inl here) = none here
      neither (inr here) = none_now here

  -- the row is new, and the ordinal the least free one
  pub new_ordinal : (row : Row) (o : ℕ) → ((q : ℕ) → row_under rows q ≡ Some row → ⊥) → IsLeastFree filled previous current o → IsPut (rows_of rows previous) (rows_of rows current) row o
  new_ordinal row o none free = inr (record { absent = λ q. absent row q none; least = least o free.free free.other_free (below_free o free) })

  -- all ordinals are taken
  pub no_ordinal : (row : Row) (o : ℕ) → ((q : ℕ) → row_under rows q ≡ Some row → ⊥) → IsLeastFree filled previous current o → 2 ^ 22 ≤ o → IsPut (rows_of rows previous) (rows_of rows current) row (2 ^ 22)
  no_ordinal row o none free most = inr (record {
    absent = λ q. absent row q none;
    least = least (2 ^ 22) (λ here. past ((kept.live (2 ^ 22)).1 (inl here))) (λ here. past ((kept.live (2 ^ 22)).1 (inr here))) (λ q lower. below_free o free q (omega arith));
  })
    where
      past : IsSome (row_under rows (2 ^ 22)) → ⊥
      past live = let within = inside rows (2 ^ 22) live in omega (arith, within, kept.few)

  -- more room changes nothing
  pub alike_kept : (rows' : List (Option Row)) (chains' : Chained) → AreAlike rows chains rows' chains' → length rows' ≤ 2 ^ 22 → IsRoomy chains' → AreKept rows' chains' previous current filled
  alike_kept rows' chains' alike few roomy = record {
    few = few;
    roomy = roomy;
    hashed = λ o. alike.hash o ∙ kept.hashed o ∙ ap (option_map row_hash) (sym (alike.row o));
    once = λ row a b here there. kept.once row a b (sym (alike.row a) ∙ here) (sym (alike.row b) ∙ there);
    live = λ o. ((λ live. (kept.live o).0 (subst IsSome (alike.row o) live)), (λ member. subst IsSome (sym (alike.row o)) ((kept.live o).1 member)));
    taken = λ o below. subst IsSome (sym (alike.row o)) (kept.taken o below);
  }

pub alike_states : (rows rows' : List (Option Row)) (chains chains' : Chained) (previous current : List ℕ) → AreAlike rows chains rows' chains' → states_of rows' previous current ≡ states_of rows previous current
alike_states rows rows' chains chains' previous current alike =
    λ i. record { previous = rows_kept rows rows' previous (λ o _. alike.row o) i; current = rows_kept rows rows' current (λ o _. alike.row o) i }

-- no rows in either state
pub kept_nothing : (rows : List (Option Row)) (chains : Chained) → rows ≡ [] → chains ≡ record { slots = 0; chains = [] } → AreKept rows chains [] [] 0
kept_nothing rows chains none none' =
    subst (λ rs. AreKept rs chains [] [] 0) (sym none) (subst (λ cs. AreKept [] cs [] [] 0) (sym none') (record {
      few = omega arith;
      roomy = (omega arith, omega arith);
      hashed = λ o. (nothing o);
      once = λ row a b here there. absurd (let e = sym here ∙ no_row a in absurd cc);
      live = λ o. ((λ live. absurd (not_free (row_under [] o) (no_row o) live)), (λ member. absurd (neither o member)));
      taken = λ o below. absurd (omega arith);
    }))
  where
    no_row : (o : ℕ) → row_under [] o ≡ None
    no_row zero = refl
    no_row (suc o) = refl

    nothing : (o : ℕ) → hash_of (record { slots = 0; chains = [] }) o ≡ option_map row_hash (row_under [] o)
    nothing zero = refl
    nothing (suc o) = refl

    neither : (o : ℕ) → Contains [] o ⊎ Contains [] o → ⊥
    neither o (inl here) = no_member o here
    neither o (inr here) = no_member o here

-- ---- what is seen

pub agree_seen : (rows : List (Option Row)) (chains : Chained) (previous current : List ℕ) (filled : ℕ) (states : States) → AreKept rows chains previous current filled → states_of rows previous current ≡ states → Agree states.previous states.current
agree_seen rows chains previous current filled states kept seen = subst (λ (s : States). Agree s.previous s.current) seen (agree rows chains previous current filled kept)

pub found_at : (seen rows : List (Option Row)) (row : Row) (found : Option ℕ) (o : ℕ) → seen ≡ rows → Finds seen row found → found ≡ Some o → row_under rows o ≡ Some row
found_at seen rows row None o same finds e = absurd cc
found_at seen rows row (Some q) o same finds e = let place : q ≡ o = cc in ap (λ rs. row_under rs o) (sym same) ∙ ap (row_under seen) (sym place) ∙ finds

pub expected_at : (seen rows : List (Option Row)) (row : Row) (found : Option ℕ) (o : ℕ) → seen ≡ rows → IfSome found (λ ordinal. row_under seen ordinal ≡ Some row) → found ≡ Some o → row_under rows o ≡ Some row
expected_at seen rows row None o same stands e = absurd cc
expected_at seen rows row (Some q) o same stands e = let place : q ≡ o = cc in ap (λ rs. row_under rs o) (sym same) ∙ ap (row_under seen) (sym place) ∙ stands

pub found_none : (seen rows : List (Option Row)) (row : Row) (found : Option ℕ) → seen ≡ rows → Finds seen row found → found ≡ None → (q : ℕ) → row_under rows q ≡ Some row → ⊥
found_none seen rows row None same finds e q here = finds q (ap (λ rs. row_under rs q) same ∙ here)
found_none seen rows row (Some o) same finds e q here = absurd cc

-- what holds a row is taken
pub taken_by : (previous current : RowMap) (row : Row) (o : ℕ) → Holds previous current row o → IsTaken previous current o
taken_by previous current row o (inl before) = inl (is_some_row (get previous o) row before)
taken_by previous current row o (inr now) = inr (is_some_row (get current o) row now)

-- want of memory leaves both states
pub refused : (old : States) (row : Row) (new : States) (result : Result ℕ PutRowFault) → IsErrAnd result (λ fault. fault ≡ Memory) → new ≡ old → TellsPut old row new result
refused old row new (Ok o) failed same = absurd failed
refused old row new (Err TooMany) failed same = absurd cc
refused old row new (Err Memory) failed same = same

module _ (rows : List (Option Row)) (chains : Chained) (previous current : List ℕ) (filled : ℕ) (kept : AreKept rows chains previous current filled) (states : States) (seen : states_of rows previous current ≡ states) where
  pub seen_previous : (o : ℕ) (answer : Bool) → (IsTrue answer ↔ Contains previous o) → IsTrue answer ↔ IsSome (get states.previous o)
  seen_previous o answer has =
      subst (λ (s : States). IsTrue answer ↔ IsSome (get s.previous o)) seen
      ((λ yes. (has_previous rows chains previous current filled kept o).0 (has.0 yes)), (λ live. has.1 ((has_previous rows chains previous current filled kept o).1 live)))

  pub seen_current : (o : ℕ) (answer : Bool) → (IsTrue answer ↔ Contains current o) → IsTrue answer ↔ IsSome (get states.current o)
  seen_current o answer has =
      subst (λ (s : States). IsTrue answer ↔ IsSome (get s.current o)) seen
      ((λ yes. (has_current rows chains previous current filled kept o).0 (has.0 yes)), (λ live. has.1 ((has_current rows chains previous current filled kept o).1 live)))

  pub seen_before : (o : ℕ) → Contains previous o ↔ IsSome (get states.previous o)
  seen_before o = subst (λ (s : States). Contains previous o ↔ IsSome (get s.previous o)) seen (has_previous rows chains previous current filled kept o)

  pub seen_now : (o : ℕ) → Contains current o ↔ IsSome (get states.current o)
  seen_now o = subst (λ (s : States). Contains current o ↔ IsSome (get s.current o)) seen (has_current rows chains previous current filled kept o)

  pub seen_taken : (o : ℕ) → IsTaken states.previous states.current o → IsSome (row_under rows o)
  seen_taken o taken = live_taken rows chains previous current filled kept o (subst (λ (s : States). IsTaken s.previous s.current o) (sym seen) taken)

  pub seen_holds : (row : Row) (o : ℕ) → row_under rows o ≡ Some row → Holds states.previous states.current row o
  seen_holds row o is = subst (λ (s : States). Holds s.previous s.current row o) seen (holds rows chains previous current filled kept row o is)

  pub seen_held : (row : Row) (o : ℕ) → Holds states.previous states.current row o → row_under rows o ≡ Some row
  seen_held row o here = held rows previous current row o (subst (λ (s : States). Holds s.previous s.current row o) (sym seen) here)

  pub seen_past_previous : (bound : ℕ) → bound ≡ bound_of previous → IsPast states.previous bound
  seen_past_previous bound is =
      subst (λ (s : States). IsPast s.previous bound) seen (subst (IsPast (rows_of rows previous)) (sym is) (rows_past rows previous (λ o here. (kept.live o).1 (inl here))))

  pub seen_past_current : (bound : ℕ) → bound ≡ bound_of current → IsPast states.current bound
  seen_past_current bound is =
      subst (λ (s : States). IsPast s.current bound) seen (subst (IsPast (rows_of rows current)) (sym is) (rows_past rows current (λ o here. (kept.live o).1 (inr here))))

  -- ---- whether the two states differ

  pub came : (o : ℕ) → IsNextMember 0 (lacking current previous) o → states.current ≢ states.previous
  came o next same =
      let is = lacking_member current previous o next.member in
      not_free (get states.current o) (ap (λ (m : RowMap). get m o) same ∙ subst (λ (s : States). get s.previous o ≡ None) seen (get_other rows previous o is.1))
      (subst (λ (s : States). IsSome (get s.current o)) seen ((has_current rows chains previous current filled kept o).0 is.0))

  pub left : (o : ℕ) → IsNextMember 0 (lacking previous current) o → states.current ≢ states.previous
  left o next same =
      let is = lacking_member previous current o next.member in
      not_free (get states.previous o) (ap (λ (m : RowMap). get m o) (sym same) ∙ subst (λ (s : States). get s.current o ≡ None) seen (get_other rows current o is.1))
      (subst (λ (s : States). IsSome (get s.previous o)) seen ((has_previous rows chains previous current filled kept o).0 is.0))

  pub alike : ((m : ℕ) → Contains (lacking current previous) m → m < 0) → ((m : ℕ) → Contains (lacking previous current) m → m < 0) → states.current ≡ states.previous
  alike none none' = subst (λ (s : States). s.current ≡ s.previous) seen (same_rows (rows_of rows current) (rows_of rows previous) same)
    where
      same : (o : ℕ) → get (rows_of rows current) o ≡ get (rows_of rows previous) o
      same o =
          elim (is_member current o) [
            | inl here ↦
                elim (is_member previous o) [
                  | inl there ↦ get_member rows current o here ∙ sym (get_member rows previous o there)
                  | inr gone ↦ let below = none o (member_lacking current previous o here gone) in absurd (omega arith)
                ]
            | inr gone ↦
                elim (is_member previous o) [
                  | inl there ↦ let below = none' o (member_lacking previous current o there gone) in absurd (omega arith)
                  | inr gone' ↦ get_other rows current o gone ∙ sym (get_other rows previous o gone')
                ]
          ]

  pub changed_first : (found : Option ℕ) (answer : Bool) → TellsNext 0 (lacking current previous) found → answer ≡ is_some found → answer ≡ true → MatchBool answer (states.current ≢ states.previous) (states.current ≡ states.previous)
  changed_first None answer tells is so = absurd cc
  changed_first (Some o) answer tells is so = subst (λ b. MatchBool b (states.current ≢ states.previous) (states.current ≡ states.previous)) (sym so) (came o tells)

  pub changed_second : (found other : Option ℕ) (first answer : Bool) → TellsNext 0 (lacking current previous) found → TellsNext 0 (lacking previous current) other → first ≡ is_some found → first ≡ false → answer ≡ is_some other
      → MatchBool answer (states.current ≢ states.previous) (states.current ≡ states.previous)
  changed_second (Some o) other first answer tells tells' is none is' = absurd cc
  changed_second None None first answer tells tells' is none is' = subst (λ b. MatchBool b (states.current ≢ states.previous) (states.current ≡ states.previous)) (sym is') (alike tells tells')
  changed_second None (Some o) first answer tells tells' is none is' = subst (λ b. MatchBool b (states.current ≢ states.previous) (states.current ≡ states.previous)) (sym is') (left o tells')
