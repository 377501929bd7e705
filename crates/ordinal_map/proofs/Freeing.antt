-- The rows under some ordinals leave, and one of the two states is dropped.
use Rattle.std.proofs.Common.{◌≡◌, ℕ, ◌+◌, ◌<◌, ◌≤◌, ◌^◌, List, [], Option, Some, length, refl, sym, ap, subst, ◌∙◌, inl, inr, arith, ◌⊎◌}
use Rattle.std.specs.Prelude.{Contains, IsSome, ◌↔◌, option_map}
use Rattle.std.specs.FinMap.{empty}
use Rattle.std.proofs.lemmas.Bool.{cases_eq, cases_lt}
use Rattle.row_model.specs.declared.row.Row.{Row}
use Rattle.linked_slots.specs.Chained.{Chained}
use Rattle.row_hash.specs.Hash.{row_hash}
use Rattle.ordinal_set.specs.Ordinals.{IsNextMember, lacking}
use Rattle.ordinal_set.proofs.Beside.{is_member, lacking_member, member_lacking}
use Rattle.ordinal_set.proofs.Members.{no_member}
use Rattle.ordinal_map.specs.States.{States}
use Rattle.ordinal_map.specs.KeptRows.{AreFreed, AreHashed, AreKept, IsRoomy, row_under, rows_of}
use Rattle.ordinal_map.proofs.Keeping.{states_of}
use Rattle.ordinal_map.proofs.SetRows.{no_members, not_free, rows_kept}

-- ---- one after another

-- the members below a number
abbrev pub LeavesBelow : List ℕ → ℕ → ℕ → Type 0
LeavesBelow set from o = Contains set o × (o < from)

pub freed_none : (set : List ℕ) (rows : List (Option Row)) (chains : Chained) → AreFreed (LeavesBelow set 0) rows chains rows chains
freed_none set rows chains = record { left = λ o leaves. absurd (omega (arith, leaves.1)); stayed = λ o stays. (refl, refl) }

pub freed_more : (set : List ℕ) (from next : ℕ) (rows middle rows' : List (Option Row)) (chains between chains' : Chained) → IsNextMember from set next
    → AreFreed (LeavesBelow set from) rows chains middle between → AreFreed (λ o. o ≡ next) middle between rows' chains' → AreFreed (LeavesBelow set (next + 1)) rows chains rows' chains'
freed_more set from next rows middle rows' chains between chains' is before one = record {
  left = λ o leaves.
      (elim (cases_eq o next) [
        | inl same ↦ one.left o same
        | inr apart ↦
            (let early = before.left o (leaves.0, earlier o leaves.0 leaves.1 apart) in
            let same = one.stayed o apart in
            (same.0 ∙ early.0, same.1 ∙ early.1))
      ]);
  stayed = λ o stays.
      (let apart : o ≡ next → ⊥ = λ e. stays (subst (Contains set) (sym e) is.member, omega arith) in
      let same = one.stayed o apart in
      let early = before.stayed o (λ leaves. stays (leaves.0, (let from_here = is.from in omega (arith, leaves.1)))) in
      (same.0 ∙ early.0, same.1 ∙ early.1));
}
  where
    earlier : (o : ℕ) → Contains set o → o < next + 1 → (o ≡ next → ⊥) → o < from
    earlier o member below apart =
        elim (cases_lt o from) [
          | inl low ↦ low
          | inr high ↦ let near = is.least o member high in absurd (apart (omega arith))
        ]

pub freed_all : (set : List ℕ) (from : ℕ) (rows rows' : List (Option Row)) (chains chains' : Chained) → ((o : ℕ) → Contains set o → o < from)
    → AreFreed (LeavesBelow set from) rows chains rows' chains' → AreFreed (Contains set) rows chains rows' chains'
freed_all set from rows rows' chains chains' all freed = record {
  left = λ o member. freed.left o (member, all o member);
  stayed = λ o stays. freed.stayed o (λ leaves. stays leaves.0);
}

-- ---- the rows of one state leave that the other one lacks

module _ (rows rows' : List (Option Row)) (chains chains' : Chained) (leaving staying : List ℕ) (hashed : AreHashed rows chains)
    (once : (row : Row) (a b : ℕ) → row_under rows a ≡ Some row → row_under rows b ≡ Some row → a ≡ b)
    (live : (o : ℕ) → IsSome (row_under rows o) ↔ (Contains leaving o ⊎ Contains staying o))
    (freed : AreFreed (Contains (lacking leaving staying)) rows chains rows' chains') (few : length rows' ≤ 2 ^ 22) (roomy : IsRoomy chains') where
  same_at : (o : ℕ) → Contains staying o → row_under rows' o ≡ row_under rows o
  same_at o member = (freed.stayed o (λ leaves. (lacking_member leaving staying o leaves).1 member)).0

  stood : (row : Row) (o : ℕ) → row_under rows' o ≡ Some row → row_under rows o ≡ Some row
  stood row o is =
      elim (is_member (lacking leaving staying) o) [
        | inl leaves ↦ let e = sym is ∙ (freed.left o leaves).0 in absurd cc
        | inr stays ↦ sym (freed.stayed o stays).0 ∙ is
      ]

  freed_live : (o : ℕ) → IsSome (row_under rows' o) ↔ Contains staying o
  freed_live o = (
    (λ live'.
        (elim (is_member (lacking leaving staying) o) [
          | inl leaves ↦ absurd (not_free (row_under rows' o) (freed.left o leaves).0 live')
          | inr stays ↦ among stays ((live o).0 (subst IsSome (freed.stayed o stays).0 live'))
        ])),
    (λ member. subst IsSome (sym (same_at o member)) ((live o).1 (inr member))),
  )
    where
      among : (Contains (lacking leaving staying) o → ⊥) → Contains leaving o ⊎ Contains staying o → Contains staying o
      among stays (inr here) = here
      among stays (inl here) =
          elim (is_member staying o) [
            | inl member ↦ member
            | inr none ↦ absurd (stays (member_lacking leaving staying o here none))
          ]

  freed_hashed : AreHashed rows' chains'
  freed_hashed o =
      elim (is_member (lacking leaving staying) o) [
        | inl leaves ↦ let gone = freed.left o leaves in gone.1 ∙ ap (option_map row_hash) (sym gone.0)
        | inr stays ↦ let same = freed.stayed o stays in same.1 ∙ hashed o ∙ ap (option_map row_hash) (sym same.0)
      ]

  pub freed_kept : AreKept rows' chains' staying [] 0
  freed_kept = record {
    few = few;
    roomy = roomy;
    hashed = freed_hashed;
    once = λ row a b here there. once row a b (stood row a here) (stood row b there);
    live = λ o. ((λ live'. inl ((freed_live o).0 live')), (λ member. (freed_live o).1 (only o member)));
    taken = λ o below. absurd (omega arith);
  }
    where
      only : (o : ℕ) → Contains staying o ⊎ Contains [] o → Contains staying o
      only o (inl here) = here
      only o (inr here) = absurd (no_member o here)

  pub freed_rows : rows_of rows' staying ≡ rows_of rows staying
  freed_rows = rows_kept rows rows' staying same_at

module _ (rows rows' : List (Option Row)) (chains chains' : Chained) (previous current : List ℕ) (filled : ℕ) (kept : AreKept rows chains previous current filled) (states : States) (seen : states_of rows previous current ≡ states)
    (same : length rows' ≡ length rows) (roomy : IsRoomy chains') where
  few : length rows' ≤ 2 ^ 22
  few = subst (λ n. n ≤ 2 ^ 22) (sym same) kept.few

  turned : (o : ℕ) → IsSome (row_under rows o) ↔ (Contains current o ⊎ Contains previous o)
  turned o = ((λ live. turn ((kept.live o).0 live)), (λ member. (kept.live o).1 (back member)))
    where
      turn : Contains previous o ⊎ Contains current o → Contains current o ⊎ Contains previous o
      turn (inl a) = inr a
      turn (inr a) = inl a

      back : Contains current o ⊎ Contains previous o → Contains previous o ⊎ Contains current o
      back (inl a) = inr a
      back (inr a) = inl a

  pub advanced_kept : AreFreed (Contains (lacking previous current)) rows chains rows' chains' → AreKept rows' chains' current [] 0
  advanced_kept freed = freed_kept rows rows' chains chains' previous current kept.hashed kept.once kept.live freed few roomy

  pub advanced_states : AreFreed (Contains (lacking previous current)) rows chains rows' chains' → states_of rows' current [] ≡ record { previous = states.current; current = empty }
  advanced_states freed =
      (λ i. record { previous = freed_rows rows rows' chains chains' previous current kept.hashed kept.once kept.live freed few roomy i; current = no_members rows' i })
      ∙ ap (λ (s : States). record { previous = s.current; current = empty }) seen

  pub undone_kept : AreFreed (Contains (lacking current previous)) rows chains rows' chains' → AreKept rows' chains' previous [] 0
  undone_kept freed = freed_kept rows rows' chains chains' current previous kept.hashed kept.once turned freed few roomy

  pub undone_states : AreFreed (Contains (lacking current previous)) rows chains rows' chains' → states_of rows' previous [] ≡ record states { current = empty }
  undone_states freed =
      (λ i. record { previous = freed_rows rows rows' chains chains' current previous kept.hashed kept.once turned freed few roomy i; current = no_members rows' i })
      ∙ ap (λ (s : States). record s { current = empty }) seen
