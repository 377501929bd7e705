-- Lemmas on which types differ between two states that agree: those with an ordinal that is live in one of them alone.
use Rattle.std.proofs.Common.{◌≡◌, ◌≢◌, ◌⊎◌, ℕ, ◌+◌, ◌<◌, inl, inr, List, [], ◌∷◌, ◌++◌, get_or, length, true, false, Option, Some, None, refl, sym, ap, ◌∙◌, subst, arith}
use Rattle.std.specs.Prelude.{◌↔◌, ◌==◌, ◌||◌, All, Contains, filter, is_some, not}
use Rattle.std.specs.List.{list_any}
use Rattle.std.specs.Cmp.{nat_cmp_total}
use Rattle.std.specs.FinMap.{keys, nat_cmp-IsAntisymmetric, same_map}
use Rattle.std.specs.List.Sorted.{IsStrictlyIncreasing}
use Rattle.std.proofs.lemmas.Bool.{cases_Bool, cases_eq, cases_lt, eq-eqb, ne_eqb}
use Rattle.std.proofs.lemmas.List.Elements.{Contains-append_cases, Contains-append_left, Contains-append_right}
use Rattle.std.proofs.lemmas.List.Quantifiers.{all_pairs_push}
use Rattle.std.proofs.lemmas.List.{get_or_default}
use Rattle.ordinal_set.specs.Ordinals.{lacking}
use Rattle.ordinal_set.proofs.Members.{Contains-filter, Contains-kept, first_or_other, here, no_member, passes-from_filter, same_rising, there}
use Rattle.row_model.specs.Row.{Rises}
use Rattle.row_model.specs.Table.{IsLive, RowMap, Table, row_at}
use Rattle.row_model.specs.declared.row.Row.{Row}
use Rattle.row_model.specs.BothStates.{rows_in}
use Rattle.row_model.proofs.RowsFrom.{get_in}
use Rattle.row_packing.specs.Places.{Agree}
use Rattle.row_packing.proofs.LiveRows.{is_live, live_is}
use Rattle.blob_writing.specs.Changes.{AreChanged, IsChanged, gone}

-- ---- the members that another set lacks

any_member : (other : List ℕ) (ordinal : ℕ) → Contains other ordinal → list_any (λ n. n == ordinal) other ≡ true
any_member [] ordinal h = absurd (no_member ordinal h)
any_member (x ∷ rest) ordinal h =
    elim (cases_Bool (x == ordinal)) [
      | inl same ↦ rw same refl
      | inr apart ↦
          elim (first_or_other x rest ordinal h) [
            | inl is ↦ let test = eq-eqb x ordinal is in absurd cc
            | inr behind ↦ rw apart (any_member rest ordinal behind)
          ]
    ]

member_any : (other : List ℕ) (ordinal : ℕ) → list_any (λ n. n == ordinal) other ≡ true → Contains other ordinal
member_any [] ordinal h = absurd cc
member_any (x ∷ rest) ordinal h =
    elim (cases_eq x ordinal) [
      | inl same ↦ subst (Contains (x ∷ rest)) same (here x rest)
      | inr apart ↦ there x rest ordinal (member_any rest ordinal (subst (λ b. (b || list_any (λ n. n == ordinal) rest) ≡ true) (ne_eqb x ordinal apart) h))
    ]

no_members : (set : List ℕ) → ((n : ℕ) → Contains set n → ⊥) → set ≡ []
no_members [] none = refl
no_members (x ∷ rest) none = absurd (none x (here x rest))

-- what is lacked by a set with the same members
none_lacked : (set other : List ℕ) → ((n : ℕ) → Contains set n → Contains other n) → lacking set other ≡ []
unfolding lacking
none_lacked set other all =
    let lacks = λ (m : ℕ). not (list_any (λ n. n == m) other) in
    no_members (filter lacks set) (λ n among.
    let any = any_member other n (all n (Contains-filter lacks set n among)) in
    let passes = passes-from_filter lacks set n among in
    let apart : false ≡ true = ap not (sym any) ∙ passes in
    absurd cc)

-- where none is lacked, each member is one of the other set
member_of_other : (set other : List ℕ) → lacking set other ≡ [] → (n : ℕ) → Contains set n → Contains other n
unfolding lacking
member_of_other set other none n inside =
    let lacks = λ (m : ℕ). not (list_any (λ n. n == m) other) in
    elim (cases_Bool (list_any (λ (m : ℕ). m == n) other)) [
      | inl any ↦ member_any other n any
      | inr lacked ↦ absurd (no_member n (subst (λ (l : List ℕ). Contains l n) none (Contains-kept lacks set n inside (ap not lacked))))
    ]

-- ---- one type

module _ (old new : Table) (type_index : ℕ) where
  same_place : Agree old new type_index → (ordinal : ℕ) → IsLive old type_index ordinal ↔ IsLive new type_index ordinal → row_at old type_index ordinal ≡ row_at new type_index ordinal
  same_place agree ordinal alike = by_old (row_at old type_index ordinal) refl (row_at new type_index ordinal) refl
    where
      by_old : (a : Option Row) → row_at old type_index ordinal ≡ a → (b : Option Row) → row_at new type_index ordinal ≡ b → row_at old type_index ordinal ≡ row_at new type_index ordinal
      by_old None was None is = was ∙ sym is
      by_old (Some a) was (Some b) is = was ∙ ap Some (agree ordinal a b was is) ∙ sym is
      by_old None was (Some b) is = let live = alike.1 (ap is_some is) in let none = sym (ap is_some was) ∙ live in absurd cc
      by_old (Some a) was None is = let live = alike.0 (ap is_some was) in let none = sym (ap is_some is) ∙ live in absurd cc

  -- where the same ordinals are live, the rows are the same
  same_where_alike : Agree old new type_index → ((ordinal : ℕ) → IsLive old type_index ordinal ↔ IsLive new type_index ordinal) → rows_in old type_index ≡ rows_in new type_index
  same_where_alike agree alike =
      same_map nat_cmp_total nat_cmp-IsAntisymmetric (rows_in old type_index) (rows_in new type_index)
      (λ q. get_in old type_index q ∙ same_place agree q (alike q) ∙ sym (get_in new type_index q))

  -- an ordinal that goes
  pub goes_changed : gone old new type_index ≢ [] → IsChanged old new type_index
  goes_changed some same =
      let was = keys (rows_in old type_index) in
      some (ap (λ (rows : RowMap). lacking was (keys rows)) (sym same) ∙ none_lacked was was (λ n inside. inside))

  -- one that comes
  pub comes_changed : gone new old type_index ≢ [] → IsChanged old new type_index
  comes_changed some same =
      let is = keys (rows_in new type_index) in
      some (ap (λ (rows : RowMap). lacking is (keys rows)) same ∙ none_lacked is is (λ n inside. inside))

  -- where none goes and none comes, the rows are the same
  pub same_where_none : Agree old new type_index → gone old new type_index ≡ [] → gone new old type_index ≡ [] → rows_in old type_index ≡ rows_in new type_index
  same_where_none agree goes comes =
      let was = keys (rows_in old type_index) in
      let is = keys (rows_in new type_index) in
      same_where_alike agree
      (λ n. (
        λ live. is_live new type_index n (member_of_other was is goes n (live_is old type_index n live)),
        λ live. is_live old type_index n (member_of_other is was comes n (live_is new type_index n live)),
      ))

  pub same_or_changed : Agree old new type_index → (rows_in old type_index ≡ rows_in new type_index) ⊎ IsChanged old new type_index
  same_or_changed agree = by_lists (gone old new type_index) refl (gone new old type_index) refl
    where
      by_lists : (goes : List ℕ) → gone old new type_index ≡ goes → (comes : List ℕ) → gone new old type_index ≡ comes → (rows_in old type_index ≡ rows_in new type_index) ⊎ IsChanged old new type_index
      by_lists [] goes [] comes = inl (same_where_none agree goes comes)
      by_lists (n ∷ rest) goes them comes = inr (goes_changed (λ none. let e : n ∷ rest ≡ [] = sym goes ∙ none in absurd cc))
      by_lists [] goes (n ∷ rest) comes = inr (comes_changed (λ none. let e : n ∷ rest ≡ [] = sym comes ∙ none in absurd cc))

-- ---- the types

pub none_changed : (old new : Table) → AreChanged 0 old new []
none_changed old new = record {
  rising = λ i j d before inside. absurd (omega arith);
  are = λ type_index. (λ inside. absurd (no_member type_index inside), λ both. let below = both.0 in absurd (omega (arith, below)));
}

below_count : (count : ℕ) (old new : Table) (types : List ℕ) → AreChanged count old new types → (k d : ℕ) → k < length types → get_or types k d < count
below_count count old new types are k d inside = ((are.are (get_or types k d)).0 (k, inside, get_or_default types k (get_or types k d) d inside)).0

pub all_below : (count limit : ℕ) (old new : Table) (types : List ℕ) → limit ≡ count → AreChanged limit old new types → All (λ type_index. type_index < count) types
all_below count limit old new types same are k d inside = let below = below_count limit old new types are k d inside in omega (arith, below, same)

pub one_changed : (count : ℕ) (old new : Table) (types more : List ℕ) → AreChanged count old new types → IsChanged old new count → more ≡ types ++ count ∷ [] → AreChanged (count + 1) old new more
one_changed count old new types more are changed pushed =
    subst (AreChanged (count + 1) old new) (sym pushed) (record {
      rising = all_pairs_push (λ earlier later. earlier < later) types count are.rising (below_count count old new types are);
      are = λ n. (
        λ inside.
            elim (Contains-append_cases types (count ∷ []) n inside) [
              | inl before ↦ let known = (are.are n).0 before in (omega (arith, known.0), known.1)
              | inr last ↦
                  elim (first_or_other count [] n last) [
                    | inl same ↦ (omega (arith, same), subst (IsChanged old new) same changed)
                    | inr none ↦ absurd (no_member n none)
                  ]
            ],
        λ both.
            elim (cases_lt n count) [
              | inl under ↦ Contains-append_left types (count ∷ []) n ((are.are n).1 (under, both.1))
              | inr from ↦
                  let below = both.0 in
                  let same : count ≡ n = omega (arith, from, below) in
                  subst (Contains (types ++ count ∷ [])) same (Contains-append_right types (count ∷ []) count (here count []))
            ],
      );
    })

pub one_same : (count : ℕ) (old new : Table) (types : List ℕ) → AreChanged count old new types → rows_in old count ≡ rows_in new count → AreChanged (count + 1) old new types
one_same count old new types are same = record {
  rising = are.rising;
  are = λ n. (
    λ inside. let known = (are.are n).0 inside in (omega (arith, known.0), known.1),
    λ both.
        elim (cases_lt n count) [
          | inl under ↦ (are.are n).1 (under, both.1)
          | inr from ↦
              let below = both.0 in
              let is : count ≡ n = omega (arith, from, below) in
              absurd (both.1 (subst (λ (t : ℕ). rows_in old t ≡ rows_in new t) is same))
        ],
  );
}

increasing : (types : List ℕ) → Rises types → IsStrictlyIncreasing types
increasing types rising k inside = rising k (k + 1) 0 (omega arith) inside

pub changed_once : (count : ℕ) (old new : Table) (a b : List ℕ) → AreChanged count old new a → AreChanged count old new b → a ≡ b
changed_once count old new a b one other =
    same_rising a b (increasing a one.rising) (increasing b other.rising) (λ n inside. (other.are n).1 ((one.are n).0 inside)) (λ n inside. (one.are n).1 ((other.are n).0 inside))
