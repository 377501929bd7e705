-- Counts of named rows fall one after another.
use Rattle.std.proofs.Common.{◌≡◌, ◌∙◌, ◌+◌, ◌<◌, ◌≤◌, ℕ, zero, suc, List, [], ◌∷◌, ◌++◌, length, get_or, take, refl, sym, ap, subst, inl, inr, arith}
use Rattle.std.specs.Prelude.{Contains}
use Rattle.std.proofs.lemmas.List.{append_assoc, append-nil}
use Rattle.std.proofs.lemmas.List.Elements.{Contains-append_cases, Contains-append_left, Contains-append_right}
use Rattle.hol_incremental.specs.Counts.{one_for, times_among}
use Rattle.hol_incremental.specs.Drops.{FallsFrom}
use Rattle.hol_incremental.specs.EditKeys.{count_at}
use Rattle.hol_incremental.proofs.Among.{first_in, none_in, parted}
use Rattle.hol_incremental.proofs.CountLists.{among_more, among_push, one_apart, one_there, taken_push}
use Rattle.hol_incremental.proofs.OnceLists.{IsOnce, append_once, none_once}
use Rattle.hol_incremental.proofs.PutRows.{IsThere, is_there}

-- the first so many name no more often than all
pub taken_less : (t o n : ℕ) (rows : List (ℕ × ℕ)) → times_among t o (take n rows) ≤ times_among t o rows
taken_less t o zero rows = omega arith
taken_less t o (suc n) [] = omega arith
taken_less t o (suc n) (row ∷ rows) =
    let x = among_more t o row rows in
    let y = among_more t o row (take n rows) in
    let z = taken_less t o n rows in
    omega (arith, x, y, z)

-- the next one is counted
pub next_counted : (rows : List (ℕ × ℕ)) (i : ℕ) (d : ℕ × ℕ) (now old : List (List ℕ)) → i < length rows → ((t o : ℕ) → times_among t o rows ≤ count_at old t o)
    → ((t o : ℕ) → count_at now t o + times_among t o (take i rows) ≡ count_at old t o) → 0 < count_at now (get_or rows i d).0 (get_or rows i d).1
next_counted rows i d now old inside enough lowered =
    let row = get_or rows i d in
    let x = enough row.0 row.1 in
    let y = lowered row.0 row.1 in
    let z = taken_less row.0 row.1 (i + 1) rows in
    let w = ap (times_among row.0 row.1) (taken_push rows i d inside) ∙ among_push row.0 row.1 (take i rows) row in
    let v = one_there row.0 row.1 row.0 row.1 (refl, refl) in
    omega (arith, x, y, z, w, v)

-- one lower
pub lowered_more : (rows : List (ℕ × ℕ)) (i : ℕ) (d : ℕ × ℕ) (now next old : List (List ℕ)) → i < length rows → ((t o : ℕ) → count_at now t o + times_among t o (take i rows) ≡ count_at old t o)
    → ((t o : ℕ) → count_at next t o + one_for t o (get_or rows i d) ≡ count_at now t o) → (t o : ℕ) → count_at next t o + times_among t o (take (i + 1) rows) ≡ count_at old t o
lowered_more rows i d now next old inside lowered one t o =
    let row = get_or rows i d in
    let x = lowered t o in
    let y = one t o in
    let w = ap (times_among t o) (taken_push rows i d inside) ∙ among_push t o (take i rows) row in
    omega (arith, x, y, w)

-- one more, and so the counts
pub raised_more : (rows : List (ℕ × ℕ)) (i : ℕ) (d : ℕ × ℕ) (now next old : List (List ℕ)) → i < length rows → ((t o : ℕ) → count_at now t o ≡ count_at old t o + times_among t o (take i rows))
    → ((t o : ℕ) → count_at next t o ≡ count_at now t o + one_for t o (get_or rows i d)) → (t o : ℕ) → count_at next t o ≡ count_at old t o + times_among t o (take (i + 1) rows)
raised_more rows i d now next old inside raised one t o =
    let row = get_or rows i d in
    let x = raised t o in
    let y = one t o in
    let w = ap (times_among t o) (taken_push rows i d inside) ∙ among_push t o (take i rows) row in
    omega (arith, x, y, w)

-- ---- those that fall to 0

module _ (may : ℕ × ℕ → Type 0) where
  pub falls_none : (counts : List (List ℕ)) (before : List (ℕ × ℕ)) → FallsFrom may [] counts before before
  falls_none counts before = record {
    fallen = [];
    behind = sym (append-nil before);
    once = none_once;
    are = λ row. ((λ among. absurd (none_in row among)), (λ all. absurd (none_in row all.0)));
  }

  module _ (named before after : List (ℕ × ℕ)) (x : ℕ × ℕ) (counts next : List (List ℕ)) (falls : FallsFrom may named counts before after) (some : 0 < count_at counts x.0 x.1)
      (one : (t o : ℕ) → count_at next t o + one_for t o x ≡ count_at counts t o) where
    same_count : (row : ℕ × ℕ) → (IsThere x.0 x.1 row.0 row.1 → ⊥) → count_at next row.0 row.1 ≡ count_at counts row.0 row.1
    same_count row apart = let e = one row.0 row.1 in let f = one_apart x.0 x.1 row.0 row.1 apart in omega (arith, e, f)

    not_it : (row : ℕ × ℕ) → Contains falls.fallen row → IsThere x.0 x.1 row.0 row.1 → ⊥
    not_it row among there =
        let none = ((falls.are row).0 among).1 in
        let e = ap (λ n. count_at counts n row.1) there.0 ∙ ap (count_at counts x.0) there.1 in
        omega (arith, none, e, some)

    still : (row : ℕ × ℕ) → Contains falls.fallen row → Contains (named ++ x ∷ []) row × (count_at next row.0 row.1 ≡ 0) × may row
    still row among =
        let is = (falls.are row).0 among in
        (Contains-append_left named (x ∷ []) row is.0, same_count row (not_it row among) ∙ is.1, is.2)

    fell : (row : ℕ × ℕ) → (IsThere x.0 x.1 row.0 row.1 → ⊥) → Contains (named ++ x ∷ []) row → count_at next row.0 row.1 ≡ 0 → may row → Contains falls.fallen row
    fell row apart among none m =
        elim (Contains-append_cases named (x ∷ []) row among) [
          | inl here ↦ (falls.are row).1 (here, sym (same_count row apart) ∙ none, m)
          | inr last ↦
              elim (parted x [] row last) [
                | inl same ↦ absurd (apart (sym (ap (λ (r : ℕ × ℕ). r.0) same), sym (ap (λ (r : ℕ × ℕ). r.1) same)))
                | inr none_there ↦ absurd (none_in row none_there)
              ]
        ]

    it_is : (row : ℕ × ℕ) → IsThere x.0 x.1 row.0 row.1 → x ≡ row
    it_is row there = λ i. (sym there.0 i, sym there.1 i)

    -- it falls to 0, and may leave
    pub falls_more : (pending : List (ℕ × ℕ)) → pending ≡ after ++ x ∷ [] → count_at next x.0 x.1 ≡ 0 → may x → FallsFrom may (named ++ x ∷ []) next before pending
    falls_more pending is none m = record {
      fallen = falls.fallen ++ x ∷ [];
      behind = is ∙ ap (λ (rows : List (ℕ × ℕ)). rows ++ x ∷ []) falls.behind ∙ append_assoc before falls.fallen (x ∷ []);
      once = append_once falls.fallen (x ∷ []) falls.once last_once
          (λ row here last.
          (elim (parted x [] row last) [
            | inl same ↦ not_it row here (sym (ap (λ (r : ℕ × ℕ). r.0) same), sym (ap (λ (r : ℕ × ℕ). r.1) same))
            | inr none_there ↦ none_in row none_there
          ]));
      are = λ row. (forth row, back row);
    }
      where
        last_once : IsOnce (x ∷ [])
        last_once i j d lt within = absurd (omega (arith, lt, within))

        forth : (row : ℕ × ℕ) → Contains (falls.fallen ++ x ∷ []) row → Contains (named ++ x ∷ []) row × (count_at next row.0 row.1 ≡ 0) × may row
        forth row among =
            elim (Contains-append_cases falls.fallen (x ∷ []) row among) [
              | inl here ↦ still row here
              | inr last ↦
                  elim (parted x [] row last) [
                    | inl same ↦
                        subst (λ (r : ℕ × ℕ). Contains (named ++ x ∷ []) r × (count_at next r.0 r.1 ≡ 0) × may r) same (Contains-append_right named (x ∷ []) x (first_in x []), none, m)
                    | inr none_there ↦ absurd (none_in row none_there)
                  ]
            ]

        back : (row : ℕ × ℕ) → Contains (named ++ x ∷ []) row × (count_at next row.0 row.1 ≡ 0) × may row → Contains (falls.fallen ++ x ∷ []) row
        back row all =
            elim (is_there x.0 x.1 row.0 row.1) [
              | inl there ↦ subst (λ (r : ℕ × ℕ). Contains (falls.fallen ++ x ∷ []) r) (it_is row there) (Contains-append_right falls.fallen (x ∷ []) x (first_in x []))
              | inr apart ↦ Contains-append_left falls.fallen (x ∷ []) row (fell row apart all.0 all.1 all.2)
            ]

    -- it does not, or may not
    pub falls_same : ((count_at next x.0 x.1 ≡ 0) → may x → ⊥) → FallsFrom may (named ++ x ∷ []) next before after
    falls_same never = record {
      fallen = falls.fallen;
      behind = falls.behind;
      once = falls.once;
      are = λ row. (still row, back row);
    }
      where
        back : (row : ℕ × ℕ) → Contains (named ++ x ∷ []) row × (count_at next row.0 row.1 ≡ 0) × may row → Contains falls.fallen row
        back row all =
            elim (is_there x.0 x.1 row.0 row.1) [
              | inl there ↦ absurd (subst (λ (r : ℕ × ℕ). (count_at next r.0 r.1 ≡ 0) → may r → ⊥) (it_is row there) never all.1 all.2)
              | inr apart ↦ fell row apart all.0 all.1 all.2
            ]
