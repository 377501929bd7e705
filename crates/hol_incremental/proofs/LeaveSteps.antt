-- Rows come to leave one after another.
use Rattle.std.proofs.Common.{◌≡◌, ◌+◌, ◌<◌, ◌⊎◌, ℕ, List, [], ◌∷◌, ◌++◌, length, get_or, take, refl, sym, ap, subst, inl, inr, arith}
use Rattle.std.specs.Prelude.{Contains}
use Rattle.std.proofs.lemmas.List.Elements.{Contains-append_cases, Contains-append_left, Contains-append_right}
use Rattle.hol_incremental.specs.Leaves.{LeaveMore}
use Rattle.hol_incremental.proofs.Among.{first_in, none_in, parted}
use Rattle.hol_incremental.proofs.CountLists.{taken_push}
use Rattle.hol_incremental.proofs.OnceLists.{IsOnce, append_once}

module _ (tops : List (ℕ × ℕ)) where
  -- the same rows, told in other words
  pub leave_same : (leaves other : ℕ × ℕ → Type 0) (before after : List (ℕ × ℕ)) → ((row : ℕ × ℕ) → leaves row → other row) → ((row : ℕ × ℕ) → other row → leaves row) → LeaveMore leaves tops before after
      → LeaveMore other tops before after
  leave_same leaves other before after f g more = record { once = more.once; are = λ row. ((λ among. to row ((more.are row).0 among)), (λ any. (more.are row).1 (back row any))) }
    where
      to : (row : ℕ × ℕ) → Contains before row ⊎ (leaves row × ¬ Contains tops row) → Contains before row ⊎ (other row × ¬ Contains tops row)
      to row (inl here) = inl here
      to row (inr both) = inr (f row both.0, both.1)

      back : (row : ℕ × ℕ) → Contains before row ⊎ (other row × ¬ Contains tops row) → Contains before row ⊎ (leaves row × ¬ Contains tops row)
      back row (inl here) = inl here
      back row (inr both) = inr (g row both.0, both.1)

  -- some, and then others
  pub leave_then : (leaves other : ℕ × ℕ → Type 0) (before middle after : List (ℕ × ℕ)) → LeaveMore leaves tops before middle → LeaveMore other tops middle after → LeaveMore (λ row. leaves row ⊎ other row) tops before after
  leave_then leaves other before middle after one two = record { once = λ once. two.once (one.once once); are = λ row. ((λ among. to row ((two.are row).0 among)), (λ any. (two.are row).1 (back row any))) }
    where
      first : (row : ℕ × ℕ) → Contains before row ⊎ (leaves row × ¬ Contains tops row) → Contains before row ⊎ ((leaves row ⊎ other row) × ¬ Contains tops row)
      first row (inl here) = inl here
      first row (inr both) = inr (inl both.0, both.1)

      to : (row : ℕ × ℕ) → Contains middle row ⊎ (other row × ¬ Contains tops row) → Contains before row ⊎ ((leaves row ⊎ other row) × ¬ Contains tops row)
      to row (inl here) = first row ((one.are row).0 here)
      to row (inr both) = inr (inr both.0, both.1)

      by_kind : (row : ℕ × ℕ) → leaves row ⊎ other row → ¬ Contains tops row → Contains middle row ⊎ (other row × ¬ Contains tops row)
      by_kind row (inl l) top = inl ((one.are row).1 (inr (l, top)))
      by_kind row (inr o) top = inr (o, top)

      back : (row : ℕ × ℕ) → Contains before row ⊎ ((leaves row ⊎ other row) × ¬ Contains tops row) → Contains middle row ⊎ (other row × ¬ Contains tops row)
      back row (inl here) = inl ((one.are row).1 (inl here))
      back row (inr both) = by_kind row both.0 both.1

  -- one row
  pub leave_one : (x : ℕ × ℕ) (before : List (ℕ × ℕ)) → (Contains tops x → ⊥) → (Contains before x → ⊥) → LeaveMore (λ row. row ≡ x) tops before (before ++ x ∷ [])
  leave_one x before top there = record {
    once = λ once. append_once before (x ∷ []) once last (λ row here late. there (subst (λ (r : ℕ × ℕ). Contains before r) (it row late) here));
    are = λ row. ((λ among. to row (Contains-append_cases before (x ∷ []) row among)), (λ any. back row any));
  }
    where
      last : IsOnce (x ∷ [])
      last i j d lt within = absurd (omega (arith, lt, within))

      it : (row : ℕ × ℕ) → Contains (x ∷ []) row → row ≡ x
      it row among =
          elim (parted x [] row among) [
            | inl same ↦ sym same
            | inr none ↦ absurd (none_in row none)
          ]

      to : (row : ℕ × ℕ) → Contains before row ⊎ Contains (x ∷ []) row → Contains before row ⊎ ((row ≡ x) × ¬ Contains tops row)
      to row (inl here) = inl here
      to row (inr late) = inr (it row late, λ is. top (subst (λ (r : ℕ × ℕ). Contains tops r) (it row late) is))

      back : (row : ℕ × ℕ) → Contains before row ⊎ ((row ≡ x) × ¬ Contains tops row) → Contains (before ++ x ∷ []) row
      back row (inl here) = Contains-append_left before (x ∷ []) row here
      back row (inr both) = subst (λ (r : ℕ × ℕ). Contains (before ++ x ∷ []) r) (sym both.0) (Contains-append_right before (x ∷ []) x (first_in x []))

  -- a row that is a top row, or leaves already
  pub leave_known : (x : ℕ × ℕ) (before : List (ℕ × ℕ)) → Contains tops x ⊎ Contains before x → LeaveMore (λ row. row ≡ x) tops before before
  leave_known x before known = record { once = λ once. once; are = λ row. (inl, λ any. back row known any) }
    where
      back : (row : ℕ × ℕ) → Contains tops x ⊎ Contains before x → Contains before row ⊎ ((row ≡ x) × ¬ Contains tops row) → Contains before row
      back row known' (inl here) = here
      back row (inl top) (inr both) = absurd (both.1 (subst (λ (r : ℕ × ℕ). Contains tops r) (sym both.0) top))
      back row (inr here) (inr both) = subst (λ (r : ℕ × ℕ). Contains before r) (sym both.0) here

-- ---- what the first so many contain, and the next one

pub in_next : {A : Type 0} (xs : List A) (i : ℕ) (d x : A) → i < length xs → Contains (take (i + 1) xs) x → Contains (take i xs) x ⊎ (get_or xs i d ≡ x)
in_next xs i d x inside among =
    elim (Contains-append_cases (take i xs) (get_or xs i d ∷ []) x (subst (λ ys. Contains ys x) (taken_push xs i d inside) among)) [
      | inl here ↦ inl here
      | inr last ↦ elim (parted (get_or xs i d) [] x last) [
        | inl same ↦ inr same
        | inr none ↦ absurd (none_in x none)
      ]
    ]

pub next_in : {A : Type 0} (xs : List A) (i : ℕ) (d x : A) → i < length xs → Contains (take i xs) x ⊎ (get_or xs i d ≡ x) → Contains (take (i + 1) xs) x
next_in xs i d x inside (inl here) = subst (λ ys. Contains ys x) (sym (taken_push xs i d inside)) (Contains-append_left (take i xs) (get_or xs i d ∷ []) x here)
next_in xs i d x inside (inr same) =
    subst (λ ys. Contains ys x) (sym (taken_push xs i d inside))
    (Contains-append_right (take i xs) (get_or xs i d ∷ []) x (subst (λ y. Contains (get_or xs i d ∷ []) y) same (first_in (get_or xs i d) [])))

-- rows of a type under the first so many ordinals, and the next one
pub leave_next : (tops : List (ℕ × ℕ)) (t : ℕ) (xs : List ℕ) (i d : ℕ) (before middle after : List (ℕ × ℕ)) → i < length xs → LeaveMore (λ row. (row.0 ≡ t) × Contains (take i xs) row.1) tops before middle
    → LeaveMore (λ row. row ≡ (t, get_or xs i d)) tops middle after → LeaveMore (λ row. (row.0 ≡ t) × Contains (take (i + 1) xs) row.1) tops before after
leave_next tops t xs i d before middle after inside one two =
    leave_same tops (λ row. ((row.0 ≡ t) × Contains (take i xs) row.1) ⊎ (row ≡ (t, get_or xs i d))) (λ row. (row.0 ≡ t) × Contains (take (i + 1) xs) row.1) before after forth back
    (leave_then tops (λ row. (row.0 ≡ t) × Contains (take i xs) row.1) (λ row. row ≡ (t, get_or xs i d)) before middle after one two)
  where
    forth : (row : ℕ × ℕ) → ((row.0 ≡ t) × Contains (take i xs) row.1) ⊎ (row ≡ (t, get_or xs i d)) → (row.0 ≡ t) × Contains (take (i + 1) xs) row.1
    forth row (inl here) = (here.0, next_in xs i d row.1 inside (inl here.1))
    forth row (inr is) = (ap (λ (r : ℕ × ℕ). r.0) is, next_in xs i d row.1 inside (inr (sym (ap (λ (r : ℕ × ℕ). r.1) is))))

    back : (row : ℕ × ℕ) → (row.0 ≡ t) × Contains (take (i + 1) xs) row.1 → ((row.0 ≡ t) × Contains (take i xs) row.1) ⊎ (row ≡ (t, get_or xs i d))
    back row both =
        elim (in_next xs i d row.1 inside both.1) [
          | inl here ↦ inl (both.0, here)
          | inr last ↦ inr (λ j. (both.0 j, sym last j))
        ]

-- rows that have a property of the first so many entries, and of the next one
pub leave_entry : {A : Type 0} (tops : List (ℕ × ℕ)) (P : A → ℕ × ℕ → Type 0) (xs : List A) (i : ℕ) (d : A) (before middle after : List (ℕ × ℕ)) → i < length xs
    → LeaveMore (λ row. (x : A) × Contains (take i xs) x × P x row) tops before middle → LeaveMore (P (get_or xs i d)) tops middle after → LeaveMore (λ row. (x : A) × Contains (take (i + 1) xs) x × P x row) tops before after
leave_entry {A} tops P xs i d before middle after inside one two =
    leave_same tops (λ row. ((x : A) × Contains (take i xs) x × P x row) ⊎ P (get_or xs i d) row) (λ row. (x : A) × Contains (take (i + 1) xs) x × P x row) before after forth back
    (leave_then tops (λ row. (x : A) × Contains (take i xs) x × P x row) (P (get_or xs i d)) before middle after one two)
  where
    forth : (row : ℕ × ℕ) → ((x : A) × Contains (take i xs) x × P x row) ⊎ P (get_or xs i d) row → (x : A) × Contains (take (i + 1) xs) x × P x row
    forth row (inl here) = (here.0, next_in xs i d here.0 inside (inl here.1), here.2)
    forth row (inr is) = (get_or xs i d, next_in xs i d (get_or xs i d) inside (inr refl), is)

    back : (row : ℕ × ℕ) → (x : A) × Contains (take (i + 1) xs) x × P x row → ((x : A) × Contains (take i xs) x × P x row) ⊎ P (get_or xs i d) row
    back row found =
        elim (in_next xs i d found.0 inside found.1) [
          | inl here ↦ inl (found.0, here, found.2)
          | inr last ↦ inr (subst (λ x. P x row) (sym last) found.2)
        ]
