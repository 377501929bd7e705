-- The words of forms make decided parts of decided ones.
use Rattle.std.proofs.Common.{◌≡◌, ◌≤◌, ◌<◌, ◌≢◌, ◌⊎◌, ℕ, List, inl, inr, refl, ◌∙◌, subst, sym}
use Rattle.std.proofs.Math.Nat.{not-le_of_lt}
use Rattle.std.proofs.lemmas.Bool.{cases_lt, cases_eq}
use Rattle.schema_model.specs.declared.reason.Reason.{Reason}
use Rattle.schema_model.specs.declared.reason.Reason.TheVariants.{BadSchema}
use Rattle.blob_grammar.specs.Decided.{AreBytes, StandsThere, StuckThere, IsDecided, IsJudge}

pub decided_nothing : {A : Type 0} (v : A) → IsDecided (λ (bytes : List ℕ) (at : ℕ) (w : A) (next : ℕ). (w ≡ v) × (next ≡ at)) (λ bytes at place why. ⊥)
decided_nothing v = record {
  one = λ bytes at v w next end p q. (p.0 ∙ sym q.0, p.1 ∙ sym q.1);
  once = λ bytes at place other why because p q. absurd p;
  apart = λ bytes at v next place why p q. q;
  some = λ bytes at all within. inl (v, at, (refl, refl), within);
}

-- at an equal value and an equal place
moved : {A : Type 0} (C : A → ℕ → Type 0) {x y : A} {i j : ℕ} → (x ≡ y) × (i ≡ j) → C x i → C y j
moved {A} C {x} {y} {i} {j} same c = subst (λ n. C y n) same.1 (subst (λ (x : A). C x i) same.0 c)

module _ {A B : Type 0} {P : List ℕ → ℕ → A → ℕ → Type 0} {Q : List ℕ → ℕ → ℕ → Reason → Type 0}
    {R : A → List ℕ → ℕ → B → ℕ → Type 0} {T : A → List ℕ → ℕ → ℕ → Reason → Type 0} where
  once_then : IsDecided P Q → ((x : A) → IsDecided (R x) (T x)) → (bytes : List ℕ) (at place other : ℕ) (why because : Reason) →
      Q bytes at place why ⊎ ((x : A) × (mid : ℕ) × P bytes at x mid × T x bytes mid place why) →
      Q bytes at other because ⊎ ((x : A) × (mid : ℕ) × P bytes at x mid × T x bytes mid other because) → (place ≡ other) × (why ≡ because)
  once_then d e bytes at place other why because (inl p) (inl q) = d.once bytes at place other why because p q
  once_then d e bytes at place other why because (inl p) (inr q) = absurd (d.apart bytes at q.0 q.1 place why q.2 p)
  once_then d e bytes at place other why because (inr p) (inl q) = absurd (d.apart bytes at p.0 p.1 other because p.2 q)
  once_then d e bytes at place other why because (inr p) (inr q) = (e q.0).once bytes q.1 place other why because
      (moved (λ x mid. T x bytes mid place why) (d.one bytes at p.0 q.0 p.1 q.1 p.2 q.2) p.3) q.3

  apart_then : IsDecided P Q → ((x : A) → IsDecided (R x) (T x)) → (bytes : List ℕ) (at : ℕ) (v : B) (next place : ℕ) (why : Reason) →
      ((x : A) × (mid : ℕ) × P bytes at x mid × R x bytes mid v next) →
      Q bytes at place why ⊎ ((x : A) × (mid : ℕ) × P bytes at x mid × T x bytes mid place why) → ⊥
  apart_then d e bytes at v next place why p (inl q) = d.apart bytes at p.0 p.1 place why p.2 q
  apart_then d e bytes at v next place why p (inr q) = (e q.0).apart bytes q.1 v next place why
      (moved (λ x mid. R x bytes mid v next) (d.one bytes at p.0 q.0 p.1 q.1 p.2 q.2) p.3) q.3

  some_behind : IsDecided P Q → ((x : A) → IsDecided (R x) (T x)) → (bytes : List ℕ) (at : ℕ) → AreBytes bytes → StandsThere P bytes at ⊎ StuckThere Q bytes at →
      StandsThere (λ bytes at v next. (x : A) × (mid : ℕ) × P bytes at x mid × R x bytes mid v next) bytes at
      ⊎ StuckThere (λ bytes at place why. Q bytes at place why ⊎ ((x : A) × (mid : ℕ) × P bytes at x mid × T x bytes mid place why)) bytes at
  some_behind d e bytes at all (inl p) = elim ((e p.0).some bytes p.1 all p.3) [
    | inl q ↦ inl (q.0, q.1, (p.0, p.1, p.2, q.2), q.3)
    | inr q ↦ inr (q.0, q.1, inr (p.0, p.1, p.2, q.2))
  ]
  some_behind d e bytes at all (inr p) = inr (p.0, p.1, inl p.2)

  pub decided_then : IsDecided P Q → ((x : A) → IsDecided (R x) (T x)) →
      IsDecided (λ bytes at v next. (x : A) × (mid : ℕ) × P bytes at x mid × R x bytes mid v next)
      (λ bytes at place why. Q bytes at place why ⊎ ((x : A) × (mid : ℕ) × P bytes at x mid × T x bytes mid place why))
  decided_then d e = record {
    one = λ bytes at v w next end p q. (e q.0).one bytes q.1 v w next end
        (moved (λ x mid. R x bytes mid v next) (d.one bytes at p.0 q.0 p.1 q.1 p.2 q.2) p.3) q.3;
    once = once_then d e;
    apart = apart_then d e;
    some = λ bytes at all within. some_behind d e bytes at all (d.some bytes at all within);
  }

module _ {A B : Type 0} {P : List ℕ → ℕ → A → ℕ → Type 0} {Q : List ℕ → ℕ → ℕ → Reason → Type 0}
    {M : A → B → Type 0} {F : A → Reason → Type 0} where
  once_judged : IsDecided P Q → IsJudge M F → (bytes : List ℕ) (at place other : ℕ) (why because : Reason) →
      Q bytes at place why ⊎ ((x : A) × (next : ℕ) × P bytes at x next × (place ≡ at) × F x why) →
      Q bytes at other because ⊎ ((x : A) × (next : ℕ) × P bytes at x next × (other ≡ at) × F x because) → (place ≡ other) × (why ≡ because)
  once_judged d j bytes at place other why because (inl p) (inl q) = d.once bytes at place other why because p q
  once_judged d j bytes at place other why because (inl p) (inr q) = absurd (d.apart bytes at q.0 q.1 place why q.2 p)
  once_judged d j bytes at place other why because (inr p) (inl q) = absurd (d.apart bytes at p.0 p.1 other because p.2 q)
  once_judged d j bytes at place other why because (inr p) (inr q) =
      (p.3 ∙ sym q.3, j.once q.0 why because (subst (λ (x : A). F x why) (d.one bytes at p.0 q.0 p.1 q.1 p.2 q.2).0 p.4) q.4)

  apart_judged : IsDecided P Q → IsJudge M F → (bytes : List ℕ) (at : ℕ) (v : B) (next place : ℕ) (why : Reason) →
      ((x : A) × P bytes at x next × M x v) →
      Q bytes at place why ⊎ ((x : A) × (next : ℕ) × P bytes at x next × (place ≡ at) × F x why) → ⊥
  apart_judged d j bytes at v next place why p (inl q) = d.apart bytes at p.0 next place why p.1 q
  apart_judged d j bytes at v next place why p (inr q) =
      j.apart q.0 v why (subst (λ (x : A). M x v) (d.one bytes at p.0 q.0 next q.1 p.1 q.2).0 p.2) q.4

  some_judged : IsDecided P Q → IsJudge M F → (bytes : List ℕ) (at : ℕ) → StandsThere P bytes at ⊎ StuckThere Q bytes at →
      StandsThere (λ bytes at v next. (x : A) × P bytes at x next × M x v) bytes at
      ⊎ StuckThere (λ bytes at place why. Q bytes at place why ⊎ ((x : A) × (next : ℕ) × P bytes at x next × (place ≡ at) × F x why)) bytes at
  some_judged d j bytes at (inl p) = elim (j.some p.0) [
    | inl m ↦ inl (m.0, p.1, (p.0, p.2, m.1), p.3)
    | inr f ↦ inr (at, f.0, inr (p.0, p.1, p.2, refl, f.1))
  ]
  some_judged d j bytes at (inr p) = inr (p.0, p.1, inl p.2)

  pub decided_judged : IsDecided P Q → IsJudge M F →
      IsDecided (λ bytes at v next. (x : A) × P bytes at x next × M x v)
      (λ bytes at place why. Q bytes at place why ⊎ ((x : A) × (next : ℕ) × P bytes at x next × (place ≡ at) × F x why))
  decided_judged d j = record {
    one = λ bytes at v w next end p q. let same = d.one bytes at p.0 q.0 next end p.1 q.1 in
        (j.one q.0 v w (subst (λ (x : A). M x v) same.0 p.2) q.2, same.1);
    once = once_judged d j;
    apart = apart_judged d j;
    some = λ bytes at all within. some_judged d j bytes at (d.some bytes at all within);
  }

-- a value that is computed
pub judge_as : {A B : Type 0} (f : A → B) → IsJudge (λ x v. v ≡ f x) (λ x why. ⊥)
judge_as f = record {
  one = λ x v w p q. p ∙ sym q;
  once = λ x why because p q. absurd p;
  apart = λ x v why p q. q;
  some = λ x. inl (f x, refl);
}

-- a value that is left out
pub judge_any : {A : Type 0} → IsJudge {A = A} {B = Unit} (λ x u. Unit {0}) (λ x why. ⊥)
judge_any = record {
  one = λ x v w p q. refl;
  once = λ x why because p q. absurd p;
  apart = λ x v why p q. q;
  some = λ x. inl (tt, tt);
}

-- the same value, where it keeps a rule, and one reason where it breaks it
pub judge_rule : {A : Type 0} (Keeps Breaks : A → Type 0) (reason : Reason) → ((x : A) → Keeps x → Breaks x → ⊥) → ((x : A) → Keeps x ⊎ Breaks x) →
    IsJudge (λ x v. (v ≡ x) × Keeps x) (λ x why. Breaks x × (why ≡ reason))
judge_rule Keeps Breaks reason apart some = record {
  one = λ x v w p q. p.0 ∙ sym q.0;
  once = λ x why because p q. p.1 ∙ sym q.1;
  apart = λ x v why p q. apart x p.1 q.0;
  some = λ x. elim (some x) [ inl p ↦ inl (x, (refl, p)) | inr p ↦ inr (reason, (p, refl)) ];
}

-- one value alone, where it can be told
pub judge_only : {A : Type 0} (only : A) (reason : Reason) → ((x : A) → (x ≡ only) ⊎ (x ≢ only)) →
    IsJudge {A = A} {B = Unit} (λ x u. x ≡ only) (λ x why. (x ≢ only) × (why ≡ reason))
judge_only only reason some = record {
  one = λ x v w p q. refl;
  once = λ x why because p q. p.1 ∙ sym q.1;
  apart = λ x v why p q. q.0 p;
  some = λ x. elim (some x) [ inl p ↦ inl (tt, p) | inr p ↦ inr (reason, (p, refl)) ];
}

-- one number alone
pub judge_number : (only : ℕ) (reason : Reason) → IsJudge {A = ℕ} {B = Unit} (λ n u. n ≡ only) (λ n why. (n ≢ only) × (why ≡ reason))
judge_number only reason = judge_only only reason (λ n. cases_eq n only)

pub not_below : {least n : ℕ} → least ≤ n → n < least → ⊥
not_below p q = not-le_of_lt q p

pub below_or : (least n : ℕ) → (least ≤ n) ⊎ (n < least)
below_or least n = elim (cases_lt n least) [ inl p ↦ inr p | inr p ↦ inl p ]

-- a number that is no less than this
pub judge_at_least : (least : ℕ) (reason : Reason) → IsJudge (λ n m. (m ≡ n) × (least ≤ n)) (λ n why. (n < least) × (why ≡ reason))
judge_at_least least reason = judge_rule (λ n. least ≤ n) (λ n. n < least) reason (λ n p q. not_below p q) (λ n. below_or least n)

-- a number that is no more than this
pub judge_at_most : (most : ℕ) → IsJudge (λ n m. (m ≡ n) × (n ≤ most)) (λ n why. (most < n) × (why ≡ BadSchema))
judge_at_most most = judge_rule (λ n. n ≤ most) (λ n. most < n) BadSchema (λ n p q. not_below p q) (λ n. below_or n most)

-- the place itself, as a value
pub decided_here : IsDecided {V = ℕ} (λ bytes at v next. (v ≡ at) × (next ≡ at)) (λ bytes at place why. ⊥)
decided_here = record {
  one = λ bytes at v w next end p q. (p.0 ∙ sym q.0, p.1 ∙ sym q.1);
  once = λ bytes at place other why because p q. absurd p;
  apart = λ bytes at v next place why p q. q;
  some = λ bytes at all within. inl (at, at, (refl, refl), within);
}
