-- A trial comes out in one way: the words of judgements make decided ones of decided ones.
use Rattle.std.proofs.Common.{◌≡◌, ◌⊎◌, ◌∙◌, ℕ, List, Some, inl, inr, refl, slice_get, sym, subst}
use Rattle.blob_frame.specs.declared.fault.BlobFault.{BlobFault}
use Rattle.blob_frame.specs.declared.fault.BlobFault.TheVariants as fault

-- The fault is one of the blob: neither want of memory nor a failed store.
abbrev pub IsOwn : BlobFault → Type 0
IsOwn fault.Store = ⊥
IsOwn fault.Memory = ⊥
IsOwn _ = Unit {0}

-- It passes with one value at most, fails with one fault at most, which is one of the blob, and never does both.
pub record Decides {V : Type 0} (Passes : V → Type 0) (Fails : BlobFault → Type 0) : Type 0 where
  pub one : (v w : V) → Passes v → Passes w → v ≡ w
  pub once : (a b : BlobFault) → Fails a → Fails b → a ≡ b
  pub apart : (v : V) (fault : BlobFault) → Passes v → Fails fault → ⊥
  pub own : (fault : BlobFault) → Fails fault → IsOwn fault

pub decides_nothing : {A : Type 0} (v : A) → Decides (λ (w : A). w ≡ v) (λ fault. ⊥)
decides_nothing v = record {
  one = λ a b p q. p ∙ sym q;
  once = λ a b p q. absurd p;
  apart = λ w fault p q. q;
  own = λ fault p. absurd p;
}

pub decides_item : {A : Type 0} (xs : List A) (i : ℕ) → Decides (λ (x : A). slice_get xs i ≡ Some x) (λ fault. ⊥)
decides_item xs i = record {
  one = λ a b p q. let e : Some a ≡ Some b = sym p ∙ q in cc;
  once = λ a b p q. absurd p;
  apart = λ x fault p q. q;
  own = λ fault p. absurd p;
}

pub decides_test : (Keeps Breaks : Type 0) (apart : Keeps → Breaks → ⊥) (fault : BlobFault) → IsOwn fault →
    Decides {V = Unit} (λ u. Keeps) (λ other. Breaks × (other ≡ fault))
decides_test Keeps Breaks apart fault own = record {
  one = λ a b p q. refl;
  once = λ a b p q. p.1 ∙ sym q.1;
  apart = λ v other p q. apart p q.0;
  own = λ other p. subst IsOwn (sym p.1) own;
}

module _ {A B : Type 0} {P : A → Type 0} {Q : BlobFault → Type 0} {R : A → B → Type 0} {T : A → BlobFault → Type 0} where
  once_then : Decides P Q → ((x : A) → Decides (R x) (T x)) → (a b : BlobFault) → Q a ⊎ ((x : A) × P x × T x a) → Q b ⊎ ((x : A) × P x × T x b) → a ≡ b
  once_then d e a b (inl p) (inl q) = d.once a b p q
  once_then d e a b (inl p) (inr q) = absurd (d.apart q.0 a q.1 p)
  once_then d e a b (inr p) (inl q) = absurd (d.apart p.0 b p.1 q)
  once_then d e a b (inr p) (inr q) = (e q.0).once a b (subst (λ (x : A). T x a) (d.one p.0 q.0 p.1 q.1) p.2) q.2

  apart_then : Decides P Q → ((x : A) → Decides (R x) (T x)) → (v : B) (fault : BlobFault) → ((x : A) × P x × R x v) → Q fault ⊎ ((x : A) × P x × T x fault) → ⊥
  apart_then d e v fault p (inl q) = d.apart p.0 fault p.1 q
  apart_then d e v fault p (inr q) = (e q.0).apart v fault (subst (λ (x : A). R x v) (d.one p.0 q.0 p.1 q.1) p.2) q.2

  own_then : Decides P Q → ((x : A) → Decides (R x) (T x)) → (fault : BlobFault) → Q fault ⊎ ((x : A) × P x × T x fault) → IsOwn fault
  own_then d e fault (inl p) = d.own fault p
  own_then d e fault (inr p) = (e p.0).own fault p.2

  pub decides_then : Decides P Q → ((x : A) → Decides (R x) (T x)) →
      Decides (λ v. (x : A) × P x × R x v) (λ fault. Q fault ⊎ ((x : A) × P x × T x fault))
  decides_then d e = record {
    one = λ v w p q. (e q.0).one v w (subst (λ (x : A). R x v) (d.one p.0 q.0 p.1 q.1) p.2) q.2;
    once = once_then d e;
    apart = apart_then d e;
    own = own_then d e;
  }
