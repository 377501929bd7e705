-- That a trial neither passes nor fails cannot be: the words of judgements make settled ones of settled ones, and what is tried of the bytes and
-- the numbers of a blob is settled.
use Rattle.std.proofs.Common.{◌≡◌, ◌≤◌, ◌<◌, ℕ, suc, ℤ, List, [], ◌∷◌, Option, Some, inl, inr, refl, length, slice_get}
use Rattle.std.specs.Prelude.{◌≢◌}
use Rattle.std.proofs.lemmas.Bool.{cases_lt}
use Rattle.schema_model.specs.declared.limit.Limit.TheVariants.{Blob, Ordinals, Items}
use Rattle.schema_model.specs.Limit.{number_of_limit}
use Rattle.type_rows.specs.Layout.{places_of}
use Rattle.blob_grammar.specs.Decided.{AreBytes}
use Rattle.blob_grammar.specs.Form.{Form}
use Rattle.blob_frame.specs.declared.fault.BlobFault.{BlobFault}
use Rattle.blob_frame.specs.declared.fault.BlobFault.TheVariants as fault
use Rattle.blob_faults.specs.Deciding.{IsOwn}
use Rattle.blob_faults.specs.Judge.{Judge, ◌>>=◌, nothing, test, each_of}
use Rattle.blob_faults.specs.Reading.{short, standing, starts}
use Rattle.blob_faults.specs.Rows.{counts}
use Rattle.blob_faults.specs.Settles.{Settles}
use Rattle.blob_faults.specs.Decided.{not_longer}

-- ---- words

-- nothing is tried, and that passes
pub settles_nothing : {A : Type 0} (v : A) → Settles (nothing v)
unfolding nothing
settles_nothing v no_pass no_fail = no_pass v refl

-- what is tried behind a trial that is settled is settled, if it is so for each value that this one passes with
pub settles_then : {A B : Type 0} (a : Judge A) (b : A → Judge B) → Settles a → ((x : A) → a.Passes x → Settles (b x)) → Settles (a >>= b)
unfolding ◌>>=◌
settles_then a b first then no_pass no_fail =
    first (λ x p. then x p (λ v q. no_pass v (x, p, q)) (λ fault q. no_fail fault (inr (x, p, q)))) (λ fault q. no_fail fault (inl q))

-- one of the two facts of a test holds
pub settles_test : (Keeps Breaks : Type 0) (apart : Keeps → Breaks → ⊥) (fault : BlobFault) (own : IsOwn fault) → ((Keeps → ⊥) → (Breaks → ⊥) → ⊥)
    → Settles (test Keeps Breaks apart fault own)
unfolding test
settles_test Keeps Breaks apart fault own one no_pass no_fail = one (λ keeps. no_pass tt keeps) (λ breaks. no_fail fault (breaks, refl))

-- what is tried of each of some things is settled where each trial is
pub settles_each : {A B : Type 0} (f : A → Judge B) (xs : List A) → ((index : ℕ) (x : A) → slice_get xs index ≡ Some x → Settles (f x)) → Settles (each_of f xs)
unfolding each_of
settles_each f [] each = settles_nothing []
settles_each f (x ∷ xs) each =
    settles_then (f x) (λ v. each_of f xs >>= λ vs. nothing (v ∷ vs)) (each 0 x refl)
    (λ v p. settles_then (each_of f xs) (λ vs. nothing (v ∷ vs)) (settles_each f xs (λ index y at. each (suc index) y at)) (λ vs q. settles_nothing (v ∷ vs)))

-- ---- the bytes and the numbers of a blob

-- a number that keeps a limit or is at fault
settles_limit : (most n : ℕ) (fault : BlobFault) (own : IsOwn fault) → Settles (test (n ≤ most) (most < n) not_longer fault own)
settles_limit most n fault own =
    settles_test (n ≤ most) (most < n) not_longer fault own (λ no_kept no_above. elim (cases_lt most n) [ inl above ↦ no_above above | inr kept ↦ no_kept kept ])

-- the length of a blob
pub settles_short : (blob : List ℕ) → Settles (short blob)
unfolding short
settles_short blob = settles_limit (number_of_limit Blob) (length blob) (fault.Large Blob) tt

-- at each place of a blob a form stands or is stuck
pub settles_standing : {V : Type 0} (form : Form V) (blob : List ℕ) (at : ℕ) → AreBytes blob → at ≤ length blob → Settles (standing form blob at)
unfolding standing
settles_standing form blob at bytes inside no_pass no_fail = elim (form.decided.some blob at bytes inside) [
  | inl stands ↦ no_pass (stands.0, stands.1) stands.2
  | inr stuck ↦ no_fail (fault.Bad stuck.0 stuck.1) (stuck.0, stuck.1, stuck.2, refl)
]

-- the numbers of ordinals and items of a type
pub settles_counts : (max : Option ℕ) (total : ℕ) → Settles (counts max total)
unfolding counts
settles_counts max total =
    settles_then (test (places_of max ≤ number_of_limit Ordinals) (number_of_limit Ordinals < places_of max) not_longer (fault.Large Ordinals) tt)
    (λ done. test (total ≤ number_of_limit Items) (number_of_limit Items < total) not_longer (fault.Large Items) tt)
    (settles_limit (number_of_limit Ordinals) (places_of max) (fault.Large Ordinals) tt) (λ done kept. settles_limit (number_of_limit Items) total (fault.Large Items) tt)
