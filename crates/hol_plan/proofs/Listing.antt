-- Listing the versions of deltas, and deltas as steps.
use Rattle.std.proofs.Common.{◌≡◌, ℕ, ◌+◌, ◌<◌, List, [], ◌∷◌, ◌++◌, get_or, take, length, Some, None, eqb, sym, ◌∙◌, subst}
use Rattle.std.specs.List.{All, Contains, dedup}
use Rattle.std.specs.List.Sorted.{IsPermutation, IsSorted, IsNonDecreasingBy, IsStrictlyIncreasing}
use Rattle.std.specs.Ordering.{nat_cmp}
use Rattle.std.proofs.lemmas.List.Elements.{All-more, All-weaker, All-push, Contains-append_left, Contains-push, Contains-get_or}
use Rattle.std.proofs.lemmas.Option.{some_pair_parts}
use Rattle.std.proofs.lemmas.List.Kept.{Contains-dedup_nat}
use Rattle.std.proofs.lemmas.List.Sorted.{All-permutation, Contains-permutation}
use Rattle.std.proofs.lemmas.Map.Keys.{IsStrictlyIncreasing-dedup}
use Rattle.hol_io.specs.declared.name.BlobName.{BlobName}
use Rattle.hol_plan.specs.declared.steps.Step.{Step}
use Rattle.hol_plan.specs.Steps.{AreSteps, HasEnds, HasStep, HasVersions, IsStep, Joins, ends_of}

-- Where all of some versions are among others, so are the ends of names.
more_ends : (versions more : List ℕ) → ((version : ℕ) → Contains versions version → Contains more version) → (name : BlobName) → HasEnds versions name → HasEnds more name
more_ends versions more all name has begin end ends = let both = has begin end ends in (all begin both.0, all end both.1)

-- The versions so far have the end and those of the first names.
pub record Lists (blobs : List BlobName) (to i : ℕ) (versions : List ℕ) : Type 0 where
  pub ended : Contains versions to
  pub deltas : All (HasEnds versions) (take i blobs)

-- One name more, which is no delta, or whose ends are added.
pub list_same : (blobs : List BlobName) (to i : ℕ) (versions : List ℕ) (name : BlobName) → i < length blobs → name ≡ get_or blobs i name → ends_of name ≡ None
    → Lists blobs to i versions → Lists blobs to (i + 1) versions
list_same blobs to i versions name within is none lists = record {
  ended = lists.ended;
  deltas = All-more (HasEnds versions) blobs i name within lists.deltas (subst (HasEnds versions) is (λ begin end ends. absurd cc));
}

pub list_more : (blobs : List BlobName) (to i : ℕ) (versions : List ℕ) (name : BlobName) (begin end : ℕ) → i < length blobs → name ≡ get_or blobs i name → ends_of name ≡ Some (begin, end)
    → Lists blobs to i versions → Lists blobs to (i + 1) ((versions ++ begin ∷ []) ++ end ∷ [])
list_more blobs to i versions name begin end within is ends lists =
    let more : List ℕ = (versions ++ begin ∷ []) ++ end ∷ [] in
    let all : (version : ℕ) → Contains versions version → Contains more version =
    λ version among. Contains-append_left (versions ++ begin ∷ []) (end ∷ []) version (Contains-append_left versions (begin ∷ []) version among) in
    let first : Contains more begin = Contains-append_left (versions ++ begin ∷ []) (end ∷ []) begin (Contains-push versions begin) in
    let second : Contains more end = Contains-push (versions ++ begin ∷ []) end in
    record {
      ended = all to lists.ended;
      deltas = All-more (HasEnds more) blobs i name within
          (All-weaker (HasEnds versions) (HasEnds more) (more_ends versions more all) (take i blobs) lists.deltas)
          (subst (HasEnds more) is (λ from at both.
          let same = some_pair_parts from begin at end (sym both ∙ ends) in
          (subst (Contains more) (sym same.0) first, subst (Contains more) (sym same.1) second)));
    }

-- Sorted, and each once.
pub listed : (blobs : List BlobName) (to : ℕ) (versions sorted kept : List ℕ) → Contains versions to → All (HasEnds versions) blobs → IsPermutation versions sorted → IsSorted nat_cmp sorted
    → kept ≡ dedup eqb sorted → HasVersions blobs to kept
listed blobs to versions sorted kept ended deltas moved is same =
    let all : (version : ℕ) → Contains versions version → Contains kept version =
    λ version among. subst (λ l. Contains l version) (sym same) (Contains-dedup_nat sorted version (Contains-permutation versions sorted version moved among)) in
    record {
      rising = subst IsStrictlyIncreasing (sym same) (IsStrictlyIncreasing-dedup sorted is);
      ended = all to ended;
      deltas = All-weaker (HasEnds versions) (HasEnds kept) (more_ends versions kept all) blobs deltas;
    }

-- The steps so far are listed deltas, and the first names have theirs.
pub record Steps (blobs : List BlobName) (versions : List ℕ) (i : ℕ) (steps : List Step) : Type 0 where
  pub each : All (IsStep blobs versions) steps
  pub whole : All (HasStep steps) (take i blobs)

pub step_same : (blobs : List BlobName) (versions : List ℕ) (i : ℕ) (steps : List Step) (name : BlobName) → i < length blobs → name ≡ get_or blobs i name → ends_of name ≡ None
    → Steps blobs versions i steps → Steps blobs versions (i + 1) steps
step_same blobs versions i steps name within is none all = record {
  each = all.each;
  whole = All-more (HasStep steps) blobs i name within all.whole (subst (HasStep steps) is (λ begin end ends. absurd cc));
}

more_steps : (steps more : List Step) → ((step : Step) → Contains steps step → Contains more step) → (name : BlobName) → HasStep steps name → HasStep more name
more_steps steps more all name has begin end ends = let found = has begin end ends in (found.0, (all found.0 found.1.0, found.1.1))

pub step_more : (blobs : List BlobName) (versions : List ℕ) (i : ℕ) (steps : List Step) (name : BlobName) (step : Step) → i < length blobs → name ≡ get_or blobs i name
    → step.name ≡ name → Joins versions step → Steps blobs versions i steps → Steps blobs versions (i + 1) (steps ++ step ∷ [])
step_more blobs versions i steps name step within is same joins all =
    let among : Contains blobs step.name = subst (Contains blobs) (sym (same ∙ is)) (Contains-get_or blobs i name within) in
    record {
      each = All-push (IsStep blobs versions) steps step all.each (among, joins);
      whole = All-more (HasStep (steps ++ step ∷ [])) blobs i name within
          (All-weaker (HasStep steps) (HasStep (steps ++ step ∷ [])) (more_steps steps (steps ++ step ∷ []) (Contains-append_left steps (step ∷ []))) (take i blobs) all.whole)
          (subst (HasStep (steps ++ step ∷ [])) is (λ begin end ends. (step, (Contains-push steps step, same))));
    }

-- In another order.
pub steps_sorted : (blobs : List BlobName) (versions : List ℕ) (steps sorted : List Step) → All (IsStep blobs versions) steps → All (HasStep steps) blobs → IsPermutation steps sorted
    → IsNonDecreasingBy (λ (step : Step). step.end) sorted → AreSteps blobs versions sorted
steps_sorted blobs versions steps sorted each whole moved grouped = record {
  each = All-permutation (IsStep blobs versions) steps sorted moved each;
  whole = All-weaker (HasStep steps) (HasStep sorted) (more_steps steps sorted (λ step. Contains-permutation steps sorted step moved)) blobs whole;
  grouped = grouped;
}
