-- The nearest start behind a snapshot, one name after another.
use Rattle.std.proofs.Common.{◌≡◌, ℕ, ◌+◌, ◌<◌, List, [], ◌∷◌, ◌++◌, get_or, take, length, Option, Some, None, refl, sym, ◌∙◌, ap, subst, arith, inl, inr}
use Rattle.std.specs.List.{Contains, slice_get}
use Rattle.std.specs.List.Sorted.{IsStrictlyIncreasing}
use Rattle.std.proofs.lemmas.List.{take_more}
use Rattle.std.proofs.lemmas.List.Elements.{Contains-append_left, Contains-push, Contains-push_cases}
use Rattle.hol_io.specs.declared.name.BlobName.{BlobName}
use Rattle.hol_io.specs.declared.name.BlobName.TheVariants.{Snapshot}
use Rattle.hol_plan.specs.declared.start.Start.{Start}
use Rattle.hol_plan.specs.Start.{IsAway, IsNearer, IsNearest, IsNoFarther, IsStart, TellsSnapshot, TellsStart}
use Rattle.hol_plan.specs.Ways.{Ways}
use Rattle.hol_plan.proofs.Places.{one_away, one_place}

-- No way is found from a version at whose place none is.
pub not_away : (versions : List ℕ) (ways : Ways) (place version : ℕ) → IsStrictlyIncreasing versions → slice_get versions place ≡ Some version → ways place ≡ None
    → (distance : ℕ) → ¬ IsAway versions ways version distance
not_away versions ways place version rising at none distance away =
    let same : away.place ≡ place = one_place versions rising version away.place place away.is at in
    let some : ways place ≡ Some away.leads.way = subst (λ k. ways k ≡ Some away.leads.way) same away.leads.is in
    absurd cc

-- What the start at a version says of the name of its snapshot.
pub snapshot_tells : (versions : List ℕ) (ways : Ways) (version : ℕ) (found : Option Start) → TellsStart versions ways version found → TellsSnapshot versions ways (Snapshot version) found
snapshot_tells versions ways version None tells = λ other distance is away. let same : other ≡ version = cc in tells distance (subst (λ v. IsAway versions ways v distance) same away)
snapshot_tells versions ways version (Some start) tells =
    (ap Snapshot (sym tells.same), record { same = refl; is = tells.is ∙ ap Some (sym tells.same); leads = tells.leads })

module _ (versions : List ℕ) (ways : Ways) (rising : IsStrictlyIncreasing versions) where
  -- Behind a name that gives no start the nearest one is the same.
  push_none : (front : List BlobName) (name : BlobName) (nearest : Option Start) → TellsSnapshot versions ways name None → IsNearest front versions ways nearest → IsNearest (front ++ name ∷ []) versions ways nearest
  push_none front name None tells is = λ version distance among away. elim (Contains-push_cases front name (Snapshot version) among) [
    | inl old ↦ is version distance old away
    | inr new ↦ tells version distance new away
  ]
  push_none front name (Some start) tells is = (
    Contains-append_left front (name ∷ []) (Snapshot start.version) is.0,
    is.1,
    λ version distance among away.
        elim (Contains-push_cases front name (Snapshot version) among) [
          | inl old ↦ is.2 version distance old away
          | inr new ↦ absurd (tells version distance new away)
        ],
  )

  -- What is chosen is no farther than those of the names in front.
  further : (front : List BlobName) (nearest : Option Start) (start chosen : Start) → IsNearer nearest start chosen → IsNearest front versions ways nearest
      → (version distance : ℕ) → Contains front (Snapshot version) → IsAway versions ways version distance → IsNoFarther chosen version distance
  further front None start chosen nearer is version distance among away = absurd (is version distance among away)
  further front (Some other) start chosen nearer is version distance among away =
      let one = is.2 version distance among away in
      let both = nearer.old other refl in
      (omega (arith, one.0, both.0), λ same. let up = one.1 (omega (arith, one.0, both.0)) in let also = both.1 (omega (arith, one.0, both.0)) in omega (arith, up, also))

  -- Behind one that gives a start it is the chosen one.
  push_some : (front : List BlobName) (name : BlobName) (nearest : Option Start) (start chosen : Start) → TellsSnapshot versions ways name (Some start) → IsNearer nearest start chosen
      → IsNearest front versions ways nearest → IsNearest (front ++ name ∷ []) versions ways (Some chosen)
  push_some front name nearest start chosen tells nearer is =
      let here : Contains (front ++ name ∷ []) (Snapshot start.version) = subst (Contains (front ++ name ∷ [])) tells.0 (Contains-push front name) in
      let one : Contains (front ++ name ∷ []) (Snapshot chosen.version) × IsStart versions ways chosen.version chosen = elim (nearer.one) [
        | inl new ↦ subst (λ (s : Start). Contains (front ++ name ∷ []) (Snapshot s.version) × IsStart versions ways s.version s) (sym new) (here, tells.1)
        | inr old ↦ let was = subst (IsNearest front versions ways) old is in (Contains-append_left front (name ∷ []) (Snapshot chosen.version) was.0, was.1)
      ] in (
        one.0,
        one.1,
        λ version distance among away. elim (Contains-push_cases front name (Snapshot version) among) [
          | inl old ↦ further front nearest start chosen nearer is version distance old away
          | inr new ↦
              let both : Snapshot start.version ≡ Snapshot version = sym tells.0 ∙ new in
              let same : start.version ≡ version = cc in
              let far : distance ≡ start.distance = one_away versions rising ways start.version distance start.distance (subst (λ v. IsAway versions ways v distance) (sym same) away) (record { place = start.place; is = tells.1.is; leads = tells.1.leads }) in
              let none : IsNoFarther chosen start.version start.distance = nearer.new in
              subst (λ v. IsNoFarther chosen v distance) same (subst (IsNoFarther chosen start.version) (sym far) none)
        ],
      )

  -- One name more, which is of no snapshot from which a way is found, or of one.
  pub nearest_same : (blobs : List BlobName) (i : ℕ) (name : BlobName) (nearest : Option Start) → i < length blobs → name ≡ get_or blobs i name → TellsSnapshot versions ways name None
      → IsNearest (take i blobs) versions ways nearest → IsNearest (take (i + 1) blobs) versions ways nearest
  nearest_same blobs i name nearest within is tells near =
      subst (λ front. IsNearest front versions ways nearest) (sym (take_more blobs i name within ∙ ap (λ n. take i blobs ++ n ∷ []) (sym is))) (push_none (take i blobs) name nearest tells near)

  pub nearest_more : (blobs : List BlobName) (i : ℕ) (name : BlobName) (nearest : Option Start) (start chosen : Start) → i < length blobs → name ≡ get_or blobs i name
      → TellsSnapshot versions ways name (Some start) → IsNearer nearest start chosen → IsNearest (take i blobs) versions ways nearest → IsNearest (take (i + 1) blobs) versions ways (Some chosen)
  nearest_more blobs i name nearest start chosen within is tells nearer near =
      subst (λ front. IsNearest front versions ways (Some chosen)) (sym (take_more blobs i name within ∙ ap (λ n. take i blobs ++ n ∷ []) (sym is))) (push_some (take i blobs) name nearest start chosen tells nearer near)
