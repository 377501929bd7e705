-- Following the first steps of ways.
use Rattle.std.proofs.Common.{◌≡◌, ℕ, ◌<◌, List, [], ◌∷◌, ◌++◌, Option, Some, None, IsSome, refl, sym, ◌∙◌, ap, subst, arith}
use Rattle.std.proofs.lemmas.List.{append_assoc, append-nil}
use Rattle.hol_io.specs.declared.name.BlobName.{BlobName}
use Rattle.hol_plan.specs.declared.steps.Step.{Step}
use Rattle.hol_plan.specs.declared.ways.Way.{Way}
use Rattle.hol_plan.specs.Start.{Descend, IsPath, first_of}
use Rattle.hol_plan.specs.Ways.{Ways}

-- How many steps a way has.
abbrev pub long_of : Option Way → ℕ
long_of None = 0
long_of (Some way) = way.distance

-- A first step is that of a way.
first_way : (found : Option Way) (step : Step) → first_of found ≡ Some step → (way : Way) × ((found ≡ Some way) × (way.first ≡ Some step))
first_way None step is = absurd cc
first_way (Some way) step is = (way, (refl, is))

-- A way without one is the end's.
last_way : (found : Option Way) → IsSome found → first_of found ≡ None → (way : Way) × ((found ≡ Some way) × (way.first ≡ None))
last_way None some is = absurd cc
last_way (Some way) some is = (way, (refl, is))

-- Where a way is found, something is.
pub is_found : (found : Option Way) (way : Way) → found ≡ Some way → IsSome found
is_found found way is = let some : IsSome (Some way) = refl in subst IsSome (sym is) some

-- Each step leads to where a shorter way is found.
pub falls : (ways : Ways) (place : ℕ) (step : Step) → Descend ways → first_of (ways place) ≡ Some step → long_of (ways step.end) < long_of (ways place)
falls ways place step descend first =
    let way = first_way (ways place) step first in
    let next = descend place way.0 step way.1.0 way.1.1 in
    let here : long_of (ways place) ≡ way.0.distance = ap long_of way.1.0 in
    let there : long_of (ways step.end) ≡ next.0 = ap long_of next.1.0.is ∙ next.1.0.long in
    omega (arith, here, there, next.1.1)

-- What has been followed so far.
pub record Follows (ways : Ways) (start place : ℕ) (before names : List BlobName) : Type 0 where
  pub done : List BlobName
  pub added : names ≡ before ++ done
  pub goes : (rest : List BlobName) → IsPath ways place rest → IsPath ways start (done ++ rest)
  pub found : IsSome (ways place)

-- One step more.
pub follow_more : (ways : Ways) (start place : ℕ) (before names : List BlobName) (step : Step) → Descend ways → first_of (ways place) ≡ Some step
    → Follows ways start place before names → Follows ways start step.end before (names ++ step.name ∷ [])
follow_more ways start place before names step descend first follows =
    let way = first_way (ways place) step first in
    let next = descend place way.0 step way.1.0 way.1.1 in
    record {
      done = follows.done ++ step.name ∷ [];
      added = ap (λ l. l ++ step.name ∷ []) follows.added ∙ append_assoc before follows.done (step.name ∷ []);
      goes = λ rest path. subst (IsPath ways start) (sym (append_assoc follows.done (step.name ∷ []) rest))
          (follows.goes (step.name ∷ rest) (way.0, (step, (way.1.0, way.1.1, refl, path))));
      found = is_found (ways step.end) next.1.0.way next.1.0.is;
    }

-- At the end the names are a path.
pub follow_all : (ways : Ways) (start place : ℕ) (before names : List BlobName) → first_of (ways place) ≡ None → Follows ways start place before names
    → (rest : List BlobName) × ((names ≡ before ++ rest) × IsPath ways start rest)
follow_all ways start place before names none follows =
    (follows.done, (follows.added, subst (IsPath ways start) (append-nil follows.done) (follows.goes [] (last_way (ways place) follows.found none))))
