-- What is answered is the plan.
use Rattle.std.proofs.Common.{◌≡◌, ◌≢◌, ◌↔◌, ℕ, ◌<◌, ◌≤◌, List, [], ◌∷◌, length, Less, Equal, Option, Some, None, IsSome, refl, sym, ap, subst, arith, inl, inr}
use Rattle.std.specs.List.{Contains}
use Rattle.std.specs.List.Sorted.{IsStrictlyIncreasing}
use Rattle.std.specs.Ordering.{nat_cmp}
use Rattle.std.specs.Cmp.Lexicographic.{slice_cmp}
use Rattle.std.proofs.lemmas.Cmp.{ranked, by_ranked}
use Rattle.hol_io.specs.declared.name.BlobName.{BlobName}
use Rattle.hol_io.specs.declared.name.BlobName.TheVariants.{Snapshot, Delta, Reverse, Announced}
use Rattle.hol_io.specs.Name.{name_cmp}
use Rattle.hol_io.proofs.NameOrder.{name_cmp-IsAntisymmetric}
use Rattle.hol_plan.specs.declared.start.Start.{Start}
use Rattle.hol_plan.specs.declared.start.Begin.{Begin}
use Rattle.hol_plan.specs.declared.start.Begin.TheVariants as begin
use Rattle.std.specs.Option.{MatchOption}
use Rattle.hol_plan.specs.declared.ways.Way.{Way}
use Rattle.hol_plan.specs.Start.{AreWaysOver, Begins, Descend, IsAway, IsNearest, IsNoFarther, IsPath, IsStart, IsWalkOf, TellsOwn, TellsStart, start_of}
use Rattle.hol_plan.specs.Steps.{HasVersions}
use Rattle.hol_plan.specs.Walk.{IsPlan, IsWalk, TellsPlan}
use Rattle.hol_plan.specs.Ways.{Ways, IsFirst, way_at}
use Rattle.hol_plan.proofs.Orders.{not_less}
use Rattle.hol_plan.proofs.Following.{is_found}
use Rattle.hol_plan.proofs.Places.{one_away}
use Rattle.hol_plan.proofs.Walks.{nearest_to, path_first, path_walks, walk_near}

-- The names of the walk that a begin gives, or none.
abbrev pub PlanOf : Ways → Option Begin → Option (List BlobName) → Type 0
PlanOf ways None None = Unit {0}
PlanOf ways None (Some names) = ⊥
PlanOf ways (Some chosen) None = ⊥
PlanOf ways (Some chosen) (Some names) = IsWalkOf ways chosen names

-- There is none exactly where there is no walk.
pub none_is : (blobs : List BlobName) (from : Option ℕ) (to : ℕ) (plan : Option (List BlobName)) → TellsPlan blobs from to plan → (plan ≡ None) ↔ ((walk : List BlobName) → ¬ IsWalk blobs from to walk)
none_is blobs from to None tells = (λ e. tells, λ none. refl)
none_is blobs from to (Some plan) tells = (λ e. absurd cc, λ none. absurd (none plan tells.walks))

-- A snapshot of a version that is no lower does not come before.
snapshots_rise : (version other : ℕ) → version ≤ other → name_cmp (Snapshot other) (Snapshot version) ≢ Less
snapshots_rise version other up = not_less (nat_cmp other version) Equal (by_ranked _ _ _ (nat_cmp other version) (ranked other version (nat_cmp other version) refl)
    (λ e lower. absurd (omega arith)) (λ e same less. absurd cc) (λ e higher less. absurd cc)) (λ e less. absurd cc)

module _ (blobs : List BlobName) (to : ℕ) (versions : List ℕ) (rising : IsStrictlyIncreasing versions) (ways : Ways) (over : AreWaysOver blobs to versions ways)
    (nearest : Option Start) (near_is : IsNearest blobs versions ways nearest) where
  -- The start at the version that a walk leads from is known, where a way is found from it.
  own_is : (from : Option ℕ) (own : Option Start) → TellsOwn versions ways from own → (version distance : ℕ) → from ≡ Some version → IsAway versions ways version distance
      → (start : Start) × ((own ≡ Some start) × (start.distance ≡ distance))
  own_is None own tells version distance is away = absurd cc
  own_is (Some begin) None tells version distance is away = let same : begin ≡ version = cc in absurd (tells distance (subst (λ v. IsAway versions ways v distance) (sym same) away))
  own_is (Some begin) (Some start) tells version distance is away =
      let same : begin ≡ version = cc in (
        start,
        (
          refl,
          one_away versions rising ways begin start.distance distance
              (record { place = start.place; is = tells.is; leads = tells.leads }) (subst (λ v. IsAway versions ways v distance) (sym same) away),
        ),
      )

  -- No walk.
  none_there : (from : Option ℕ) (own : Option Start) → TellsOwn versions ways from own → own ≡ None → nearest ≡ None → (walk : List BlobName) → ¬ IsWalk blobs from to walk
  none_there from own tells no_own no_nearest walk is =
      elim (walk_near blobs to versions rising ways over nearest near_is walk from is) [
        | inl way ↦ let start = own_is from own tells way.0 way.1.0 way.1.1.0 way.1.1.1 in let e : own ≡ Some start.0 = start.1.0 in absurd cc
        | inr start ↦ let e : nearest ≡ Some start.0 = start.1.0 in absurd cc
      ]

  -- The plan that begins at the version itself.
  own_plan : (version : ℕ) (start : Start) (names : List BlobName) → IsStart versions ways version start
      → ((other : Start) → nearest ≡ Some other → start.distance ≤ other.distance) → IsPath ways start.place names → IsPlan blobs (Some version) to names
  own_plan version start names is fewer path =
      let walks = path_walks blobs to versions rising ways over names start.place version is.is path in
      let long : length names ≡ start.distance =
      one_away versions rising ways version (length names) start.distance
      (record { place = start.place; is = is.is; leads = walks.1 }) (record { place = start.place; is = is.is; leads = is.leads }) in
      record {
        walks = walks.0;
        fewest = λ walk other. elim (walk_near blobs to versions rising ways over nearest near_is walk (Some version) other) [
          | inl way ↦
              let same : way.0 ≡ version = (let e : Some version ≡ Some way.0 = way.1.1.0 in cc) in
              let as_far = one_away versions rising ways version way.1.0 start.distance
              (subst (λ v. IsAway versions ways v way.1.0) same way.1.1.1) (record { place = start.place; is = is.is; leads = is.leads }) in
              omega (arith, long, as_far, way.1.1.2)
          | inr near ↦ omega (arith, long, fewer near.0 near.1.0, near.1.1)
        ];
        first = path_first blobs to versions rising ways over nearest near_is names start.place version is.is path
            (λ other e. let few = fewer other e in omega (arith, long, few));
      }

  -- The plan that begins by a snapshot.
  behind_first : (from : Option ℕ) (start : Start) (rest : List BlobName) → nearest ≡ Some start → IsStart versions ways start.version start
      → IsPath ways start.place rest → length rest ≡ start.distance
      → (walk : List BlobName) → IsWalk blobs from to walk → length walk ≡ length (Snapshot start.version ∷ rest) → slice_cmp name_cmp walk (Snapshot start.version ∷ rest) ≢ Less
  behind_first from start rest is_near is path long [] walk as_long = absurd (omega arith)
  behind_first from start rest is_near is path long (Delta begin end ∷ others) walk as_long = λ e. absurd cc
  behind_first from start rest is_near is path long (Reverse begin end ∷ others) walk as_long = λ e. absurd cc
  behind_first from start rest is_near is path long (Announced ∷ others) walk as_long = λ e. absurd cc
  behind_first from start rest is_near is path long (Snapshot version ∷ others) walk as_long =
      let middle = walk.1.0 in
      let leads : version ≡ middle = walk.1.1.0 in
      let onward : IsWalk blobs (Some version) to others = subst (λ v. IsWalk blobs (Some v) to others) (sym leads) walk.1.1.1 in
      elim (walk_near blobs to versions rising ways over nearest near_is others (Some version) onward) [
        | inr other ↦ let same : other.0 ≡ start = (let e : nearest ≡ Some other.0 = other.1.0 in cc) in
            let as_far = ap (λ (s : Start). s.distance) same in absurd (omega (arith, as_far, other.1.1))
        | inl way ↦
            let same : way.0 ≡ version = (let e : Some version ≡ Some way.0 = way.1.1.0 in cc) in
            let found = nearest_to blobs to versions rising ways over nearest near_is version way.1.0 walk.0 (subst (λ v. IsAway versions ways v way.1.0) same way.1.1.1) in
            let one : found.0 ≡ start = (let e : nearest ≡ Some found.0 = found.1.0 in cc) in
            let no_farther : IsNoFarther start version way.1.0 = subst (λ s. IsNoFarther s version way.1.0) one found.1.1 in
            let as_far : way.1.0 ≡ start.distance = omega (arith, no_farther.0, way.1.1.2) in
            let up : start.version ≤ version = no_farther.1 as_far in
            not_less (name_cmp (Snapshot version) (Snapshot start.version)) (slice_cmp name_cmp others rest) (snapshots_rise start.version version up)
            (λ tied.
            let equal : Snapshot version ≡ Snapshot start.version = name_cmp-IsAntisymmetric (Snapshot version) (Snapshot start.version) tied in
            let same_version : version ≡ start.version = cc in
            path_first blobs to versions rising ways over nearest near_is rest start.place start.version is.is path
            (λ other e. let also : other ≡ start = cc in let far = ap (λ (s : Start). s.distance) also in omega (arith, far))
            others (subst (λ v. IsWalk blobs (Some v) to others) same_version onward) (omega arith))
      ]

  behind_plan : (from : Option ℕ) (own : Option Start) → TellsOwn versions ways from own → (start : Start) (names rest : List BlobName) → nearest ≡ Some start
      → Contains blobs (Snapshot start.version) → IsStart versions ways start.version start
      → ((other : Start) → own ≡ Some other → start.distance < other.distance) → names ≡ Snapshot start.version ∷ rest → IsPath ways start.place rest → IsPlan blobs from to names
  behind_plan from own tells start names rest is_near listed is fewer names_are path =
      let walks = path_walks blobs to versions rising ways over rest start.place start.version is.is path in
      let long : length rest ≡ start.distance =
      one_away versions rising ways start.version (length rest) start.distance
      (record { place = start.place; is = is.is; leads = walks.1 }) (record { place = start.place; is = is.is; leads = is.leads }) in
      subst (IsPlan blobs from to) (sym names_are) (record {
        walks = (listed, (start.version, (refl, walks.0)));
        fewest = λ walk other. elim (walk_near blobs to versions rising ways over nearest near_is walk from other) [
          | inl way ↦
              let begun = own_is from own tells way.0 way.1.0 way.1.1.0 way.1.1.1 in
              let few = fewer begun.0 begun.1.0 in
              omega (arith, long, few, begun.1.1, way.1.1.2)
          | inr near ↦ let same : near.0 ≡ start = (let e : nearest ≡ Some near.0 = near.1.0 in cc) in
              let as_far = ap (λ (s : Start). s.distance) same in omega (arith, long, as_far, near.1.1)
        ];
        first = behind_first from start rest is_near is path long;
      })

  near_start : (start : Start) → nearest ≡ Some start → Contains blobs (Snapshot start.version) × IsStart versions ways start.version start
  near_start start is = let all = subst (IsNearest blobs versions ways) is near_is in (all.0, all.1)

  -- What a chosen begin answers.
  pub plan_is : (from : Option ℕ) (own : Option Start) (chosen : Option Begin) (plan : Option (List BlobName)) → TellsOwn versions ways from own → Begins own nearest chosen
      → PlanOf ways chosen plan → TellsPlan blobs from to plan
  plan_is from own None None tells begins of = none_there from own tells begins.0 begins.1
  plan_is from own None (Some names) tells begins of = absurd of
  plan_is from own (Some (begin.Own start)) None tells begins of = absurd of
  plan_is from own (Some (begin.Behind start)) None tells begins of = absurd of
  plan_is None own (Some (begin.Own start)) (Some names) tells begins of = let e : own ≡ Some start = begins.0 in absurd cc
  plan_is (Some version) own (Some (begin.Own start)) (Some names) tells begins of =
      own_plan version start names (subst (TellsStart versions ways version) begins.0 tells) begins.1 of
  plan_is from own (Some (begin.Behind start)) (Some names) tells begins of =
      let at = near_start start begins.0 in
      behind_plan from own tells start names of.0 begins.0 at.0 at.1 begins.1 of.1.0 of.1.1

-- The ways descend.
pub descends : (blobs : List BlobName) (to : ℕ) (versions : List ℕ) (ways : Ways) → AreWaysOver blobs to versions ways → Descend ways
descends blobs to versions ways over place way step found first =
    let is = subst (λ o. MatchOption o ((way.distance ≡ 0) × (place ≡ over.end)) (IsFirst over.steps ways place way.distance)) first (over.found.found place way found) in
    (is.near, (is.leads, omega (arith, is.nearer)))

-- From where a walk begins a way is found.
pub begin_found : (blobs : List BlobName) (versions : List ℕ) (ways : Ways) (from : Option ℕ) (own nearest : Option Start) (chosen : Begin) → TellsOwn versions ways from own
    → IsNearest blobs versions ways nearest → Begins own nearest (Some chosen) → IsSome (ways (start_of chosen).place)
begin_found blobs versions ways None own nearest (begin.Own start) tells near begins = let e : own ≡ Some start = begins.0 in absurd cc
begin_found blobs versions ways (Some version) own nearest (begin.Own start) tells near begins =
    let is = subst (TellsStart versions ways version) begins.0 tells in is_found (ways start.place) is.leads.way is.leads.is
begin_found blobs versions ways from own nearest (begin.Behind start) tells near begins =
    let is = subst (IsNearest blobs versions ways) begins.0 near in is_found (ways start.place) is.1.leads.way is.1.leads.is

-- The same, where the lists were lent.
pub begun : (blobs : List BlobName) (versions own_versions near_versions : List ℕ) (ways own_ways near_ways walk_ways : List (Option Way)) (from : Option ℕ) (own nearest : Option Start) (chosen : Begin)
    → own_versions ≡ versions → near_versions ≡ versions → own_ways ≡ ways → near_ways ≡ ways → walk_ways ≡ ways
    → TellsOwn own_versions (way_at own_ways) from own → IsNearest blobs near_versions (way_at near_ways) nearest → Begins own nearest (Some chosen) → IsSome (way_at walk_ways (start_of chosen).place)
begun blobs versions own_versions near_versions ways own_ways near_ways walk_ways from own nearest chosen ov nv ow nw ww tells near begins =
    subst (λ w. IsSome (way_at w (start_of chosen).place)) (sym ww)
    (begin_found blobs versions (way_at ways) from own nearest chosen
    (subst (λ v. TellsOwn v (way_at ways) from own) ov (subst (λ w. TellsOwn own_versions (way_at w) from own) ow tells))
    (subst (λ v. IsNearest blobs v (way_at ways) nearest) nv (subst (λ w. IsNearest blobs near_versions (way_at w) nearest) nw near)) begins)

pub answered : (blobs listed : List BlobName) (to : ℕ) (versions over_versions own_versions near_versions : List ℕ) (ways own_ways near_ways : List (Option Way)) (from : Option ℕ)
    (own nearest : Option Start) (chosen : Option Begin) (plan : Option (List BlobName))
    → listed ≡ blobs → over_versions ≡ versions → own_versions ≡ versions → near_versions ≡ versions → own_ways ≡ ways → near_ways ≡ ways
    → HasVersions listed to versions → AreWaysOver listed to over_versions (way_at ways)
    → TellsOwn own_versions (way_at own_ways) from own → IsNearest listed near_versions (way_at near_ways) nearest → Begins own nearest chosen → PlanOf (way_at ways) chosen plan → TellsPlan blobs from to plan
answered blobs listed to versions over_versions own_versions near_versions ways own_ways near_ways from own nearest chosen plan l xv ov nv ow nw has over tells near begins of =
    subst (λ b. TellsPlan b from to plan) l
    (plan_is listed to versions has.rising (way_at ways) (subst (λ v. AreWaysOver listed to v (way_at ways)) xv over) nearest
    (subst (λ v. IsNearest listed v (way_at ways) nearest) nv (subst (λ w. IsNearest listed near_versions (way_at w) nearest) nw near)) from own chosen plan
    (subst (λ v. TellsOwn v (way_at ways) from own) ov (subst (λ w. TellsOwn own_versions (way_at w) from own) ow tells)) begins of)
