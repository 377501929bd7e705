-- Walks and the versions from which ways are found.
use Rattle.std.proofs.Common.{◌≡◌, ◌≢◌, ℕ, ◌+◌, ◌≤◌, List, [], ◌∷◌, length, Less, Option, Some, None, refl, sym, ◌∙◌, ap, subst, arith, inl, inr, ◌⊎◌, suc}
use Rattle.std.specs.List.{Contains, slice_get}
use Rattle.std.specs.List.Sorted.{IsStrictlyIncreasing}
use Rattle.std.specs.Option.{MatchOption}
use Rattle.std.specs.Cmp.Lexicographic.{slice_cmp}
use Rattle.std.proofs.lemmas.List.Elements.{All-contains}
use Rattle.std.proofs.lemmas.Option.{some_pair_parts}
use Rattle.hol_io.specs.declared.name.BlobName.{BlobName}
use Rattle.hol_io.specs.declared.name.BlobName.TheVariants.{Snapshot, Delta, Reverse, Announced}
use Rattle.hol_io.specs.Name.{name_cmp}
use Rattle.hol_io.proofs.NameOrder.{name_cmp-IsAntisymmetric}
use Rattle.hol_plan.specs.declared.start.Start.{Start}
use Rattle.hol_plan.specs.declared.steps.Step.{Step}
use Rattle.hol_plan.specs.declared.ways.Way.{Way}
use Rattle.hol_plan.specs.Start.{AreWaysOver, IsAway, IsNearest, IsNoFarther, IsPath}
use Rattle.hol_plan.specs.Steps.{HasStep, IsStep, ends_of}
use Rattle.hol_plan.specs.Walk.{IsWalk, Leads}
use Rattle.hol_plan.specs.Ways.{Ways, HasWay, IsBefore, IsFirst, IsPassed}
use Rattle.hol_plan.proofs.Orders.{not_less}
use Rattle.hol_plan.proofs.Places.{one_away, one_place, one_way}

-- A delta leads between its ends.
pub leads_ends : (name : BlobName) (begin end : ℕ) → ends_of name ≡ Some (begin, end) → Leads name (Some begin) end
leads_ends (Snapshot version) begin end ends = absurd cc
leads_ends (Delta from to) begin end ends = (let one = some_pair_parts from begin to end ends in (ap Some (sym one.0), one.1))
leads_ends (Reverse from to) begin end ends = (let one = some_pair_parts from begin to end ends in (ap Some (sym one.0), one.1))
leads_ends Announced begin end ends = absurd cc

-- What leads is a snapshot, or a delta between its ends.
abbrev pub Leading : BlobName → Option ℕ → ℕ → Type 0
Leading name from to = (name ≡ Snapshot to) ⊎ ((begin : ℕ) × ((from ≡ Some begin) × (ends_of name ≡ Some (begin, to))))

pub leading : (name : BlobName) (from : Option ℕ) (to : ℕ) → Leads name from to → Leading name from to
leading (Snapshot version) from to leads = inl (ap Snapshot leads)
leading (Delta begin end) from to leads = inr (begin, (leads.0, ap (λ e. Some (begin, e)) leads.1))
leading (Reverse begin end) from to leads = inr (begin, (leads.0, ap (λ e. Some (begin, e)) leads.1))
leading Announced from to leads = absurd leads

module _ (blobs : List BlobName) (to : ℕ) (versions : List ℕ) (rising : IsStrictlyIncreasing versions) (ways : Ways) (over : AreWaysOver blobs to versions ways) where
  step_at : (step : Step) → Contains over.steps step → IsStep blobs versions step
  step_at step listed = All-contains (IsStep blobs versions) over.steps step over.are.each listed

  -- The step that a listed delta is, with the places of its ends.
  step_for : (name : BlobName) (begin end : ℕ) → Contains blobs name → ends_of name ≡ Some (begin, end)
      → (step : Step) × (Contains over.steps step × (step.name ≡ name) × (slice_get versions step.begin ≡ Some begin) × (slice_get versions step.end ≡ Some end))
  step_for name begin end listed ends =
      let found = All-contains (HasStep over.steps) blobs name over.are.whole listed begin end ends in
      let joins = (step_at found.0 found.1.0).1 in
      let both : ends_of name ≡ Some (joins.from, joins.to) = sym (ap ends_of found.1.1) ∙ joins.ends in
      let same = some_pair_parts joins.from begin joins.to end (sym both ∙ ends) in
      (found.0, (found.1.0, found.1.1, joins.begins ∙ ap Some same.0, joins.leads ∙ ap Some same.1))

  -- Where a listed delta leads to a version from which a way is found, one of no more than one step more is found where it
  -- begins, and if it has so many, its first name comes no later.
  passed_over : (name : BlobName) (begin end distance : ℕ) → Contains blobs name → ends_of name ≡ Some (begin, end) → IsAway versions ways end distance
      → (place : ℕ) × ((slice_get versions place ≡ Some begin) × ((way : Way) × ((ways place ≡ Some way) × (way.distance ≤ distance + 1) × (way.distance ≡ distance + 1 → ¬ IsBefore name way.first))))
  passed_over name begin end distance listed ends away =
      let found = step_for name begin end listed ends in
      let step = found.0 in
      let same : away.place ≡ step.end = one_place versions rising end away.place step.end away.is found.1.3 in
      let at : ways step.end ≡ Some away.leads.way = subst (λ k. ways k ≡ Some away.leads.way) same away.leads.is in
      let passed : IsPassed ways (distance + 1) step = subst (λ n. IsPassed ways (n + 1) step) away.leads.long (over.found.passed step found.1.0 away.leads.way at) in
      (step.begin, (found.1.2, (passed.way, (passed.is, passed.most, subst (λ n. passed.way.distance ≡ distance + 1 → ¬ IsBefore n passed.way.first) found.1.1 passed.first))))

  -- So a way is found where a listed delta begins.
  pub away_before : (name : BlobName) (begin end distance : ℕ) → Contains blobs name → ends_of name ≡ Some (begin, end) → IsAway versions ways end distance
      → (long : ℕ) × (IsAway versions ways begin long × (long ≤ distance + 1))
  away_before name begin end distance listed ends away =
      let passed = passed_over name begin end distance listed ends away in
      let way = passed.1.1.0 in
      (way.distance, (record { place = passed.0; is = passed.1.0; leads = record { way = way; is = passed.1.1.1.0; long = refl } }, passed.1.1.1.1))

  -- No listed delta that begins at a place and leads to where a way of one step less is found comes before the first name there.
  pub first_there : (place version : ℕ) (way : Way) (name : BlobName) (end distance : ℕ) → slice_get versions place ≡ Some version → ways place ≡ Some way
      → Contains blobs name → ends_of name ≡ Some (version, end) → IsAway versions ways end distance → way.distance ≡ distance + 1 → ¬ IsBefore name way.first
  first_there place version way name end distance at found listed ends away long =
      let passed = passed_over name version end distance listed ends away in
      let same : passed.0 ≡ place = one_place versions rising version passed.0 place passed.1.0 at in
      let here : ways place ≡ Some passed.1.1.0 = subst (λ k. ways k ≡ Some passed.1.1.0) same passed.1.1.1.0 in
      let one : passed.1.1.0 ≡ way = cc in
      subst (λ (w : Way). w.distance ≡ distance + 1 → ¬ IsBefore name w.first) one passed.1.1.1.2 long

  -- The end of all ways is the version itself.
  at_end : IsAway versions ways to 0
  at_end = record { place = over.end; is = over.ended; leads = over.found.ended }

  first_is : (place : ℕ) (way : Way) (step : Step) → ways place ≡ Some way → way.first ≡ Some step → IsFirst over.steps ways place way.distance step
  first_is place way step found first =
      subst (λ o. MatchOption o ((way.distance ≡ 0) × (place ≡ over.end)) (IsFirst over.steps ways place way.distance)) first (over.found.found place way found)

  last_is : (place : ℕ) (way : Way) → ways place ≡ Some way → way.first ≡ None → (way.distance ≡ 0) × (place ≡ over.end)
  last_is place way found first =
      subst (λ o. MatchOption o ((way.distance ≡ 0) × (place ≡ over.end)) (IsFirst over.steps ways place way.distance)) first (over.found.found place way found)

  -- A step of a path: its name is listed, and leads from the version to that at whose place the path goes on.
  pub path_step : (place version : ℕ) (way : Way) (step : Step) → slice_get versions place ≡ Some version → ways place ≡ Some way → way.first ≡ Some step
      → (end : ℕ) × (Contains blobs step.name × (ends_of step.name ≡ Some (version, end)) × (slice_get versions step.end ≡ Some end))
  path_step place version way step at found first =
      let is = first_is place way step found first in
      let all = step_at step is.listed in
      let joins = all.1 in
      let here : slice_get versions place ≡ Some joins.from = subst (λ k. slice_get versions k ≡ Some joins.from) is.begins joins.begins in
      let same : joins.from ≡ version = cc in
      (joins.to, (all.0, subst (λ v. ends_of step.name ≡ Some (v, joins.to)) same joins.ends, joins.leads))

  -- The names along ways are a walk of as many names as the way has steps.
  pub path_walks : (path : List BlobName) (place version : ℕ) → slice_get versions place ≡ Some version → IsPath ways place path
      → IsWalk blobs (Some version) to path × HasWay ways place (length path)
  path_walks [] place version at path =
      let last = last_is place path.0 path.1.0 path.1.1 in
      let here : slice_get versions place ≡ Some to = subst (λ k. slice_get versions k ≡ Some to) (sym last.1) over.ended in
      (sym at ∙ here, record { way = path.0; is = path.1.0; long = last.0 })
  path_walks (name ∷ rest) place version at path =
      let way = path.0 in
      let step = path.1.0 in
      let next = path_step place version way step at path.1.1.0 path.1.1.1 in
      let is = first_is place way step path.1.1.0 path.1.1.1 in
      let further = path_walks rest step.end next.0 next.1.2 path.1.1.3 in
      let near : is.near ≡ length rest = one_way ways step.end is.near (length rest) is.leads further.1 in
      let nearer : way.distance ≡ is.near + 1 = is.nearer in (
        subst (λ n. IsWalk blobs (Some version) to (n ∷ rest)) path.1.1.2 (next.1.0, (next.0, (leads_ends step.name version next.0 next.1.1, further.0))),
        record { way = way; is = path.1.1.0; long = omega arith },
      )

  module _ (nearest : Option Start) (near_is : IsNearest blobs versions ways nearest) where
    -- A walk of so many names could lead on: along a way, or by the nearest snapshot.
    abbrev pub Near : Option ℕ → ℕ → Type 0
    Near from long =
        ((version : ℕ) × ((distance : ℕ) × ((from ≡ Some version) × IsAway versions ways version distance × (distance ≤ long))))
        ⊎ ((start : Start) × ((nearest ≡ Some start) × (start.distance + 1 ≤ long)))

    -- What is known of a listed snapshot of a version from which a way is found.
    pub nearest_to : (version distance : ℕ) → Contains blobs (Snapshot version) → IsAway versions ways version distance → (start : Start) × ((nearest ≡ Some start) × IsNoFarther start version distance)
    nearest_to version distance listed away = by nearest near_is
      where
        by : (nearest : Option Start) → IsNearest blobs versions ways nearest → (start : Start) × ((nearest ≡ Some start) × IsNoFarther start version distance)
        by None is = absurd (is version distance listed away)
        by (Some start) is = (start, (refl, is.2 version distance listed away))

    near_before : (name : BlobName) (from : Option ℕ) (middle long : ℕ) → Contains blobs name → Leading name from middle → Near (Some middle) long → Near from (long + 1)
    near_before name from middle long listed leads (inr start) = inr (start.0, (start.1.0, omega (arith, start.1.1)))
    near_before name from middle long listed (inl snapshot) (inl way) =
        let same : way.0 ≡ middle = (let e : Some middle ≡ Some way.0 = way.1.1.0 in cc) in
        let away : IsAway versions ways middle way.1.0 = subst (λ v. IsAway versions ways v way.1.0) same way.1.1.1 in
        let start = nearest_to middle way.1.0 (subst (Contains blobs) snapshot listed) away in
        inr (start.0, (start.1.0, omega (arith, start.1.1.0, way.1.1.2)))
    near_before name from middle long listed (inr delta) (inl way) =
        let same : way.0 ≡ middle = (let e : Some middle ≡ Some way.0 = way.1.1.0 in cc) in
        let away : IsAway versions ways middle way.1.0 = subst (λ v. IsAway versions ways v way.1.0) same way.1.1.1 in
        let before = away_before name delta.0 middle way.1.0 listed delta.1.1 away in
        inl (delta.0, (before.0, (delta.1.0, before.1.0, omega (arith, before.1.1, way.1.1.2))))

    -- Each walk has at least so many names.
    pub walk_near : (walk : List BlobName) (from : Option ℕ) → IsWalk blobs from to walk → Near from (length walk)
    walk_near [] from walk = inl (to, (0, (walk, at_end, omega arith)))
    walk_near (name ∷ rest) from walk =
        let near : Near from (length rest + 1) = near_before name from walk.1.0 (length rest) walk.0 (leading name from walk.1.0 walk.1.1.0) (walk_near rest (Some walk.1.0) walk.1.1.1) in
        let e : length rest + 1 ≡ length (name ∷ rest) = omega arith in
        subst (Near from) e near

    -- Where no snapshot is nearer, no walk of as many names comes before a path.
    pub path_first : (path : List BlobName) (place version : ℕ) → slice_get versions place ≡ Some version → IsPath ways place path
        → ((start : Start) → nearest ≡ Some start → length path ≤ start.distance)
        → (walk : List BlobName) → IsWalk blobs (Some version) to walk → length walk ≡ length path → slice_cmp name_cmp walk path ≢ Less
    path_first [] place version at path fewer [] walk long = λ e. absurd cc
    path_first [] place version at path fewer (other ∷ others) walk long = absurd (omega arith)
    path_first (name ∷ rest) place version at path fewer [] walk long = absurd (omega arith)
    path_first (name ∷ rest) place version at path fewer (other ∷ others) walk long =
        let way = path.0 in
        let step = path.1.0 in
        let found = path.1.1.0 in
        let next = path_step place version way step at found path.1.1.1 in
        let further = path_walks rest step.end next.0 next.1.2 path.1.1.3 in
        let all = path_walks (name ∷ rest) place version at path in
        let same_long : length others ≡ length rest = omega arith in
        let middle = walk.1.0 in
        let near = subst (Near (Some middle)) same_long (walk_near others (Some middle) walk.1.1.1) in
        let ends = only_delta other version middle (length rest) walk.0 (leading other (Some version) middle walk.1.1.0) near
        (λ start is. let few = fewer start is in omega (arith, few)) in
        let long_way : way.distance ≡ ends.1.0 + 1 = exact version place way other middle ends.1.0 (length rest) at found walk.0 ends.0 ends.1.1.0 ends.1.1.1 all.1 in
        let not_before : ¬ IsBefore other way.first = first_there place version way other middle ends.1.0 at found walk.0 ends.0 ends.1.1.0 long_way in
        let least : name_cmp other name ≢ Less =
        subst (λ n. name_cmp other n ≢ Less) path.1.1.2 (subst (λ o. ¬ IsBefore other o) path.1.1.1 not_before) in
        not_less (name_cmp other name) (slice_cmp name_cmp others rest) least
        (λ tied.
        let one : other ≡ name = name_cmp-IsAntisymmetric other name tied in
        let both : ends_of other ≡ Some (version, next.0) = ap ends_of (one ∙ sym path.1.1.2) ∙ next.1.1 in
        let end : middle ≡ next.0 = (some_pair_parts version version middle next.0 (sym ends.0 ∙ both)).1 in
        path_first rest step.end next.0 next.1.2 path.1.1.3 (λ start is. let few = fewer start is in omega (arith, few)) others
        (subst (λ m. IsWalk blobs (Some m) to others) end walk.1.1.1) same_long)
      where
        -- Where snapshots are no nearer, a name of a shortest walk is a delta's.
        only_delta : (name : BlobName) (version middle long : ℕ) → Contains blobs name → Leading name (Some version) middle → Near (Some middle) long
            → ((start : Start) → nearest ≡ Some start → long + 1 ≤ start.distance)
            → (ends_of name ≡ Some (version, middle)) × ((distance : ℕ) × (IsAway versions ways middle distance × (distance ≤ long)))
        only_delta name version middle long listed leads (inr start) far = absurd (omega (arith, far start.0 start.1.0, start.1.1))
        only_delta name version middle long listed (inl snapshot) (inl way) far =
            let same : way.0 ≡ middle = (let e : Some middle ≡ Some way.0 = way.1.1.0 in cc) in
            let away : IsAway versions ways middle way.1.0 = subst (λ v. IsAway versions ways v way.1.0) same way.1.1.1 in
            let start = nearest_to middle way.1.0 (subst (Contains blobs) snapshot listed) away in
            absurd (omega (arith, far start.0 start.1.0, start.1.1.0, way.1.1.2))
        only_delta name version middle long listed (inr delta) (inl way) far =
            let same : way.0 ≡ middle = (let e : Some middle ≡ Some way.0 = way.1.1.0 in cc) in
            let away : IsAway versions ways middle way.1.0 = subst (λ v. IsAway versions ways v way.1.0) same way.1.1.1 in
            let begin : delta.0 ≡ version = (let e : Some version ≡ Some delta.0 = delta.1.0 in cc) in
            (subst (λ v. ends_of name ≡ Some (v, middle)) begin delta.1.1, (way.1.0, (away, way.1.1.2)))

        -- And it leads to where a way of exactly one step less is found.
        exact : (version place : ℕ) (way : Way) (name : BlobName) (middle distance long : ℕ) → slice_get versions place ≡ Some version → ways place ≡ Some way
            → Contains blobs name → ends_of name ≡ Some (version, middle) → IsAway versions ways middle distance → distance ≤ long → HasWay ways place (suc long) → way.distance ≡ distance + 1
        exact version place way name middle distance long at found listed ends away few has =
            let before = away_before name version middle distance listed ends away in
            let one : before.0 ≡ suc long = one_away versions rising ways version before.0 (suc long) before.1.0 (record { place = place; is = at; leads = has }) in
            let same : way.distance ≡ suc long = one_way ways place way.distance (suc long) (record { way = way; is = found; long = refl }) has in
            omega (arith, before.1.1)
