-- Passing groups of steps, and one level after another.
use Rattle.std.proofs.Common.{◌≡◌, ◌≢◌, ℕ, ◌+◌, ◌-◌, ◌*◌, ◌<◌, ◌≤◌, List, [], ◌∷◌, ◌++◌, Bool, cond, true, false, not, get_or, set, take, length, replicate, Option, Some, None, refl, sym, ◌∙◌, ap, subst, arith, inl, inr, ◌⊎◌, zero, suc}
use Rattle.std.specs.List.{All, Contains}
use Rattle.std.proofs.lemmas.Bool.{false≢true, cases_eq, cases_lt, cases_order}
use Rattle.std.proofs.lemmas.List.{get_or-set_same, get_or-set_other, get_or-replicate, get_or_past, get_or_default, get_or_read, length_push, nil_from_length, length-set, length-replicate, take_more, take_all}
use Rattle.std.proofs.lemmas.List.Elements.{All-more, All-weaker, All-contains, Contains-push_cases, Contains-get_or}
use Rattle.hol_plan.specs.declared.steps.Step.{Step}
use Rattle.hol_plan.specs.declared.ways.Way.{Way}
use Rattle.std.specs.Option.{MatchOption, is_none, is_some}
use Rattle.std.proofs.lemmas.List.Folds.{sum_by-replicate}
use Rattle.hol_plan.specs.Ways.{Ways, way_at, IsFirst, IsWay, IsPassed, IsChosen, IsFront, AreWays, IsGroup, Reaches, unreached}
use Rattle.hol_plan.proofs.Counts.{unreached-set_new, unreached-set_old}
use Rattle.hol_plan.proofs.Fronts.{Passes, Adds, adds_new, adds_none, stays, passes, front_after}

-- A step is passed by writing what is chosen at its place.
pub written : (ways : List (Option Way)) (step : Step) (distance : ℕ) (chosen : Way) → step.begin < length ways → IsChosen step distance (way_at ways step.begin) chosen
    → Passes step distance (way_at ways) (way_at (set ways step.begin (Some chosen)))
written ways step distance chosen within is = record {
  chosen = chosen;
  here = get_or-set_same ways step.begin (Some chosen) None within;
  is = is;
  others = λ place apart. get_or-set_other ways step.begin place (Some chosen) None apart;
}

-- One step more of a group.
pub reach_more : (steps : List Step) (end distance : ℕ) (level : List ℕ) (group : List Step) (i : ℕ) (step : Step) (before between after : Ways) (next more : List ℕ)
    → i < length group → step ≡ get_or group i step → Contains steps step → Contains level step.end
    → Passes step distance between after → Adds step between next more
    → Reaches steps end distance level (take i group) before between next → Reaches steps end distance level (take (i + 1) group) before after more
reach_more steps end distance level group i step before between after next more within is listed leads pass adds reaches = record {
  front = front_after step distance between after pass steps end level next more reaches.front listed leads adds;
  stays = λ other passed. stays step distance between after pass distance other (reaches.stays other passed);
  reached = All-more (IsPassed after distance) group i step within
      (All-weaker (IsPassed between distance) (IsPassed after distance) (stays step distance between after pass distance) (take i group) reaches.reached)
      (subst (IsPassed after distance) is (passes step distance between after pass (reaches.front.most step.begin)));
}

-- All steps that lead to these places of a level are passed.
pub record Covers (steps : List Step) (end distance : ℕ) (level done : List ℕ) (ways : Ways) (next : List ℕ) : Type 0 where
  pub front : IsFront steps end distance level ways next
  pub passed : (step : Step) → Contains steps step → Contains done step.end → IsPassed ways distance step

-- One place more of a level.
pub cover_more : (steps : List Step) (end distance : ℕ) (level : List ℕ) (i place : ℕ) (group : List Step) (before after : Ways) (next more : List ℕ)
    → i < length level → place ≡ get_or level i 0 → IsGroup steps place group → Covers steps end distance level (take i level) before next
    → (IsFront steps end distance level before next → All (λ step. Contains steps step × Contains level step.end) group → Reaches steps end distance level group before after more)
    → Covers steps end distance level (take (i + 1) level) after more
cover_more steps end distance level i place group before after next more within is whole covers reach =
    let here : Contains level place = subst (Contains level) (sym is) (Contains-get_or level i 0 within) in
    let leads : All (λ step. Contains steps step × Contains level step.end) group =
    All-weaker (λ step. Contains steps step × (step.end ≡ place)) (λ step. Contains steps step × Contains level step.end)
    (λ step each. (each.0, subst (Contains level) (sym each.1) here)) group whole.each in
    let reaches = reach covers.front leads in
    record {
      front = reaches.front;
      passed = λ step listed among. elim (Contains-push_cases (take i level) (get_or level i 0) step.end (subst (λ l. Contains l step.end) (take_more level i 0 within) among)) [
        | inl old ↦ reaches.stays step (covers.passed step listed old)
        | inr new ↦ All-contains (IsPassed after distance) group step reaches.reached (whole.whole step listed (sym new ∙ sym is))
      ];
    }

-- Behind the last place of a level the next one is whole.
pub advance : (steps : List Step) (end distance : ℕ) (level : List ℕ) (i : ℕ) (ways : Ways) (next : List ℕ) → length level ≤ i → Covers steps end distance level (take i level) ways next → IsFront steps end (distance + 1) next ways []
advance steps end distance level i ways next behind covers =
    let front = covers.front in
    record {
      ended = front.ended;
      found = front.found;
      most = λ place way is. let m : way.distance ≤ distance = front.most place way is in omega arith;
      next_all = λ place has. let m : has.way.distance ≤ distance = front.most place has.way has.is in let long : has.way.distance ≡ distance + 1 = has.long in absurd (omega arith);
      next_in = λ place among. absurd (omega (arith, among.1));
      level_all = λ place way is long. front.next_all place (record { way = way; is = is; long = omega arith });
      level_in = λ place among. (distance, (front.next_in place among, refl));
      passed = λ step listed way is short. elim (cases_eq (way.distance + 1) distance) [
        | inl same ↦ subst (λ n. IsPassed ways n step) (sym same)
            (covers.passed step listed (subst (λ l. Contains l step.end) (sym (take_all i level behind)) (front.level_all step.end way is same)))
        | inr apart ↦ front.passed step listed way is (omega arith)
      ];
    }

-- Where a level has no places all ways are found.
pub all_found : (steps : List Step) (end distance : ℕ) (ways : Ways) → IsFront steps end distance [] ways [] → AreWays steps end ways
all_found steps end distance ways front = record {
  ended = front.ended;
  found = front.found;
  passed = λ step listed way is. elim (cases_order (way.distance + 1) distance) [
    | inl same ↦ let none = front.level_all step.end way is same in absurd (omega (arith, none.1))
    | inr apart ↦ elim apart [
      | inl short ↦ front.passed step listed way is short
      | inr over ↦
          let m : way.distance ≤ distance = front.most step.end way is in
          let none = front.next_all step.end (record { way = way; is = is; long = omega arith }) in absurd (omega (arith, none.1))
    ]
  ];
}

-- At first the end alone is found.
pub first_front : (steps : List Step) (end : ℕ) (ways : Ways) (root : Way) → ways end ≡ Some root → root.distance ≡ 0 → root.first ≡ None
    → ((place : ℕ) → place ≢ end → ways place ≡ None) → IsFront steps end 1 (end ∷ []) ways []
first_front steps end ways root here no_steps none others =
    let only : (place : ℕ) (way : Way) → ways place ≡ Some way → (place ≡ end) × (root ≡ way) = λ place way is. elim (cases_eq place end) [
      | inl same ↦ (same, (let at : ways end ≡ Some way = sym (ap ways same) ∙ is in cc))
      | inr apart ↦ let not : ways place ≡ None = others place apart in absurd cc
    ] in
    record {
      ended = record { way = root; is = here; long = no_steps };
      found = λ place way is. let one = only place way is in
          subst (λ (w : Way). IsWay steps end ways place w) one.1 (at_root root place no_steps none one.0);
      most = λ place way is. let long : way.distance ≡ 0 = ap (λ (w : Way). w.distance) (sym (only place way is).1) ∙ no_steps in omega arith;
      next_all = λ place has. let long : has.way.distance ≡ 0 = ap (λ (w : Way). w.distance) (sym (only place has.way has.is).1) ∙ no_steps in let also : has.way.distance ≡ 1 = has.long in absurd (omega arith);
      next_in = λ place among. absurd (omega (arith, among.1));
      level_all = λ place way is near. subst (Contains (end ∷ [])) (sym (only place way is).0) (0, omega arith, refl);
      level_in = λ place among. (0, (record { way = root; is = subst (λ k. ways k ≡ Some root) (one_of end place among) here; long = no_steps }, refl));
      passed = λ step listed way is short. absurd (omega arith);
    }
  where
    one_of : (end place : ℕ) → Contains (end ∷ []) place → end ≡ place
    one_of end place (zero, within, is) = is
    one_of end place (suc k, within, is) = absurd (omega arith)

    at_root : (root : Way) (place : ℕ) → root.distance ≡ 0 → root.first ≡ None → place ≡ end → IsWay steps end ways place root
    at_root root place no_steps none same = subst (λ first. MatchOption first ((root.distance ≡ 0) × (place ≡ end)) (IsFirst steps ways place root.distance)) (sym none) (no_steps, same)

-- The same, of the list that is written.
pub first_written : (steps : List Step) (end places : ℕ) (root : Way) → end < places → root.distance ≡ 0 → root.first ≡ None
    → IsFront steps end 1 (end ∷ []) (way_at (set (replicate places None) end (Some root))) []
first_written steps end places root within no_steps none =
    let ways : List (Option Way) = replicate places None in
    let long : length ways ≡ places = length-replicate places None in
    first_front steps end (way_at (set ways end (Some root))) root (get_or-set_same ways end (Some root) None (omega arith)) no_steps none
    (λ place apart. get_or-set_other ways end place (Some root) None apart ∙ elim (cases_lt place places) [
      | inl inside ↦ get_or-replicate places place None None inside
      | inr past ↦ get_or_past ways place None (omega arith)
    ])

-- What a loop over a group keeps.
pub record Passing (group : List Step) (i distance : ℕ) (initial ways : List (Option Way)) (before next : List ℕ) : Type 0 where
  pub long : length ways ≡ length initial
  pub count : unreached ways + length next ≡ unreached initial + length before
  pub front : (steps : List Step) (end : ℕ) (level : List ℕ) → IsFront steps end distance level (way_at initial) before
      → All (λ step. Contains steps step × Contains level step.end) group → Reaches steps end distance level (take i group) (way_at initial) (way_at ways) next

-- The next places grow where nothing was found.
abbrev pub Grows : ℕ → Option Way → List ℕ → List ℕ → Type 0
Grows place way next more = ((way ≡ None) × (more ≡ next ++ place ∷ [])) ⊎ ((old : Way) × ((way ≡ Some old) × (more ≡ next)))

pub grows_new : (place : ℕ) (way : Option Way) (none : Bool) (next more : List ℕ) → is_some way ≡ not none → none ≡ true → more ≡ next ++ place ∷ [] → Grows place way next more
grows_new place None none next more is was more_is = inl (refl, more_is)
grows_new place (Some old) none next more is was more_is = absurd (false≢true (ap not (sym was) ∙ sym is))

pub grows_not : (place : ℕ) (way : Option Way) (none : Bool) (next more : List ℕ) → is_some way ≡ not none → none ≡ false → more ≡ next → Grows place way next more
grows_not place None none next more is was more_is = absurd (false≢true (is ∙ ap not was))
grows_not place (Some old) none next more is was more_is = inr (old, (refl, more_is))

pub passing_more : (group : List Step) (i distance : ℕ) (initial ways : List (Option Way)) (before next more : List ℕ) (any : Step) (way : Option Way) (chosen : Way)
    → i < length group → All (λ step. step.begin < length initial) group → way ≡ get_or ways (get_or group i any).begin way → IsChosen (get_or group i any) distance way chosen
    → Grows (get_or group i any).begin way next more
    → Passing group i distance initial ways before next → Passing group (i + 1) distance initial (set ways (get_or group i any).begin (Some chosen)) before more
passing_more group i distance initial ways before next more any way chosen within all read is grows passing =
    let step : Step = get_or group i any in
    let itself : step ≡ get_or group i step = get_or_default group i any step within in
    let inside : step.begin < length ways = subst (λ n. step.begin < n) (sym passing.long) (all i any within) in
    let at : way ≡ get_or ways step.begin None = get_or_read ways step.begin way inside read None in
    let choice : IsChosen step distance (get_or ways step.begin None) chosen = subst (λ w. IsChosen step distance w chosen) at is in
    record {
      long = length-set ways step.begin (Some chosen) ∙ passing.long;
      count = elim grows [
        | inl new ↦
            let one = unreached-set_new ways step.begin chosen inside (sym at ∙ new.0) in
            let longer : length more ≡ length next + 1 = ap (λ l. length l) new.1 ∙ length_push next step.begin in
            omega (arith, one, longer, passing.count)
        | inr old ↦
            let one = unreached-set_old ways step.begin old.0 chosen inside (sym at ∙ old.1.0) in
            let as_long : length more ≡ length next = ap (λ l. length l) old.1.1 in
            omega (arith, one, as_long, passing.count)
      ];
      front = λ steps end level front leads.
          let here = leads i any within in
          reach_more steps end distance level group i step (way_at initial) (way_at ways) (way_at (set ways step.begin (Some chosen))) next more within itself here.0 here.1
          (written ways step distance chosen inside choice)
          (elim grows [
            | inl new ↦ subst (Adds step (way_at ways) next) (sym new.1) (adds_new step (way_at ways) next (sym at ∙ new.0))
            | inr old ↦ subst (Adds step (way_at ways) next) (sym old.1.1) (adds_none step (way_at ways) next old.0 (sym at ∙ old.1.0))
          ])
          (passing.front steps end level front leads);
    }

-- What a loop over a level keeps.
pub record Leveling (steps : List Step) (level : List ℕ) (i distance : ℕ) (initial ways : List (Option Way)) (next : List ℕ) : Type 0 where
  pub long : length ways ≡ length initial
  pub count : unreached ways + length next ≡ unreached initial
  pub front : (end : ℕ) → IsFront steps end distance level (way_at initial) [] → Covers steps end distance level (take i level) (way_at ways) next

pub leveling_more : (steps : List Step) (level : List ℕ) (i distance : ℕ) (initial ways after : List (Option Way)) (next more : List ℕ) (group : List Step)
    → i < length level → IsGroup steps (get_or level i 0) group → length after ≡ length ways
    → unreached after + length more ≡ unreached ways + length next
    → ((all : List Step) (end : ℕ) (places : List ℕ) → IsFront all end distance places (way_at ways) next → All (λ step. Contains all step × Contains places step.end) group
    → Reaches all end distance places group (way_at ways) (way_at after) more)
    → Leveling steps level i distance initial ways next → Leveling steps level (i + 1) distance initial after more
leveling_more steps level i distance initial ways after next more group within is long count reach leveling = record {
  long = long ∙ leveling.long;
  count = count ∙ leveling.count;
  front = λ end front. cover_more steps end distance level i (get_or level i 0) group (way_at ways) (way_at after) next more within refl is (leveling.front end front) (reach steps end level);
}

-- What the loop over levels keeps: so many steps away from the end all is found, and what is left to find is less with each level.
pub record Levels (steps : List Step) (end places distance : ℕ) (ways : List (Option Way)) (level : List ℕ) : Type 0 where
  pub long : length ways ≡ places
  pub count : distance + unreached ways + length level ≤ places
  pub front : IsFront steps end (distance + 1) level (way_at ways) []

-- A vector that was empty has so many of a value after it is resized.
pub resized : (old new : List (Option Way)) (n len : ℕ) → old ≡ [] → len ≡ 0 → new ≡ take n old ++ replicate (n - len) None → new ≡ replicate n None
resized old new n len empty no_len is =
    is ∙ (ap (λ l. take n l ++ replicate (n - len) None) empty ∙ (ap (λ l. l ++ replicate (n - len) None) (take_all n [] (omega arith)) ∙ (let e : n - len ≡ n = omega arith in ap (λ m. replicate m None) e)))

pub first_levels : (steps : List Step) (end places : ℕ) (initial : List (Option Way)) (level : List ℕ) → end < places → initial ≡ replicate places None → level ≡ end ∷ []
    → Levels steps end places 0 (set initial end (Some (record { distance = 0; first = None }))) level
first_levels steps end places initial level within is level_is =
    let root : Way = record { distance = 0; first = None } in
    let blank : List (Option Way) = replicate places None in
    let long : length blank ≡ places = length-replicate places None in
    let inside : end < length blank = omega arith in
    let all : unreached blank ≡ places * 1 = sum_by-replicate (λ (w : Option Way). cond (is_none w) 1 0) places None in
    let fewer = unreached-set_new blank end root inside (get_or-replicate places end None None within) in
    subst (λ l. Levels steps end places 0 (set l end (Some root)) level) (sym is) (subst (Levels steps end places 0 (set blank end (Some root))) (sym level_is) (record {
      long = length-set blank end (Some root) ∙ long;
      count = omega (arith, all, fewer);
      front = first_written steps end places root within refl refl;
    }))

pub more_levels : (steps : List Step) (end places distance : ℕ) (ways after : List (Option Way)) (level lent next : List ℕ) → lent ≡ level → 0 < length level → length after ≡ length ways
    → unreached after + length next ≡ unreached ways → (IsFront steps end (distance + 1) lent (way_at ways) [] → IsFront steps end (distance + 1 + 1) next (way_at after) [])
    → Levels steps end places distance ways level → Levels steps end places (distance + 1) after next
more_levels steps end places distance ways after level lent next is some long count goes levels = record {
  long = long ∙ levels.long;
  count = omega (arith, count, levels.count);
  front = goes (subst (λ l. IsFront steps end (distance + 1) l (way_at ways) []) (sym is) levels.front);
}

pub last_levels : (steps : List Step) (end places distance : ℕ) (ways : List (Option Way)) (level : List ℕ) → length level ≡ 0 → Levels steps end places distance ways level → AreWays steps end (way_at ways)
last_levels steps end places distance ways level none levels =
    all_found steps end (distance + 1) (way_at ways) (subst (λ l. IsFront steps end (distance + 1) l (way_at ways) []) (nil_from_length level none) levels.front)
