-- How passing a step changes which ways are found.
use Rattle.std.proofs.Common.{◌≡◌, ◌≢◌, ℕ, ◌+◌, ◌≤◌, List, [], ◌∷◌, ◌++◌, Option, Some, None, refl, sym, ◌∙◌, ap, subst, arith, inl, inr, ◌⊎◌}
use Rattle.std.specs.List.{Contains}
use Rattle.std.specs.Option.{MatchOption}
use Rattle.std.proofs.lemmas.Bool.{cases_eq}
use Rattle.std.proofs.lemmas.List.Elements.{Contains-append_left, Contains-push, Contains-push_cases}
use Rattle.hol_plan.specs.declared.steps.Step.{Step}
use Rattle.hol_plan.specs.declared.ways.Way.{Way}
use Rattle.hol_plan.specs.Ways.{Ways, HasWay, IsFirst, IsWay, IsBefore, IsPassed, IsChosen, IsFront}
use Rattle.hol_plan.proofs.Orders.{not_before_itself, before_further}

-- The way that begins by a step.
abbrev pub by_step : Step → ℕ → Way
by_step step distance = record { distance = distance; first = Some step }

-- Passing a step changes only what is found where it begins.
pub record Passes (step : Step) (distance : ℕ) (before after : Ways) : Type 0 where
  pub chosen : Way
  pub here : after step.begin ≡ Some chosen
  pub is : IsChosen step distance (before step.begin) chosen
  pub others : (place : ℕ) → place ≢ step.begin → after place ≡ before place

-- The places that are added to the next level: where a step begins, if nothing was found there.
pub record Adds (step : Step) (before : Ways) (next more : List ℕ) : Type 0 where
  pub keeps : (place : ℕ) → Contains next place → Contains more place
  pub new : before step.begin ≡ None → Contains more step.begin
  pub only : (place : ℕ) → Contains more place → Contains next place ⊎ ((place ≡ step.begin) × (before step.begin ≡ None))

pub adds_new : (step : Step) (before : Ways) (next : List ℕ) → before step.begin ≡ None → Adds step before next (next ++ step.begin ∷ [])
adds_new step before next none = record {
  keeps = λ place. Contains-append_left next (step.begin ∷ []) place;
  new = λ _. Contains-push next step.begin;
  only = λ place more. elim (Contains-push_cases next step.begin place more) [ inl old ↦ inl old | inr same ↦ inr (sym same, none) ];
}

pub adds_none : (step : Step) (before : Ways) (next : List ℕ) (way : Way) → before step.begin ≡ Some way → Adds step before next next
adds_none step before next way some = record {
  keeps = λ place old. old;
  new = λ none. absurd cc;
  only = λ place old. inl old;
}

-- What is chosen: the step's way where there was none, the old one, or the step's in place of one of as many steps.
abbrev Changed : Step → ℕ → Option Way → Way → Type 0
Changed step distance old chosen =
    ((old ≡ None) × (chosen ≡ by_step step distance))
    ⊎ ((way : Way) × ((old ≡ Some way) ×
    (((chosen ≡ way) × (way.distance ≡ distance → ¬ IsBefore step.name way.first))
    ⊎ ((chosen ≡ by_step step distance) × (way.distance ≡ distance) × IsBefore step.name way.first))))

changed : (step : Step) (distance : ℕ) (old : Option Way) (chosen : Way) → IsChosen step distance old chosen → Changed step distance old chosen
changed step distance None chosen is = inl (refl, is)
changed step distance (Some way) chosen is = inr (way, (refl, is))

module _ (step : Step) (distance : ℕ) (before after : Ways) (pass : Passes step distance before after) where
  -- What is found stays found, as long as it was.
  pub still : (place long : ℕ) → HasWay before place long → HasWay after place long
  still place long has = elim (cases_eq place step.begin) [
    | inr apart ↦ record { way = has.way; is = pass.others place apart ∙ has.is; long = has.long }
    | inl same ↦
        let was : before step.begin ≡ Some has.way = sym (ap before same) ∙ has.is in
        let now : after place ≡ Some pass.chosen = ap after same ∙ pass.here in
        elim (changed step distance (before step.begin) pass.chosen pass.is) [
          | inl fresh ↦ let none : before step.begin ≡ None = fresh.0 in absurd cc
          | inr old ↦
              let one : old.0 ≡ has.way = (let is : before step.begin ≡ Some old.0 = old.1.0 in cc) in
              elim (old.1.1) [
                | inl kept ↦ record { way = pass.chosen; is = now; long = ap (λ (w : Way). w.distance) (kept.0 ∙ one) ∙ has.long }
                | inr better ↦ record { way = pass.chosen; is = now; long = ap (λ (w : Way). w.distance) better.0 ∙ (sym better.1 ∙ (ap (λ (w : Way). w.distance) one ∙ has.long)) }
              ]
        ]
  ]

  -- What is found was found before, or it begins by the step.
  pub came : (place : ℕ) (way : Way) → after place ≡ Some way →
      (before place ≡ Some way) ⊎ ((place ≡ step.begin) × (way ≡ by_step step distance) × ((before step.begin ≡ None) ⊎ HasWay before step.begin distance))
  came place way is = elim (cases_eq place step.begin) [
    | inr apart ↦ inl (sym (pass.others place apart) ∙ is)
    | inl same ↦
        let one : pass.chosen ≡ way = (let here : after step.begin ≡ Some pass.chosen = pass.here in let at : after step.begin ≡ Some way = sym (ap after same) ∙ is in cc) in
        elim (changed step distance (before step.begin) pass.chosen pass.is) [
          | inl fresh ↦ inr (same, sym one ∙ fresh.1, inl fresh.0)
          | inr old ↦ elim (old.1.1) [
            | inl kept ↦ inl (ap before same ∙ (old.1.0 ∙ ap Some (sym kept.0 ∙ one)))
            | inr better ↦ inr (same, sym one ∙ better.0, inr (record { way = old.0; is = old.1.0; long = better.1 }))
          ]
        ]
  ]

  -- What was passed stays passed.
  pub stays : (long : ℕ) (other : Step) → IsPassed before long other → IsPassed after long other
  stays long other passed = elim (cases_eq other.begin step.begin) [
    | inr apart ↦ record { way = passed.way; is = pass.others other.begin apart ∙ passed.is; most = passed.most; first = passed.first }
    | inl same ↦
        let was : before step.begin ≡ Some passed.way = sym (ap before same) ∙ passed.is in
        let now : after other.begin ≡ Some pass.chosen = ap after same ∙ pass.here in
        elim (changed step distance (before step.begin) pass.chosen pass.is) [
          | inl fresh ↦ let none : before step.begin ≡ None = fresh.0 in absurd cc
          | inr old ↦
              let one : old.0 ≡ passed.way = (let is : before step.begin ≡ Some old.0 = old.1.0 in cc) in
              elim (old.1.1) [
                | inl kept ↦ subst (IsPassed after long) refl (record {
                  way = passed.way;
                  is = now ∙ ap Some (kept.0 ∙ one);
                  most = passed.most;
                  first = passed.first;
                })
                | inr better ↦
                    let as_long : passed.way.distance ≡ distance = sym (ap (λ (w : Way). w.distance) one) ∙ better.1 in
                    record {
                      way = by_step step distance;
                      is = now ∙ ap Some better.0;
                      most = subst (λ n. n ≤ long) as_long passed.most;
                      first = λ e first. passed.first (as_long ∙ e)
                          (before_further other.name step passed.way.first first (subst (λ (w : Way). IsBefore step.name w.first) one better.2));
                    }
              ]
        ]
  ]

  -- The step is passed.
  pub passes : ((way : Way) → before step.begin ≡ Some way → way.distance ≤ distance) → IsPassed after distance step
  passes most = elim (changed step distance (before step.begin) pass.chosen pass.is) [
    | inl fresh ↦ record { way = by_step step distance; is = pass.here ∙ ap Some fresh.1; most = omega arith; first = λ e. not_before_itself step }
    | inr old ↦ elim (old.1.1) [
      | inl kept ↦ record { way = old.0; is = pass.here ∙ ap Some kept.0; most = most old.0 old.1.0; first = kept.1 }
      | inr better ↦ record { way = by_step step distance; is = pass.here ∙ ap Some better.0; most = omega arith; first = λ e. not_before_itself step }
    ]
  ]

  -- Where nothing was found, the step's way is.
  fresh_way : before step.begin ≡ None → HasWay after step.begin distance
  fresh_way none = elim (changed step distance (before step.begin) pass.chosen pass.is) [
    | inl fresh ↦ record { way = pass.chosen; is = pass.here; long = ap (λ (w : Way). w.distance) fresh.1 }
    | inr old ↦ let is : before step.begin ≡ Some old.0 = old.1.0 in absurd cc
  ]

  module _ (steps : List Step) (end : ℕ) (level next more : List ℕ) (front : IsFront steps end distance level before next)
      (listed : Contains steps step) (leads : Contains level step.end) (adds : Adds step before next more) where
    way_stays : (first : Option Step) (long place : ℕ) → MatchOption first ((long ≡ 0) × (place ≡ end)) (IsFirst steps before place long)
        → MatchOption first ((long ≡ 0) × (place ≡ end)) (IsFirst steps after place long)
    way_stays None long place is = is
    way_stays (Some first) long place is = record {
      listed = is.listed;
      begins = is.begins;
      near = is.near;
      leads = still first.end is.near is.leads;
      nearer = is.nearer;
    }

    new_way : (place : ℕ) → place ≡ step.begin → IsFirst steps after place distance step
    new_way place same =
        let near = front.level_in step.end leads in
        record {
          listed = listed;
          begins = sym same;
          near = near.0;
          leads = still step.end near.0 near.1.0;
          nearer = sym near.1.1;
        }

    -- The front after the step.
    pub front_after : IsFront steps end distance level after more
    front_after = record {
      ended = still end 0 front.ended;
      found = λ place way is. elim (came place way is) [
        | inl old ↦ way_stays way.first way.distance place (front.found place way old)
        | inr new ↦ subst (λ (w : Way). IsWay steps end after place w) (sym new.1) (new_way place new.0)
      ];
      most = λ place way is. elim (came place way is) [
        | inl old ↦ front.most place way old
        | inr new ↦ let long : way.distance ≡ distance = ap (λ (w : Way). w.distance) new.1 in omega arith
      ];
      next_all = λ place has. elim (came place has.way has.is) [
        | inl old ↦ adds.keeps place (front.next_all place (record { way = has.way; is = old; long = has.long }))
        | inr new ↦ subst (Contains more) (sym new.0) (elim (new.2) [
          | inl none ↦ adds.new none
          | inr was ↦ adds.keeps step.begin (front.next_all step.begin was)
        ])
      ];
      next_in = λ place among. elim (adds.only place among) [
        | inl old ↦ still place distance (front.next_in place old)
        | inr new ↦ subst (λ k. HasWay after k distance) (sym new.0) (fresh_way new.1)
      ];
      level_all = λ place way is near. elim (came place way is) [
        | inl old ↦ front.level_all place way old near
        | inr new ↦ let long : way.distance ≡ distance = ap (λ (w : Way). w.distance) new.1 in absurd (omega arith)
      ];
      level_in = λ place among. let was = front.level_in place among in (was.0, (still place was.0 was.1.0, was.1.1));
      passed = λ other among way is near. elim (came other.end way is) [
        | inl old ↦ stays (way.distance + 1) other (front.passed other among way old near)
        | inr new ↦ let long : way.distance ≡ distance = ap (λ (w : Way). w.distance) new.1 in absurd (omega arith)
      ];
    }
