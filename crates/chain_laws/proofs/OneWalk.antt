-- A walk over versions ends in one way, where each of its calls does.
use Rattle.std.proofs.Common.{◌≡◌, ◌⊎◌, inl, inr, ℕ, List, [], ◌∷◌, ◌++◌, true, false, Option, Some, None, Result, Ok, Err, refl, sym, ap, subst, ◌∙◌}
use Rattle.std.specs.List.{last_or}
use Rattle.hol_io.specs.declared.name.BlobName.{BlobName}
use Rattle.hol_io.specs.Store.{Store}
use Rattle.schema_model.specs.declared.schema.name.Name.{Name}
use Rattle.chain_check.specs.declared.place.Place.{Place}
use Rattle.chain_check.specs.Compare.{Compare}
use Rattle.chain_check.specs.Walk.{Arrives, Both, Calls, Differs, Goes, HasSnapshot, Passes, PassesBy, Refuses, Stops, Visits}
use Rattle.chain_check.proofs.OnePlace.{one_place}

-- How a walk ends: behind its last version, at a version where the states differ, or at a call that is refused.
pub data Ending (E : Type 0) : Type 0 where
  passed : Ending E
  differs : ℕ → Place → Ending E
  refused : E → Ending E

module _ {W E : Type 0} (calls : Calls W E) (store : Store) where
  -- From this version on, the walk over these versions ends in this way.
  abbrev pub Ends : Option ℕ → List ℕ → Both W → Ending E → Type 0
  Ends from [] before end = end ≡ passed
  Ends from (to ∷ more) before end =
      ((name : BlobName) × (fault : E) × (now : Both W) × Refuses calls (Some store) from to before name fault now × (end ≡ refused fault))
      ⊎ ((there : Both W)
      × ((Arrives calls (Some store) from to before there × ((place : Place) × Compare (calls.state there.walker) (calls.state there.fresh) (Some place) × (end ≡ differs to place)))
      ⊎ (Visits calls (Some store) from to before there × Ends (Some to) more there end)))

  -- ---- each answer tells how the walk ends

  pub passes_end : (versions : List ℕ) (from : Option ℕ) (before now : Both W) → Passes calls (Some store) from versions before now → Ends from versions before passed
  passes_end [] from before now passes = refl
  passes_end (to ∷ more) from before now (there, visits, passes) = inr (there, inr (visits, passes_end more (Some to) there now passes))

  -- a walk that passed the first versions ends as the rest of it does
  behind : (first more : List ℕ) (from : Option ℕ) (to : ℕ) (before now : Both W) (end : Ending E) → Passes calls (Some store) from first before now → Ends (last_or from first) (to ∷ more) now end
      → Ends from (first ++ to ∷ more) before end
  behind [] more from to before now end same ends = subst (λ (b : Both W). Ends from (to ∷ more) b end) same ends
  behind (v ∷ first) more from to before now end (there, visits, passes) ends = inr (there, inr (visits, behind first more (Some v) to there now end passes ends))

  pub differs_end : (versions : List ℕ) (start now : Both W) (version : ℕ) (type_name : Option Name) (ordinal : Option ℕ) → Differs calls (Some store) versions start version type_name ordinal now
      → Ends None versions start (differs version (record { type_name = type_name; ordinal = ordinal }))
  differs_end versions start now version type_name ordinal is =
      let place : Place = record { type_name = type_name; ordinal = ordinal } in
      let here : Ends is.from (version ∷ is.comes.more) is.before (differs version place) = inr (now, inl (is.arrives, (place, is.place, refl))) in
      subst (λ (vs : List ℕ). Ends None vs start (differs version place)) (sym is.comes.versions_are)
      (behind is.comes.passed is.comes.more None version start is.before (differs version place) is.comes.passes
      (subst (λ (f : Option ℕ). Ends f (version ∷ is.comes.more) is.before (differs version place)) is.comes.from_is here))

  pub stops_end : (versions : List ℕ) (start now : Both W) (name : BlobName) (fault : E) → Stops calls (Some store) versions start name fault now → Ends None versions start (refused fault)
  stops_end versions start now name fault is =
      let here : Ends is.from (is.to ∷ is.comes.more) is.before (refused fault) = inl (name, fault, now, is.refuses, refl) in
      subst (λ (vs : List ℕ). Ends None vs start (refused fault)) (sym is.comes.versions_are)
      (behind is.comes.passed is.comes.more None is.to start is.before (refused fault) is.comes.passes
      (subst (λ (f : Option ℕ). Ends f (is.to ∷ is.comes.more) is.before (refused fault)) is.comes.from_is here))

  -- ---- it ends in one way

  -- a snapshot is there or is not
  there_or_not : (version : ℕ) → HasSnapshot (Some store) version true → HasSnapshot (Some store) version false → ⊥
  there_or_not version is none = let no : true ≡ false = is ∙ sym none in cc

  module _ (IsGood : W → Type 0)
      (loads_one : (version : ℕ) (before now also : W) (one other : Result (Unit {0}) E) → calls.loads (Some store) version before now one → calls.loads (Some store) version before also other
      → (one ≡ other) × (now ≡ also))
      (steps_one : (from to : ℕ) (before now also : W) (one other : Result (Unit {0}) E) → IsGood before → calls.steps (Some store) from to before now one → calls.steps (Some store) from to before also other
      → (one ≡ other) × (now ≡ also))
      (loads_good : (version : ℕ) (before now : W) → calls.loads (Some store) version before now (Ok tt) → IsGood now)
      (steps_good : (from to : ℕ) (before now : W) → IsGood before → calls.steps (Some store) from to before now (Ok tt) → IsGood now) where
    goes_one : (from : Option ℕ) (to : ℕ) (before now also : W) (one other : Result (Unit {0}) E) → IsGood before → Goes calls (Some store) from to before now one
        → Goes calls (Some store) from to before also other → (one ≡ other) × (now ≡ also)
    goes_one None to before now also one other good goes goes_too = loads_one to before now also one other goes goes_too
    goes_one (Some from) to before now also one other good goes goes_too = steps_one from to before now also one other good goes goes_too

    goes_good : (from : Option ℕ) (to : ℕ) (before now : W) → IsGood before → Goes calls (Some store) from to before now (Ok tt) → IsGood now
    goes_good None to before now good goes = loads_good to before now goes
    goes_good (Some from) to before now good goes = steps_good from to before now good goes

    arrives_one : (from : Option ℕ) (to : ℕ) (before there also : Both W) → IsGood before.walker → Arrives calls (Some store) from to before there → Arrives calls (Some store) from to before also → there ≡ also
    arrives_one from to before there also good one other =
        let walkers = (goes_one from to before.walker there.walker also.walker (Ok tt) (Ok tt) good one.goes other.goes).1 in
        let others = (loads_one to before.fresh there.fresh also.fresh (Ok tt) (Ok tt) one.loads other.loads).1 in
        λ i. record { walker = walkers i; fresh = others i }

    passed_one : (from : Option ℕ) (to : ℕ) (before there also : Both W) → IsGood before.walker → PassesBy calls (Some store) from to before there → PassesBy calls (Some store) from to before also → there ≡ also
    passed_one from to before there also good one other =
        let walkers = (goes_one from to before.walker there.walker also.walker (Ok tt) (Ok tt) good one.goes other.goes).1 in
        let others : there.fresh ≡ also.fresh = one.still ∙ sym other.still in
        λ i. record { walker = walkers i; fresh = others i }

    visits_one : (from : Option ℕ) (to : ℕ) (before there also : Both W) → IsGood before.walker → Visits calls (Some store) from to before there → Visits calls (Some store) from to before also → there ≡ also
    visits_one from to before there also good (inl one) (inl other) = arrives_one from to before there also good one.0 other.0
    visits_one from to before there also good (inl one) (inr other) = absurd (there_or_not to one.0.has other.lacks)
    visits_one from to before there also good (inr one) (inl other) = absurd (there_or_not to other.0.has one.lacks)
    visits_one from to before there also good (inr one) (inr other) = passed_one from to before there also good one other

    visits_good : (from : Option ℕ) (to : ℕ) (before there : Both W) → IsGood before.walker → Visits calls (Some store) from to before there → IsGood there.walker
    visits_good from to before there good (inl visited) = goes_good from to before.walker there.walker good visited.0.goes
    visits_good from to before there good (inr passed_by) = goes_good from to before.walker there.walker good passed_by.goes

    ok_not : (fault : E) → ◌≡◌ {A = Result (Unit {0}) E} (Ok tt) (Err fault) → ⊥
    ok_not fault same = cc

    fault_of : (a b : E) → ◌≡◌ {A = Result (Unit {0}) E} (Err a) (Err b) → a ≡ b
    fault_of a b same = cc

    refuses_one : (from : Option ℕ) (to : ℕ) (before now also : Both W) (name other_name : BlobName) (fault other : E) → IsGood before.walker → Refuses calls (Some store) from to before name fault now
        → Refuses calls (Some store) from to before other_name other also → fault ≡ other
    refuses_one from to before now also name other_name fault other good (inl one) (inl two) =
        fault_of fault other (goes_one from to before.walker now.walker also.walker (Err fault) (Err other) good one.1 two.1).0
    refuses_one from to before now also name other_name fault other good (inl one) (inr two) =
        absurd (ok_not fault (goes_one from to before.walker also.walker now.walker (Ok tt) (Err fault) good two.1 one.1).0)
    refuses_one from to before now also name other_name fault other good (inr one) (inl two) =
        absurd (ok_not other (goes_one from to before.walker now.walker also.walker (Ok tt) (Err other) good one.1 two.1).0)
    refuses_one from to before now also name other_name fault other good (inr one) (inr two) =
        fault_of fault other (loads_one to before.fresh now.fresh also.fresh (Err fault) (Err other) one.3 two.3).0

    refuses_not : (from : Option ℕ) (to : ℕ) (before now there : Both W) (name : BlobName) (fault : E) → IsGood before.walker → Refuses calls (Some store) from to before name fault now
        → Arrives calls (Some store) from to before there → ⊥
    refuses_not from to before now there name fault good (inl one) arrives =
        ok_not fault (goes_one from to before.walker there.walker now.walker (Ok tt) (Err fault) good arrives.goes one.1).0
    refuses_not from to before now there name fault good (inr one) arrives =
        ok_not fault (loads_one to before.fresh there.fresh now.fresh (Ok tt) (Err fault) arrives.loads one.3).0

    refuses_visit : (from : Option ℕ) (to : ℕ) (before now there : Both W) (name : BlobName) (fault : E) → IsGood before.walker → Refuses calls (Some store) from to before name fault now
        → Visits calls (Some store) from to before there → ⊥
    refuses_visit from to before now there name fault good refuses (inl visited) = refuses_not from to before now there name fault good refuses visited.0
    refuses_visit from to before now there name fault good (inl one) (inr passed_by) =
        ok_not fault (goes_one from to before.walker there.walker now.walker (Ok tt) (Err fault) good passed_by.goes one.1).0
    refuses_visit from to before now there name fault good (inr one) (inr passed_by) = there_or_not to one.2 passed_by.lacks

    place_of : (there : Both W) (place other : Place) → Compare (calls.state there.walker) (calls.state there.fresh) (Some place) → Compare (calls.state there.walker) (calls.state there.fresh) (Some other) → place ≡ other
    place_of there place other one two = let same : Some place ≡ Some other = one_place (calls.state there.walker) (calls.state there.fresh) (Some place) (Some other) one two in cc

    no_place : (there : Both W) (place : Place) → Compare (calls.state there.walker) (calls.state there.fresh) (Some place) → Compare (calls.state there.walker) (calls.state there.fresh) None → ⊥
    no_place there place one none = let same : Some place ≡ None = one_place (calls.state there.walker) (calls.state there.fresh) (Some place) None one none in cc

    -- where the states differ, the version is not visited
    differs_visit : (from : Option ℕ) (to : ℕ) (before there after : Both W) (place : Place) → IsGood before.walker → Arrives calls (Some store) from to before there
        → Compare (calls.state there.walker) (calls.state there.fresh) (Some place) → Visits calls (Some store) from to before after → ⊥
    differs_visit from to before there after place good arrives at (inl visited) =
        let same = arrives_one from to before there after good arrives visited.0 in
        no_place after place (subst (λ (b : Both W). Compare (calls.state b.walker) (calls.state b.fresh) (Some place)) same at) visited.1
    differs_visit from to before there after place good arrives at (inr passed_by) = there_or_not to arrives.has passed_by.lacks

    pub ends_one : (versions : List ℕ) (from : Option ℕ) (before : Both W) (one other : Ending E) → IsGood before.walker → Ends from versions before one → Ends from versions before other → one ≡ other
    ends_one [] from before one other good is also = is ∙ sym also
    ends_one (to ∷ more) from before one other good (inl (name, fault, now, refuses, is)) (inl (called, why, after, refuses_too, also)) =
        is ∙ ap (λ f. refused f) (refuses_one from to before now after name called fault why good refuses refuses_too) ∙ sym also
    ends_one (to ∷ more) from before one other good (inl (name, fault, now, refuses, is)) (inr (there, inl (arrives, on))) = absurd (refuses_not from to before now there name fault good refuses arrives)
    ends_one (to ∷ more) from before one other good (inl (name, fault, now, refuses, is)) (inr (there, inr (visits, on))) = absurd (refuses_visit from to before now there name fault good refuses visits)
    ends_one (to ∷ more) from before one other good (inr (there, inl (arrives, on))) (inl (name, fault, now, refuses, is)) = absurd (refuses_not from to before now there name fault good refuses arrives)
    ends_one (to ∷ more) from before one other good (inr (there, inr (visits, on))) (inl (name, fault, now, refuses, is)) = absurd (refuses_visit from to before now there name fault good refuses visits)
    ends_one (to ∷ more) from before one other good (inr (there, inl (arrives, (place, at, is)))) (inr (after, inl (arrives_too, (others, at_too, also)))) =
        let same = arrives_one from to before after there good arrives_too arrives in
        let here = subst (λ (b : Both W). Compare (calls.state b.walker) (calls.state b.fresh) (Some others)) same at_too in
        is ∙ ap (λ p. differs to p) (place_of there place others at here) ∙ sym also
    ends_one (to ∷ more) from before one other good (inr (there, inl (arrives, (place, at, is)))) (inr (after, inr (visits, on))) = absurd (differs_visit from to before there after place good arrives at visits)
    ends_one (to ∷ more) from before one other good (inr (there, inr (visits, on))) (inr (after, inl (arrives, (place, at, is)))) = absurd (differs_visit from to before after there place good arrives at visits)
    ends_one (to ∷ more) from before one other good (inr (there, inr (visits, on))) (inr (after, inr (visits_too, on_too))) =
        let same = visits_one from to before after there good visits_too visits in
        ends_one more (Some to) there one other (visits_good from to before there good visits) on (subst (λ (b : Both W). Ends (Some to) more b other) same on_too)
