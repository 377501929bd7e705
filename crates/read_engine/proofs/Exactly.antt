-- An answer that tells so much is exact: each one comes exactly where what it tells holds, but for the free ones.
use Rattle.std.proofs.Common.{◌≡◌, ◌⊎◌, inl, inr, ℕ, List, Option, Some, None, Result, Ok, Err, IfSome, refl, sym, ap, ◌∙◌, subst}
use Rattle.std.specs.Prelude.{IsErrAnd}
use Rattle.hol_io.specs.declared.name.BlobName.{BlobName}
use Rattle.hol_io.specs.Store.{Store, told}
use Rattle.schema_model.specs.declared.model.rule.Rule.TheVariants.{DuplicateName}
use Rattle.blob_frame.specs.declared.fault.BlobFault.{BlobFault}
use Rattle.blob_cursor.specs.Scene.{IsFree}
use Rattle.snapshot_blob.specs.Judged.{snapshot_of}
use Rattle.read_engine.specs.Judged.{RefusesLoad, RefusesStep, step_of}
use Rattle.read_engine.specs.Position.{IsPosition, Position}
use Rattle.read_engine.specs.Taking.{LoadsExactly, LoadsFrom, StepsBy, StepsExactly, TellsLoad, TellsLoaded, TellsStep}
use Rattle.read_engine.proofs.SteppedOnce.{stepped_once}
use Rattle.read_engine.proofs.TakenOrFault.{loaded_or_fault, stepped_or_fault}

one_blob : (content : Option (List ℕ)) (a b : List ℕ) → content ≡ Some a → content ≡ Some b → a ≡ b
one_blob content a b one other = let both : Some a ≡ Some b = sym one ∙ other in cc

-- an answer with one fault, where the fault is another one's too
same_fault : (a b : BlobFault) → a ≡ b → (◌≡◌ {A = Result (Unit {0}) BlobFault} (Err a) (Err b)) ⊎ IsErrAnd {T = Unit {0}} (Err a) IsFree
same_fault a b same = inl (ap (λ (e : BlobFault). Err e) same)

-- ---- loads

abbrev pub OneLoad : Type 0
OneLoad = (blob : List ℕ) (a b : Position) → LoadsFrom blob a → LoadsFrom blob b → a ≡ b

module _ (name : BlobName) where
  -- what is loaded is not refused
  not_both : (content : Option (List ℕ)) (blob : List ℕ) (position : Position) (found : BlobFault) → content ≡ Some blob → LoadsFrom blob position → RefusesLoad name content found → ⊥
  not_both content blob position found there loads refuses = loaded_or_fault blob position found loads (subst (λ (c : Option (List ℕ)). RefusesLoad name c found) there refuses)

  one_refusal : (content : Option (List ℕ)) (a b : BlobFault) → RefusesLoad name content a → RefusesLoad name content b → a ≡ b
  one_refusal None a b one other = one ∙ sym other
  one_refusal (Some blob) a b one other = (snapshot_of blob).decided.once a b one other

  module _ (content : Option (List ℕ)) (now : Option Position) where
    load_found : OneLoad → (blob : List ℕ) → content ≡ Some blob → (answer : Result (Unit {0}) BlobFault) (position : Position) → TellsLoad name content now answer → LoadsFrom blob position
        → ((answer ≡ Ok tt) × (now ≡ Some position)) ⊎ IsErrAnd answer IsFree
    load_found law blob there (Ok done) position (other, found, is, stands, loads) wanted =
        let same = law blob found position (subst (λ (b : List ℕ). LoadsFrom b found) (one_blob content other blob is there) loads) wanted in
        inl (refl, stands ∙ ap Some same)
    load_found law blob there (Err e) position (inl refuses) wanted = absurd (not_both content blob position e there wanted refuses)
    load_found law blob there (Err e) position (inr free) wanted = inr free

    load_fails : (answer : Result (Unit {0}) BlobFault) (found : BlobFault) → TellsLoad name content now answer → RefusesLoad name content found → (answer ≡ Err found) ⊎ IsErrAnd answer IsFree
    load_fails (Ok done) found (other, position, is, stands, loads) refuses = absurd (not_both content other position found is loads refuses)
    load_fails (Err e) found (inl also) refuses = same_fault e found (one_refusal content e found also refuses)
    load_fails (Err e) found (inr free) refuses = inr free

    pub loads_exactly : OneLoad → (answer : Result (Unit {0}) BlobFault) → TellsLoad name content now answer → LoadsExactly name content now answer
    loads_exactly law answer tells = record {
      found = λ blob position there loads. load_found law blob there answer position tells loads;
      fails = λ found refuses. load_fails answer found tells refuses;
    }

-- a load that is done, over any store
pub done_exactly : OneLoad → (name : BlobName) (held : Option Store) (now : Option Position) → IfSome held (λ store. TellsLoaded name (told held name) (Ok now)) → IfSome held (λ store. LoadsExactly name (told held name) now (Ok tt))
done_exactly law name None now tells = tt
done_exactly law name (Some store) now tells = loads_exactly name (told (Some store) name) now law (Ok tt) tells

-- and one that is refused
pub refused_exactly : OneLoad → (name : BlobName) (held : Option Store) (now : Option Position) (found : BlobFault) (answer : Result (Unit {0}) BlobFault) → answer ≡ Err found
    → IfSome held (λ store. TellsLoaded name (told held name) (Err found)) → IfSome held (λ store. LoadsExactly name (told held name) now answer)
refused_exactly law name None now found answer is tells = tt
refused_exactly law name (Some store) now found answer is tells =
    subst (LoadsExactly name (told (Some store) name) now) (sym is) (loads_exactly name (told (Some store) name) now law (Err found) tells)

-- ---- steps

module _ (name : BlobName) (from : Position) (position : IsPosition from) where
  -- what moves the consumer is not refused
  not_refused : (content : Option (List ℕ)) (blob : List ℕ) (to : Position) (found : BlobFault) → content ≡ Some blob → StepsBy blob from to → RefusesStep name content from found → ⊥
  not_refused content blob to found there steps refuses =
      stepped_or_fault blob from to found (position.model DuplicateName) steps (subst (λ (c : Option (List ℕ)). RefusesStep name c from found) there refuses)

  one_step_refusal : (content : Option (List ℕ)) (a b : BlobFault) → RefusesStep name content from a → RefusesStep name content from b → a ≡ b
  one_step_refusal None a b one other = one ∙ sym other
  one_step_refusal (Some blob) a b one other = (step_of blob from).decided.once a b one other

  module _ (content : Option (List ℕ)) (now : Option Position) where
    step_found : (blob : List ℕ) → content ≡ Some blob → (answer : Result (Unit {0}) BlobFault) (to : Position) → TellsStep name content from now answer → StepsBy blob from to
        → ((answer ≡ Ok tt) × (now ≡ Some to)) ⊎ IsErrAnd answer IsFree
    step_found blob there (Ok done) to (other, found, is, stands, steps) wanted =
        let same = stepped_once blob from found to position (subst (λ (b : List ℕ). StepsBy b from found) (one_blob content other blob is there) steps) wanted in
        inl (refl, stands ∙ ap Some same)
    step_found blob there (Err e) to (inl refuses) wanted = absurd (not_refused content blob to e there wanted refuses)
    step_found blob there (Err e) to (inr free) wanted = inr free

    step_fails : (answer : Result (Unit {0}) BlobFault) (found : BlobFault) → TellsStep name content from now answer → RefusesStep name content from found → (answer ≡ Err found) ⊎ IsErrAnd answer IsFree
    step_fails (Ok done) found (other, to, is, stands, steps) refuses = absurd (not_refused content other to found is steps refuses)
    step_fails (Err e) found (inl also) refuses = same_fault e found (one_step_refusal content e found also refuses)
    step_fails (Err e) found (inr free) refuses = inr free

    pub steps_exactly : (answer : Result (Unit {0}) BlobFault) → TellsStep name content from now answer → StepsExactly name content from now answer
    steps_exactly answer tells = record {
      found = λ blob to there steps. step_found blob there answer to tells steps;
      fails = λ found refuses. step_fails answer found tells refuses;
    }

-- the same over any store, of a consumer that has a state
pub all_steps_exactly : (name : BlobName) (held : Option Store) (from now : Option Position) (answer : Result (Unit {0}) BlobFault) → IfSome from IsPosition
    → IfSome held (λ store. IfSome from (λ from. TellsStep name (told held name) from now answer)) → IfSome held (λ store. IfSome from (λ from. StepsExactly name (told held name) from now answer))
all_steps_exactly name None from now answer position tells = tt
all_steps_exactly name (Some store) None now answer position tells = tt
all_steps_exactly name (Some store) (Some from) now answer position tells = steps_exactly name from position (told (Some store) name) now answer tells
