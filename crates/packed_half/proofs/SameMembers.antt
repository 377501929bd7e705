-- Two sets that are gone through side by side.
use Rattle.std.proofs.Common.{◌≡◌, ℕ, List, Bool, true, false, Option, Some, None, refl, sym, ap, ◌∙◌}
use Rattle.std.specs.Prelude.{◌↔◌, IsTrue, not, is_some}
use Rattle.std.proofs.lemmas.Bool.{false≢true}
use Rattle.ordinal_set.specs.Ordinals.{TellsNext, least_from, members_below}
use Rattle.ordinal_set.proofs.Members.{least_from-none, members_below-all}

-- past the members of one set the other has no more exactly where they are the same
pub ended : (from : ℕ) (set other : List ℕ) (found : Option ℕ) (none : Bool) → is_some found ≡ not none → found ≡ least_from from other → TellsNext from other found → TellsNext from set None
    → members_below from set ≡ members_below from other → (IsTrue none ↔ (set ≡ other))
ended from set other None true is least tells past same =
    (λ yes. sym (members_below-all from set past) ∙ same ∙ members_below-all from other tells, λ one. refl)
ended from set other None false is least tells past same = absurd (false≢true is)
ended from set other (Some next) true is least tells past same = absurd (false≢true (sym is))
ended from set other (Some next) false is least tells past same =
    (λ yes. absurd (false≢true yes), λ one. let gone : Some next ≡ None = least ∙ sym (ap (least_from from) one) ∙ least_from-none from set past in absurd cc)
