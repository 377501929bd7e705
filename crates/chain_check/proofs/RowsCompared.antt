-- The comparison of the rows of two states.
use Rattle.std.proofs.Common.{◌≡◌, inr, Option, Some, None, Result, Ok, Err, refl, sym, subst}
use Rattle.std.specs.Prelude.{IfOk}
use Rattle.schema_model.specs.Growth.{ModelsAgree}
use Rattle.chain_check.specs.declared.place.Place.{Place}
use Rattle.chain_check.specs.declared.place.RowPlace.{RowPlace}
use Rattle.chain_check.specs.Compare.{Compare, FirstOtherRow, IsPlaceOf, State, seen_by}

module _ (walked fresh : State) (tags : walked.tag ≡ fresh.tag) (models : ModelsAgree walked.schemas fresh.schemas) where
  compared : (found : Option RowPlace) (place : Option Place) → FirstOtherRow walked.table (seen_by walked fresh) found → IsPlaceOf walked.schemas found place → Compare walked fresh place
  compared None place first is = subst (Compare walked fresh) (sym is) (record { tags = tags; models = models; rows = first })
  compared (Some at) place first is =
      let there : Compare walked fresh (Some (record { type_name = Some is.0.name; ordinal = Some at.ordinal })) =
      inr (inr (record { tags = tags; models = models; at = at; first = first; schema = is.0; there = is.1; is = refl })) in
      subst (Compare walked fresh) (sym is.2) there

  pub rows_compared : {E : Type 0} (found : Option RowPlace) (r : Result (Option Place) E) → FirstOtherRow walked.table (seen_by walked fresh) found → IfOk r (IsPlaceOf walked.schemas found)
      → IfOk r (Compare walked fresh)
  rows_compared found (Ok place) first is = compared found place first is
  rows_compared found (Err fault) first is = is
