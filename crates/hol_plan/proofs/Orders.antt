-- The order of names.
use Rattle.std.proofs.Common.{◌≡◌, ◌≢◌, Ordering, Less, Equal, Greater, Option, Some, None, refl}
use Rattle.std.specs.Ordering.{ordering_then}
use Rattle.std.proofs.lemmas.Cmp.{tied_itself}
use Rattle.hol_io.specs.declared.name.BlobName.{BlobName}
use Rattle.hol_io.specs.Name.{name_cmp}
use Rattle.hol_io.proofs.NameOrder.{name_cmp_total}
use Rattle.hol_plan.specs.declared.steps.Step.{Step}
use Rattle.hol_plan.specs.Ways.{IsBefore}

-- A name does not come before itself.
pub not_before_itself : (step : Step) → ¬ IsBefore step.name (Some step)
not_before_itself step before = let tied : name_cmp step.name step.name ≡ Equal = tied_itself name_cmp_total step.name in absurd cc

-- What comes before a name that comes before a step's comes before it too.
pub before_further : (name : BlobName) (step : Step) (first : Option Step) → IsBefore name (Some step) → IsBefore step.name first → IsBefore name first
before_further name step None before further = further
before_further name step (Some first) before further = name_cmp_total.trans name step.name first.name before further

-- Lists do not come before others where their first names do not, nor where these are equal the others.
pub not_less : (one rest : Ordering) → one ≢ Less → (one ≡ Equal → rest ≢ Less) → ordering_then one rest ≢ Less
not_less Less rest first others = absurd (first refl)
not_less Equal rest first others = others refl
not_less Greater rest first others = λ e. absurd cc
