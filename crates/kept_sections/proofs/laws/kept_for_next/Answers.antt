use Rattle.std.proofs.Common.{inr, length}
use Rattle.row_packing.specs.Chosen.{shape_at}
use Rattle.row_packing.proofs.ByType.{also}
use Rattle.kept_sections.specs.Sections.{IsPackedFor, IsPackedOf}
use Rattle.kept_sections.proofs.MovedPlaces.{greatest_placed}
use Rattle.kept_sections.proofs.laws.kept_for_next.Goals as goal

pub returns : goal.returns
returns c schemas old new sections are =
    also (λ t section. IsPackedFor (shape_at schemas t) old new t section) (λ t section. IsPackedOf (shape_at schemas t) new t section) (length schemas) sections
    (λ t section inside is. record { packed = is.packed; placed = λ ordinal live. greatest_placed old new t section.chosen.max is.chosen.max ordinal (inr live) }) are
