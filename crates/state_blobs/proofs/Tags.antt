-- Tags as numbers with a sign.
use Rattle.std.proofs.Common.{ℤ, subst, to_z, of_z, FitsSigned}
use Rattle.std.specs.Int.{w64}
use Rattle.std.proofs.lemmas.Int.{to_z-of_z}

-- what holds at a tag that was passed on holds at the tag
pub at_tag : (P : ℤ → Type 0) (tag : ℤ) → FitsSigned w64 tag → P (to_z w64 (of_z w64 tag)) → P tag
at_tag P tag fits there = subst P (to_z-of_z w64 tag fits) there
