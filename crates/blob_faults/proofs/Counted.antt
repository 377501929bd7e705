-- Which limit the numbers of a type pass first.
use Rattle.std.proofs.Common.{◌≤◌, ◌<◌, ℕ, Option, inl, inr, refl}
use Rattle.schema_model.specs.declared.limit.Limit.TheVariants.{Ordinals, Items}
use Rattle.schema_model.specs.Limit.{number_of_limit}
use Rattle.type_rows.specs.Layout.{places_of}
use Rattle.blob_frame.specs.declared.fault.BlobFault.TheVariants as fault
use Rattle.blob_faults.specs.Judge.{◌>>=◌, test}
use Rattle.blob_faults.specs.Rows.{counts}

-- too many places are told first
pub places_fail : (max : Option ℕ) (total : ℕ) → number_of_limit Ordinals < places_of max → (counts max total).Fails (fault.Large Ordinals)
unfolding counts ◌>>=◌ test
places_fail max total over = inl (over, refl)

-- too many items where the places are not too many
pub items_fail : (max : Option ℕ) (total : ℕ) → places_of max ≤ number_of_limit Ordinals → number_of_limit Items < total → (counts max total).Fails (fault.Large Items)
unfolding counts ◌>>=◌ test
items_fail max total within over = inr (tt, within, (over, refl))

-- and else none
pub counts_pass : (max : Option ℕ) (total : ℕ) → places_of max ≤ number_of_limit Ordinals → total ≤ number_of_limit Items → (counts max total).Passes tt
unfolding counts ◌>>=◌ test
counts_pass max total within few = (tt, within, few)
