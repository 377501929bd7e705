-- Slots in groups by a number, a group a number.
use Rattle.std.specs.Prelude.{◌≡◌, ◌<◌, ◌↔◌, ◌++◌, ℕ, List, Option, Some, Contains, length}
use Rattle.linked_slots.specs.Chained.{Chained, IsBuckets}

-- There are buckets for the slots.
pub record AreGrouped (chains : Chained) (buckets : ℕ) : Type 0 where
  pub buckets_are : length chains.chains ≡ buckets
  pub powered : IsBuckets buckets
  pub bucketed : 0 < chains.slots → 0 < buckets

-- The slots at which a number is read stand behind what stood there before.
pub record AreGathered (reads : ℕ → Option ℕ) (number : ℕ) (before after : List ℕ) : Type 0 where
  pub found : List ℕ
  pub behind : after ≡ before ++ found
  pub are : (slot : ℕ) → Contains found slot ↔ (reads slot ≡ Some number)
