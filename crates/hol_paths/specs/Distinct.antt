-- Values of which none stands twice, found by their hashes.
use Rattle.std.specs.Prelude.{◌≡◌, ◌≢◌, ◌↔◌, ℕ, List, [], ◌∷◌, ◌++◌, Option, Some, AllPairs, Contains, MatchOption, length, option_map, slice_get}
use Rattle.linked_slots.specs.Chained.{Chained, IsBuckets, hash_of}
use Rattle.row_hash.specs.Hash.{values_hash}
use Rattle.row_model.specs.declared.row.Value.{Value}

-- the hash of a value: that of the record that has this one
abbrev pub hash_of_value : Value → ℕ
hash_of_value value = values_hash (value ∷ [])

-- the values' hashes are linked under their places
abbrev pub AreHashed : List Value → Chained → Type 0
AreHashed values chains = (place : ℕ) → hash_of chains place ≡ option_map hash_of_value (slice_get values place)

-- A place at which the value stands; none exactly where it stands nowhere.
abbrev pub Finds : List Value → Value → Option ℕ → Type 0
Finds values value found = MatchOption found ((place : ℕ) → ¬ (slice_get values place ≡ Some value)) (λ place. slice_get values place ≡ Some value)

-- There is one value more, unless it was there.
abbrev pub IsAdded : List Value → Value → List Value → Type 0
IsAdded before value after = (other : Value) → Contains after other ↔ Contains (before ++ value ∷ []) other

-- No value stands twice, and the chains link each place by the hash of its value.
pub record AreDistinct (values : List Value) (chains : Chained) (buckets : ℕ) : Type 0 where
  pub apart : AllPairs (λ earlier later. earlier ≢ later) values
  pub hashed : AreHashed values chains
  pub buckets_are : length chains.chains ≡ buckets
  pub powered : IsBuckets buckets

-- Each place that has a value keeps it.
abbrev pub Stay : List Value → List Value → Type 0
Stay old new = (place : ℕ) (other : Value) → slice_get old place ≡ Some other → slice_get new place ≡ Some other

-- The value stands at this place alone; at none where there is no place.
abbrev pub StandsOnlyAt : List Value → Value → Option ℕ → Type 0
StandsOnlyAt values value found = MatchOption found ((place : ℕ) → ¬ (slice_get values place ≡ Some value)) (λ number. (place : ℕ) → (slice_get values place ≡ Some value) ↔ (place ≡ number))
