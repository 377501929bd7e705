-- The parts of orders that stay JSON, and the numbers in them: which there are.
use Rattle.std.specs.Prelude.{◌≢◌, ℕ, ◌+◌, ◌<◌, ◌≤◌, ◌^◌, List, [], ◌∷◌, length, slice_index, IsTrue, Bool, true, false, ◌&&◌, is_some}
use Rattle.serde_json.specs.Data.{Data, boolean, string, array, object, Items, no_items, item, Members, no_members, member}
use Rattle.serde_json.specs.Find.{as_array}
use Rattle.hol_io.specs.Name.{IsVersion}

-- a text
abbrev pub IsText : Data → Type 0
IsText (string text) = Unit {0}
IsText _ = ⊥

-- texts alone
abbrev pub AreTexts : Items → Type 0
AreTexts no_items = Unit {0}
AreTexts (item json rest) = IsText json × AreTexts rest

-- An ordinal is a number below 2^32.
abbrev pub IsOrdinal : ℕ → Type 0
IsOrdinal ordinal = ordinal < 2 ^ 32

-- key paths: an array of texts
abbrev pub ArePaths : Data → Type 0
ArePaths (array paths) = AreTexts paths
ArePaths _ = ⊥

-- an array, whatever stands in it
abbrev pub IsArray : Data → Type 0
IsArray (array items) = Unit {0}
IsArray _ = ⊥

-- members whose values are arrays
abbrev pub AreArrays : Members → Type 0
AreArrays no_members = Unit {0}
AreArrays (member name json rest) = IsArray json × AreArrays rest

-- records to be added: an object that has an array under each name
abbrev pub AreRecords : Data → Type 0
AreRecords (object types) = AreArrays types
AreRecords _ = ⊥

-- Whether these are arrays, and whether this is an array of arrays.
abbrev pub are_lists : Items → Bool
are_lists no_items = true
are_lists (item json rest) = is_some (as_array json) && are_lists rest

abbrev pub is_list_of_arrays : Data → Bool
is_list_of_arrays (array items) = are_lists items
is_list_of_arrays _ = false

-- members whose values are arrays of arrays
abbrev pub AreListsOfArrays : Members → Type 0
AreListsOfArrays no_members = Unit {0}
AreListsOfArrays (member name json rest) = IsTrue (is_list_of_arrays json) × AreListsOfArrays rest

-- keys of records to be removed: an object that has an array of arrays under each name
abbrev pub AreKeys : Data → Type 0
AreKeys (object types) = AreListsOfArrays types
AreKeys _ = ⊥

-- A history is bounded by a number up to 1,000.
abbrev pub IsBound : ℕ → Type 0
IsBound bound = bound ≤ 1000

-- the value `true`
abbrev pub IsTruth : Data → Type 0
IsTruth (boolean truth) = IsTrue truth
IsTruth _ = ⊥

-- Each is a version.
abbrev pub AreVersions : List ℕ → Type 0
AreVersions [] = Unit {0}
AreVersions (version ∷ rest) = IsVersion version × AreVersions rest

-- No two neighbours are the same.
abbrev pub DoNeighboursDiffer : List ℕ → Type 0
DoNeighboursDiffer versions = (place : ℕ) → place + 1 < length versions → slice_index versions place ≢ slice_index versions (place + 1)

-- versions to be walked: one or more, of which neighbours differ
pub record IsWalk (versions : List ℕ) : Type 0 where
  pub each : AreVersions versions
  pub some : 0 < length versions
  pub apart : DoNeighboursDiffer versions
