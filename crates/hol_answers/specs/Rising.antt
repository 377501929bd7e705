-- The order of the members of an answer's object.
use Rattle.std.specs.Prelude.{ℕ, List, Bool, true, false, ◌&&◌}
use Rattle.std.specs.Cmp.Lexicographic.{slice_cmp}
use Rattle.std.specs.Ordering.{match_ordering, nat_cmp}
use Rattle.serde_json.specs.Data.{Data, object, Members, no_members, member}

-- The name is below that of the first of these members, where there is one.
abbrev pub is_below : List ℕ → Members → Bool
is_below name no_members = true
is_below name (member other json rest) = match_ordering (slice_cmp nat_cmp name other) true false false

-- The names of the members rise in byte order, so that each comes once.
abbrev pub names_rise : Members → Bool
names_rise no_members = true
names_rise (member name json rest) = is_below name rest && names_rise rest

-- It is an object whose members' names rise.
abbrev pub is_rising : Data → Bool
is_rising (object members) = names_rise members
is_rising _ = false
