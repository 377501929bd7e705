-- What refusals have in common: a member `error`; and what their lines have.
use Rattle.std.specs.Prelude.{◌+◌, ◌*◌, ◌==◌, ℕ, List, [], ◌∷◌, codes, drop, Bool, true, false, if◌then◌else◌}
use Rattle.serde_json.specs.Data.{Data, object, Members, no_members, member}

-- the bytes of a text as one number
abbrev pub number_of : List ℕ → ℕ
number_of [] = 0
number_of (byte ∷ rest) = byte + 256 * number_of rest

-- One of these members has the name.
abbrev pub has_member : List ℕ → Members → Bool
has_member name no_members = false
has_member name (member other json rest) = if number_of other == number_of name then true else has_member name rest

-- It is an object that has a member `error`.
abbrev pub tells_error : Data → Bool
tells_error (object members) = has_member (codes "error") members
tells_error _ = false

-- the bytes up to a quotation mark as one number
abbrev pub number_of_name : List ℕ → ℕ
number_of_name [] = 0
number_of_name (byte ∷ rest) = if byte == 34 then 0 else byte + 256 * number_of_name rest

-- the name of the first member of the object that a text spells, as a number
abbrev pub first_name : List ℕ → ℕ
first_name text = number_of_name (drop 2 text)

-- The first member of the object that a text spells is one with which a refusal begins.
abbrev pub is_marked : List ℕ → Bool
is_marked text =
    if first_name text == number_of (codes "error") then true else if first_name text == number_of (codes "blob") then true
    else if first_name text == number_of (codes "at") then true else first_name text == number_of (codes "announced")
