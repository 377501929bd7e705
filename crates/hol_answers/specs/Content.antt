-- What the members of the objects of answers hold.
use Rattle.std.specs.Prelude.{ℕ, List, [], ◌∷◌}
use Rattle.std.specs.Borrow.{Bor}
use Rattle.serde_json.specs.Data.{Data, Members, null, boolean, string, no_members, member}
use Rattle.hol_io.specs.Name.{text_of_name}
use Rattle.hol_orders.specs.Parts.{whole}
use Rattle.hol_answers.specs.declared.member.Content.{Content}
use Rattle.hol_answers.specs.declared.member.Content.TheVariants.{Null, Bool, Number, Integer, Text, Blob, Schemas}
use Rattle.hol_answers.specs.Member.{integer, list_of}
use Rattle.hol_answers.specs.Reply.{schema_name}

-- what a member holds
abbrev pub content_data : Content → Data
content_data Null = null
content_data (Bool truth) = boolean truth
content_data (Number held) = whole held
content_data (Integer held) = integer held
content_data (Text text) = string text.now
content_data (Blob blob) = string (text_of_name blob.now)
content_data (Schemas schemas) = list_of schema_name schemas.now

-- members before others, each name with what it holds
abbrev pub members_before : List (Bor (List ℕ) × Content) → Members → Members
members_before [] rest = rest
members_before (one ∷ front) rest = member one.0.now (content_data one.1) (members_before front rest)

-- the members of an object
abbrev pub members_of : List (Bor (List ℕ) × Content) → Members
members_of members = members_before members no_members
