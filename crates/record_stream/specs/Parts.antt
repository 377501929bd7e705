-- The members of an order that were found, from the front of them.
use Rattle.std.specs.Prelude.{◌≡◌, ℕ, List, Option, Some, None, map, option_map, string_bytes}
use Rattle.json.specs.Token.{Token}
use Rattle.serde_json.specs.Data.{Data, no_members, object}
use Rattle.serde_json.specs.View.{members_view, view}
use Rattle.record_stream.specs.Holder.{records_name}
use Rattle.record_stream.specs.RecordLine.{AreAdded, AreMembers, AreOther, Named, Typed, bare, names_of, part_depth, parts_data, put_all, with_types}
use Rattle.record_stream.specs.declared.holder.Holder.{Holder}
use Rattle.record_stream.specs.declared.parts.FoundParts.{FoundParts}
use Rattle.record_stream.specs.declared.parts.TypeNames.{TypeNames}

-- These are the names of the types, each once, and as they stand.
pub record AreNames (names : TypeNames) (types : List Typed) : Type 0 where
  pub once : members_view names.names.entries ≡ bare (with_types types no_members)
  pub ordered : map string_bytes names.order.items ≡ names_of types

-- Whether a member with records was found under this name among those that were passed: it was, and lists types of these names; or it was not.
abbrev pub IsAdd : List ℕ → List Token → List Named → Option Data → Option TypeNames → Type 0
IsAdd name start passed add None = (add ≡ None) × AreOther name (map (λ named. named.0) passed)
IsAdd name start passed add (Some names) = (types : List Typed) × (add ≡ Some (object (with_types types no_members))) × AreNames names types × AreAdded name start types

-- Between the start and the tokens that are left are members of an order, of which these were found.
pub record HaveFound (holder : Holder) (start now : List Token) (found : FoundParts) : Type 0 where
  pub passed : List Named
  pub ahead : AreMembers part_depth start passed now
  pub add : Option Data
  pub are : put_all passed no_members ≡ parts_data holder add (option_map view found.other) (option_map view found.tag) (option_map view found.version)
  pub added : IsAdd (records_name holder) start passed add found.types
