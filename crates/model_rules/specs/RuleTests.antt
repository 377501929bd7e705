-- What the test of one rule of a model answers.
use Rattle.std.specs.Prelude.{◌≡◌, ◌<◌, ℕ, zero, suc, Bool, true, false, List, Option, Result, Ok, Err, Some, None, if◌then◌else◌, is_some, length, map, nat_lt, replicate, slice_index_or}
use Rattle.std.specs.List.{list_any, list_all, filter_map}
use Rattle.hol_varint.specs.JavaUtf.{java_bytes}
use Rattle.hol_varint.specs.TextUnits.{text_units}
use Rattle.schema_model.specs.declared.model.faults.ModelFault.{ModelFault}
use Rattle.schema_model.specs.declared.model.faults.ModelFault.TheVariants.{Broken, Memory}
use Rattle.schema_model.specs.declared.model.rule.Rule.{Rule}
use Rattle.schema_model.specs.declared.schema.Schema.{Schema}
use Rattle.schema_model.specs.Model.{BreaksAt, IsKept}

-- This is the first type that breaks the rule.
abbrev pub TellsBroken : List Schema → Rule → ModelFault → Type 0
TellsBroken schemas rule (Broken r t) = (r ≡ rule) × BreaksAt schemas rule t × ((u : ℕ) → u < t → ¬ BreaksAt schemas rule u)
TellsBroken schemas rule Memory = Unit {0}

-- The rule is kept, or a type breaks it.
abbrev pub TellsRule : {T : Type 0} → List Schema → Rule → Result T ModelFault → Type 0
TellsRule schemas rule (Ok x) = IsKept schemas rule
TellsRule schemas rule (Err fault) = TellsBroken schemas rule fault

-- Whether one of these types is marked.
abbrev pub has_chained : List Bool → List ℕ → Bool
has_chained marks row = list_any (λ u. slice_index_or marks u false) row

-- For each type, whether a chain of this many references can be followed from it.
unfoldable pub chained : List (List ℕ) → ℕ → List Bool
chained rows zero = replicate (length rows) true
chained rows (suc n) = map (has_chained (chained rows n)) rows

-- Whether an index is found for each name.
abbrev pub are_known : (List ℕ → Option ℕ) → List (List ℕ) → Bool
are_known find names = list_all (λ name. is_some (find name)) names

-- the indexes of all the names, if each has one
abbrev pub all_indexes : (List ℕ → Option ℕ) → List (List ℕ) → Option (List ℕ)
all_indexes find names = if are_known find names then Some (filter_map find names) else None

-- Whether a name or a path has too many bytes of Java UTF.
abbrev pub is_long_text : List ℕ → Bool
is_long_text text = nat_lt 65535 (length (java_bytes (text_units text)))
