-- How what stands in orders is spelled in JSON, and which there are of it.
use Rattle.std.specs.Prelude.{◌≡◌, ◌≢◌, ℕ, ℤ, List, FitsSigned, Result, Ok, Err}
use Rattle.std.specs.Int.{w64}
use Rattle.serde_json.specs.Data.{Data, number, string}
use Rattle.serde_json.specs.Find.{of_integer}
use Rattle.hol_io.specs.Name.{IsVersion}
use Rattle.hol_orders.specs.declared.order.OrderFault.{OrderFault}
use Rattle.hol_orders.specs.declared.order.OrderFault.TheVariants.{BadOrder, Memory}
use Rattle.hol_orders.specs.Parts.{pair, triple, versions_data, whole}
use Rattle.hol_orders.specs.Shapes.{AreVersions, IsOrdinal}

-- Which of these can be asked for, as numbers in their ranges, and the JSON of each.
pub record Spelling (A : Type 0) : Type 1 where
  pub Fits : A → Type 0
  pub spelled : A → Data

-- a name or a path
abbrev pub text : Spelling (List ℕ)
text = record { Fits = λ text. Unit {0}; spelled = string }

abbrev pub version : Spelling ℕ
version = record { Fits = IsVersion; spelled = whole }

abbrev pub versions : Spelling (List ℕ)
versions = record { Fits = AreVersions; spelled = versions_data }

abbrev pub ordinal : Spelling ℕ
ordinal = record { Fits = IsOrdinal; spelled = whole }

abbrev pub tag : Spelling ℤ
tag = record { Fits = FitsSigned w64; spelled = λ tag. number (of_integer tag) }

-- what stays JSON, of such a shape
abbrev pub json : (Data → Type 0) → Spelling Data
json Fits = record { Fits = Fits; spelled = λ json. json }

-- an array of two, and one of three
abbrev pub pair_of : {A B : Type 0} → Spelling A → Spelling B → Spelling (A × B)
pair_of first second = record {
  Fits = λ both. first.Fits both.0 × second.Fits both.1;
  spelled = λ both. pair (first.spelled both.0) (second.spelled both.1);
}

abbrev pub triple_of : {A B C : Type 0} → Spelling A → Spelling B → Spelling C → Spelling (A × B × C)
triple_of first second third = record {
  Fits = λ all. first.Fits all.0 × second.Fits all.1 × third.Fits all.2;
  spelled = λ all. triple (first.spelled all.0) (second.spelled all.1) (third.spelled all.2);
}

-- Why nothing is found in JSON: it spells nothing that can be asked for, or memory is refused.
abbrev pub Lacks : {A : Type 0} → Spelling A → Data → OrderFault → Type 0
Lacks {A = A} spelling json BadOrder = (thing : A) → spelling.Fits thing → spelling.spelled thing ≢ json
Lacks spelling json Memory = Unit {0}

-- What looking for a thing in JSON answers: one that asks for what the JSON spells, or why nothing is found.
abbrev pub Finds : {T A : Type 0} → Spelling A → (T → A) → Data → Result T OrderFault → Type 0
Finds spelling asked json (Ok thing) = spelling.Fits (asked thing) × (spelling.spelled (asked thing) ≡ json)
Finds spelling asked json (Err fault) = Lacks spelling json fault

-- It is spelled in one way: of what is spelled alike the same is asked for.
abbrev pub IsOneWay : {A : Type 0} → Spelling A → Type 0
IsOneWay {A = A} spelling = (one other : A) → spelling.spelled one ≡ spelling.spelled other → one ≡ other
