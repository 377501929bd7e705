-- The types of a cycle as the members of an object.
use Rattle.std.proofs.Common.{◌≡◌, ◌∙◌, ℕ, ◌-◌, ◌<◌, ◌≤◌, List, [], ◌∷◌, ◌++◌, length, Option, Some, None, refl, sym, ap, subst, arith, append_assoc, append-nil}
use Rattle.json.specs.Token.{Token, begin_array, key}
use Rattle.json.specs.Json.{Json, items, members, parse_map, read_key, skip_value, value}
use Rattle.json.proofs.Found.{Some_inj}
use Rattle.json.proofs.Grammar.{left, read_key_is, skip_value-shorter, value-begin_array}
use Rattle.serde_json.specs.Data.{Data, Items, Members, array, put}
use Rattle.serde_json.specs.Read.{converted, of_items, of_json, of_members}
use Rattle.serde_json.specs.View.{items_of}
use Rattle.record_stream.specs.RecordLine.{AreListed, IsArray, Typed, with_types}
use Rattle.record_stream.specs.Passing.{behind_items}
use Rattle.record_stream.specs.Records.{record_depth}
use Rattle.record_stream.proofs.Converted.{converted-array, converted_some, member_read, members_over}
use Rattle.record_stream.proofs.Enough.{enough}
use Rattle.record_stream.proofs.Records.{listed}

pub value_shorter : (depth : ℕ) (ts rest : List Token) (d : Data) → converted of_json (value depth ts) ≡ Some (d, rest) → length rest < length ts
value_shorter depth ts rest d e =
    let j = converted_some of_json (value depth ts) d rest e in
    skip_value-shorter depth ts rest (ap left j.1)

pub array_json : (ts rest : List Token) (records : List Data) → IsArray ts records rest → converted of_json (value 124 ts) ≡ Some (array (items_of records), rest)
array_json ts rest records (inside, e, (n, ahead)) =
    let p = value record_depth in
    let zero_below : 0 < 124 = omega arith in
    ap (λ t. converted of_json (value 124 t)) e ∙ (ap (converted of_json) (value-begin_array 124 inside zero_below)
    ∙ (converted-array (items p (length inside) inside) ∙ ap (parse_map array) (enough p (skip_value-shorter record_depth) n (length inside) inside rest (items_of records) (omega arith) ahead)))

pub listed_json : (types : List Typed) (ts rest : List Token) (n : ℕ) (old : Members) → length ts ≤ n → AreListed ts types rest
    → converted (λ ms. of_members ms old) (members (value 124) n ts) ≡ Some (with_types types old, rest)
listed_json [] ts rest n old le e = members_over (value 124) old n ts rest le (ap read_key e)
listed_json (typed ∷ others) ts rest n old le (from, behind, e, is, more) =
    let read = array_json from behind typed.1 is in
    let shorter = value_shorter 124 from behind (array (items_of typed.1)) read in
    let long = ap length e in
    member_read (value 124) old n typed.0 ts from behind (array (items_of typed.1)) (omega (arith, le, long)) (ap read_key e) read
    ∙ listed_json others behind rest (n - 1) (put typed.0 (array (items_of typed.1)) old) (omega (arith, le, long, shorter)) more

-- ---- one type more

passed_as : (ts inside rest : List Token) (o : Option (Items × List Token)) → ts ≡ begin_array ∷ inside → converted of_items (items (value record_depth) (length inside) inside) ≡ o → left o ≡ Some rest
    → (records : List Data) × IsArray ts records rest
passed_as ts inside rest None e is b = absurd cc
passed_as ts inside rest (Some (found, behind)) e is b =
    let same : behind ≡ rest = Some_inj behind rest b in
    let all = listed found in
    (all.0, (inside, e, (length inside, is ∙ (ap (λ (l : List Token). Some (found, l)) same ∙ ap (λ (ds : Items). Some (ds, rest)) (sym all.1)))))

-- the array of some records was passed
pub passed_array : (ts inside rest : List Token) → ts ≡ begin_array ∷ inside → behind_items record_depth inside ≡ Some rest → (records : List Data) × IsArray ts records rest
passed_array ts inside rest e behind = passed_as ts inside rest (converted of_items (items (value record_depth) (length inside) inside)) e refl behind

-- What stands behind these types makes, behind them, what stands from the start.
abbrev pub Continues : List Token → List Typed → List Token → Type 0
Continues start done now = (others : List Typed) (rest : List Token) → AreListed now others rest → AreListed start (done ++ others) rest

pub one_more : (start now from behind : List Token) (done : List Typed) (typed : Typed) → Continues start done now → now ≡ key typed.0 ∷ from → IsArray from typed.1 behind → Continues start (done ++ typed ∷ []) behind
one_more start now from behind done typed before e is = λ others rest more.
    subst (λ (all : List Typed). AreListed start all rest) (sym (append_assoc done (typed ∷ []) others)) (before (typed ∷ others) rest (from, behind, e, is, more))

pub all_listed : (start now behind : List Token) (done : List Typed) → Continues start done now → read_key now ≡ Some (None, behind) → AreListed start done behind
all_listed start now behind done before over =
    subst (λ (all : List Typed). AreListed start all behind) (append-nil done) (before [] behind (read_key_is now None behind over))

-- ---- an array that is passed

-- the array of some records as a value that is known
pub array_value : (ts rest : List Token) (records : List Data) → IsArray ts records rest → (j : Json) × (value 124 ts ≡ Some (j, rest))
array_value ts rest records is =
    let j = converted_some of_json (value 124 ts) (array (items_of records)) rest (array_json ts rest records is) in
    (j.0, j.1)

pub array_skipped : (ts rest now : List Token) (records : List Data) → IsArray ts records rest → skip_value 124 ts ≡ Some now → rest ≡ now
array_skipped ts rest now records is skipped = Some_inj rest now (sym (ap left (array_value ts rest records is).1) ∙ skipped)
