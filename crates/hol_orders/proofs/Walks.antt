-- Lists of versions.
use Rattle.std.proofs.Common.{◌≡◌, ◌≢◌, ◌↔◌, ◌+◌, ◌<◌, ℕ, zero, suc, List, [], ◌∷◌, ◌++◌, length, take, get_or, map, Bool, true, false, Result, Ok, Err, refl, ap, sym, ◌∙◌, subst, arith}
use Rattle.std.specs.Prelude.{IsTrue, IsErrAnd}
use Rattle.std.proofs.lemmas.List.{take_more, map-append}
use Rattle.serde_json.specs.Data.{Data, array}
use Rattle.serde_json.specs.View.{view, items_of, items_view}
use Rattle.serde_json.specs.declared.value.Value.{Value}
use Rattle.hol_io.specs.Name.{IsVersion}
use Rattle.hol_orders.specs.declared.order.OrderFault.{OrderFault}
use Rattle.hol_orders.specs.declared.order.OrderFault.TheVariants.{BadOrder, Memory}
use Rattle.hol_orders.specs.Parts.{whole, versions_data}
use Rattle.hol_orders.specs.Shapes.{AreVersions, DoNeighboursDiffer, IsWalk}
use Rattle.hol_orders.specs.Spelling.{Finds, Lacks, version as a_version, versions as some_versions}

-- an array is that of one list of numbers at most
pub one_list : (these those : List ℕ) → items_of (map whole these) ≡ items_of (map whole those) → these ≡ those
one_list [] [] e = refl
one_list [] (y ∷ those) e = cc
one_list (x ∷ these) [] e = cc
one_list (x ∷ these) (y ∷ those) e =
    let first : x ≡ y = cc in
    let rest : these ≡ those = one_list these those cc in
    cc

-- an array with an item that is no version is none of versions
pub no_versions : (values : List Value) (place : ℕ) (value : Value) → place < length values → value ≡ get_or values place value →
    ((version : ℕ) → IsVersion version → whole version ≢ view value) → (versions : List ℕ) → AreVersions versions →
    items_of (map whole versions) ≡ items_view values → ⊥
no_versions [] place value within is none versions are e = omega arith
no_versions (v ∷ values) place value within is none [] are e = cc
no_versions (v ∷ values) zero value within is none (x ∷ versions) are e =
    let first : whole x ≡ view v = cc in
    none x are.0 (first ∙ ap view (sym is))
no_versions (v ∷ values) (suc place) value within is none (x ∷ versions) are e =
    no_versions values place value (omega arith) is none versions are.1 cc

-- one more version
pub versions_more : (versions : List ℕ) (version : ℕ) → AreVersions versions → IsVersion version → AreVersions (versions ++ version ∷ [])
versions_more [] version are is = (is, tt)
versions_more (x ∷ versions) version are is = (are.0, versions_more versions version are.1 is)

pub versions_stop : (values : List Value) (place : ℕ) (value : Value) (r : Result (List ℕ) OrderFault) (fault : OrderFault) → IsErrAnd r (λ e. e ≡ fault) →
    place < length values → value ≡ get_or values place value → Lacks a_version (view value) fault → Finds some_versions (λ ns. ns) (array (items_view values)) r
versions_stop values place value (Ok list) fault is within at none = absurd is
versions_stop values place value (Err Memory) fault is within at none = tt
versions_stop values place value (Err BadOrder) fault is within at none =
    let told = subst (λ e. Lacks a_version (view value) e) (sym is) none in
    λ list are same. no_versions values place value within at told list are cc

-- a loop's step
pub versions_step : (values : List Value) (place : ℕ) (value : Value) (versions after : List ℕ) (version : ℕ) → place < length values → value ≡ get_or values place value →
    map whole versions ≡ map view (take place values) → whole version ≡ view value → after ≡ versions ++ version ∷ [] →
    map whole after ≡ map view (take (place + 1) values)
versions_step values place value versions after version within at same is grown =
    let more : take (place + 1) values ≡ take place values ++ value ∷ [] = take_more values place value within ∙ ap (λ v. take place values ++ v ∷ []) (sym at) in
    let left : map whole after ≡ map whole versions ++ whole version ∷ [] = ap (map whole) grown ∙ map-append whole versions (version ∷ []) in
    let right : map view (take (place + 1) values) ≡ map view (take place values) ++ view value ∷ [] = ap (map view) more ∙ map-append view (take place values) (value ∷ []) in
    left ∙ (λ i. same i ++ is i ∷ []) ∙ sym right

-- an array of versions that are not walked is none of others that are
pub no_walk : (json : Data) (versions slice : List ℕ) (b : Bool) → versions_data versions ≡ json → slice ≡ versions →
    IsTrue b ↔ ((0 < length slice) × DoNeighboursDiffer slice) → b ≡ false → (thing : List ℕ) → IsWalk thing → versions_data thing ≡ json → ⊥
no_walk json versions slice b is lent test failed thing walk same =
    let alike : thing ≡ versions = one_list thing versions cc in
    let walked : IsWalk slice = subst IsWalk (alike ∙ sym lent) walk in
    let yes : b ≡ true = test.1 (walked.some, walked.apart) in
    cc
