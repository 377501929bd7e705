-- Arrays and objects of JSON values, item by item and member by member.
use Rattle.std.proofs.Common.{◌≡◌, ◌↔◌, ℕ, List, [], ◌∷◌, length, map, Bool, true, false, ◌&&◌, Result, Ok, Err, String, is_some, codes, refl, ap, sym, ◌∙◌, subst, arith}
use Rattle.std.specs.Prelude.{IsTrue, IsErrAnd}
use Rattle.std.specs.List.{list_all}
use Rattle.std.specs.Map.{values_of}
use Rattle.std.specs.declared.alloc.Global.{Global}
use Rattle.serde_json.specs.Data.{Data, null, boolean, number, string, array, object, Members, no_members, member}
use Rattle.serde_json.specs.Find.{as_str, as_array}
use Rattle.serde_json.specs.View.{view, items_of, items_view, members_view}
use Rattle.serde_json.specs.declared.value.Value.{Value}
use Rattle.hol_orders.specs.declared.order.OrderFault.{OrderFault}
use Rattle.hol_orders.specs.declared.order.OrderFault.TheVariants.{BadOrder, Memory}
use Rattle.hol_orders.specs.Parts.{change_data, triple}
use Rattle.hol_orders.specs.Shapes.{IsText, AreTexts, IsArray, AreArrays, AreListsOfArrays, are_lists, is_list_of_arrays}
use Rattle.hol_orders.specs.Taken.{TellsFour, TellsItems, TellsNext, TellsThree}

-- two lists with the same items are equally long
pub same_count : (these : List Data) (those : List Value) → array (items_of these) ≡ array (items_of (map view those)) → length these ≡ length those
same_count these those e = count these those cc
  where
    count : (these : List Data) (those : List Value) → items_of these ≡ items_of (map view those) → length these ≡ length those
    count [] [] e = refl
    count [] (y ∷ those) e = cc
    count (x ∷ these) [] e = cc
    count (x ∷ these) (y ∷ those) e = omega (arith, count these those cc)

-- where an array has not three items, it is no triple
pub no_three : (json : Data) (r : Result (Value × Value × Value) OrderFault) (fault : OrderFault) → IsErrAnd r (λ e. e ≡ fault) → TellsItems 3 json (Err fault) →
    TellsThree triple json r
no_three json (Ok found) fault is none = absurd is
no_three json (Err Memory) fault is none =
    let told : TellsItems 3 json (Err Memory) = subst (λ e. TellsItems 3 json (Err e)) (sym is) none in
    absurd told
no_three json (Err BadOrder) fault is none =
    let told : TellsItems 3 json (Err BadOrder) = subst (λ e. TellsItems 3 json (Err e)) (sym is) none in
    λ first second third same. told (first ∷ second ∷ third ∷ []) refl same

-- what a test of each value tells of texts
text_first : (json : Data) (rest : Bool) → (is_some (as_str json) && rest) ≡ true → IsText json × (rest ≡ true)
text_first null rest e = cc
text_first (boolean b) rest e = cc
text_first (number n) rest e = cc
text_first (string s) rest e = (tt, e)
text_first (array ds) rest e = cc
text_first (object ms) rest e = cc

text_again : (json : Data) (rest : Bool) → IsText json → rest ≡ true → (is_some (as_str json) && rest) ≡ true
text_again (string s) rest is e = e
text_again _ rest is e = absurd is

are_texts : (values : List Value) → list_all (λ v. is_some (as_str (view v))) values ≡ true → AreTexts (items_view values)
are_texts [] e = tt
are_texts (v ∷ values) e = let both = text_first (view v) (list_all (λ v. is_some (as_str (view v))) values) e in (both.0, are_texts values both.1)

all_texts : (values : List Value) → AreTexts (items_view values) → list_all (λ v. is_some (as_str (view v))) values ≡ true
all_texts [] are = refl
all_texts (v ∷ values) are = text_again (view v) (list_all (λ v. is_some (as_str (view v))) values) are.0 (all_texts values are.1)

pub texts : (values : List Value) (r : Bool) → r ≡ list_all (λ v. is_some (as_str (view v))) values → IsTrue r ↔ AreTexts (items_view values)
texts values r is = ((λ e. are_texts values (sym is ∙ e)), (λ are. is ∙ all_texts values are))

-- the same of arrays
array_first : (json : Data) (rest : Bool) → (is_some (as_array json) && rest) ≡ true → IsArray json × (rest ≡ true)
array_first null rest e = cc
array_first (boolean b) rest e = cc
array_first (number n) rest e = cc
array_first (string s) rest e = cc
array_first (array ds) rest e = (tt, e)
array_first (object ms) rest e = cc

array_again : (json : Data) (rest : Bool) → IsArray json → rest ≡ true → (is_some (as_array json) && rest) ≡ true
array_again (array ds) rest is e = e
array_again _ rest is e = absurd is

are_arrays : (entries : List (String Global × Value)) → list_all (λ v. is_some (as_array (view v))) (values_of entries) ≡ true → AreArrays (members_view entries)
are_arrays [] e = tt
are_arrays (m ∷ entries) e = let both = array_first (view m.1) (list_all (λ v. is_some (as_array (view v))) (values_of entries)) e in (both.0, are_arrays entries both.1)

all_arrays : (entries : List (String Global × Value)) → AreArrays (members_view entries) → list_all (λ v. is_some (as_array (view v))) (values_of entries) ≡ true
all_arrays [] are = refl
all_arrays (m ∷ entries) are = array_again (view m.1) (list_all (λ v. is_some (as_array (view v))) (values_of entries)) are.0 (all_arrays entries are.1)

pub arrays : (entries : List (String Global × Value)) (r : Bool) → r ≡ list_all (λ v. is_some (as_array (view v))) (values_of entries) → IsTrue r ↔ AreArrays (members_view entries)
arrays entries r is = ((λ e. are_arrays entries (sym is ∙ e)), (λ are. is ∙ all_arrays entries are))

-- what a test of each value tells of arrays alone, and of arrays of arrays under names
pub lists : (values : List Value) → list_all (λ v. is_some (as_array (view v))) values ≡ are_lists (items_view values)
lists [] = refl
lists (v ∷ values) = ap (λ rest. is_some (as_array (view v)) && rest) (lists values)

both_true : (one rest : Bool) → (one && rest) ≡ true → (one ≡ true) × (rest ≡ true)
both_true true rest e = (refl, e)
both_true false rest e = cc

pub named_lists : (entries : List (String Global × Value)) (r : Bool) → r ≡ list_all (λ v. is_list_of_arrays (view v)) (values_of entries) →
    IsTrue r ↔ AreListsOfArrays (members_view entries)
named_lists entries r is = ((λ e. are entries (sym is ∙ e)), (λ all. is ∙ again entries all))
  where
    are : (entries : List (String Global × Value)) → list_all (λ v. is_list_of_arrays (view v)) (values_of entries) ≡ true → AreListsOfArrays (members_view entries)
    are [] e = tt
    are (m ∷ entries) e =
        let both = both_true (is_list_of_arrays (view m.1)) (list_all (λ v. is_list_of_arrays (view v)) (values_of entries)) e in
        (both.0, are entries both.1)

    again : (entries : List (String Global × Value)) → AreListsOfArrays (members_view entries) → list_all (λ v. is_list_of_arrays (view v)) (values_of entries) ≡ true
    again [] all = refl
    again (m ∷ entries) all = ap (λ one. one && list_all (λ v. is_list_of_arrays (view v)) (values_of entries)) all.0 ∙ again entries all.1

-- an object that has more than one member
pub none_left : (rest : List (String Global × Value)) → members_view rest ≡ no_members → length rest ≡ 0
none_left [] e = refl
none_left (m ∷ rest) e = cc

pub alone : (json : Data) (entries rest : List (String Global × Value)) (first : String Global × Value) → json ≡ object (members_view entries) → entries ≡ first ∷ rest →
    (length rest ≡ 0 → ⊥) → (name : List ℕ) (content : Data) → object (member name content no_members) ≡ json → ⊥
alone json entries rest first is popped more name content same =
    let whole : object (member name content no_members) ≡ object (members_view (first ∷ rest)) = same ∙ is ∙ ap (λ es. object (members_view es)) popped in
    let left : members_view rest ≡ no_members = cc in
    more (none_left rest left)

-- a change: an object whose third member is not the tag, whose fourth is not the version, or that has more members
pub no_change_tag : (json : Data) (m0 m1 m2 m3 : Members) (put remove : Data) (r : Result (Value × Value × Value × Value) OrderFault) (fault : OrderFault) →
    IsErrAnd r (λ e. e ≡ fault) → json ≡ object m0 → m0 ≡ member (codes "put") put m1 → m1 ≡ member (codes "remove") remove m2 →
    TellsNext (codes "tag") m2 m3 (Err fault) → TellsFour change_data json r
no_change_tag json m0 m1 m2 m3 put remove (Ok found) fault is there one two none = absurd is
no_change_tag json m0 m1 m2 m3 put remove (Err Memory) fault is there one two none =
    let told : TellsNext (codes "tag") m2 m3 (Err Memory) = subst (λ e. TellsNext (codes "tag") m2 m3 (Err e)) (sym is) none in
    absurd told
no_change_tag json m0 m1 m2 m3 put remove (Err BadOrder) fault is there one two none =
    let told : TellsNext (codes "tag") m2 m3 (Err BadOrder) = subst (λ e. TellsNext (codes "tag") m2 m3 (Err e)) (sym is) none in
    λ p k t v same. (let rest : m2 ≡ member (codes "tag") t (member (codes "version") v no_members) = cc in told t (member (codes "version") v no_members) rest)

pub no_change_version : (json : Data) (m0 m1 m2 m3 m4 : Members) (put remove tag : Data) (r : Result (Value × Value × Value × Value) OrderFault) (fault : OrderFault) →
    IsErrAnd r (λ e. e ≡ fault) → json ≡ object m0 → m0 ≡ member (codes "put") put m1 → m1 ≡ member (codes "remove") remove m2 → m2 ≡ member (codes "tag") tag m3 →
    TellsNext (codes "version") m3 m4 (Err fault) → TellsFour change_data json r
no_change_version json m0 m1 m2 m3 m4 put remove tag (Ok found) fault is there one two three none = absurd is
no_change_version json m0 m1 m2 m3 m4 put remove tag (Err Memory) fault is there one two three none =
    let told : TellsNext (codes "version") m3 m4 (Err Memory) = subst (λ e. TellsNext (codes "version") m3 m4 (Err e)) (sym is) none in
    absurd told
no_change_version json m0 m1 m2 m3 m4 put remove tag (Err BadOrder) fault is there one two three none =
    let told : TellsNext (codes "version") m3 m4 (Err BadOrder) = subst (λ e. TellsNext (codes "version") m3 m4 (Err e)) (sym is) none in
    λ p k t v same. (let rest : m3 ≡ member (codes "version") v no_members = cc in told v no_members rest)

pub no_change_more : (json : Data) (m0 m1 m2 m3 : Members) (left : List (String Global × Value)) (put remove tag version : Data) → json ≡ object m0 →
    m0 ≡ member (codes "put") put m1 → m1 ≡ member (codes "remove") remove m2 → m2 ≡ member (codes "tag") tag m3 → m3 ≡ member (codes "version") version (members_view left) →
    (length left ≡ 0 → ⊥) → (p k t v : Data) → change_data p k t v ≡ json → ⊥
no_change_more json m0 m1 m2 m3 left put remove tag version there one two three four more p k t v same =
    let rest : members_view left ≡ no_members = cc in
    more (none_left left rest)
