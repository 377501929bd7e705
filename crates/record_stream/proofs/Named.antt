-- The names of types, and what stands under them.
use Rattle.std.proofs.Common.{◌≡◌, ◌∙◌, zero, suc, ◌+◌, ◌<◌, List, [], ◌∷◌, ◌++◌, ℕ, Option, Some, None, Ordering, Less, Equal, Greater, nat_cmp, Global, String, drop, length, map, string_bytes, refl, sym, ap, add-one, arith}
use Rattle.std.specs.Prelude.{slice_get, slice_index_or}
use Rattle.std.specs.Cmp.Lexicographic.{slice_cmp}
use Rattle.std.specs.Ordering.{match_ordering}
use Rattle.std.proofs.lemmas.List.Elements.{All-cons, All-head, All-tail}
use Rattle.json.proofs.Found.{Some_inj}
use Rattle.serde_json.specs.Data.{Data, Members, array, member, no_items, no_members, put}
use Rattle.serde_json.specs.Find.{get_member}
use Rattle.serde_json.specs.View.{items_of}
use Rattle.serde_json.proofs.Views.{get_member-put, get_member-put_other}
use Rattle.record_stream.specs.RecordLine.{AreOther, TellsLast, Typed, bare, names_of, with_types}

bare-match_ordering : (o : Ordering) (a b c : Members) → bare (match_ordering o a b c) ≡ match_ordering o (bare a) (bare b) (bare c)
bare-match_ordering Less a b c = refl
bare-match_ordering Equal a b c = refl
bare-match_ordering Greater a b c = refl

bare-put : (k : List ℕ) (d : Data) (ms : Members) → bare (put k d ms) ≡ put k (array no_items) (bare ms)
bare-put k d no_members = refl
bare-put k d (member l e ms) =
    let o = slice_cmp nat_cmp k l in
    let empty = array no_items in
    bare-match_ordering o (member k d (member l e ms)) (member l d ms) (member l e (put k d ms))
    ∙ ap (λ (more : Members). match_ordering o (member k empty (member l empty (bare ms))) (member l empty (bare ms)) (member l empty more)) (bare-put k d ms)

with_types-snoc : (types : List Typed) (typed : Typed) (old : Members) → with_types (types ++ typed ∷ []) old ≡ put typed.0 (array (items_of typed.1)) (with_types types old)
with_types-snoc [] typed old = refl
with_types-snoc (first ∷ types) typed old = with_types-snoc types typed (put first.0 (array (items_of first.1)) old)

pub still_named : (types : List Typed) (typed : Typed) (names : Members) → names ≡ bare (with_types types no_members) → put typed.0 (array no_items) names ≡ bare (with_types (types ++ typed ∷ []) no_members)
still_named types typed names named =
    ap (put typed.0 (array no_items)) named
    ∙ (sym (bare-put typed.0 (array (items_of typed.1)) (with_types types no_members)) ∙ ap bare (sym (with_types-snoc types typed no_members)))

-- ---- what stands under a name

-- no type of a name that is none of theirs
pub none_under : (name : List ℕ) (types : List Typed) (old : Members) → AreOther name (names_of types) → get_member name (with_types types old) ≡ get_member name old
none_under name [] old other = refl
none_under name (typed ∷ types) old other =
    let Other : List ℕ → Type 0 = λ n. n ≡ name → ⊥ in
    none_under name types (put typed.0 (array (items_of typed.1)) old) (All-tail Other typed.0 (names_of types) other)
    ∙ get_member-put_other name typed.0 (array (items_of typed.1)) old (λ same. All-head Other typed.0 (names_of types) other (sym same))

-- the last type of a name
pub last_under : (name : List ℕ) (types : List Typed) (place : ℕ) (typed : Typed) (old : Members) → slice_get types place ≡ Some typed → typed.0 ≡ name → AreOther name (drop (place + 1) (names_of types))
    → get_member name (with_types types old) ≡ Some (array (items_of typed.1))
last_under name [] place typed old at named other = absurd cc
last_under name (first ∷ types) zero typed old at named other =
    let made = array (items_of typed.1) in
    none_under name types (put first.0 (array (items_of first.1)) old) other
    ∙ (ap (λ (t : Typed). get_member name (put t.0 (array (items_of t.1)) old)) (Some_inj first typed at)
    ∙ (ap (λ n. get_member n (put typed.0 made old)) (sym named) ∙ get_member-put typed.0 made old))
last_under name (first ∷ types) (suc place) typed old at named other =
    last_under name types place typed (put first.0 (array (items_of first.1)) old) at named (rw add-one (rw add-one at other))

-- the type at the place of a name
pub named_at : (name : List ℕ) (types : List Typed) (place : ℕ) → slice_get (names_of types) place ≡ Some name → (typed : Typed) × (slice_get types place ≡ Some typed) × (typed.0 ≡ name)
named_at name [] place at = absurd cc
named_at name (typed ∷ types) zero at = (typed, refl, Some_inj typed.0 name at)
named_at name (typed ∷ types) (suc place) at = named_at name types place at

-- ---- the last name that is this one

pub name_at : (names : List (String Global)) (i : ℕ) (item : String Global) → i < length names → item ≡ slice_index_or names i item → slice_get (map string_bytes names) i ≡ Some (string_bytes item)
name_at [] i item within is = absurd (omega arith)
name_at (name ∷ names) zero item within is = ap (λ s. Some (string_bytes s)) (sym is)
name_at (name ∷ names) (suc i) item within is = name_at names i item (omega arith) is

pub other_before : (name : List ℕ) (names : List (List ℕ)) (i : ℕ) (first : List ℕ) → slice_get names i ≡ Some first → (first ≡ name → ⊥) → AreOther name (drop (i + 1) names) → AreOther name (drop i names)
other_before name [] i first at other others = absurd cc
other_before name (n ∷ names) zero first at other others = All-cons (λ o. o ≡ name → ⊥) n names (λ same. other (sym (Some_inj n first at) ∙ same)) others
other_before name (n ∷ names) (suc i) first at other others = other_before name names i first at other (rw add-one (rw add-one at others))

pub none_last : (name : List ℕ) (names : List (List ℕ)) (found : Option ℕ) → ((place : ℕ) → found ≡ Some place → ⊥) → TellsLast name names found → AreOther name names
none_last name names None not told = told
none_last name names (Some place) not told = absurd (not place refl)
