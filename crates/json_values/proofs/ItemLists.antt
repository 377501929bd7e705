-- Items that each stand for something, as a whole list.
use Rattle.std.proofs.Common.{◌≡◌, ℕ, suc, ◌<◌, List, [], ◌∷◌, length, arith, zero, refl, ap, subst, true, false, ◌+◌, ◌∙◌, below_more, sym, ◌≤◌, take, ◌++◌, Some, None}
use Rattle.std.proofs.lemmas.List.{get_or_default, take_more, take_all}
use Rattle.std.specs.Prelude.{slice_index_or, IsSomeAnd, IsTrue, ◌↔◌, String}
use Rattle.std.specs.declared.alloc.Global.{Global}
use Rattle.std.specs.List.{All}
use Rattle.serde_json.specs.Data.{Data, null, boolean, number, string, array, object, Members, Items, no_items, item}
use Rattle.serde_json.specs.Find.{as_object, get_item}
use Rattle.serde_json.specs.View.{items_view, members_view, view}
use Rattle.serde_json.specs.declared.value.Value.{Value}
use Rattle.json_values.specs.SchemaJson.{ItemsAre, count_members, member_count}

-- what stands for something each, stands for a list
pub list_of_each : {A : Type 0} (R : Data → A → Type 0) (values : List Value) → All (λ value. (x : A) × R (view value) x) values
    → (xs : List A) × ItemsAre R (items_view values) xs
list_of_each R [] each = ([], tt)
list_of_each R (v ∷ values) each =
    let first = each 0 v (omega arith) in
    let rest = list_of_each R values (λ k d below. each (suc k) d (omega arith)) in
    (first.0 ∷ rest.0, (first.1, rest.1))

-- and the other way round
pub each_of_list : {A : Type 0} (R : Data → A → Type 0) (values : List Value) (xs : List A) → ItemsAre R (items_view values) xs
    → All (λ value. (x : A) × R (view value) x) values
each_of_list R [] xs are k d below = absurd (omega arith)
each_of_list R (v ∷ values) [] are k d below = absurd are
each_of_list R (v ∷ values) (x ∷ xs) are zero d below = (x, are.0)
each_of_list R (v ∷ values) (x ∷ xs) are (suc k) d below = each_of_list R values xs are.1 k d (omega arith)

-- values of which each stands for something, found one after the other
pub all_stand : {A : Type 0} (R : Data → A → Type 0) (values : List Value) → ((k : ℕ) (d : Value) → k < length values → (x : A) × R (view (slice_index_or values k d)) x)
    → IsTrue true ↔ ((xs : List A) × ItemsAre R (items_view values) xs)
all_stand R values each = (λ yes. list_of_each R values each, λ found. refl)

-- where one stands for nothing, they stand for no list
pub one_stands_not : {A : Type 0} (R : Data → A → Type 0) (values : List Value) (k : ℕ) (value : Value) → k < length values → slice_index_or values k value ≡ value
    → (((x : A) × R (view value) x) → ⊥) → IsTrue false ↔ ((xs : List A) × ItemsAre R (items_view values) xs)
one_stands_not {A = A} R values k value below at none =
    (λ yes. absurd cc, λ found. absurd (none (subst (λ v. (x : A) × R (view v) x) at (each_of_list R values found.0 found.1 k value below))))

-- one more value that stands for something
pub stand_more : {A : Type 0} (R : Data → A → Type 0) (values : List Value) (i : ℕ) (value : Value) → i < length values → value ≡ slice_index_or values i value → ((x : A) × R (view value) x)
    → ((k : ℕ) (d : Value) → k < i → (x : A) × R (view (slice_index_or values k d)) x) → (k : ℕ) (d : Value) → k < i + 1 → (x : A) × R (view (slice_index_or values k d)) x
stand_more {A = A} R values i value inside at holds each k d below =
    below_more (λ j. (x : A) × R (view (slice_index_or values j d)) x) i (λ j h. each j d h)
    (subst (λ v. (x : A) × R (view v) x) (at ∙ get_or_default values i value d inside) holds) k below

-- how many members a map has
pub members_counted : (entries : List (String Global × Value)) → length entries ≡ count_members (members_view entries)
members_counted [] = refl
members_counted (entry ∷ entries) = ap suc (members_counted entries)

-- an object has as many members as its map
pub object_counted : (value : Data) (members : Members) → Some members ≡ as_object value → count_members members ≡ member_count value
object_counted null _ e = absurd cc
object_counted (boolean b) _ e = absurd cc
object_counted (number n) _ e = absurd cc
object_counted (string text) _ e = absurd cc
object_counted (array items) _ e = absurd cc
object_counted (object found) members e = let same : members ≡ found = cc in ap count_members same

-- and the other values have none
pub none_counted : (value : Data) → None ≡ as_object value → 0 ≡ member_count value
none_counted null e = refl
none_counted (boolean b) e = refl
none_counted (number n) e = refl
none_counted (string text) e = refl
none_counted (array items) e = refl
none_counted (object found) e = absurd cc

-- the item at a place
pub item_at : (values : List Value) (k : ℕ) (d : Value) → k < length values → get_item k (items_view values) ≡ Some (view (slice_index_or values k d))
item_at [] k d inside = absurd (omega arith)
item_at (v ∷ values) zero d inside = refl
item_at (v ∷ values) (suc k) d inside = item_at values k d (omega arith)

-- an item that is there stands within
pub item_within : (P : Data → Type 0) (values : List Value) (k : ℕ) (d : Value) → IsSomeAnd (get_item k (items_view values)) P
    → (k < length values) × P (view (slice_index_or values k d))
item_within P [] k d some = absurd some
item_within P (v ∷ values) zero d some = (omega arith, some)
item_within P (v ∷ values) (suc k) d some = let rest = item_within P values k d some in (omega arith, rest.1)

-- no value before a place has a property
pub none_before : (P : Data → Type 0) (values : List Value) (n : ℕ) → ((k : ℕ) (d : Value) → k < n → P (view (slice_index_or values k d)) → ⊥)
    → (k : ℕ) → k < n → IsSomeAnd (get_item k (items_view values)) P → ⊥
none_before P [] n none k below some = some
none_before P (v ∷ values) n none k below some = none k v below (item_within P (v ∷ values) k v some).1

-- none of the values has a property
pub none_among : (P : Data → Type 0) (values : List Value) (n : ℕ) → length values ≤ n → ((k : ℕ) (d : Value) → k < n → P (view (slice_index_or values k d)) → ⊥)
    → (k : ℕ) → IsSomeAnd (get_item k (items_view values)) P → ⊥
none_among P [] n all none k some = some
none_among P (v ∷ values) n all none k some = let found = item_within P (v ∷ values) k v some in none k v (omega (arith, found.0)) found.1

-- the value at a place has a property
pub one_among : (P : Data → Type 0) (values : List Value) (k : ℕ) (value : Value) → k < length values → value ≡ slice_index_or values k value → P (view value)
    → IsSomeAnd (get_item k (items_view values)) P
one_among P values k value inside at holds =
    subst (λ o. IsSomeAnd o P) (sym (item_at values k value inside)) (subst (λ v. P (view v)) at holds)

-- one more value that lacks a property
pub lacks_more : (P : Data → Type 0) (values : List Value) (i : ℕ) (value : Value) → i < length values → value ≡ slice_index_or values i value → (P (view value) → ⊥)
    → ((k : ℕ) (d : Value) → k < i → P (view (slice_index_or values k d)) → ⊥) → (k : ℕ) (d : Value) → k < i + 1 → P (view (slice_index_or values k d)) → ⊥
lacks_more P values i value inside at lacks each k d below =
    below_more (λ j. P (view (slice_index_or values j d)) → ⊥) i (λ j h. each j d h)
    (subst (λ v. P (view v) → ⊥) (at ∙ get_or_default values i value d inside) lacks) k below

-- the things that the first values stand for, and one more
pub items_more : {A : Type 0} (R : Data → A → Type 0) (values : List Value) (xs : List A) (value : Value) (x : A) → ItemsAre R (items_view values) xs → R (view value) x
    → ItemsAre R (items_view (values ++ value ∷ [])) (xs ++ x ∷ [])
items_more R [] [] value x are one = (one, tt)
items_more R [] (y ∷ ys) value x are one = absurd are
items_more R (v ∷ values) [] value x are one = absurd are
items_more R (v ∷ values) (y ∷ ys) value x are one = (are.0, items_more R values ys value x are.1 one)

-- the same of the values up to a place
pub items_further : {A : Type 0} (R : Data → A → Type 0) (values : List Value) (i : ℕ) (value : Value) (xs new : List A) (x : A) → i < length values → value ≡ slice_index_or values i value
    → ItemsAre R (items_view (take i values)) xs → R (view value) x → new ≡ xs ++ x ∷ [] → ItemsAre R (items_view (take (i + 1) values)) new
items_further {A = A} R values i value xs new x inside at are one is =
    let longer : take (i + 1) values ≡ take i values ++ slice_index_or values i value ∷ [] = take_more values i value inside in
    let same : take i values ++ slice_index_or values i value ∷ [] ≡ take i values ++ value ∷ [] = ap (λ v. take i values ++ v ∷ []) (sym at) in
    subst (λ (ys : List A). ItemsAre R (items_view (take (i + 1) values)) ys) (sym is)
    (subst (λ (vs : List Value). ItemsAre R (items_view vs) (xs ++ x ∷ [])) (sym (longer ∙ same)) (items_more R (take i values) xs value x are one))

-- all values
pub items_whole : {A : Type 0} (R : Data → A → Type 0) (values : List Value) (i : ℕ) (xs : List A) → length values ≤ i → ItemsAre R (items_view (take i values)) xs → ItemsAre R (items_view values) xs
items_whole {A = A} R values i xs all are = subst (λ (vs : List Value). ItemsAre R (items_view vs) xs) (take_all i values all) are

-- the value at a place stands for something, where the values stand for a list
pub stands_at : {A : Type 0} (R : Data → A → Type 0) (values : List Value) (xs : List A) (i : ℕ) (value : Value) → ItemsAre R (items_view values) xs → i < length values
    → value ≡ slice_index_or values i value → (x : A) × R (view value) x
stands_at {A = A} R values xs i value are inside at = subst (λ v. (x : A) × R (view v) x) (sym at) (each_of_list R values xs are i value inside)

-- an item that is there has its place in the list
pub place_within : {A : Type 0} (R : Data → A → Type 0) (P : Data → Type 0) (items : Items) (xs : List A) (k : ℕ) → ItemsAre R items xs → IsSomeAnd (get_item k items) P → k < length xs
place_within R P no_items xs k are some = absurd some
place_within R P (item d items) [] k are some = absurd are
place_within R P (item d items) (x ∷ xs) zero are some = omega arith
place_within R P (item d items) (x ∷ xs) (suc k) are some = let rest = place_within R P items xs k are.1 some in omega arith
