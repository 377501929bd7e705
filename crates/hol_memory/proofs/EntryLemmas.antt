-- A map in memory and the store that it stands for.
use Rattle.std.proofs.Common.{◌≡◌, ◌<◌, ℕ, All, IfSome, Bool, true, false, cond, ◌&&◌, List, [], ◌∷◌, map, Option, Some, Vec, Global, T, Ordering, refl, ap, sym, ◌∙◌, subst}
use Rattle.std.specs.declared.cmp.Ordering.TheVariants.{Less}
use Rattle.std.specs.Option.{option_map}
use Rattle.std.specs.Ordering.{is_eq, is_lt}
use Rattle.std.specs.Cmp.{eq_by_cmp_equiv}
use Rattle.std.specs.List.{AllByRecursion}
use Rattle.std.specs.List.Sorted.{IsStrictlySortedBy}
use Rattle.std.specs.BTreeMap as tree
use Rattle.std.specs.Map.{lookup}
use Rattle.std.specs.FinMap as store
use Rattle.std.specs.FinMap.Entries.{below_all}
use Rattle.hol_io.specs.declared.name.BlobName.{BlobName}
use Rattle.hol_memory.specs.Entries.{store_of}
use Rattle.hol_io.specs.Name.{name_cmp}
use Rattle.hol_io.specs.Store.{HoldsBytes, Store, names}
use Rattle.hol_io.proofs.NameOrder.{name_cmp_total, name_cmp-IsAntisymmetric, derived_cmp, derived_is}

abbrev pub Entry : Type 0
Entry = BlobName × Vec ℕ Global

abbrev bytes_of : Entry → BlobName × List ℕ
bytes_of entry = (entry.0, entry.1.items)

chosen : (b : Bool) (v : Vec ℕ Global) (o : Option (Vec ℕ Global)) → cond b (Some v.items) (option_map (λ w. w.items) o) ≡ option_map (λ w. w.items) (cond b (Some v) o)
chosen true v o = refl
chosen false v o = refl

find_same : (name : BlobName) (entries : List Entry) → store.find name_cmp name (map bytes_of entries) ≡ option_map (λ v. v.items) (lookup (tree.is_at (derived_cmp name)) entries)
find_same name [] = refl
find_same name (e ∷ es) =
    ap (λ o. cond (is_eq (name_cmp name e.0)) (Some e.1.items) o) (find_same name es)
    ∙ chosen (is_eq (name_cmp name e.0)) e.1 (lookup (tree.is_at (derived_cmp name)) es)
    ∙ ap (λ r. option_map (λ v. v.items) (cond (is_eq r) (Some e.1) (lookup (tree.is_at (derived_cmp name)) es))) (sym (derived_is name e.0))

-- What the store has under a name is what the map has.
pub get_same : (name : BlobName) (entries : List Entry) → store.get (store_of entries) name ≡ option_map (λ v. v.items) (lookup (tree.is_at (derived_cmp name)) entries)
get_same name entries = store.get-from_entries name_cmp_total (map bytes_of entries) name ∙ find_same name entries

-- An insertion into the map is one into the store.
pub insert_same : (old new : List Entry) (name : BlobName) (v : Vec ℕ Global) → ((other : BlobName) → lookup (tree.is_at (derived_cmp other)) new ≡ cond (tree.is_at (derived_cmp name) other) (Some v) (lookup (tree.is_at (derived_cmp other)) old)) → store_of new ≡ store.insert (store_of old) name v.items
insert_same old new name v updates = store.same_map name_cmp_total name_cmp-IsAntisymmetric (store_of new) (store.insert (store_of old) name v.items) (λ other.
    get_same other new
    ∙ ap (option_map (λ w. w.items)) (updates other)
    ∙ sym (chosen (tree.is_at (derived_cmp name) other) v (lookup (tree.is_at (derived_cmp other)) old))
    ∙ ap (λ o. cond (tree.is_at (derived_cmp name) other) (Some v.items) o) (sym (get_same other old))
    ∙ ap (λ r. cond (is_eq r) (Some v.items) (store.get (store_of old) other)) (derived_is name other)
    ∙ ap (λ b. cond b (Some v.items) (store.get (store_of old) other)) ((eq_by_cmp_equiv name_cmp_total).symm name other)
    ∙ sym (store.get-insert name_cmp_total (store_of old) name v.items other))

less_test : (r : Ordering) → r ≡ Less → (b : Bool) → T b → T (is_lt r && b)
less_test r e b h = subst (λ s. T (is_lt s && b)) (sym e) h

below_same : (name : BlobName) (entries : List Entry) → AllByRecursion (λ other. derived_cmp name other ≡ Less) (map (λ e. e.0) entries) → T (below_all name_cmp name (map bytes_of entries))
below_same name [] all = tt
below_same name (e ∷ es) all = less_test (name_cmp name e.0) (sym (derived_is name e.0) ∙ all.0) _ (below_same name es all.1)

both : (a b : Bool) → T a → T b → T (a && b)
both true b h k = k
both false b h k = absurd h

sorted_same : (entries : List Entry) → IsStrictlySortedBy derived_cmp (map (λ e. e.0) entries) → T (store.is_sorted name_cmp (map bytes_of entries))
unfolding IsStrictlySortedBy
sorted_same [] s = tt
sorted_same (e ∷ es) s = both _ _ (below_same e.0 es s.0) (sorted_same es s.1)

names_list : (entries : List Entry) → map (λ e. e.0) (map bytes_of entries) ≡ map (λ e. e.0) entries
names_list [] = refl
names_list (e ∷ es) = ap (λ rest. e.0 ∷ rest) (names_list es)

-- The names of the store are those of the map, whose keys rise.
pub names_same : (entries : List Entry) → IsStrictlySortedBy derived_cmp (map (λ e. e.0) entries) → names (store_of entries) ≡ map (λ e. e.0) entries
names_same entries s =
    let sorted = sorted_same entries s in
    let whole : store_of entries ≡ store.from_sorted (map bytes_of entries) =
    store.same_map name_cmp_total name_cmp-IsAntisymmetric (store_of entries) (store.from_sorted (map bytes_of entries))
    (λ name. store.get-from_entries name_cmp_total (map bytes_of entries) name ∙ sym (store.get-from_sorted name_cmp (map bytes_of entries) name sorted)) in
    ap (λ m. map (λ e. e.0) (store.entries m)) whole
    ∙ ap (map (λ e. e.0)) (store.entries-from_sorted name_cmp (map bytes_of entries) sorted)
    ∙ names_list entries

-- No name holds anything.
pub holds_none : HoldsBytes (store_of [])
holds_none name = subst (λ content. IfSome content (All (λ byte. byte < 256))) (sym (store.get-empty name_cmp name)) tt

-- What holds of each content and of one more holds of all.
with_one : (b : Bool) (bytes : List ℕ) (o : Option (List ℕ)) → All (λ byte. byte < 256) bytes → IfSome o (All (λ byte. byte < 256)) → IfSome (cond b (Some bytes) o) (All (λ byte. byte < 256))
with_one true bytes o one others = one
with_one false bytes o one others = others

-- Bytes are put where bytes are held.
pub holds_inserted : (held held' : Store) (name : BlobName) (bytes : List ℕ) → held' ≡ store.insert held name bytes → All (λ byte. byte < 256) bytes → HoldsBytes held → HoldsBytes held'
holds_inserted held held' name bytes is one others = λ other.
    subst (λ content. IfSome content (All (λ byte. byte < 256))) (sym (ap (λ s. store.get s other) is ∙ store.get-insert name_cmp_total held name bytes other))
    (with_one (is_eq (name_cmp other name)) bytes (store.get held other) one (others other))
