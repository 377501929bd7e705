-- Lists that a loop gathers piece by piece, and ordinals sorted, each once.
use Rattle.std.proofs.Common.{Option, Some, None, ◌≡◌, ◌↔◌, ℕ, ◌+◌, ◌<◌, ◌≤◌, ◌∙◌, refl, sym, ap, subst, inl, inr, arith, List, [], ◌∷◌, ◌++◌, length, get_or, take}
use Rattle.std.specs.Prelude.{◌≢◌, AllPairs, Contains, MatchOption}
use Rattle.std.specs.Option.{option_to_list}
use Rattle.std.specs.List.{flat_map, dedup}
use Rattle.std.specs.List.Retain.{DiffersFromLast, IsFiltered}
use Rattle.std.specs.List.Sorted.{IsPermutation, IsSorted}
use Rattle.std.specs.Ordering.{nat_cmp}
use lib.Dec.{eqb}
use Rattle.std.specs.Cmp.{unsigned_ties}
use Rattle.std.proofs.lemmas.Cmp.{nat_cmp_total}
use Rattle.std.proofs.lemmas.Map.Keys.{below_from_sorted}
use Rattle.std.proofs.lemmas.Grind.{flat_map-append}
use Rattle.std.proofs.lemmas.List.{append-nil, take_all, take_more}
use Rattle.std.proofs.lemmas.List.Elements.{Contains-append_cases, Contains-append_left, Contains-append_right, Contains-push_cases}
use Rattle.std.proofs.lemmas.List.Filters.{dedup_is}
use Rattle.std.proofs.lemmas.List.Kept.{Contains-dedup_nat, Contains-from_dedup, IsStrictlySortedBy-dedup}
use Rattle.std.proofs.lemmas.List.Sorted.{Contains-permutation, IsPermutation-sym}
use Rattle.key_index.proofs.Lists.{contains_either, contains_first, contains_later, contains_none}
use Rattle.row_model.specs.Key.{unless_null, value_in}
use Rattle.row_model.specs.Table.{Table, row_at}
use Rattle.row_model.specs.declared.row.Value.{Value}
use Rattle.schema_model.specs.declared.model.walk_path.WalkPart.{WalkPart}
use Rattle.schema_model.specs.declared.model.walk_path.WalkPart.TheVariants.{Field as FieldPart, Element, MapKey, MapValue}
use Rattle.hol_paths.specs.Distinct.{IsAdded}
use Rattle.hol_paths.specs.Reached.{AreOnceOf, AreRisingOf, values_by}

-- one piece more
pub piece_more : {X Y : Type 0} (f : X → List Y) (xs : List X) (i : ℕ) (d : X) → i < length xs → flat_map f (take (i + 1) xs) ≡ flat_map f (take i xs) ++ f (get_or xs i d)
piece_more f xs i d below =
    let y = get_or xs i d in
    ap (flat_map f) (take_more xs i d below) ∙ flat_map-append f (take i xs) (y ∷ []) ∙ ap (λ ys. flat_map f (take i xs) ++ ys) (append-nil (f y))

-- what all pieces hold
module _ {X Y : Type 0} (f : X → List Y) (y : Y) where
  pub in_pieces : (xs : List X) (x : X) → Contains xs x → Contains (f x) y → Contains (flat_map f xs) y
  in_pieces [] x h here = absurd (contains_none x h)
  in_pieces (z ∷ xs) x h here =
      elim (contains_either z x xs h) [
        | inl e ↦ Contains-append_left (f z) (flat_map f xs) y (subst (λ q. Contains (f q) y) (sym e) here)
        | inr later ↦ Contains-append_right (f z) (flat_map f xs) y (in_pieces xs x later here)
      ]

  pub from_pieces : (xs : List X) → Contains (flat_map f xs) y → (x : X) × Contains xs x × Contains (f x) y
  from_pieces [] h = absurd (contains_none y h)
  from_pieces (z ∷ xs) h =
      elim (Contains-append_cases (f z) (flat_map f xs) y h) [
        | inl here ↦ (z, contains_first z z xs refl, here)
        | inr later ↦ (let rest = from_pieces xs later in (rest.0, contains_later z rest.0 xs rest.1, rest.2))
      ]

-- ordinals sorted, each once
pub risen : (numbers sorted once rising : List ℕ) → rising ≡ once → IsPermutation numbers sorted → IsSorted nat_cmp sorted → IsFiltered (DiffersFromLast eqb) [] sorted once → AreRisingOf numbers rising
risen numbers sorted once rising is moved ordered kept =
    subst (AreRisingOf numbers) (sym (is ∙ dedup_is eqb sorted once kept)) record {
      rises = λ i j d before within. below_from_sorted (dedup eqb sorted) i j d (IsStrictlySortedBy-dedup nat_cmp_total unsigned_ties sorted ordered) before within;
      same = λ n. (
        (λ h. Contains-permutation sorted numbers n (IsPermutation-sym numbers sorted moved) (Contains-from_dedup eqb sorted n h)),
        (λ h. Contains-dedup_nat sorted n (Contains-permutation numbers sorted n moved h)),
      );
    }

-- ---- values, each once

-- a value more, if there is one
pub added_more : (found : Option Value) (old new before after : List Value) → ((v : Value) → Contains old v ↔ Contains before v) → after ≡ before ++ option_to_list found
    → MatchOption found (new ≡ old) (λ one. IsAdded old one new) → (v : Value) → Contains new v ↔ Contains after v
added_more None old new before after so_far is added v =
    let same : after ≡ before = is ∙ append-nil before in
    ((λ h. subst (λ l. Contains l v) (sym same) ((so_far v).0 (subst (λ l. Contains l v) added h))), (λ h. subst (λ l. Contains l v) (sym added) ((so_far v).1 (subst (λ l. Contains l v) same h))))
added_more (Some one) old new before after so_far is added v = (
  (λ h. subst (λ l. Contains l v) (sym is) (elim (Contains-push_cases old one v ((added v).0 h)) [
    | inl was ↦ Contains-append_left before (one ∷ []) v ((so_far v).0 was)
    | inr e ↦ Contains-append_right before (one ∷ []) v (contains_first one v [] e)
  ])),
  (λ h. (added v).1 (elim (Contains-push_cases before one v (subst (λ l. Contains l v) is h)) [
    | inl was ↦ Contains-append_left old (one ∷ []) v ((so_far v).1 was)
    | inr e ↦ Contains-append_right old (one ∷ []) v (contains_first one v [] e)
  ])),
)

module _ (table : Table) (t i : ℕ) (level : List ℕ) where
  abbrev gather : ℕ → List Value
  gather o = values_by table t (FieldPart i) o

  -- the value of one row more
  pub values_more : (k : ℕ) (found : Option Value) (old new : List Value) → k < length level → found ≡ unless_null (value_in (row_at table t (get_or level k 0)) i)
      → ((v : Value) → Contains old v ↔ Contains (flat_map gather (take k level)) v) → MatchOption found (new ≡ old) (λ one. IsAdded old one new)
      → (v : Value) → Contains new v ↔ Contains (flat_map gather (take (k + 1) level)) v
  values_more k found old new below is so_far added =
      added_more found old new (flat_map gather (take k level)) (flat_map gather (take (k + 1) level)) so_far
      (piece_more gather level k 0 below ∙ ap (λ q. flat_map gather (take k level) ++ option_to_list q) (sym is)) added

  -- those of all rows
  pub values_all : (k : ℕ) (held once : List Value) → length level ≤ k → once ≡ held → AllPairs (λ earlier later. earlier ≢ later) once
      → ((v : Value) → Contains held v ↔ Contains (flat_map gather (take k level)) v) → AreOnceOf (flat_map gather level) once
  values_all k held once past is apart same = record {
    apart = apart;
    same = λ v. subst (λ l. Contains once v ↔ Contains (flat_map gather l) v) (take_all k level past) (subst (λ l. Contains l v ↔ Contains (flat_map gather (take k level)) v) (sym is) (same v));
  }

-- none of a part that is no field
pub none_once : (table : Table) (t : ℕ) (part : WalkPart) (level : List ℕ) → ((i : ℕ) → part ≡ FieldPart i → ⊥) → AreOnceOf (flat_map (values_by table t part) level) []
none_once table t (FieldPart i) level never = absurd (never i refl)
none_once table t Element level never = record { apart = λ i j d before within. absurd (omega arith); same = λ v. ((λ h. absurd (contains_none v h)), (λ h. absurd (contains_none v (from_pieces (values_by table t Element) v level h).2))) }
none_once table t MapKey level never = record { apart = λ i j d before within. absurd (omega arith); same = λ v. ((λ h. absurd (contains_none v h)), (λ h. absurd (contains_none v (from_pieces (values_by table t MapKey) v level h).2))) }
none_once table t MapValue level never = record { apart = λ i j d before within. absurd (omega arith); same = λ v. ((λ h. absurd (contains_none v h)), (λ h. absurd (contains_none v (from_pieces (values_by table t MapValue) v level h).2))) }
