-- Lemmas on lists, sets and maps that name live rows, where they stand packed.
use Rattle.std.proofs.Common.{◌≡◌, ℕ, zero, suc, ◌*◌, ◌<◌, ◌≤◌, List, [], ◌∷◌, length, get_or, Option, None, Some, inl, inr, refl, sym, ap, subst, ◌∙◌, arith}
use Rattle.std.specs.Prelude.{All, IsSome, slice_index}
use Rattle.std.proofs.lemmas.List.Sorted.{All-permutation, IsPermutation-sym}
use Rattle.std.proofs.lemmas.List.FromFn.{length-map-range_with_len}
use Rattle.std.proofs.Math.Nat.{mul-le-mul_right}
use Rattle.row_model.specs.declared.row.Row.{Row}
use Rattle.row_model.specs.Table.{Table, row_at, IsBound, IsLive}
use Rattle.bucket_codec.specs.Run.{Bucket, bucket_at, bucket_in, taken_of, SpellsRun, IsPairInRange}
use Rattle.list_codec.specs.declared.elements.Elements.{Elements}
use Rattle.bucket_codec.specs.declared.buckets.Buckets.{Buckets}
use Rattle.bucket_codec.specs.Buckets.{run_of}
use Rattle.list_codec.specs.Elements.{elements_of}
use Rattle.list_codec.proofs.ListElements.{elements_long}
use Rattle.bucket_codec.proofs.Members.{taken_from}
use Rattle.column_rows.specs.declared.items.PackedItems.{PackedItems}
use Rattle.column_rows.specs.Closed.{IsBucketLive, IsPairLive, ListNamesLive, NamesLiveThere, RunNamesLive}
use Rattle.object_codec.specs.declared.column.Column.{Column}
use Rattle.object_codec.specs.Columns.{IsReadAt}
use Rattle.column_rows.specs.Columns.{IsColumnOf}
use Rattle.column_rows.specs.Items.{AreListsOf, AreRunsOf, HoldsListAt, HoldsRunAt, SpellsListAt, SpellsPairsAt}

some_there : {A : Type 0} (o : Option A) (x : A) → o ≡ Some x → IsSome o
some_there None x e = absurd cc
some_there (Some y) x e = refl

there_some : {A : Type 0} (o : Option A) → IsSome o → (x : A) × (o ≡ Some x)
there_some None some = absurd cc
there_some (Some x) some = (x, refl)

-- ---- lists

-- what holds of each element up to the last one holds of all
pub all_elements : (P : ℕ → Type 0) (elements : Elements) → ((k : ℕ) → k < elements.len → P (slice_index (elements_of elements) k)) → All P (elements_of elements)
all_elements P elements each k d inside =
    let below : k < elements.len = omega (arith, elements_long elements, inside) in
    subst P (in_default (elements_of elements) k 0 d inside) (each k below)
  where
    in_default : (xs : List ℕ) (k c d : ℕ) → k < length xs → get_or xs k c ≡ get_or xs k d
    in_default [] k c d inside = absurd (omega arith)
    in_default (x ∷ xs) zero c d inside = refl
    in_default (x ∷ xs) (suc k) c d inside = in_default xs k c d (omega arith)

module _ (table : Table) (type_index ordinal : ℕ) (items : PackedItems) where
  pub list_there : AreListsOf table type_index items → IsLive table type_index ordinal → HoldsListAt items ordinal
  list_there are live =
      let at = there_some (row_at table type_index ordinal) live in
      (are ordinal at.0 at.1).2

  pub run_there : AreRunsOf table type_index items → IsLive table type_index ordinal → HoldsRunAt items ordinal
  run_there are live =
      let at = there_some (row_at table type_index ordinal) live in
      (are ordinal at.0 at.1).2

-- no list is there
pub dead_list : (table : Table) (type_index target ordinal : ℕ) → (IsLive table type_index ordinal → ⊥) → ListNamesLive table type_index target ordinal
dead_list table type_index target ordinal dead ordinals at = absurd (dead (some_there (row_at table type_index ordinal) (Row.List ordinals) at))

-- the elements of the list that is there
pub list_live : (table : Table) (type_index target ordinal : ℕ) (items : PackedItems) (elements : Elements) → AreListsOf table type_index items
    → ((ordinals : List ℕ) → SpellsListAt items ordinal ordinals → ordinals ≡ elements_of elements) → All (IsLive table target) (elements_of elements) → ListNamesLive table type_index target ordinal
list_live table type_index target ordinal items elements are stand live ordinals at =
    let there = are ordinal (Row.List ordinals) at in
    let same : there.0 ≡ ordinals = ap (λ (row : Row). list_of row) (sym there.1) in
    subst (All (IsLive table target)) (sym (stand there.0 there.3) ∙ same) live
  where
    list_of : Row → List ℕ
    list_of (Row.List ordinals) = ordinals
    list_of _ = []

-- ---- sets and maps

pub dead_run : (table : Table) (type_index key : ℕ) (value : Option ℕ) (ordinal : ℕ) → (IsLive table type_index ordinal → ⊥) → RunNamesLive table type_index key value ordinal
dead_run table type_index key value ordinal dead row at = absurd (dead (some_there (row_at table type_index ordinal) row at))

-- what holds of each bucket's pair holds of the pairs of all taken buckets
pub all_taken : (P : ℕ × ℕ → Type 0) (run : List Bucket) → ((k : ℕ) (pair : ℕ × ℕ) → k < length run → bucket_at run k ≡ Some pair → P pair) → All P (taken_of run)
all_taken P run each k d inside =
    let found = taken_from run (get_or (taken_of run) k d) (k, inside, in_own (taken_of run) k d inside) in
    each found.0 (get_or (taken_of run) k d) found.1 found.2
  where
    in_own : {X : Type 0} (xs : List X) (k : ℕ) (d : X) → k < length xs → get_or xs k (get_or xs k d) ≡ get_or xs k d
    in_own [] k d inside = absurd (omega arith)
    in_own (x ∷ xs) zero d inside = refl
    in_own (x ∷ xs) (suc k) d inside = in_own xs k d (omega arith)

-- the pairs of the set or map that is there
pub run_live : (table : Table) (type_index key : ℕ) (value : Option ℕ) (ordinal : ℕ) (items : PackedItems) (buckets : Buckets) → AreRunsOf table type_index items
    → ((pairs : List (ℕ × ℕ)) → SpellsPairsAt items ordinal pairs → SpellsRun (run_of buckets) pairs) → All (IsPairLive table key value) (taken_of (run_of buckets))
    → RunNamesLive table type_index key value ordinal
run_live table type_index key value ordinal items buckets are stand live row at =
    let there = are ordinal row at in
    let run = stand there.0 there.3 in
    (there.0, there.1, All-permutation (IsPairLive table key value) (taken_of (run_of buckets)) there.0 run.same live)

pub run_length : (buckets : Buckets) → length (run_of buckets) ≡ buckets.len
run_length buckets = length-map-range_with_len (bucket_in buckets.words.now buckets.key_width buckets.value_width) buckets.start buckets.len

-- the pairs of all buckets up to the last one
pub all_buckets : (table : Table) (key : ℕ) (value : Option ℕ) (buckets : Buckets) → ((k : ℕ) → k < buckets.len → IsBucketLive table key value (run_of buckets) k) → All (IsPairLive table key value) (taken_of (run_of buckets))
all_buckets table key value buckets each = all_taken (IsPairLive table key value) (run_of buckets) (λ k pair inside at. each k (omega (arith, run_length buckets, inside)) pair at)

-- the pairs of the run of a place are ordinals
pub run_ranges : (table : Table) (type_index ordinal : ℕ) (items : PackedItems) (buckets : Buckets) → AreRunsOf table type_index items → IsLive table type_index ordinal
    → ((pairs : List (ℕ × ℕ)) → SpellsPairsAt items ordinal pairs → SpellsRun (run_of buckets) pairs) → All IsPairInRange (taken_of (run_of buckets))
run_ranges table type_index ordinal items buckets are live stand =
    let at = there_some (row_at table type_index ordinal) live in
    let there = are ordinal at.0 at.1 in
    let run = stand there.0 there.3 in
    All-permutation IsPairInRange there.0 (taken_of (run_of buckets)) (IsPermutation-sym (taken_of (run_of buckets)) there.0 run.same) run.ranges

pub dead_field : (table : Table) (type_index field target ordinal : ℕ) → (IsLive table type_index ordinal → ⊥) → NamesLiveThere table type_index field target ordinal
dead_field table type_index field target ordinal dead row named at has = absurd (dead (some_there (row_at table type_index ordinal) row at))

-- no record is there, past the last one
pub past_field : (table : Table) (type_index field target end ordinal : ℕ) → IsBound table type_index end → end ≤ ordinal → NamesLiveThere table type_index field target ordinal
past_field table type_index field target end ordinal is past =
    dead_field table type_index field target ordinal (λ live. let inside = is.above ordinal live in omega (arith, inside, past))

-- where the last record is read, each place before it is
pub read_below : (table : Table) (type_index field end ordinal : ℕ) (column : Column) → IsColumnOf table type_index field column → IsBound table type_index end → ordinal < end → IsReadAt column ordinal
read_below table type_index field end ordinal column of is inside = elim is.least [
  | inl none ↦ absurd (omega (arith, none, inside))
  | inr last ↦
      let at = there_some (row_at table type_index last.0) last.2 in
      let read = (of last.0 at.0 at.1).2.reads in
      let before : ordinal ≤ last.0 = omega (arith, last.1, inside) in
      let less : ordinal * column.size ≤ last.0 * column.size = mul-le-mul_right column.size before in
      record { narrow = read.narrow; wide = read.wide; record_holds = read.record_holds; words_hold = omega (arith, less, read.words_hold); fits = omega (arith, less, read.fits) }
]
