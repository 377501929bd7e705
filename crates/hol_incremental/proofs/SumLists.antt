-- The sums of the rows of each type, as rows come and leave.
use Rattle.std.proofs.Common.{◌≡◌, ◌<◌, get_or, ◌∙◌, ◌+◌, ◌++◌, ◌∷◌, ℕ, List, [], Option, Some, None, length, set, slice_get, is_some, sum_by, refl, sym, ap, subst, inl, inr, arith}
use Rattle.std.specs.FinMap.{get}
use Rattle.std.proofs.lemmas.Bool.{cases_eq}
use Rattle.std.proofs.lemmas.List.{length-append, length-set}
use Rattle.std.proofs.lemmas.List.Sums.{sum_by-append}
use Rattle.std.proofs.lemmas.Option.{slice_get-get_or}
use Rattle.schema_model.specs.declared.schema.Schema.{Schema}
use Rattle.row_model.specs.declared.row.Row.{Row}
use Rattle.row_model.specs.BothStates.{rows_added, rows_from, rows_in, rows_of_both}
use Rattle.row_model.specs.Table.{IsLive, Table, row_at}
use Rattle.row_model.proofs.RowsFrom.{added_live, added_none, added_some, get_in, rows_past}
use Rattle.object_codec.specs.Widths.{live_rows}
use Rattle.row_packing.specs.Chosen.{shape_at}
use Rattle.row_packing.proofs.Suiting.{shape_is}
use Rattle.kept_sums.specs.Sums.{AddsRow, AreSumsOf, HaveRowMore, TakesRow, TypeSums, bytes_at, bytes_in, items_in, takes}
use Rattle.schema_model.specs.declared.schema.Shape.{Shape}
use Rattle.write_engine.specs.Cycle.{no_rows}
use Rattle.hol_incremental.specs.Beside.{IsFromEither}
use Rattle.hol_incremental.specs.Sums.{AddsRowAt, AreSums, AreSumsBy, AreSumsOfBoth, ChangesType}
use Rattle.hol_incremental.proofs.AddedUp.{Splits, none_at, rows_more, rows_same, rows_split}
use Rattle.hol_incremental.proofs.MappedLists.{behind_at, set_beside, set_here}
use Rattle.hol_incremental.proofs.ShallowTypes.{live_row}

-- ---- no rows

no_live : (n t : ℕ) → live_rows (no_rows n) t ≡ []
no_live n t = rows_past (rows_in (no_rows n) t) 0 (λ q from. get_in (no_rows n) t q ∙ none_at n t q)

module _ (schemas : List Schema) where
  -- These are the sums of no rows of each of the first types.
  pub record AreNoneOf (count : ℕ) (sums : List TypeSums) : Type 0 where
    pub types : length sums ≡ count
    pub each : (t : ℕ) (one : TypeSums) → slice_get sums t ≡ Some one → AreSumsOf (shape_at schemas t) [] one

  pub none_start : (sums : List TypeSums) → sums ≡ [] → AreNoneOf 0 sums
  none_start sums none = subst (AreNoneOf 0) (sym none) (record { types = refl; each = λ t one at. absurd cc })

  pub none_more : (count : ℕ) (sums sums' : List TypeSums) (one : TypeSums) → AreNoneOf count sums → AreSumsOf (shape_at schemas count) [] one → sums' ≡ sums ++ one ∷ [] → AreNoneOf (count + 1) sums'
  none_more count sums sums' one none is push = subst (AreNoneOf (count + 1)) (sym push) (record {
    types = length-append sums (one ∷ []) ∙ (let types = none.types in omega (arith, types));
    each = λ t found at. (elim (behind_at sums one found t at) [
      | inl there ↦ none.each t found there
      | inr last ↦ subst (AreSumsOf (shape_at schemas t) []) last.1 (subst (λ n. AreSumsOf (shape_at schemas n) [] one) (sym (last.0 ∙ none.types)) is)
    ]);
  })

  pub none_all : (count : ℕ) (sums : List TypeSums) → AreNoneOf count sums → count ≡ length schemas → AreSums schemas (no_rows (length schemas)) sums
  none_all count sums none all = record {
    types = none.types ∙ all;
    each = λ t one at. subst (λ (rows : List Row). AreSumsOf (shape_at schemas t) rows one) (sym (no_live (length schemas) t)) (none.each t one at);
  }

-- ---- a row more, and a row less

-- sums of rows go by what is added up over them
same_sums : (shape : Shape) (rows other : List Row) (sums : TypeSums) → ((f : Row → ℕ) → sum_by f other ≡ sum_by f rows) → AreSumsOf shape rows sums → AreSumsOf shape other sums
same_sums shape rows other sums same are = record {
  parts = record {
    long = are.parts.long;
    counts = λ part bits inside. are.parts.counts part bits inside ∙ sym (same (takes shape part bits));
    bytes = λ part inside. are.parts.bytes part inside ∙ sym (same (bytes_at part));
  };
  items = are.items ∙ sym (same (items_in shape));
  bytes = are.bytes ∙ sym (same bytes_in);
}

module _ (schemas : List Schema) where
  -- the sums of one type change, and the rows of that type alone
  changed : (before after : Table) (t : ℕ) (changes : TypeSums → TypeSums → Type 0)
      → ((old new : TypeSums) → changes old new → AreSumsOf (shape_at schemas t) (live_rows before t) old → AreSumsOf (shape_at schemas t) (live_rows after t) new)
      → ((u : ℕ) → (u ≡ t → ⊥) → (f : Row → ℕ) → sum_by f (live_rows after u) ≡ sum_by f (live_rows before u)) → (sums sums' : List TypeSums) → AreSums schemas before sums → ChangesType changes t sums sums'
      → AreSums schemas after sums'
  changed before after t changes here beside sums sums' are by = subst (AreSums schemas after) (sym by.is) (record {
    types = length-set sums t by.new ∙ are.types;
    each = λ u one at. (elim (cases_eq u t) [
      | inl same ↦
          (let last : by.new ≡ one = set_here sums t by.new one (ap (slice_get (set sums t by.new)) (sym same) ∙ at) in
          subst (λ n. AreSumsOf (shape_at schemas n) (live_rows after n) one) (sym same)
          (subst (AreSumsOf (shape_at schemas t) (live_rows after t)) last (here by.old by.new by.changed (are.each t by.old by.was))))
      | inr apart ↦ same_sums (shape_at schemas u) (live_rows before u) (live_rows after u) one (beside u apart) (are.each u one (set_beside sums t u by.new one apart at))
    ]);
  })

  module _ (table after : Table) (t o : ℕ) (row : Row) (free : row_at table t o ≡ None) (here : row_at after t o ≡ Some row) (same : (u q : ℕ) → ((u ≡ t) × (q ≡ o) → ⊥) → row_at after u q ≡ row_at table u q) where
    more_rows : HaveRowMore row (live_rows table t) (live_rows after t)
    more_rows f =
        let more = rows_more f o row (rows_in table t) (rows_in after t) (get_in table t o ∙ free) (get_in after t o ∙ here) (λ q apart. get_in after t q ∙ same t q (λ both. apart both.1) ∙ sym (get_in table t q)) in
        omega (arith, more)

    other_rows : (u : ℕ) → (u ≡ t → ⊥) → (f : Row → ℕ) → sum_by f (live_rows after u) ≡ sum_by f (live_rows table u)
    other_rows u apart f = rows_same f (rows_in table u) (rows_in after u) (λ q. get_in after u q ∙ same u q (λ both. apart both.0) ∙ sym (get_in table u q))

    pub sums_more : (sums sums' : List TypeSums) → AreSums schemas table sums → ChangesType (AddsRow (shape_at schemas t) row) t sums sums' → AreSums schemas after sums'
    sums_more = changed table after t (AddsRow (shape_at schemas t) row) (λ old new adds are. adds (live_rows table t) (live_rows after t) more_rows are) other_rows

    pub sums_less : (sums sums' : List TypeSums) → AreSums schemas after sums → ChangesType (TakesRow (shape_at schemas t) row) t sums sums' → AreSums schemas table sums'
    sums_less = changed after table t (TakesRow (shape_at schemas t) row) (λ old new takes are. takes (live_rows table t) (live_rows after t) more_rows are) (λ u apart f. sym (other_rows u apart f))

-- a table with the same rows has the same sums
pub sums_same : (schemas : List Schema) (table other : Table) → ((u q : ℕ) → row_at other u q ≡ row_at table u q) → (sums : List TypeSums) → AreSums schemas table sums → AreSums schemas other sums
sums_same schemas table other same sums are = record {
  types = are.types;
  each = λ t one at.
      same_sums (shape_at schemas t) (live_rows table t) (live_rows other t) one
      (λ f. rows_same f (rows_in table t) (rows_in other t) (λ q. get_in other t q ∙ same t q ∙ sym (get_in table t q))) (are.each t one at);
}

-- there are as many sums
pub types_kept : (changes : TypeSums → TypeSums → Type 0) (t : ℕ) (before after : List TypeSums) → ChangesType changes t before after → length after ≡ length before
types_kept changes t before after by = ap (λ (sums : List TypeSums). length sums) by.is ∙ length-set before t by.new

pub types_added : (schemas : List Schema) (table : Table) (t o : ℕ) (before after : List TypeSums) → IsLive table t o → AddsRowAt schemas table t o before after → length after ≡ length before
types_added schemas table t o before after live adds =
    let row = live_row (row_at table t o) live in
    types_kept (AddsRow (shape_at schemas t) row.0) t before after (adds row.0 row.1)

-- the sums of a type change, as a call at its place tells it
pub type_changed : (changes : Shape → Row → TypeSums → TypeSums → Type 0) (schemas : List Schema) (t : ℕ) (schema : Schema) → slice_get schemas t ≡ Some schema → (sums : List TypeSums) → t < length sums → (one other : TypeSums)
    → one ≡ get_or sums t one → (lent row : Row) → Some row ≡ Some lent → changes schema.shape lent one other → ChangesType (changes (shape_at schemas t) row) t sums (set sums t other)
type_changed changes schemas t schema at sums inside one other read lent row here by =
    let same : lent ≡ row = cc in
    record {
      old = one;
      new = other;
      was = slice_get-get_or sums t one inside ∙ ap (λ (x : TypeSums). Some x) (sym read);
      changed = subst (λ (shape : Shape). changes shape row one other) (sym (shape_is schemas t schema at)) (subst (λ (r : Row). changes schema.shape r one other) same by);
      is = refl;
    }

-- the sums at the place of a type are those of its rows
pub sums_at : (schemas : List Schema) (rows : ℕ → List Row) (sums : List TypeSums) → AreSumsBy schemas rows sums → (t : ℕ) → t < length schemas → (one : TypeSums) → one ≡ get_or sums t one → (schema : Schema)
    → slice_get schemas t ≡ Some schema → AreSumsOf schema.shape (rows t) one
sums_at schemas rows sums are t known one read schema at =
    let inside : t < length sums = (let types = are.types in omega (arith, known, types)) in
    subst (λ (shape : Shape). AreSumsOf shape (rows t) one) (shape_is schemas t schema at) (are.each t one (slice_get-get_or sums t one inside ∙ ap (λ (x : TypeSums). Some x) (sym read)))

-- ---- the rows of both states

module _ (old new both : Table) (are : IsFromEither old new both) (t q : ℕ) where
  none_of_both : (found : Option Row) → row_at both t q ≡ found → row_at old t q ≡ None → row_at new t q ≡ None → row_at both t q ≡ None
  none_of_both None is was now = is
  none_of_both (Some row) is was now =
      elim (are.either t q row is) [
        | inl here ↦ (let none = sym here ∙ was in absurd cc)
        | inr here ↦ (let none = sym here ∙ now in absurd cc)
      ]

  splits_at : (a : Option Row) → row_at old t q ≡ a → (b : Option Row) → row_at new t q ≡ b → Splits (get (rows_in old t) q) (get (rows_added old new t) q) (get (rows_in both t) q)
  splits_at (Some a) was b now = inl (added_live old new t q (ap is_some was), get_in both t q ∙ are.first t q a was ∙ sym was ∙ sym (get_in old t q))
  splits_at None was (Some b) now =
      inr (get_in old t q ∙ was, get_in both t q ∙ are.second t q b now ∙ sym (added_some old new t q b (λ live. let none = sym live ∙ ap is_some was in absurd cc) now))
  splits_at None was None now = inr (get_in old t q ∙ was, get_in both t q ∙ none_of_both (row_at both t q) refl was now ∙ sym (added_none old new t q now))

pub sums_of_both : (schemas : List Schema) (old new both : Table) → IsFromEither old new both → (sums : List TypeSums) → AreSums schemas both sums → AreSumsOfBoth schemas old new sums
sums_of_both schemas old new both from sums are = record {
  types = are.types;
  each = λ t one at.
      same_sums (shape_at schemas t) (live_rows both t) (rows_of_both old new t) one
      (λ f.
      sum_by-append f (rows_from 0 (rows_in old t)) (rows_from 0 (rows_added old new t))
      ∙ sym (rows_split f (rows_in old t) (rows_added old new t) (rows_in both t) (λ q. splits_at old new both from t q (row_at old t q) refl (row_at new t q) refl)))
      (are.each t one at);
}
