-- Each single trial of a blob comes out in one way.
use Rattle.std.proofs.Common.{◌≡◌, ◌≤◌, ◌<◌, ◌∙◌, ℕ, List, Option, Some, inl, inr, refl, sym, ap, subst, arith, slice_get, cond, eqb}
use Rattle.std.specs.Prelude.{◌≢◌}
use Rattle.std.proofs.lemmas.Bool.{cases_order}
use Rattle.schema_model.specs.declared.model.rule.Rule.{Rule}
use Rattle.schema_model.specs.declared.model.rule.Rule.TheVariants.{DuplicateName, UnknownType, TooDeep, BadPath}
use Rattle.schema_model.specs.declared.reason.Reason.{Reason}
use Rattle.schema_model.specs.declared.reason.Reason.TheVariants.{BadSchema, Dangling as dangles}
use Rattle.schema_model.specs.declared.schema.Schema.{Schema}
use Rattle.schema_model.specs.declared.schema.name.Name.{Name}
use Rattle.schema_model.specs.Model.{IsFirstBreaking, IsKept, IsModel, rule_place}
use Rattle.closed_rows.specs.declared.dangling.Dangling.{Dangling}
use Rattle.closed_rows.specs.Dangling.{IsClosedAt, TellsDangling, TellsType}
use Rattle.row_model.specs.Table.{RowMap, Table, IsClosed}
use Rattle.type_rows.specs.declared.fault.RowFault.{RowFault}
use Rattle.type_rows.specs.declared.patch.PatchSection.{PatchSection}
use Rattle.type_rows.specs.declared.section.Section.{Section}
use Rattle.type_rows.specs.Loads.{Loads}
use Rattle.type_rows.specs.Patches.{IsMovedBy}
use Rattle.type_rows.proofs.SectionRows as section_rows
use Rattle.type_rows.proofs.MovedRows as moved_rows
use Rattle.type_rows.specs.LoadFault.{FailsLoad}
use Rattle.type_rows.specs.MoveFault.{FailsMove}
use Rattle.type_rows.proofs.LoadFaults.{load_fault_once, load_or_fault}
use Rattle.type_rows.proofs.MoveFaults.{move_fault_once, moved_or_fault}
use Rattle.blob_grammar.specs.Form.{Form}
use Rattle.blob_frame.specs.declared.fault.BlobFault.{BlobFault}
use Rattle.blob_frame.specs.declared.fault.BlobFault.TheVariants as fault
use Rattle.blob_faults.specs.Blame.{BlamesRow, BlamesRows, row_blame}
use Rattle.blob_faults.specs.Deciding.{Decides, IsOwn}
use Rattle.blob_faults.specs.Failing.{IsFirstFailing, IsTest}

-- a number that is no more than another is not above it
pub not_longer : {most n : ℕ} → n ≤ most → most < n → ⊥
not_longer p q = absurd (omega (arith, p, q))

-- the same option has one content
one_content : {A : Type 0} (o : Option A) (a b : A) → o ≡ Some a → o ≡ Some b → a ≡ b
one_content o a b p q = let e : Some a ≡ Some b = sym p ∙ q in cc

-- ---- forms

pub decides_standing : {V : Type 0} (form : Form V) (blob : List ℕ) (at : ℕ) →
    Decides (λ (p : V × ℕ). form.Stands blob at p.0 p.1) (λ found. (place : ℕ) × (why : Reason) × form.Stuck blob at place why × (found ≡ fault.Bad place why))
decides_standing form blob at = record {
  one = λ v w p q. let same = form.decided.one blob at v.0 w.0 v.1 w.1 p q in (λ i. (same.0 i, same.1 i));
  once = λ a b p q. let same = form.decided.once blob at p.0 q.0 p.1 q.1 p.2 q.2 in p.3 ∙ (λ i. fault.Bad (same.0 i) (same.1 i)) ∙ sym q.3;
  apart = λ v found p q. form.decided.apart blob at v.0 v.1 q.0 q.1 p q.2;
  own = λ found p. subst IsOwn (sym p.3) tt;
}

-- ---- schemas

-- the test at a place
abbrev test_at : ℕ → Rule
test_at n = cond (eqb n 2) DuplicateName (cond (eqb n 4) UnknownType (cond (eqb n 6) TooDeep BadPath))

test_at-rule_place : (rule : Rule) → IsTest rule → test_at (rule_place rule) ≡ rule
test_at-rule_place DuplicateName is = refl
test_at-rule_place UnknownType is = refl
test_at-rule_place TooDeep is = refl
test_at-rule_place BadPath is = refl
test_at-rule_place _ is = absurd is

-- tests at one place are one
same_test : (r s : Rule) → IsTest r → IsTest s → rule_place r ≡ rule_place s → r ≡ s
same_test r s p q same = sym (test_at-rule_place r p) ∙ ap test_at same ∙ test_at-rule_place s q

-- the first type that breaks a rule is one
first_once : (schemas : List Schema) (rule : Rule) (t u : ℕ) → IsFirstBreaking schemas rule t → IsFirstBreaking schemas rule u → t ≡ u
first_once schemas rule t u one other =
    elim (cases_order t u) [
      | inl same ↦ same
      | inr (inl less) ↦ absurd (other.least t less one.broken)
      | inr (inr more) ↦ absurd (one.least u more other.broken)
    ]

failing_once : (schemas : List Schema) (t u : ℕ) → IsFirstFailing schemas t → IsFirstFailing schemas u → t ≡ u
failing_once schemas t u one other =
    elim (cases_order (rule_place one.rule) (rule_place other.rule)) [
      | inl same ↦ first_once schemas one.rule t u one.first (subst (λ (r : Rule). IsFirstBreaking schemas r u) (sym (same_test one.rule other.rule one.is_test other.is_test same)) other.first)
      | inr (inl less) ↦ absurd (other.earlier one.rule one.is_test less t one.first.broken)
      | inr (inr more) ↦ absurd (one.earlier other.rule other.is_test more u other.first.broken)
    ]

-- the fault of the schema at an index is one
blame_once : (offsets : List ℕ) (t u : ℕ) (a b : BlobFault) → t ≡ u → ((at : ℕ) × (slice_get offsets t ≡ Some at) × (a ≡ fault.Bad at BadSchema)) →
    ((at : ℕ) × (slice_get offsets u ≡ Some at) × (b ≡ fault.Bad at BadSchema)) → a ≡ b
blame_once offsets t u a b same p q =
    let here : slice_get offsets t ≡ Some q.0 = ap (λ n. slice_get offsets n) same ∙ q.1 in
    p.2 ∙ ap (λ at. fault.Bad at BadSchema) (one_content (slice_get offsets t) p.0 q.0 p.1 here) ∙ sym q.2

pub decides_model : (offsets : List ℕ) (schemas : List Schema) →
    Decides {V = Unit} (λ u. IsModel schemas) (λ found. (t : ℕ) × IsFirstFailing schemas t × ((at : ℕ) × (slice_get offsets t ≡ Some at) × (found ≡ fault.Bad at BadSchema)))
decides_model offsets schemas = record {
  one = λ v w p q. refl;
  once = λ a b p q. blame_once offsets p.0 q.0 a b (failing_once schemas p.0 q.0 p.1 q.1) p.2 q.2;
  apart = λ v found p q. p q.1.rule q.0 q.1.first.broken;
  own = λ found p. subst IsOwn (sym p.2.2) tt;
}

pub decides_names : (offsets : List ℕ) (schemas : List Schema) →
    Decides {V = Unit} (λ u. IsKept schemas DuplicateName)
    (λ found. (t : ℕ) × IsFirstBreaking schemas DuplicateName t × ((at : ℕ) × (slice_get offsets t ≡ Some at) × (found ≡ fault.Bad at BadSchema)))
decides_names offsets schemas = record {
  one = λ v w p q. refl;
  once = λ a b p q. blame_once offsets p.0 q.0 a b (first_once schemas DuplicateName p.0 q.0 p.1 q.1) p.2 q.2;
  apart = λ v found p q. p q.0 q.1.broken;
  own = λ found p. subst IsOwn (sym p.2.2) tt;
}

-- ---- rows

-- a fault of rows that is not want of memory is one of the blob
own_rows : (at : ℕ) (name : Name) (why : RowFault) → why ≢ RowFault.Memory → IsOwn (row_blame at name why)
own_rows at name (RowFault.At reason ordinal) some = tt
own_rows at name (RowFault.Limit limit) some = tt
own_rows at name RowFault.Memory some = absurd (some refl)

pub decides_loads : (at : ℕ) (schema : Schema) (section : Section) → Decides (Loads schema.shape section) (BlamesRows (FailsLoad schema.shape section) at schema.name)
decides_loads at schema section = record {
  one = λ v w p q. section_rows.one_state schema.shape section v w p.is q.is;
  once = λ a b p q. p.3 ∙ ap (λ (why : RowFault). row_blame at schema.name why) (load_fault_once schema.shape section p.0 q.0 p.1 q.1 p.2 q.2) ∙ sym q.3;
  apart = λ v found p q. load_or_fault schema.shape section v q.0 q.1 p q.2;
  own = λ found p. subst IsOwn (sym p.3) (own_rows at schema.name p.0 p.1);
}

pub decides_moves : (at : ℕ) (schema : Schema) (patch : PatchSection) (old : RowMap) →
    Decides (IsMovedBy schema.shape patch old) (BlamesRows (FailsMove schema.shape patch old) at schema.name)
decides_moves at schema patch old = record {
  one = λ v w p q. moved_rows.one_move schema.shape patch old v w p q;
  once = λ a b p q. p.3 ∙ ap (λ (why : RowFault). row_blame at schema.name why) (move_fault_once schema.shape patch old p.0 q.0 p.1 q.1 p.2 q.2) ∙ sym q.3;
  apart = λ v found p q. moved_or_fault schema.shape patch old v q.0 q.1 p q.2;
  own = λ found p. subst IsOwn (sym p.3) (own_rows at schema.name p.0 p.1);
}

-- ---- closedness

-- in a closed table each row names live ordinals alone
closed_at : (schemas : List Schema) (table : Table) → IsClosed schemas table → (t ordinal : ℕ) → IsClosedAt schemas table t ordinal
closed_at schemas table closed t ordinal schema row at there = closed t ordinal schema row at there

ordinal_once : (schemas : List Schema) (table : Table) (t a b : ℕ) → TellsType schemas table t (Some a) → TellsType schemas table t (Some b) → a ≡ b
ordinal_once schemas table t a b one other =
    elim (cases_order a b) [
      | inl same ↦ same
      | inr (inl less) ↦ absurd (one.0 (other.1 a less))
      | inr (inr more) ↦ absurd (other.0 (one.1 b more))
    ]

dangling_once : (schemas : List Schema) (table : Table) (a b : Dangling) → TellsDangling schemas table (Some a) → TellsDangling schemas table (Some b) → a ≡ b
dangling_once schemas table a b one other =
    elim (cases_order a.type_index b.type_index) [
      | inl same ↦
          let ordinals = ordinal_once schemas table a.type_index a.ordinal b.ordinal one.0 (subst (λ (t : ℕ). TellsType schemas table t (Some b.ordinal)) (sym same) other.0) in
          (λ i. record { type_index = same i; ordinal = ordinals i })
      | inr (inl less) ↦ absurd (one.0.0 (other.1 a.type_index a.ordinal less))
      | inr (inr more) ↦ absurd (other.0.0 (one.1 b.type_index b.ordinal more))
    ]

blamed_once : (offsets : List ℕ) (schemas : List Schema) (row : Dangling) (a b : BlobFault) → BlamesRow offsets schemas row a → BlamesRow offsets schemas row b → a ≡ b
blamed_once offsets schemas row a b p q =
    let places = one_content (slice_get offsets row.type_index) p.0 q.0 p.2 q.2 in
    let types = one_content (slice_get schemas row.type_index) p.1 q.1 p.3 q.3 in
    p.4 ∙ (λ i. fault.BadRow (places i) dangles (types i).name row.ordinal) ∙ sym q.4

pub decides_closed : (offsets : List ℕ) (schemas : List Schema) (table : Table) →
    Decides {V = Unit} (λ u. IsClosed schemas table) (λ found. (row : Dangling) × TellsDangling schemas table (Some row) × BlamesRow offsets schemas row found)
decides_closed offsets schemas table = record {
  one = λ v w p q. refl;
  once = λ a b p q.
      blamed_once offsets schemas q.0 a b (subst (λ (row : Dangling). BlamesRow offsets schemas row a) (dangling_once schemas table p.0 q.0 p.1 q.1) p.2) q.2;
  apart = λ v found p q. q.1.0.0 (closed_at schemas table p q.0.type_index q.0.ordinal);
  own = λ found p. subst IsOwn (sym p.2.4) tt;
}
