-- Tables whose rows differ in no type are the same.
use Rattle.std.proofs.Common.{rules, ◌≡◌, ℕ, suc, List, [], ◌∷◌, length, sym, ap, ◌∙◌, refl, arith, inl, inr}
use Rattle.std.specs.Prelude.{Contains}
use Rattle.std.specs.Coded.{Coded, coded_ℕ}
use Rattle.std.specs.FinMap.{code}
use Rattle.std.proofs.lemmas.Bool.{cases_eq}
use base.Stored.{Gv, gnil, gnum, gcons, num}
use Rattle.row_model.specs.contracts.row.Row as row_contract
use Rattle.schema_model.specs.declared.schema.Schema.{Schema}
use Rattle.row_model.specs.Table.{Table}
use Rattle.write_engine.specs.Cycle.{rows_in}
use Rattle.write_engine.specs.Production.{AreChanged}

-- codes that are not apart are the same
one_code : (a b : Gv) → ¬ (¬ (a ≡ b)) → a ≡ b
one_code gnil gnil h = refl
one_code gnil (gnum n) h = absurd (h (λ e. absurd cc))
one_code gnil (gcons c d) h = absurd (h (λ e. absurd cc))
one_code (gnum m) gnil h = absurd (h (λ e. absurd cc))
one_code (gnum m) (gnum n) h = elim (cases_eq m n) [
  | inl same ↦ ap gnum same
  | inr apart ↦ absurd (h (λ e. apart (ap num e)))
]
one_code (gnum m) (gcons c d) h = absurd (h (λ e. absurd cc))
one_code (gcons a b) gnil h = absurd (h (λ e. absurd cc))
one_code (gcons a b) (gnum n) h = absurd (h (λ e. absurd cc))
one_code (gcons a b) (gcons c d) h =
    let first : a ≡ c = one_code a c (λ apart. h (λ e. apart (cc))) in
    let second : b ≡ d = one_code b d (λ apart. h (λ e. apart (cc))) in
    λ i. gcons (first i) (second i)

-- and so are the values of a type that has codes
one_value : {A : Type 0} (coded : Coded A) (x y : A) → ¬ (¬ (x ≡ y)) → x ≡ y
one_value coded x y h = coded.inj x y (one_code (coded.code x) (coded.code y) (λ apart. h (λ e. apart (ap coded.code e))))

one_table : (previous current : Table) → length current ≡ length previous → ((t : ℕ) → rows_in current t ≡ rows_in previous t) → current ≡ previous
one_table [] [] long same = refl
one_table [] (r ∷ current) long same = absurd (omega (arith, long))
one_table (q ∷ previous) [] long same = absurd (omega (arith, long))
one_table (q ∷ previous) (r ∷ current) long same =
    let rest = one_table previous current (omega (arith, long)) (λ t. same (suc t)) in
    λ i. same 0 i ∷ rest i

none_in : (t : ℕ) → Contains [] t → ⊥
none_in t c = search rules

pub unchanged : (schemas : List Schema) (previous current : Table) → length previous ≡ length schemas → length current ≡ length schemas → AreChanged previous current [] → current ≡ previous
unchanged schemas previous current long long' changed =
    one_table previous current (long' ∙ sym long)
    (λ t. one_value (code coded_ℕ (row_contract.the_row).coded) (rows_in current t) (rows_in previous t) (λ apart. none_in t ((changed.same t).1 apart)))
