-- The first rule that schemas break: there is one answer, and the tests of the rules in their order give it.
use Rattle.std.proofs.Common.{◌≡◌, ℕ, ◌+◌, ◌<◌, ◌∙◌, sym, ap, subst, refl, List, Result, Ok, Err, arith, inl, inr, eqb, cond, lit<}
use Rattle.std.specs.Prelude.{IsErrAnd, MatchResult}
use Rattle.std.proofs.lemmas.Bool.{cases_order, cases_lt}
use Rattle.hol_varint.specs.Yields.{Yields}
use Rattle.model_rules.specs.RuleTests.{TellsBroken}
use Rattle.schema_model.specs.Faults.{IsFreeModel, TellsFault, TellsModel}
use Rattle.schema_model.specs.Model.{BreaksAt, IsKept, IsModel, IsFirstBroken, rule_place}
use Rattle.schema_model.specs.declared.model.faults.ModelFault.{ModelFault}
use Rattle.schema_model.specs.declared.model.faults.ModelFault.TheVariants.{Broken, Memory}
use Rattle.schema_model.specs.declared.model.rule.Rule.{Rule}
use Rattle.schema_model.specs.declared.model.rule.Rule.TheVariants.{TooMany, LongName, DuplicateName, FloatField, UnknownType, CyclicModel, TooDeep, BadPath}
use Rattle.schema_model.specs.declared.schema.Schema.{Schema}

-- the rule at a place
abbrev rule_of : ℕ → Rule
rule_of n = cond (eqb n 0) TooMany (cond (eqb n 1) LongName (cond (eqb n 2) DuplicateName (cond (eqb n 3) FloatField (cond (eqb n 4) UnknownType (cond (eqb n 5) CyclicModel (cond (eqb n 6) TooDeep BadPath))))))

rule_of-rule_place : (rule : Rule) → rule_of (rule_place rule) ≡ rule
rule_of-rule_place TooMany = refl
rule_of-rule_place LongName = refl
rule_of-rule_place DuplicateName = refl
rule_of-rule_place FloatField = refl
rule_of-rule_place UnknownType = refl
rule_of-rule_place CyclicModel = refl
rule_of-rule_place TooDeep = refl
rule_of-rule_place BadPath = refl

same_rule : (r s : Rule) → rule_place r ≡ rule_place s → r ≡ s
same_rule r s e = sym (rule_of-rule_place r) ∙ ap rule_of e ∙ rule_of-rule_place s

-- The first rules are kept.
abbrev pub Passed : List Schema → ℕ → Type 0
Passed schemas n = (rule : Rule) → rule_place rule < n → IsKept schemas rule

pub passed_none : (schemas : List Schema) → Passed schemas 0
passed_none schemas rule below = absurd (omega arith)

pub passed_more : (schemas : List Schema) (rule : Rule) (n : ℕ) → rule_place rule ≡ n → Passed schemas n → IsKept schemas rule → Passed schemas (n + 1)
passed_more schemas rule n place before kept other below =
    elim (cases_lt (rule_place other) n) [
      | inl less ↦ before other less
      | inr more ↦ subst (λ r. IsKept schemas r) (same_rule rule other (omega arith)) kept
    ]

place_below : (rule : Rule) → rule_place rule < 8
place_below TooMany = lit< tt
place_below LongName = lit< tt
place_below DuplicateName = lit< tt
place_below FloatField = lit< tt
place_below UnknownType = lit< tt
place_below CyclicModel = lit< tt
place_below TooDeep = lit< tt
place_below BadPath = lit< tt

-- schemas that keep all rules are a model
pub all_passed : (schemas : List Schema) → Passed schemas 8 → IsModel schemas
all_passed schemas passed rule = passed rule (place_below rule)

-- what the fault of the test of a rule tells, where the rules before are kept
pub fault_told : (schemas : List Schema) (rule : Rule) (fault : ModelFault) → Passed schemas (rule_place rule) → TellsBroken schemas rule fault → TellsFault schemas fault
fault_told schemas rule (Broken r t) passed (same, broken, least) =
    subst (λ x. IsFirstBroken schemas x t) (sym same) (record { earlier = passed; broken = broken; least = least })
fault_told schemas rule Memory passed told = tt

-- there is one first rule and one first type
first_once : (schemas : List Schema) (r s : Rule) (t u : ℕ) → IsFirstBroken schemas r t → IsFirstBroken schemas s u → (r ≡ s) × (t ≡ u)
first_once schemas r s t u a b =
    elim (cases_order (rule_place r) (rule_place s)) [
      | inl e ↦
          let rules = same_rule r s e in (
            rules,
            elim (cases_order t u) [
              | inl same ↦ same
              | inr (inl less) ↦ absurd (b.least t less (subst (λ x. BreaksAt schemas x t) rules a.broken))
              | inr (inr more) ↦ absurd (a.least u more (subst (λ x. BreaksAt schemas x u) (sym rules) b.broken))
            ],
          )
      | inr (inl less) ↦ absurd (b.earlier r less t a.broken)
      | inr (inr more) ↦ absurd (a.earlier s more u b.broken)
    ]

-- a model is made exactly where the schemas are one
pub made : (schemas : List Schema) (r : Result (List Schema) ModelFault) → TellsModel schemas r → Yields IsFreeModel r (Ok schemas) (IsModel schemas)
made schemas (Ok model) (same, is) = (λ e. is, λ p. inl (ap Ok same))
made schemas (Err (Broken rule t)) first = (λ e. absurd cc, λ p. absurd (p rule t first.broken))
made schemas (Err Memory) told = (λ e. absurd cc, λ p. inr tt)

-- a rule and a type are named exactly where they are the first
pub named : (schemas : List Schema) (rule : Rule) (t : ℕ) (r : Result (List Schema) ModelFault) → TellsModel schemas r → Yields IsFreeModel r (Err (Broken rule t)) (IsFirstBroken schemas rule t)
named schemas rule t (Ok model) (same, is) = (λ e. absurd cc, λ first. absurd (is rule t first.broken))
named schemas rule t (Err (Broken s u)) found = (
  λ e. let rules : s ≡ rule = cc in let types : u ≡ t = cc in subst (λ x. IsFirstBroken schemas x t) rules (subst (λ n. IsFirstBroken schemas s n) types found),
  λ first. let same = first_once schemas s rule u t found first in inl (ap (λ x. Err (Broken x u)) same.0 ∙ ap (λ n. Err (Broken rule n)) same.1),
)
named schemas rule t (Err Memory) told = (λ e. absurd cc, λ first. inr tt)

-- what the exit of a `?` tells
pub exit_told : {T : Type 0} (r : Result T ModelFault) (fault : ModelFault) (P : T → Type 0) (Q : ModelFault → Type 0) → IsErrAnd r (λ e. e ≡ fault) → Q fault → MatchResult r P Q
exit_told (Ok x) fault P Q is told = absurd is
exit_told (Err e) fault P Q is told = subst Q (sym is) told

-- the same at a result that is a model
pub model_exit : (schemas : List Schema) (r : Result (List Schema) ModelFault) (fault : ModelFault) → IsErrAnd r (λ e. e ≡ fault) → TellsFault schemas fault → TellsModel schemas r
model_exit schemas (Ok x) fault is told = absurd is
model_exit schemas (Err e) fault is told = subst (TellsFault schemas) (sym is) told
