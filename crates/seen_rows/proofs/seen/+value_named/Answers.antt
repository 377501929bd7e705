use Rattle.std.proofs.Common.{◌≡◌, subst, sym, ◌∙◌, arith}
use Rattle.std.specs.Prelude.{MatchOption}
use Rattle.std.proofs.lemmas.Slice.Eq.{bytes_eq-Decides}
use Rattle.row_model.specs.declared.row.Value.{Value}
use Rattle.seen_rows.proofs.NamedValues.{named_first, named_later, no_fields, no_values}
use Rattle.seen_rows.proofs.seen.+value_named.Goals as goal

pub returns-in_default : goal.returns-in_default
returns-in_default t c = no_fields c.args.name.now c.args.fields.now c.args.values.now (omega (arith, c.in_default.len_below))

pub returns-in_default-values : goal.returns-in_default-values
returns-in_default-values t c = no_values c.args.name.now c.args.fields.now c.args.values.now (omega (arith, c.in_default-values.len_below))

pub returns-then-eq : goal.returns-then-eq
returns-then-eq t c =
    named_first c.args.name.now c.args.fields.now c.args.values.now c.field-item.result c.value-item.result (omega (arith, c.in-len1-up.len_at_least)) (omega (arith, c.in-len1-up-values.len_at_least))
    c.field-item.is c.value-item.is (sym c.text.ensures ∙ (bytes_eq-Decides c.text.result.now c.args.name.now).0 (sym c.eq.ensures ∙ c.if-eq.true))

pub returns : goal.returns
returns t c =
    subst (λ (x : Value). MatchOption c.value_named.result (x ≡ Value.Null) (λ value. x ≡ value.now))
    (sym (named_later c.args.name.now c.args.fields.now c.args.values.now c.field-item.result (omega (arith, c.in-len1-up.len_at_least)) (omega (arith, c.in-len1-up-values.len_at_least)) c.field-item.is
    (λ same. let equal = c.eq.ensures ∙ (bytes_eq-Decides c.text.result.now c.args.name.now).1 (c.text.ensures ∙ same) in absurd cc)))
    c.value_named.ensures
