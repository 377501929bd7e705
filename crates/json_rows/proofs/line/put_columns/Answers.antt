use Rattle.std.proofs.Common.{◌≡◌, ◌<◌, [], ◌∷◌, ◌++◌, length, drop, refl, sym, ap, ◌∙◌, subst, arith, append_assoc}
use Rattle.std.proofs.lemmas.List.{drop_all}
use Rattle.std.proofs.lemmas.Option.{slice_get_read}
use Rattle.row_model.specs.Key.{value_in}
use Rattle.json_rows.specs.LineForm.{text_at}
use Rattle.json_rows.proofs.Behind.{front_of, front_then}
use Rattle.json_rows.proofs.Orders.{place_within}
use Rattle.json_rows.proofs.Stands.{column_put}
use Rattle.json_rows.proofs.line.put_columns.Goals as goal

pub loop-lead-init : goal.loop-lead-init
loop-lead-init g c = (
  (λ values at long printed all. ap (λ t. t ++ text_at c.args.leads.now printed (125 ∷ [])) c.in_ok-push.ensures.items ∙ append_assoc c.args.out.now.items (123 ∷ []) (text_at c.args.leads.now printed (125 ∷ []))),
  front_of _ _ _ c.in_ok-push.ensures.items,
)

pub put_field-requires-clause-column : goal.put_field-requires-clause-column
put_field-requires-clause-column g c =
    let columns = c.args.columns.now in
    let within : c.lead-item.result.1 < length columns = subst (λ x. x.1 < length columns) (sym c.lead-item.is) (place_within (length columns) c.args.leads.now c.loop-lead.lead-index c.lead-item.result c.requires.below (omega arith)) in
    c.requires.columns.each c.lead-item.result.1 c.index-columns-lead.result (slice_get_read columns (length columns) c.lead-item.result.1 c.index-columns-lead.result refl within c.index-columns-lead.is)

pub put_field-requires-clause-few : goal.put_field-requires-clause-few
put_field-requires-clause-few g c =
    let columns = c.args.columns.now in
    let within : c.lead-item.result.1 < length columns = subst (λ x. x.1 < length columns) (sym c.lead-item.is) (place_within (length columns) c.args.leads.now c.loop-lead.lead-index c.lead-item.result c.requires.below (omega arith)) in
    omega (arith, within, c.requires.columns.few)

pub loop-lead-preserved : goal.loop-lead-preserved
loop-lead-preserved g c =
    let l = c.loop-lead in
    let leads = c.args.leads.now in
    let lead = c.lead-item.result in
    let columns = c.args.columns.now in
    let within : lead.1 < length columns = subst (λ x. x.1 < length columns) (sym c.lead-item.is) (place_within (length columns) leads l.lead-index lead c.requires.below (omega arith)) in (
      (λ values at long printed all. column_put leads values printed l.lead-index lead (125 ∷ []) _ _ _ _ (omega arith) c.lead-item.is all (omega (arith, within, long))
          (c.in_ok-extend_from_slice.ensures.items ∙ ap (λ t. l.out.items ++ t) c.as_bytes.ensures.value)
          (λ value there. c.in_ok-put_field.ensures.put value (ap (λ row. value_in row lead.1) at ∙ there)) (l.invariant.0 values at long printed all)),
      front_then _ _ _ (front_then _ _ _ l.invariant.1 (front_of _ _ _ c.in_ok-extend_from_slice.ensures.items)) c.in_ok-put_field.ensures.front,
    )

pub returns-in_err-put_field-clause-front : goal.returns-in_err-put_field-clause-front
returns-in_err-put_field-clause-front g c =
    front_then _ _ _ (front_then _ _ _ c.loop-lead.invariant.1 (front_of _ _ _ c.in_ok-extend_from_slice.ensures.items)) c.in_err-put_field.ensures.front

pub returns-clause-put : goal.returns-clause-put
returns-clause-put g c = λ values at long printed all.
    let l = c.loop-lead in
    let none : drop l.lead-index c.args.leads.now ≡ [] = drop_all l.lead-index c.args.leads.now (omega arith) in
    c.in_ok-push-2.ensures.items ∙ ap (λ ls. l.out.items ++ text_at ls printed (125 ∷ [])) (sym none) ∙ l.invariant.0 values at long printed all
