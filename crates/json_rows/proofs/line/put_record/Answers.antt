use Rattle.std.proofs.Common.{◌≡◌, ◌<◌, [], ◌∷◌, ◌++◌, length, drop, sym, ap, ◌∙◌, subst, arith, append_assoc}
use Rattle.std.proofs.lemmas.List.{drop_all}
use Rattle.json_rows.specs.LineForm.{text_at}
use Rattle.json_rows.proofs.Behind.{front_of, front_then}
use Rattle.json_rows.proofs.Orders.{place_within}
use Rattle.json_rows.proofs.Put.{field_put}
use Rattle.json_rows.proofs.line.put_record.Goals as goal

pub loop-lead-init : goal.loop-lead-init
loop-lead-init c = (
  (λ printed all. ap (λ t. t ++ text_at c.args.leads.now printed (125 ∷ [])) c.in_ok-push.ensures.items ∙ append_assoc c.args.out.now.items (123 ∷ []) (text_at c.args.leads.now printed (125 ∷ []))),
  front_of _ _ _ c.in_ok-push.ensures.items,
)

pub loop-lead-preserved : goal.loop-lead-preserved
loop-lead-preserved c =
    let l = c.loop-lead in
    let leads = c.args.leads.now in
    let values = c.args.values.now in
    let lead = c.lead-item.result in
    let within : lead.1 < length values = subst (λ x. x.1 < length values) (sym c.lead-item.is) (place_within (length values) leads l.lead-index lead c.requires (omega arith)) in (
      (λ printed all. field_put leads values printed l.lead-index lead c.index-values-lead.result (125 ∷ []) _ _ _ _ (omega arith) c.lead-item.is all within c.index-values-lead.is
          (c.in_ok-extend_from_slice.ensures.items ∙ ap (λ t. l.out.items ++ t) c.as_bytes.ensures.value) c.in_ok-put_value.ensures.put (l.invariant.0 printed all)),
      front_then _ _ _ (front_then _ _ _ l.invariant.1 (front_of _ _ _ c.in_ok-extend_from_slice.ensures.items)) c.in_ok-put_value.ensures.front,
    )

pub returns-in_err-put_value-clause-front : goal.returns-in_err-put_value-clause-front
returns-in_err-put_value-clause-front c =
    front_then _ _ _ (front_then _ _ _ c.loop-lead.invariant.1 (front_of _ _ _ c.in_ok-extend_from_slice.ensures.items)) c.in_err-put_value.ensures.front

pub returns-clause-put : goal.returns-clause-put
returns-clause-put c = λ printed all.
    let l = c.loop-lead in
    let none : drop l.lead-index c.args.leads.now ≡ [] = drop_all l.lead-index c.args.leads.now (omega arith) in
    c.in_ok-push-2.ensures.items ∙ ap (λ ls. l.out.items ++ text_at ls printed (125 ∷ [])) (sym none) ∙ l.invariant.0 printed all
