use Rattle.std.proofs.Common.{◌≡◌, [], ◌∷◌, ◌++◌, decimal, get_or, subst, ap, ◌∙◌, arith, append_assoc}
use Rattle.serde_json.specs.Data.{number, unsigned}
use Rattle.list_codec.specs.Elements.{elements_of}
use Rattle.list_codec.proofs.ListElements.{elements_long}
use Rattle.json_rows.proofs.Behind.{front_of, front_then}
use Rattle.json_rows.proofs.Put.{item_put, items_put, items_from}
use Rattle.json_rows.proofs.line.put_elements.Goals as goal

pub loop-index-init : goal.loop-index-init
loop-index-init c =
    let elements = elements_of c.args.elements in (
      ap (λ t. t ++ items_from (λ n. number (unsigned n)) elements 0) c.in_ok-push.ensures.items ∙ append_assoc c.args.out.now.items (91 ∷ []) (items_from (λ n. number (unsigned n)) elements 0),
      front_of _ _ _ c.in_ok-push.ensures.items,
    )

pub loop-index-preserved : goal.loop-index-preserved
loop-index-preserved c =
    let l = c.loop-index in
    let elements = elements_of c.args.elements in
    let text : c.put_unsigned.new.out.items ≡ c.put_comma.new.out.items ++ decimal (get_or elements l.index 0) = subst (λ n. c.put_unsigned.new.out.items ≡ c.put_comma.new.out.items ++ decimal n) c.element.ensures c.in_ok-put_unsigned.ensures.put in (
      item_put (λ n. number (unsigned n)) elements l.index 0 _ _ _ _ (omega (arith, elements_long c.args.elements)) c.in_ok-put_comma.ensures.put text l.invariant.0,
      front_then _ _ _ (front_then _ _ _ l.invariant.1 (front_of _ _ _ c.in_ok-put_comma.ensures.put)) (front_of _ _ _ text),
    )

pub returns-clause-put : goal.returns-clause-put
returns-clause-put c = items_put (λ n. number (unsigned n)) (elements_of c.args.elements) c.loop-index.index _ _ _ (omega (arith, elements_long c.args.elements)) c.in_ok-push-2.ensures.items c.loop-index.invariant.0
