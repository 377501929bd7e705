use Rattle.std.proofs.Common.{◌≡◌, [], ◌∷◌, ◌++◌, get_or, ap, ◌∙◌, arith, rules, append_assoc}
use Rattle.serde_json.specs.Written.{compact_text}
use Rattle.json_rows.proofs.Behind.{front_of, front_then}
use Rattle.json_rows.proofs.Put.{item_put, items_put, items_from, pair_data}
use Rattle.json_rows.proofs.line.put_pairs.Goals as goal

pub loop-index-init : goal.loop-index-init
loop-index-init c = (
  ap (λ t. t ++ items_from pair_data c.args.pairs.now 0) c.in_ok-push.ensures.items ∙ append_assoc c.args.out.now.items (91 ∷ []) (items_from pair_data c.args.pairs.now 0),
  front_of _ _ _ c.in_ok-push.ensures.items,
)

pub loop-index-preserved : goal.loop-index-preserved
loop-index-preserved c =
    let l = c.loop-index in
    let text : c.put_pair.new.out.items ≡ c.put_comma.new.out.items ++ compact_text (pair_data (get_or c.args.pairs.now l.index (0, 0))) = search rules in (
      item_put pair_data c.args.pairs.now l.index (0, 0) _ _ _ _ (omega arith) c.in_ok-put_comma.ensures.put text l.invariant.0,
      front_then _ _ _ (front_then _ _ _ l.invariant.1 (front_of _ _ _ c.in_ok-put_comma.ensures.put)) c.in_ok-put_pair.ensures.front,
    )

pub returns-in_err-put_pair-clause-front : goal.returns-in_err-put_pair-clause-front
returns-in_err-put_pair-clause-front c =
    front_then _ _ _ (front_then _ _ _ c.loop-index.invariant.1 (front_of _ _ _ c.in_ok-put_comma.ensures.put)) c.in_err-put_pair.ensures.front

pub returns-clause-put : goal.returns-clause-put
returns-clause-put c = items_put pair_data c.args.pairs.now c.loop-index.index _ _ _ (omega arith) c.in_ok-push-2.ensures.items c.loop-index.invariant.0
