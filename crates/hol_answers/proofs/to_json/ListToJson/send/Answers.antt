use Rattle.std.proofs.Common.{◌≡◌, ◌+◌, [], ◌∷◌, drop, map, Some, sym, ap, ◌∙◌, subst, arith, refl}
use Rattle.std.proofs.lemmas.List.{drop_more, drop_all}
use Rattle.std.proofs.lemmas.Result.{on_ok_weaker}
use Rattle.serde.specs.Event.{Logs, seq_begins}
use Rattle.serde_json.specs.View.{items_of}
use Rattle.hol_answers.specs.Sent.{SendsItemsPlain}
use Rattle.hol_answers.proofs.Sent.{array_sent, item_sent, items_end, items_len-of, sends}
use Rattle.hol_answers.proofs.to_json.ListToJson.send.Goals as goal

pub loop-item-preserved : goal.loop-item-preserved
loop-item-preserved g c = λ end others.
    let l = c.loop-item in
    let data_of = g.T.ToJson.json in
    let items = c.as_slice-items.result.now in
    let one = c.item-item.result in
    let later = drop (l.item-index + 1) items in
    let here : drop l.item-index items ≡ one ∷ later =
    drop_more items l.item-index one (omega arith) ∙ ap (λ y. y ∷ later) (sym c.item-item.is) in
    let old = g.S.Serializer.written l.out in
    let mid = g.S.Serializer.written c.send.new.out in
    let sent = item_sent (data_of one) (items_of (map data_of later)) old mid end (c.in_ok-send.ensures (data_of one) refl) others in
    l.invariant end (subst (λ xs. SendsItemsPlain (items_of (map data_of xs)) old end) (sym here) sent)

pub returns : goal.returns
returns g c =
    let l = c.loop-item in
    let data_of = g.T.ToJson.json in
    let items = c.as_slice-items.result.now in
    let old = g.S.Serializer.written c.args.out.now in
    let first = g.S.Serializer.written c.begin_seq.new.self in
    let last = g.S.Serializer.written l.out in
    let new = g.S.Serializer.written c.end_seq.new.self in
    let none : drop l.item-index items ≡ [] = drop_all l.item-index items (omega arith) in
    let begins = subst (λ n. Logs old first (seq_begins (Some n))) (sym (items_len-of data_of items)) c.in_ok-begin_seq.ensures in
    on_ok_weaker c.end_seq.result (λ ends.
    let sent = l.invariant new (subst (λ xs. SendsItemsPlain (items_of (map data_of xs)) last new) (sym none) (items_end last new ends)) in
    rw (← c.as_slice-items.ensures) (sends _ _ _ (array_sent (items_of (map data_of items)) old first new begins sent))) c.end_seq.ensures
