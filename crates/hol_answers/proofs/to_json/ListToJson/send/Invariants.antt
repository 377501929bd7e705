use Rattle.std.proofs.Common.{drop, map}
use Rattle.serde.specs.Event.{Log}
use Rattle.serde_json.specs.View.{items_of}
use Rattle.hol_answers.specs.Sent.{SendsItemsPlain}
use Rattle.hol_answers.proofs.to_json.ListToJson.send.Given as goal

-- whatever ends the list well from here ends it well from the first item
abbrev pub invariant-loop-item : goal.invariant-loop-item
invariant-loop-item g l =
    (end : Log) → SendsItemsPlain (items_of (map g.T.ToJson.json (drop l.item-index l.items))) (g.S.Serializer.written l.out) end
    → SendsItemsPlain (items_of (map g.T.ToJson.json l.items)) (g.S.Serializer.written l.initial.out) end
