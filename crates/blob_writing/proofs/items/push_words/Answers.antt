use Rattle.std.proofs.Common.{ℕ, List, ◌<◌, ◌-◌, ◌^◌, ◌∙◌, ap, ◌++◌, take, drop, flat_map, arith}
use Rattle.std.specs.Int.{w64, to_be_bytes}
use Rattle.std.proofs.lemmas.List.Elements.{All-from_get_or}
use Rattle.blob_writing.proofs.WordsLaid.{block_more}
use Rattle.blob_writing.proofs.items.push_words.Goals as goal

pub loop-place-preserved : goal.loop-place-preserved
loop-place-preserved c =
    let end = c.min-end.ensures in
    let below = c.loop-place-test.true in (
      omega arith,
      c.in_ok-push_block.ensures.ok
          ∙ ap (λ (bytes : List ℕ). bytes ++ flat_map (to_be_bytes w64) (take (c.min-end.result - c.loop-place.place) (drop c.loop-place.place c.args.words.now))) c.loop-place.invariant.1
          ∙ block_more c.reserve.new.self.items c.args.words.now c.loop-place.place c.min-end.result (omega arith),
    )

pub returns-clause-fits : goal.returns-clause-fits
returns-clause-fits c = record {
  few = omega arith;
  small = All-from_get_or (λ word. word < 2 ^ 64) c.args.words.now 0 (λ k inside. (c.type_inv.words k).fits);
}
