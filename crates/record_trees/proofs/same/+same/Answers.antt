use Rattle.std.proofs.Common.{map, sym, subst, ◌∙◌}
use Rattle.std.proofs.lemmas.List.{length-map}
use Rattle.row_model.specs.PlainTree.{SameTree, EachAmong, IsAmongTrees, EachPairAmong, IsAmongPairs, trees_of_list, pairs_of_list}
use Rattle.record_trees.specs.Tree.{plain, plain_pair}
use Rattle.record_trees.proofs.Passing.{all_is_each, any_is_some, each_passed, each_failed, each_done, some_passed, some_found, some_gone, no, no_at, refuted}
use Rattle.record_trees.proofs.Arms.{object_image, list_image, set_image, map_image, moved, objects, lists, sets, sets_not, maps, maps_not, among_is_some, each_pair_is_each, among_pairs_is_some, as_many}
use Rattle.record_trees.proofs.same.+same.Goals.{each_pair_among-else-same_tree-via-then-same_tree+else-same_tree-2, each_pair_among-else-same_tree-via-else-same_tree}
use Rattle.record_trees.proofs.same.+same.Goals as goal

pub all_among-others-preserved : goal.all_among-others-preserved
all_among-others-preserved t c =
    let other = plain c.other-item.result in
    let among = some_found (among_is_some other) plain c.args.parts.now c.parts.part-index c.part-item.result c.parts-test.true c.part-item.is c.parts.invariant (c.same_tree.ensures.0 c.if-same_tree.true) in
    each_passed (all_is_each (IsAmongTrees (trees_of_list (map plain c.args.parts.now)))) plain c.args.others.now c.others.other-index c.other-item.result c.others-test.true c.other-item.is c.others.invariant among

pub all_among-returns-in-others : goal.all_among-returns-in-others
all_among-returns-in-others t c =
    let gone = some_gone (among_is_some (plain c.other-item.result)) plain c.args.parts.now c.parts.part-index c.parts-test.false c.parts.invariant in
    each_failed (all_is_each (IsAmongTrees (trees_of_list (map plain c.args.parts.now)))) plain c.args.others.now c.others.other-index c.other-item.result c.others-test.true c.other-item.is c.others.invariant gone

pub all_pairs_among-others-preserved : goal.all_pairs_among-others-preserved
all_pairs_among-others-preserved t c =
    let other = plain_pair c.other-item.result in
    let same : SameTree (plain_pair c.pair-item.result).0 (plain_pair c.other-item.result).0 × SameTree (plain_pair c.pair-item.result).1 (plain_pair c.other-item.result).1 = (c.same_tree.ensures.0 c.if-same_tree.true, c.same_tree-then-same_tree.ensures.0 c.if-same_tree-2.true) in
    let among = some_found (among_pairs_is_some other) plain_pair c.args.pairs.now c.pairs.pair-index c.pair-item.result c.pairs-test.true c.pair-item.is c.pairs.invariant same in
    each_passed (all_is_each (IsAmongPairs (pairs_of_list (map plain_pair c.args.pairs.now)))) plain_pair c.args.others.now c.others.other-index c.other-item.result c.others-test.true c.other-item.is c.others.invariant among

pub all_pairs_among-returns-in-others : goal.all_pairs_among-returns-in-others
all_pairs_among-returns-in-others t c =
    let gone = some_gone (among_pairs_is_some (plain_pair c.other-item.result)) plain_pair c.args.pairs.now c.pairs.pair-index c.pairs-test.false c.pairs.invariant in
    each_failed (all_is_each (IsAmongPairs (pairs_of_list (map plain_pair c.args.pairs.now)))) plain_pair c.args.others.now c.others.other-index c.other-item.result c.others-test.true c.other-item.is c.others.invariant gone

pub all_pairs_among-returns : goal.all_pairs_among-returns
all_pairs_among-returns t c =
    each_done (all_is_each (IsAmongPairs (pairs_of_list (map plain_pair c.args.pairs.now)))) plain_pair c.args.others.now c.others.other-index c.others-test.false c.others.invariant

pub each_among-others-preserved : goal.each_among-others-preserved
each_among-others-preserved t c =
    some_passed (any_is_some (SameTree (plain c.part-item.result))) plain c.args.others.now c.others.other-index c.other-item.result c.others-test.true c.other-item.is c.others.invariant
    (refuted c.same_tree.result c.if-same_tree.false c.same_tree.ensures)

pub each_pair_among-pairs-preserved : goal.each_pair_among-pairs-preserved
each_pair_among-pairs-preserved t c =
    let others = map plain_pair c.args.others.now in
    let same : SameTree (plain_pair c.pair-item.result).0 (plain_pair c.other-item.result).0 × SameTree (plain_pair c.pair-item.result).1 (plain_pair c.other-item.result).1 = (c.same_tree.ensures.0 c.if-same_tree.true, c.same_tree-then-same_tree.ensures.0 c.if-same_tree-2.true) in
    let pair = plain_pair c.pair-item.result in
    let among = some_found (any_is_some (λ other. SameTree pair.0 other.0 × SameTree pair.1 other.1)) plain_pair c.args.others.now c.others.other-index c.other-item.result c.others-test.true c.other-item.is c.others.invariant same in
    each_passed (each_pair_is_each others) plain_pair c.args.pairs.now c.pairs.pair-index c.pair-item.result c.pairs-test.true c.pair-item.is c.pairs.invariant among

pub each_pair_among-others-preserved : goal.each_pair_among-others-preserved
each_pair_among-others-preserved t c =
    let pair = plain_pair c.pair-item.result in
    some_passed (any_is_some (λ other. SameTree pair.0 other.0 × SameTree pair.1 other.1)) plain_pair c.args.others.now c.others.other-index c.other-item.result c.others-test.true c.other-item.is c.others.invariant
    (λ same. elim c.else-same_tree.branch [
      | each_pair_among-else-same_tree-via-then-same_tree+else-same_tree-2 w ↦ refuted w.same_tree-then-same_tree.result w.if-same_tree-2.false w.same_tree-then-same_tree.ensures same.1
      | each_pair_among-else-same_tree-via-else-same_tree w ↦ refuted c.same_tree.result w.if-same_tree.false c.same_tree.ensures same.0
    ])

pub same_tree-returns-in-Object-Object : goal.same_tree-returns-in-Object-Object
same_tree-returns-in-Object-Object t c =
    let arm = c.in-Object-Object in
    moved c.same_trees.result _ _ _ _ (object_image c.args.tree.now arm.parts c.as_slice.result.now arm.is-0 c.as_slice.ensures)
    (object_image c.args.other.now arm.others c.as_slice-in-Object-Object.result.now arm.is-1 c.as_slice-in-Object-Object.ensures)
    (objects c.same_trees.result (map plain c.as_slice.result.now) (map plain c.as_slice-in-Object-Object.result.now) c.same_trees.ensures)

pub same_tree-returns-in-List-List : goal.same_tree-returns-in-List-List
same_tree-returns-in-List-List t c =
    let arm = c.in-List-List in
    moved c.same_trees-in-List-List.result _ _ _ _ (list_image c.args.tree.now arm.parts c.as_slice-in-List-List.result.now arm.is-0 c.as_slice-in-List-List.ensures)
    (list_image c.args.other.now arm.others c.as_slice-in-List-List-2.result.now arm.is-1 c.as_slice-in-List-List-2.ensures)
    (lists c.same_trees-in-List-List.result (map plain c.as_slice-in-List-List.result.now) (map plain c.as_slice-in-List-List-2.result.now) c.same_trees-in-List-List.ensures)

pub same_tree-returns-then-each_among : goal.same_tree-returns-then-each_among
same_tree-returns-then-each_among t c =
    let xs = map plain c.as_slice-then-each_among.result.now in
    let ys = map plain c.as_slice-then-each_among-2.result.now in
    moved c.all_among.result _ _ _ _ (set_image c.args.tree.now c.in-Set-Set.parts c.as_slice-then-each_among.result.now c.in-Set-Set.is-0 c.as_slice-then-each_among.ensures)
    (set_image c.args.other.now c.in-Set-Set.others c.as_slice-then-each_among-2.result.now c.in-Set-Set.is-1 c.as_slice-then-each_among-2.ensures)
    (sets xs ys c.all_among.result (subst (λ vs. EachAmong (trees_of_list (map plain vs)) ys) (c.as_slice-in-Set-Set.ensures ∙ sym c.as_slice-then-each_among.ensures) (subst (λ vs. EachAmong (trees_of_list (map plain c.as_slice-in-Set-Set.result.now)) (map plain vs)) (c.as_slice-in-Set-Set-2.ensures ∙ sym c.as_slice-then-each_among-2.ensures) (c.each_among.ensures.0 c.if-each_among.true))) c.all_among.ensures)

pub same_tree-returns-else-each_among : goal.same_tree-returns-else-each_among
same_tree-returns-else-each_among t c =
    let xs = map plain c.as_slice-in-Set-Set.result.now in
    let ys = map plain c.as_slice-in-Set-Set-2.result.now in
    moved c.each_among.result _ _ _ _ (set_image c.args.tree.now c.in-Set-Set.parts c.as_slice-in-Set-Set.result.now c.in-Set-Set.is-0 c.as_slice-in-Set-Set.ensures)
    (set_image c.args.other.now c.in-Set-Set.others c.as_slice-in-Set-Set-2.result.now c.in-Set-Set.is-1 c.as_slice-in-Set-Set-2.ensures)
    (no_at c.each_among.result c.if-each_among.false (sets_not xs ys (refuted c.each_among.result c.if-each_among.false c.each_among.ensures)))

pub same_tree-returns-then-each_pair_among : goal.same_tree-returns-then-each_pair_among
same_tree-returns-then-each_pair_among t c =
    let xs = map plain_pair c.as_slice-then-each_pair_among.result.now in
    let ys = map plain_pair c.as_slice-then-each_pair_among-2.result.now in
    moved c.all_pairs_among.result _ _ _ _ (map_image c.args.tree.now c.in-Map-Map.pairs c.as_slice-then-each_pair_among.result.now c.in-Map-Map.is-0 c.as_slice-then-each_pair_among.ensures)
    (map_image c.args.other.now c.in-Map-Map.others c.as_slice-then-each_pair_among-2.result.now c.in-Map-Map.is-1 c.as_slice-then-each_pair_among-2.ensures)
    (maps xs ys c.all_pairs_among.result (subst (λ vs. EachPairAmong (pairs_of_list (map plain_pair vs)) ys) (c.as_slice-in-Map-Map.ensures ∙ sym c.as_slice-then-each_pair_among.ensures) (subst (λ vs. EachPairAmong (pairs_of_list (map plain_pair c.as_slice-in-Map-Map.result.now)) (map plain_pair vs)) (c.as_slice-in-Map-Map-2.ensures ∙ sym c.as_slice-then-each_pair_among-2.ensures) (c.each_pair_among.ensures.0 c.if-each_pair_among.true))) c.all_pairs_among.ensures)

pub same_tree-returns-else-each_pair_among : goal.same_tree-returns-else-each_pair_among
same_tree-returns-else-each_pair_among t c =
    let xs = map plain_pair c.as_slice-in-Map-Map.result.now in
    let ys = map plain_pair c.as_slice-in-Map-Map-2.result.now in
    moved c.each_pair_among.result _ _ _ _ (map_image c.args.tree.now c.in-Map-Map.pairs c.as_slice-in-Map-Map.result.now c.in-Map-Map.is-0 c.as_slice-in-Map-Map.ensures)
    (map_image c.args.other.now c.in-Map-Map.others c.as_slice-in-Map-Map-2.result.now c.in-Map-Map.is-1 c.as_slice-in-Map-Map-2.ensures)
    (no_at c.each_pair_among.result c.if-each_pair_among.false (maps_not xs ys (refuted c.each_pair_among.result c.if-each_pair_among.false c.each_pair_among.ensures)))

pub same_trees-returns-then-parts-others : goal.same_trees-returns-then-parts-others
same_trees-returns-then-parts-others t c =
    no (λ same. c.if-parts-others.true (sym (length-map c.args.parts.now plain) ∙ as_many (map plain c.args.parts.now) (map plain c.args.others.now) same ∙ length-map c.args.others.now plain))
