-- Whether the whole holds is whether what is left holds.
use Rattle.std.proofs.Common.{◌↔◌, Any, map, drop, All}
use Rattle.row_model.specs.PlainTree.{SameTree, SameTrees, EachAmong, IsAmongTrees, EachPairAmong, IsAmongPairs, trees_of_list, pairs_of_list}
use Rattle.record_trees.specs.Tree.{plain, plain_pair}
use Rattle.record_trees.proofs.same.+same.Given as goal

abbrev pub invariant-same_trees-loop-place : goal.invariant-same_trees-loop-place
invariant-same_trees-loop-place l =
    SameTrees (trees_of_list (map plain l.parts)) (map plain l.others) ↔ SameTrees (trees_of_list (map plain (drop l.place l.parts))) (map plain (drop l.place l.others))

abbrev pub invariant-each_among-parts : goal.invariant-each_among-parts
invariant-each_among-parts l =
    EachAmong (trees_of_list (map plain l.parts)) (map plain l.others) ↔ EachAmong (trees_of_list (map plain (drop l.part-index l.parts))) (map plain l.others)

abbrev pub invariant-each_among-others : goal.invariant-each_among-others
invariant-each_among-others l = Any (SameTree (plain l.part)) (map plain l.others) ↔ Any (SameTree (plain l.part)) (map plain (drop l.other-index l.others))

abbrev pub invariant-all_among-others : goal.invariant-all_among-others
invariant-all_among-others l =
    All (IsAmongTrees (trees_of_list (map plain l.parts))) (map plain l.others) ↔ All (IsAmongTrees (trees_of_list (map plain l.parts))) (map plain (drop l.other-index l.others))

abbrev pub invariant-all_among-parts : goal.invariant-all_among-parts
invariant-all_among-parts l =
    IsAmongTrees (trees_of_list (map plain l.parts)) (plain l.other) ↔ IsAmongTrees (trees_of_list (map plain (drop l.part-index l.parts))) (plain l.other)

abbrev pub invariant-each_pair_among-pairs : goal.invariant-each_pair_among-pairs
invariant-each_pair_among-pairs l =
    EachPairAmong (pairs_of_list (map plain_pair l.pairs)) (map plain_pair l.others) ↔ EachPairAmong (pairs_of_list (map plain_pair (drop l.pair-index l.pairs))) (map plain_pair l.others)

abbrev pub invariant-each_pair_among-others : goal.invariant-each_pair_among-others
invariant-each_pair_among-others l =
    Any (λ other. SameTree (plain l.pair.0) other.0 × SameTree (plain l.pair.1) other.1) (map plain_pair l.others)
    ↔ Any (λ other. SameTree (plain l.pair.0) other.0 × SameTree (plain l.pair.1) other.1) (map plain_pair (drop l.other-index l.others))

abbrev pub invariant-all_pairs_among-others : goal.invariant-all_pairs_among-others
invariant-all_pairs_among-others l =
    All (IsAmongPairs (pairs_of_list (map plain_pair l.pairs))) (map plain_pair l.others) ↔ All (IsAmongPairs (pairs_of_list (map plain_pair l.pairs))) (map plain_pair (drop l.other-index l.others))

abbrev pub invariant-all_pairs_among-pairs : goal.invariant-all_pairs_among-pairs
invariant-all_pairs_among-pairs l =
    IsAmongPairs (pairs_of_list (map plain_pair l.pairs)) (plain_pair l.other) ↔ IsAmongPairs (pairs_of_list (map plain_pair (drop l.pair-index l.pairs))) (plain_pair l.other)
