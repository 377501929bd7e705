use Rattle.std.proofs.Common.{◌≡◌, ◌+◌, ◌*◌, ◌++◌, List, ℕ, drop, map}
use Rattle.row_model.specs.PlainTree.{trees_of_list, pairs_of_list}
use Rattle.row_model.specs.Table.{Table}
use Rattle.record_trees.specs.Tree.{plain, plain_pair}
use Rattle.row_model.specs.declared.row.Value.{Value}
use Rattle.write_engine.specs.Cycle.{AddsFields, AddsAll, AddsPairs}
use Rattle.record_trees.specs.FitsTree.{FitFields, FitAll, FitPairs}
use Rattle.write_engine.specs.Agreement.{TablesAgree}
use Rattle.write_engine.specs.Production.{previous_of, current_of}
use Rattle.write_engine.proofs.NoRoom.{CanAddAll, CanAddFields, CanAddPairs}
use Rattle.write_engine.proofs.adding.+adding.Given as goal

abbrev pub decreases-add_all : goal.decreases-add_all
decreases-add_all l = 2 * goal.size-add_all l + 1

abbrev pub decreases-add_fields : goal.decreases-add_fields
decreases-add_fields l = 2 * goal.size-add_fields l + 1

abbrev pub decreases-add_pairs : goal.decreases-add_pairs
decreases-add_pairs l = 2 * goal.size-add_pairs l + 1

abbrev pub decreases-add_tree : goal.decreases-add_tree
decreases-add_tree l = 2 * goal.size-add_tree l

abbrev pub invariant-add_all-loop-part : goal.invariant-add_all-loop-part
invariant-add_all-loop-part l = record {
  previous : previous_of l.maps ≡ previous_of l.initial.maps;
  agree : TablesAgree (previous_of l.initial.maps) (current_of l.maps);
  left : CanAddAll l.model (previous_of l.initial.maps) l.type_index (trees_of_list (map plain l.parts)) (current_of l.initial.maps) → CanAddAll l.model (previous_of l.initial.maps) l.type_index (trees_of_list (drop l.part-index (map plain l.parts))) (current_of l.maps);
  fits : FitAll l.model l.type_index (trees_of_list (drop l.part-index (map plain l.parts)));
  so_far : (rest : List ℕ) (after : Table) → AddsAll l.model (previous_of l.initial.maps) l.type_index (trees_of_list (drop l.part-index (map plain l.parts))) (current_of l.maps) rest after
      → AddsAll l.model (previous_of l.initial.maps) l.type_index (trees_of_list (map plain l.parts)) (current_of l.initial.maps) (l.ordinals ++ rest) after;
}

abbrev pub invariant-add_fields-loop-place : goal.invariant-add_fields-loop-place
invariant-add_fields-loop-place l = record {
  previous : previous_of l.maps ≡ previous_of l.initial.maps;
  agree : TablesAgree (previous_of l.initial.maps) (current_of l.maps);
  left : CanAddFields l.model (previous_of l.initial.maps) l.fields (trees_of_list (map plain l.parts)) (current_of l.initial.maps)
      → CanAddFields l.model (previous_of l.initial.maps) (drop l.place l.fields) (trees_of_list (drop l.place (map plain l.parts))) (current_of l.maps);
  fits : FitFields l.model (drop l.place l.fields) (trees_of_list (drop l.place (map plain l.parts)));
  so_far : (rest : List Value) (after : Table) → AddsFields l.model (previous_of l.initial.maps) (drop l.place l.fields) (trees_of_list (drop l.place (map plain l.parts))) (current_of l.maps) rest after
      → AddsFields l.model (previous_of l.initial.maps) l.fields (trees_of_list (map plain l.parts)) (current_of l.initial.maps) (l.values ++ rest) after;
}

abbrev pub invariant-add_pairs-loop-part : goal.invariant-add_pairs-loop-part
invariant-add_pairs-loop-part l = record {
  previous : previous_of l.maps ≡ previous_of l.initial.maps;
  agree : TablesAgree (previous_of l.initial.maps) (current_of l.maps);
  left : CanAddPairs l.model (previous_of l.initial.maps) (l.key_type, l.value_type) (pairs_of_list (map plain_pair l.parts)) (current_of l.initial.maps)
      → CanAddPairs l.model (previous_of l.initial.maps) (l.key_type, l.value_type) (pairs_of_list (drop l.part-index (map plain_pair l.parts))) (current_of l.maps);
  fits : FitPairs l.model (l.key_type, l.value_type) (pairs_of_list (drop l.part-index (map plain_pair l.parts)));
  so_far : (rest : List (ℕ × ℕ)) (after : Table) → AddsPairs l.model (previous_of l.initial.maps) (l.key_type, l.value_type) (pairs_of_list (drop l.part-index (map plain_pair l.parts))) (current_of l.maps) rest after
      → AddsPairs l.model (previous_of l.initial.maps) (l.key_type, l.value_type) (pairs_of_list (map plain_pair l.parts)) (current_of l.initial.maps) (l.pairs ++ rest) after;
}
