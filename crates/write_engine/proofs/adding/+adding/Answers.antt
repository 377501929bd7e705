use Rattle.row_model.specs.PlainTree.{trees_of_list, pairs_of_list}
use Rattle.std.proofs.Common.{rules, refl, ◌∙◌, ap, sym, subst, arith, map, max, ◌≡◌, ◌+◌, ◌*◌}
use denote.Param.Weighed.{at_most, most}
use Rattle.record_trees.proofs.tree.Tree.TheLaws.{the_size}
use Rattle.record_trees.specs.Tree.{plain, plain_pair}
use Rattle.write_engine.specs.Production.{previous_of, current_of}
use Rattle.std.specs.Prelude.{IsSome, Some, IfOk}
use Rattle.write_engine.specs.Cycle.{Adds, AddsFields, AddsPairs, IsMapOf, IsSetOf}
use Rattle.write_engine.specs.Leaf.{TellsLeaf}
use Rattle.record_trees.proofs.Arms.{map_image, object_image, list_image, set_image}
use Rattle.write_engine.proofs.NextStates.{fields_agree, all_agree, pairs_agree}
use Rattle.write_engine.proofs.NoRoom.{agree_now, passed_on, added_agree, all_refused, all_rest, field_refused, key_refused, value_refused, pairs_rest, kept_field, object_unput, list_unput, set_unput, map_unput}
use Rattle.record_trees.specs.Types.{referred}
use Rattle.write_engine.proofs.Parts.{all_fits, all_more, all_done, pairs_done, pair_fits, pairs_more, fits_index, length_images, image_at, field_fits, map_put, read_at, of_row, as_leaf, as_reference, referred_fits, some_and, fields_done}
use Rattle.std.proofs.lemmas.Option.{slice_get_within}
use Rattle.write_engine.proofs.adding.+adding.Goals as goal
use Rattle.write_engine.proofs.adding.+adding.Goals.{add_fields-in-Some, add_fields-in-None+in_ok-add_tree-in-None}

pub add_all-add_tree-requires : goal.add_all-add_tree-requires
add_all-add_tree-requires t c = (
  (let within = at_most the_size c.args.parts.now c.loop-part.part-index c.part-item.result c.loop-part-test.true in
      let same = ap the_size c.part-item.is in
      let here : 2 * most the_size c.args.parts.now + 1 ≡ t = c.decreases in omega (arith, within, same, here)),
  (
    search rules,
    (
      agree_now _ _ _ c.loop-part.invariant.previous c.loop-part.invariant.agree,
      (all_fits c.args.model.now _ _ c.loop-part.invariant.previous c.args.type_index (map plain c.args.parts.now) c.loop-part.part-index (plain c.part-item.result)
          (image_at plain c.args.parts.now c.loop-part.part-index c.part-item.result c.loop-part-test.true c.part-item.is) c.loop-part.invariant.fits).0,
    ),
  ),
)

pub add_all-loop-part-preserved : goal.add_all-loop-part-preserved
add_all-loop-part-preserved t c =
    let here = image_at plain c.args.parts.now c.loop-part.part-index c.part-item.result c.loop-part-test.true c.part-item.is in
    let xs = map plain c.args.parts.now in
    record {
      previous = c.add_tree.ensures.previous ∙ c.loop-part.invariant.previous;
      agree = added_agree c.args.model.now _ _ c.loop-part.invariant.previous c.args.type_index (plain c.part-item.result) _ _ c.in_ok-add_tree.field-0 c.loop-part.invariant.agree c.in_ok-add_tree.ensures.added;
      left = λ can. all_rest c.args.model.now _ _ c.loop-part.invariant.previous _ c.loop-part.invariant.agree xs c.loop-part.part-index (plain c.part-item.result) here c.args.type_index (c.loop-part.invariant.left can) _ c.in_ok-add_tree.field-0
          c.in_ok-add_tree.ensures.added;
      fits = (all_fits c.args.model.now _ _ c.loop-part.invariant.previous c.args.type_index xs c.loop-part.part-index (plain c.part-item.result) here c.loop-part.invariant.fits).1;
      so_far = all_more c.args.model.now _ _ c.loop-part.invariant.previous c.args.type_index xs c.loop-part.part-index (plain c.part-item.result) here _ _ _ c.loop-part.ordinals c.push.new.self c.in_ok-add_tree.field-0
          c.in_ok-push.ensures.ok c.in_ok-add_tree.ensures.added c.loop-part.invariant.so_far;
    }

pub add_all-returns-clause-added : goal.add_all-returns-clause-added
add_all-returns-clause-added t c =
    let past = c.loop-part-test.false in
    all_done c.args.model.now _ c.args.type_index (map plain c.args.parts.now) c.loop-part.part-index _ _ c.loop-part.ordinals (omega (arith, past, length_images plain c.args.parts.now)) c.loop-part.invariant.so_far

pub add_pairs-returns-clause-added : goal.add_pairs-returns-clause-added
add_pairs-returns-clause-added t c =
    let past = c.loop-part-test.false in
    pairs_done c.args.model.now _ (c.args.key_type, c.args.value_type) (map plain_pair c.args.parts.now) c.loop-part.part-index _ _ c.loop-part.pairs (omega (arith, past, length_images plain_pair c.args.parts.now)) c.loop-part.invariant.so_far

pub add_pairs-loop-part-preserved : goal.add_pairs-loop-part-preserved
add_pairs-loop-part-preserved t c =
    let here = image_at plain_pair c.args.parts.now c.loop-part.part-index c.part-item.result c.loop-part-test.true c.part-item.is in
    let xs = map plain_pair c.args.parts.now in
    let fits = pair_fits c.args.model.now _ _ c.loop-part.invariant.previous (c.args.key_type, c.args.value_type) xs c.loop-part.part-index (plain_pair c.part-item.result) here c.loop-part.invariant.fits in
    record {
      previous = c.add_tree-in-loop-part.ensures.previous ∙ c.add_tree.ensures.previous ∙ c.loop-part.invariant.previous;
      agree = added_agree c.args.model.now _ _ (c.add_tree.ensures.previous ∙ c.loop-part.invariant.previous) c.args.value_type (plain c.part-item.result.1) _ _ c.in_ok-value.value
          (added_agree c.args.model.now _ _ c.loop-part.invariant.previous c.args.key_type (plain c.part-item.result.0) _ _ c.in_ok-key.key c.loop-part.invariant.agree c.in_ok-key.ensures.added) c.in_ok-value.ensures.added;
      left = λ can. pairs_rest c.args.model.now _ _ c.loop-part.invariant.previous _ c.loop-part.invariant.agree (c.args.key_type, c.args.value_type) xs c.loop-part.part-index (plain_pair c.part-item.result) here (c.loop-part.invariant.left can)
          _ c.add_tree.ensures.previous _ c.in_ok-key.key c.in_ok-key.ensures.added _ c.in_ok-value.value c.in_ok-value.ensures.added;
      fits = fits.2;
      so_far = pairs_more c.args.model.now _ _ c.loop-part.invariant.previous (c.args.key_type, c.args.value_type) xs c.loop-part.part-index (plain_pair c.part-item.result) here _ _ _ _ _ c.loop-part.pairs c.push.new.self c.in_ok-key.key c.in_ok-value.value
          c.add_tree.ensures.previous c.in_ok-push.ensures.ok c.in_ok-key.ensures.added c.in_ok-value.ensures.added c.loop-part.invariant.so_far;
    }

pub add_tree-schema-requires : goal.add_tree-schema-requires
add_tree-schema-requires t c = fits_index c.args.model.now c.args.type_index (plain c.args.tree.now) c.requires.fits

pub add_tree-put_row-requires : goal.add_tree-put_row-requires
add_tree-put_row-requires t c = record {
  known = omega (arith, fits_index c.args.model.now c.args.type_index (plain c.args.tree.now) c.requires.fits, c.requires.types);
  agree = agree_now _ _ _ c.in_ok-values-in-Object-Object.ensures.previous (fields_agree c.args.model.now (previous_of c.args.maps.now) _ _ (current_of c.args.maps.now) _ _ c.in_ok-values-in-Object-Object.ensures.added c.requires.agree);
}

pub add_tree-put_row-requires-in-List-List : goal.add_tree-put_row-requires-in-List-List
add_tree-put_row-requires-in-List-List t c = record {
  known = omega (arith, fits_index c.args.model.now c.args.type_index (plain c.args.tree.now) c.requires.fits, c.requires.types);
  agree = agree_now _ _ _ c.in_ok-ordinals-in-List-List.ensures.previous (all_agree c.args.model.now (previous_of c.args.maps.now) _ _ (current_of c.args.maps.now) _ _ c.in_ok-ordinals-in-List-List.ensures.added c.requires.agree);
}

pub add_tree-put_row-requires-in-Set-Set : goal.add_tree-put_row-requires-in-Set-Set
add_tree-put_row-requires-in-Set-Set t c = record {
  known = omega (arith, fits_index c.args.model.now c.args.type_index (plain c.args.tree.now) c.requires.fits, c.requires.types);
  agree = agree_now _ _ _ c.in_ok-ordinals-in-Set-Set.ensures.previous (all_agree c.args.model.now (previous_of c.args.maps.now) _ _ (current_of c.args.maps.now) _ _ c.in_ok-ordinals-in-Set-Set.ensures.added c.requires.agree);
}

pub add_tree-put_row-requires-in-Map-Map : goal.add_tree-put_row-requires-in-Map-Map
add_tree-put_row-requires-in-Map-Map t c = record {
  known = omega (arith, fits_index c.args.model.now c.args.type_index (plain c.args.tree.now) c.requires.fits, c.requires.types);
  agree = agree_now _ _ _ c.in_ok-pairs-in-Map-Map.ensures.previous (pairs_agree c.args.model.now (previous_of c.args.maps.now) _ _ (current_of c.args.maps.now) _ _ c.in_ok-pairs-in-Map-Map.ensures.added c.requires.agree);
}

pub add_fields-bounds-fields-place : goal.add_fields-bounds-fields-place
add_fields-bounds-fields-place t c =
    let here = image_at plain c.args.parts.now c.loop-place.place c.index-parts-place.result c.loop-place-test.true c.index-parts-place.is in
    let next = field_fits c.args.model.now _ _ c.loop-place.invariant.previous 0 (map plain c.args.parts.now) c.loop-place.place (plain c.index-parts-place.result) here c.args.fields.now c.loop-place.invariant.fits in
    slice_get_within c.args.fields.now c.loop-place.place next.0 next.1

pub add_fields-type_of-type_index-requires : goal.add_fields-type_of-type_index-requires
add_fields-type_of-type_index-requires t c =
    let here = image_at plain c.args.parts.now c.loop-place.place c.index-parts-place.result c.loop-place-test.true c.index-parts-place.is in
    let next = field_fits c.args.model.now _ _ c.loop-place.invariant.previous 0 (map plain c.args.parts.now) c.loop-place.place (plain c.index-parts-place.result) here c.args.fields.now c.loop-place.invariant.fits in
    let read = read_at c.args.fields.now c.loop-place.place next.0 c.index-fields-place.result next.1 in
    subst (λ f. IsSome (referred c.args.model.now f.kind)) (sym read)
    (some_and (referred c.args.model.now next.0.kind) _ (of_row (plain c.index-parts-place.result) _ _ (subst (TellsLeaf (plain c.index-parts-place.result)) c.in-None.is c.in_ok-value.ensures) next.2.0))

pub add_fields-add_tree-requires : goal.add_fields-add_tree-requires
add_fields-add_tree-requires t c = (
  (let within = at_most the_size c.args.parts.now c.loop-place.place c.index-parts-place.result c.loop-place-test.true in
      let same = ap the_size c.index-parts-place.is in
      let here : 2 * most the_size c.args.parts.now + 1 ≡ t = c.decreases in omega (arith, within, same, here)),
  (
    search rules,
    (
      agree_now _ _ _ c.loop-place.invariant.previous c.loop-place.invariant.agree,
      let here = image_at plain c.args.parts.now c.loop-place.place c.index-parts-place.result c.loop-place-test.true c.index-parts-place.is in
          let next = field_fits c.args.model.now _ _ c.loop-place.invariant.previous 0 (map plain c.args.parts.now) c.loop-place.place (plain c.index-parts-place.result) here c.args.fields.now c.loop-place.invariant.fits in
          let read = read_at c.args.fields.now c.loop-place.place next.0 c.index-fields-place.result next.1 in
          referred_fits c.args.model.now next.0.kind (plain c.index-parts-place.result) c.type_of-type_index.result (ap (λ f. referred c.args.model.now f.kind) (sym read) ∙ c.type_of-type_index.ensures)
          (of_row (plain c.index-parts-place.result) _ _ (subst (TellsLeaf (plain c.index-parts-place.result)) c.in-None.is c.in_ok-value.ensures) next.2.0),
    ),
  ),
)

pub add_fields-returns-clause-added : goal.add_fields-returns-clause-added
add_fields-returns-clause-added t c =
    let past = c.loop-place-test.false in
    fields_done c.args.model.now _ c.args.fields.now (map plain c.args.parts.now) c.loop-place.place _ _ c.loop-place.values (omega (arith, past, length_images plain c.args.parts.now)) c.loop-place.invariant.fits c.loop-place.invariant.so_far

pub add_fields-loop-place-preserved : goal.add_fields-loop-place-preserved
add_fields-loop-place-preserved t c =
    let model = c.args.model.now in
    let previous = previous_of c.args.maps.now in
    let x = plain c.index-parts-place.result in
    let before = current_of c.loop-place.maps in
    let middle = current_of c.match-branch-3.maps in
    let value = c.match-branch-3.value in
    let here = image_at plain c.args.parts.now c.loop-place.place c.index-parts-place.result c.loop-place-test.true c.index-parts-place.is in
    let next = field_fits model _ _ c.loop-place.invariant.previous 0 (map plain c.args.parts.now) c.loop-place.place x here c.args.fields.now c.loop-place.invariant.fits in
    let field = next.0 in
    let kept = kept_field model previous (map plain c.args.parts.now) c.loop-place.place x here c.args.fields.now field next.1 (current_of c.args.maps.now) before c.loop-place.invariant.agree middle c.loop-place.values c.push.new.self value
    c.in_ok-push.ensures.ok c.loop-place.invariant.left c.loop-place.invariant.so_far in
    elim c.match-branch-3.branch [
      | add_fields-in-Some w ↦
          let now = kept
          (as_leaf model previous field x _ before middle value (subst (TellsLeaf x) (w.in-Some.is ∙ ap Some (sym w.value-is)) c.in_ok-value.ensures) next.2.0 (ap current_of w.maps-is)) in
          record { previous = ap previous_of w.maps-is ∙ c.loop-place.invariant.previous; agree = now.0; left = now.1; fits = next.2.1; so_far = now.2 }
      | add_fields-in-None+in_ok-add_tree-in-None w ↦
          let now = kept
          (as_reference model previous (previous_of c.loop-place.maps) c.loop-place.invariant.previous field _ (read_at c.args.fields.now c.loop-place.place field w.index-fields-place.result next.1) x w.type_of-type_index.result
          w.in_ok-add_tree-in-None.field-0 before (current_of w.add_tree.new.maps) middle value (subst (TellsLeaf x) w.in-None.is c.in_ok-value.ensures) w.type_of-type_index.ensures w.in_ok-add_tree-in-None.ensures.added (ap current_of w.maps-is) w.value-is) in
          record { previous = ap previous_of w.maps-is ∙ w.add_tree.ensures.previous ∙ c.loop-place.invariant.previous; agree = now.0; left = now.1; fits = next.2.1; so_far = now.2 }
    ]

pub add_pairs-add_tree-requires : goal.add_pairs-add_tree-requires
add_pairs-add_tree-requires t c = (
  (let within = at_most (λ p. max (the_size p.0) (max (the_size p.1) 0)) c.args.parts.now c.loop-part.part-index c.part-item.result c.loop-part-test.true in
      let same = ap (λ p. max (the_size p.0) (max (the_size p.1) 0)) c.part-item.is in
      let here : 2 * most (λ p. max (the_size p.0) (max (the_size p.1) 0)) c.args.parts.now + 1 ≡ t = c.decreases in omega (arith, within, same, here)),
  (
    search rules,
    (
      agree_now _ _ _ c.loop-part.invariant.previous c.loop-part.invariant.agree,
      let here = image_at plain_pair c.args.parts.now c.loop-part.part-index c.part-item.result c.loop-part-test.true c.part-item.is in
          (pair_fits c.args.model.now _ _ c.loop-part.invariant.previous (c.args.key_type, c.args.value_type) (map plain_pair c.args.parts.now) c.loop-part.part-index (plain_pair c.part-item.result) here c.loop-part.invariant.fits).0,
    ),
  ),
)

pub add_pairs-add_tree-requires-in-loop-part : goal.add_pairs-add_tree-requires-in-loop-part
add_pairs-add_tree-requires-in-loop-part t c = (
  (let within = at_most (λ p. max (the_size p.0) (max (the_size p.1) 0)) c.args.parts.now c.loop-part.part-index c.part-item.result c.loop-part-test.true in
      let same = ap (λ p. max (the_size p.0) (max (the_size p.1) 0)) c.part-item.is in
      let here : 2 * most (λ p. max (the_size p.0) (max (the_size p.1) 0)) c.args.parts.now + 1 ≡ t = c.decreases in omega (arith, within, same, here)),
  (
    search rules,
    (
      agree_now _ _ _ (c.add_tree.ensures.previous ∙ c.loop-part.invariant.previous)
          (added_agree c.args.model.now _ _ c.loop-part.invariant.previous c.args.key_type (plain c.part-item.result.0) _ _ c.in_ok-key.key c.loop-part.invariant.agree c.in_ok-key.ensures.added),
      let here = image_at plain_pair c.args.parts.now c.loop-part.part-index c.part-item.result c.loop-part-test.true c.part-item.is in
          (pair_fits c.args.model.now _ _ c.loop-part.invariant.previous (c.args.key_type, c.args.value_type) (map plain_pair c.args.parts.now) c.loop-part.part-index (plain_pair c.part-item.result) here c.loop-part.invariant.fits).1,
    ),
  ),
)

pub add_tree-returns-in_ok-members-in-Map-Map-clause-added : goal.add_tree-returns-in_ok-members-in-Map-Map-clause-added
add_tree-returns-in_ok-members-in-Map-Map-clause-added t c =
    subst (λ tree. IfOk c.put_row-in-Map-Map.result (λ ordinal. Adds c.args.model.now (previous_of c.args.maps.now) c.args.type_index tree (current_of c.args.maps.now) ordinal (current_of c.put_row-in-Map-Map.new.maps)))
    (map_image c.args.tree.now c.in-Map-Map.parts c.in-Map-Map.parts.items.items c.in-Map-Map.is-1 refl)
    (map_put c.args.model.now (previous_of c.args.maps.now) _ c.args.type_index c.schema.result.now c.in-Map-Map.key c.in-Map-Map.value c.index_of-key.result c.index_of-value.result
    (pairs_of_list (map plain_pair c.in-Map-Map.parts.items.items)) (current_of c.args.maps.now) _ _ c.in_ok-pairs-in-Map-Map.pairs c.in_ok-members-in-Map-Map.members c.put_row-in-Map-Map.result
    c.schema.ensures.value c.in-Map-Map.is-0 c.index_of-key.ensures c.index_of-value.ensures c.in_ok-pairs-in-Map-Map.ensures.previous
    (subst (λ ps. AddsPairs c.args.model.now (previous_of c.args.maps.now) (c.index_of-key.result, c.index_of-value.result) (pairs_of_list (map plain_pair ps)) (current_of c.args.maps.now) c.in_ok-pairs-in-Map-Map.pairs (current_of c.add_pairs.new.maps)) c.as_slice-in-Map-Map.ensures
    c.in_ok-pairs-in-Map-Map.ensures.added)
    (subst (λ ps. IsMapOf ps c.in_ok-members-in-Map-Map.members) c.as_slice-in-Map-Map-2.ensures c.in_ok-members-in-Map-Map.ensures) c.put_row-in-Map-Map.ensures.put)

-- ---- where a part is refused

pub add_all-returns-in_err-add_tree-clause-too_many : goal.add_all-returns-in_err-add_tree-clause-too_many
add_all-returns-in_err-add_tree-clause-too_many t c = λ is ordinals after adds.
    all_refused c.args.model.now _ _ c.loop-part.invariant.previous _ c.loop-part.invariant.agree (map plain c.args.parts.now) c.loop-part.part-index (plain c.part-item.result)
    (image_at plain c.args.parts.now c.loop-part.part-index c.part-item.result c.loop-part-test.true c.part-item.is) c.args.type_index (c.loop-part.invariant.left (ordinals, after, adds)) (c.in_err-add_tree.ensures.too_many (passed_on _ c.from_residual-in_err-add_tree.result is c.from_residual-in_err-add_tree.ensures.1))

pub add_pairs-returns-in_err-key-clause-too_many : goal.add_pairs-returns-in_err-key-clause-too_many
add_pairs-returns-in_err-key-clause-too_many t c = λ is pairs after adds.
    key_refused c.args.model.now _ _ c.loop-part.invariant.previous _ c.loop-part.invariant.agree (c.args.key_type, c.args.value_type) (map plain_pair c.args.parts.now) c.loop-part.part-index (plain_pair c.part-item.result)
    (image_at plain_pair c.args.parts.now c.loop-part.part-index c.part-item.result c.loop-part-test.true c.part-item.is) (c.loop-part.invariant.left (pairs, after, adds)) (c.in_err-key.ensures.too_many (passed_on _ c.from_residual-in_err-key.result is c.from_residual-in_err-key.ensures.1))

pub add_pairs-returns-in_err-value-clause-too_many : goal.add_pairs-returns-in_err-value-clause-too_many
add_pairs-returns-in_err-value-clause-too_many t c = λ is pairs after adds.
    value_refused c.args.model.now _ _ c.loop-part.invariant.previous _ c.loop-part.invariant.agree (c.args.key_type, c.args.value_type) (map plain_pair c.args.parts.now) c.loop-part.part-index (plain_pair c.part-item.result)
    (image_at plain_pair c.args.parts.now c.loop-part.part-index c.part-item.result c.loop-part-test.true c.part-item.is) (c.loop-part.invariant.left (pairs, after, adds)) _ c.add_tree.ensures.previous _ c.in_ok-key.key c.in_ok-key.ensures.added
    (c.in_err-value.ensures.too_many (passed_on _ c.from_residual-in_err-value.result is c.from_residual-in_err-value.ensures.1))

pub add_fields-returns-in_err-add_tree-in-None-clause-too_many : goal.add_fields-returns-in_err-add_tree-in-None-clause-too_many
add_fields-returns-in_err-add_tree-in-None-clause-too_many t c = λ is values after adds.
    let x = plain c.index-parts-place.result in
    let here = image_at plain c.args.parts.now c.loop-place.place c.index-parts-place.result c.loop-place-test.true c.index-parts-place.is in
    let next = field_fits c.args.model.now _ _ c.loop-place.invariant.previous 0 (map plain c.args.parts.now) c.loop-place.place x here c.args.fields.now c.loop-place.invariant.fits in
    field_refused c.args.model.now _ _ c.loop-place.invariant.previous _ c.loop-place.invariant.agree (map plain c.args.parts.now) c.loop-place.place x here c.args.fields.now next.0 next.1 (c.loop-place.invariant.left (values, after, adds))
    _ c.type_of-type_index.result (read_at c.args.fields.now c.loop-place.place next.0 c.index-fields-place.result next.1) c.type_of-type_index.ensures
    (subst (TellsLeaf x) c.in-None.is c.in_ok-value.ensures) (c.in_err-add_tree-in-None.ensures.too_many (passed_on _ c.from_residual-in_err-add_tree-in-None.result is c.from_residual-in_err-add_tree-in-None.ensures.1))

-- ---- where the row itself is refused

pub add_tree-returns-in_ok-values-in-Object-Object-clause-too_many : goal.add_tree-returns-in_ok-values-in-Object-Object-clause-too_many
add_tree-returns-in_ok-values-in-Object-Object-clause-too_many t c = λ is ordinal after adds.
    object_unput c.args.model.now (previous_of c.args.maps.now) _ c.in_ok-values-in-Object-Object.ensures.previous c.args.type_index c.schema.result.now c.schema.ensures.value (current_of c.args.maps.now) c.requires.agree ordinal after
    (trees_of_list (map plain c.as_slice-in-Object-Object.result.now)) _ _ c.in-Object-Object.is-0
    c.in_ok-values-in-Object-Object.values _
    (subst (λ fs. AddsFields c.args.model.now (previous_of c.args.maps.now) fs (trees_of_list (map plain c.as_slice-in-Object-Object.result.now)) (current_of c.args.maps.now) c.in_ok-values-in-Object-Object.values (current_of c.add_fields.new.maps)) c.as_slice.ensures c.in_ok-values-in-Object-Object.ensures.added)
    (c.put_row.ensures.too_many is)
    (subst (λ tree. Adds c.args.model.now (previous_of c.args.maps.now) c.args.type_index tree (current_of c.args.maps.now) ordinal after) (sym (object_image c.args.tree.now c.in-Object-Object.parts c.as_slice-in-Object-Object.result.now c.in-Object-Object.is-1 c.as_slice-in-Object-Object.ensures)) adds)

pub add_tree-returns-in_ok-ordinals-in-List-List-clause-too_many : goal.add_tree-returns-in_ok-ordinals-in-List-List-clause-too_many
add_tree-returns-in_ok-ordinals-in-List-List-clause-too_many t c = λ is ordinal after adds.
    list_unput c.args.model.now (previous_of c.args.maps.now) _ c.in_ok-ordinals-in-List-List.ensures.previous c.args.type_index c.schema.result.now c.schema.ensures.value (current_of c.args.maps.now) c.requires.agree ordinal after
    (trees_of_list (map plain c.as_slice-in-List-List.result.now)) c.in-List-List.element c.index_of-element.result c.index_of-element.ensures c.in-List-List.is-0
    c.in_ok-ordinals-in-List-List.ordinals _ c.in_ok-ordinals-in-List-List.ensures.added (c.put_row-in-List-List.ensures.too_many is)
    (subst (λ tree. Adds c.args.model.now (previous_of c.args.maps.now) c.args.type_index tree (current_of c.args.maps.now) ordinal after) (sym (list_image c.args.tree.now c.in-List-List.parts c.as_slice-in-List-List.result.now c.in-List-List.is-1 c.as_slice-in-List-List.ensures)) adds)

pub add_tree-returns-in_ok-members-in-Set-Set-clause-too_many : goal.add_tree-returns-in_ok-members-in-Set-Set-clause-too_many
add_tree-returns-in_ok-members-in-Set-Set-clause-too_many t c = λ is ordinal after adds.
    set_unput c.args.model.now (previous_of c.args.maps.now) _ c.in_ok-ordinals-in-Set-Set.ensures.previous c.args.type_index c.schema.result.now c.schema.ensures.value (current_of c.args.maps.now) c.requires.agree ordinal after
    (trees_of_list (map plain c.as_slice-in-Set-Set.result.now)) c.in-Set-Set.element c.index_of-element-in-Set-Set.result c.index_of-element-in-Set-Set.ensures c.in-Set-Set.is-0
    c.in_ok-ordinals-in-Set-Set.ordinals c.in_ok-members-in-Set-Set.members _ c.in_ok-ordinals-in-Set-Set.ensures.added
    (subst (λ os. IsSetOf os c.in_ok-members-in-Set-Set.members) c.as_slice-in-Set-Set-2.ensures c.in_ok-members-in-Set-Set.ensures) (c.put_row-in-Set-Set.ensures.too_many is)
    (subst (λ tree. Adds c.args.model.now (previous_of c.args.maps.now) c.args.type_index tree (current_of c.args.maps.now) ordinal after) (sym (set_image c.args.tree.now c.in-Set-Set.parts c.as_slice-in-Set-Set.result.now c.in-Set-Set.is-1 c.as_slice-in-Set-Set.ensures)) adds)

pub add_tree-returns-in_ok-members-in-Map-Map-clause-too_many : goal.add_tree-returns-in_ok-members-in-Map-Map-clause-too_many
add_tree-returns-in_ok-members-in-Map-Map-clause-too_many t c = λ is ordinal after adds.
    map_unput c.args.model.now (previous_of c.args.maps.now) _ c.in_ok-pairs-in-Map-Map.ensures.previous c.args.type_index c.schema.result.now c.schema.ensures.value (current_of c.args.maps.now) c.requires.agree ordinal after
    (pairs_of_list (map plain_pair c.as_slice-in-Map-Map.result.now)) c.in-Map-Map.key c.in-Map-Map.value c.index_of-key.result c.index_of-value.result c.index_of-key.ensures c.index_of-value.ensures c.in-Map-Map.is-0
    c.in_ok-pairs-in-Map-Map.pairs c.in_ok-members-in-Map-Map.members _ c.in_ok-pairs-in-Map-Map.ensures.added
    (subst (λ ps. IsMapOf ps c.in_ok-members-in-Map-Map.members) c.as_slice-in-Map-Map-2.ensures c.in_ok-members-in-Map-Map.ensures) (c.put_row-in-Map-Map.ensures.too_many is)
    (subst (λ tree. Adds c.args.model.now (previous_of c.args.maps.now) c.args.type_index tree (current_of c.args.maps.now) ordinal after) (sym (map_image c.args.tree.now c.in-Map-Map.parts c.as_slice-in-Map-Map.result.now c.in-Map-Map.is-1 c.as_slice-in-Map-Map.ensures)) adds)
