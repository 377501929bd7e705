use Rattle.std.proofs.Common.{◌+◌, ◌<◌, sym, subst, arith, rules}
use Rattle.std.specs.Prelude.{IsTrue}
use Rattle.blob_writing.specs.Changes.{AreChanged, IsChanged}
use Rattle.blob_writing.proofs.ChangedTypes.{one_changed, one_same}
use Rattle.blob_writing.proofs.Planning.{none_moves, some_comes, some_goes}
use Rattle.blob_writing.proofs.changed.changed_types.Goals.{then-not-is_empty+in_ok-push, then-not-is_empty-via-then-not-is_empty, then-not-is_empty-via-else-not-is_empty+then-not-is_empty-2, else-not-is_empty+else-not-is_empty-2}
use Rattle.blob_writing.proofs.changed.changed_types.Goals as goal

pub loop-type_index-preserved : goal.loop-type_index-preserved
loop-type_index-preserved c old new moved =
    let count = c.args.count in
    let at = c.loop-type_index.type_index in
    let removed = c.args.removed.now in
    let added = c.args.added.now in
    let so_far = c.loop-type_index.invariant old new moved in
    elim c.if-not-is_empty.branch [
      | then-not-is_empty+in_ok-push w ↦
          let changed : IsChanged old new at = elim w.then-not-is_empty.branch [
            | then-not-is_empty-via-then-not-is_empty w' ↦
                some_goes old new count at removed added moved c.get.result.now c.get.ensures
                (λ none. let empty = c.is_empty.ensures.1 none in let test = w'.if-not-is_empty.true in absurd cc)
            | then-not-is_empty-via-else-not-is_empty+then-not-is_empty-2 w' ↦
                some_comes old new count at removed added moved w'.get-else-not-is_empty.result.now w'.get-else-not-is_empty.ensures
                (λ none. let empty = w'.is_empty-else-not-is_empty.ensures.1 none in let test = w'.if-not-is_empty-2.true in absurd cc)
          ] in
          subst (AreChanged (at + 1) old new) (sym w.types-is) (one_changed at old new c.loop-type_index.types _ so_far changed w.in_ok-push.ensures.ok)
      | else-not-is_empty+else-not-is_empty-2 w ↦
          let below : at < count = omega (arith, c.loop-type_index-test.true) in
          let goes : IsTrue c.is_empty.result = search rules in
          let comes : IsTrue w.is_empty-else-not-is_empty.result = search rules in
          subst (AreChanged (at + 1) old new) (sym w.types-is)
          (one_same at old new c.loop-type_index.types so_far
          (none_moves old new count at removed added moved c.get.result.now w.get-else-not-is_empty.result.now below c.get.ensures w.get-else-not-is_empty.ensures (c.is_empty.ensures.0 goes)
          (w.is_empty-else-not-is_empty.ensures.0 comes)))
    ]
