use Rattle.std.proofs.Common.{◌≡◌, ◌⊎◌, ◌∙◌, ℤ, List, IfSome, w64, of_z, to_z, subst, arith, rules}
use Rattle.std.proofs.lemmas.Int.{ints, to_z-of_z}
use Rattle.delta_blob.specs.declared.patch.PatchPart.{PatchPart}
use Rattle.read_engine.specs.Taken.{CountsTaken, TellsTaken}
use Rattle.std.specs.Prelude.{OnErr}
use Rattle.read_engine.proofs.ConsumerSteps.{by_same, counted_told, delta_kind, moved_kind, moved_told, step_follows, unread, whole_parts}
use Rattle.read_engine.proofs.step.step.Goals as goal

pub take-requires-clause-whole : goal.take-requires-clause-whole
take-requires-clause-whole g c = whole_parts c.args.consumer.now c.types.result.now c.in_ok-patch.patch.parts c.as_slice-parts.result.now c.types.ensures.schemas c.as_slice-parts.ensures c.in_ok-patch.ensures.whole

pub returns-in_err-patch-clause-tells : goal.returns-in_err-patch-clause-tells
returns-in_err-patch-clause-tells g c =
    let same : to_z w64 (of_z w64 c.tag_or_zero-current.result) ≡ c.tag_or_zero-current.result = grind (arith, ints, to_z-of_z) in
    unread c.args.name.now (g.S.BlobStore.seen c.args.store.now).held (to_z w64 (of_z w64 c.tag_or_zero-current.result)) c.types.result.now c.args.consumer.now _ (same ∙ c.tag_or_zero-current.ensures) c.types.ensures.schemas c.in_err-patch.field-0.0 _ (search rules)
    c.in_err-patch.ensures.tells

pub returns-in_err-patch-clause-kind : goal.returns-in_err-patch-clause-kind
returns-in_err-patch-clause-kind g c =
    let same : to_z w64 (of_z w64 c.tag_or_zero-current.result) ≡ c.tag_or_zero-current.result = grind (arith, ints, to_z-of_z) in
    delta_kind c.args.name.now (to_z w64 (of_z w64 c.tag_or_zero-current.result)) c.args.consumer.now (same ∙ c.tag_or_zero-current.ensures) c.in_err-patch.field-0.0 _ (search rules) c.in_err-patch.ensures.kind

pub returns-clause-tells : goal.returns-clause-tells
returns-clause-tells g c =
    let destination : to_z w64 (of_z w64 c.in_ok-patch.patch.destination) ≡ c.in_ok-patch.patch.destination = grind (arith, ints, to_z-of_z) in
    let same : to_z w64 (of_z w64 c.tag_or_zero-current.result) ≡ c.tag_or_zero-current.result = grind (arith, ints, to_z-of_z) in
    let size = c.in_ok-patch.patch.length in
    moved_told c.args.name.now (g.S.BlobStore.seen c.args.store.now).held (to_z w64 (of_z w64 c.tag_or_zero-current.result)) c.types.result.now c.in_ok-patch.patch c.in_ok-patch.ensures.tells c.args.consumer.now c.take.new.consumer
    c.types.ensures.position (same ∙ c.tag_or_zero-current.ensures) c.types.ensures.schemas c.take.result
    (by_same c.args.consumer.now (λ parts from. TellsTaken size c.in_ok-patch.patch.destination parts from c.take.new.consumer c.take.result) c.in_ok-patch.patch.parts c.as_slice-parts.result.now c.as_slice-parts.ensures
    (subst (λ (tag : ℤ). IfSome c.args.consumer.now (λ from. TellsTaken size tag c.as_slice-parts.result.now from c.take.new.consumer c.take.result)) destination c.take.ensures.tells))

pub returns-clause-follows : goal.returns-clause-follows
returns-clause-follows g c = step_follows c.in_ok-patch.patch.length _ c.as_slice-parts.result.now c.args.consumer.now c.take.new.consumer c.take.result c.take.ensures.tells

pub returns-clause-kind : goal.returns-clause-kind
returns-clause-kind g c = moved_kind c.args.name.now c.args.consumer.now c.take.new.consumer c.in_ok-patch.patch.length _ c.as_slice-parts.result.now c.take.result c.take.ensures.tells

pub returns-clause-part : goal.returns-clause-part
returns-clause-part g c =
    let destination : to_z w64 (of_z w64 c.in_ok-patch.patch.destination) ≡ c.in_ok-patch.patch.destination = grind (arith, ints, to_z-of_z) in
    let same : to_z w64 (of_z w64 c.tag_or_zero-current.result) ≡ c.tag_or_zero-current.result = grind (arith, ints, to_z-of_z) in
    counted_told c.args.name.now (g.S.BlobStore.seen c.args.store.now).held (to_z w64 (of_z w64 c.tag_or_zero-current.result)) c.types.result.now c.in_ok-patch.patch c.in_ok-patch.ensures.tells c.args.consumer.now c.types.ensures.position
    (same ∙ c.tag_or_zero-current.ensures) c.types.ensures.schemas c.args.steps.now c.take.new.steps c.take.result
    (subst (λ (parts : List PatchPart). OnErr c.take.result (IfSome c.args.consumer.now (λ from. (c.take.new.steps ≡ c.args.steps.now) ⊎ CountsTaken c.in_ok-patch.patch.destination parts from c.args.steps.now c.take.new.steps))) c.as_slice-parts.ensures
    (subst (λ (tag : ℤ). OnErr c.take.result (IfSome c.args.consumer.now (λ from. (c.take.new.steps ≡ c.args.steps.now) ⊎ CountsTaken tag c.as_slice-parts.result.now from c.args.steps.now c.take.new.steps))) destination c.take.ensures.part))
