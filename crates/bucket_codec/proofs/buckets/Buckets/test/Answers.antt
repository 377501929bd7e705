use Rattle.std.proofs.Common.{◌≡◌, length, sym, subst, ◌∙◌}
use Rattle.std.specs.Int.{IsPowerOfTwo}
use Rattle.bucket_codec.specs.Run.{taken_of}
use Rattle.bucket_codec.specs.Buckets.{FindsEach, run_of}
use Rattle.bucket_codec.proofs.RunBuckets.{length-run_in}
use Rattle.bucket_codec.proofs.Spelled.{not_found, other_count, spells_counted, told_none, told_some}
use Rattle.bucket_codec.proofs.buckets.Buckets.test.Goals as goal

pub count_found-requires-clause-power : goal.count_found-requires-clause-power
count_found-requires-clause-power c =
    let long = length-run_in c.args.self.words.now c.args.self.key_width c.args.self.value_width c.args.self.start c.args.self.len in
    subst (λ n. IsPowerOfTwo n) long c.in_default.ensures.power

pub returns-in-Some-None : goal.returns-in-Some-None
returns-in-Some-None c =
    let run = run_of c.args.self in
    let not = told_none (FindsEach run → ⊥) (λ taken. FindsEach run × (taken ≡ length (taken_of run))) c.in-Some-None.field-0 c.in-Some-None.field-0-is c.in-Some-None.ensures in
    (c.in_default.ensures.ranges, not_found run c.args.count not)

pub returns-then-taken-count : goal.returns-then-taken-count
returns-then-taken-count c =
    let run = run_of c.args.self in
    let told = told_some (FindsEach run → ⊥) (λ taken. FindsEach run × (taken ≡ length (taken_of run))) c.in-Some-Some.field-0 c.in-Some-Some.taken c.in-Some-Some.field-0-is c.in-Some-Some.ensures in
    (c.in_default.ensures.ranges, other_count run c.args.count c.in-Some-Some.taken told.1 c.if-taken-count.true)

pub returns-else-taken-count : goal.returns-else-taken-count
returns-else-taken-count c =
    let run = run_of c.args.self in
    let told = told_some (FindsEach run → ⊥) (λ taken. FindsEach run × (taken ≡ length (taken_of run))) c.in-Some-Some.field-0 c.in-Some-Some.taken c.in-Some-Some.field-0-is c.in-Some-Some.ensures in
    spells_counted run c.args.count
    (record { ranges = c.in_default.ensures.ranges; taken = sym c.if-taken-count.false ∙ told.1; room = c.in_default.ensures.room; power = c.in_default.ensures.power })
    told.0
