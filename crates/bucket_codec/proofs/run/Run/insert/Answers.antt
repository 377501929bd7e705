use Rattle.std.proofs.Common.{arith, ◌≡◌, ◌+◌, ◌*◌, ◌≤◌, ◌∙◌, ap, Some}
use Rattle.std.proofs.Math.Nat.{mul-le-mul_right}
use Rattle.bucket_codec.specs.Run.{bucket_in}
use Rattle.bucket_codec.proofs.RunBuckets.{length-run_in}
use Rattle.bucket_codec.proofs.Writing.{inserted, put_taken}
use Rattle.bucket_codec.proofs.Behind.{zeros_but_taken}
use Rattle.bucket_codec.proofs.Inserts.{one_put}
use Rattle.bucket_codec.proofs.run.Run.insert.Goals as goal

pub put-requires-clause-inside : goal.put-requires-clause-inside
put-requires-clause-inside c =
    let long = length-run_in c.args.words.now c.args.self.key_width c.args.self.value_width c.args.self.start c.args.self.size in
    omega (arith, c.free_place-place.ensures.inside, long)

pub returns-clause-filled : goal.returns-clause-filled
returns-clause-filled c = λ pairs filled.
    let here : bucket_in c.put.new.words c.args.self.key_width c.args.self.value_width (c.args.self.start + c.free_place-place.result) ≡ Some (c.from.result, c.from-2.result) =
    put_taken c.args.self.key_width c.from.result _ _ c.put.ensures.is (omega (arith, c.from.ensures, c.requires.key)) in
    let there : bucket_in c.put.new.words c.args.self.key_width c.args.self.value_width (c.args.self.start + c.free_place-place.result) ≡ Some (c.args.key, c.args.value) =
    here ∙ ap (λ k. Some (k, c.from-2.result)) c.from.ensures ∙ ap (λ v. Some (c.args.key, v)) c.from-2.ensures in
    inserted c.args.words.now c.put.new.words c.args.self.key_width c.args.self.value_width c.args.self.start c.args.self.size c.free_place-place.result c.args.key c.args.value pairs
    there (λ index other. (c.put.ensures.others index other).0) c.free_place-place.ensures filled

pub returns-clause-laid : goal.returns-clause-laid
returns-clause-laid c =
    let here : bucket_in c.put.new.words c.args.self.key_width c.args.self.value_width (c.args.self.start + c.free_place-place.result) ≡ Some (c.from.result, c.from-2.result) =
    put_taken c.args.self.key_width c.from.result _ _ c.put.ensures.is (omega (arith, c.from.ensures, c.requires.key)) in
    let there : bucket_in c.put.new.words c.args.self.key_width c.args.self.value_width (c.args.self.start + c.free_place-place.result) ≡ Some (c.args.key, c.args.value) =
    here ∙ ap (λ k. Some (k, c.from-2.result)) c.from.ensures ∙ ap (λ v. Some (c.args.key, v)) c.from-2.ensures in
    one_put c.args.words.now c.put.new.words c.args.self.key_width c.args.self.value_width c.args.self.start c.args.self.size c.free_place-place.result c.args.key c.args.value
    there (λ index other. (c.put.ensures.others index other).0) c.free_place-place.ensures

pub returns-clause-zeros : goal.returns-clause-zeros
returns-clause-zeros c =
    zeros_but_taken c.args.words.now c.put.new.words c.args.self.key_width c.args.self.value_width (c.args.self.start + c.free_place-place.result) (c.from.result, c.from-2.result)
    (put_taken c.args.self.key_width c.from.result _ _ c.put.ensures.is (omega (arith, c.from.ensures, c.requires.key))) c.put.ensures.others

pub returns-clause-back : goal.returns-clause-back
returns-clause-back c =
    let place = c.free_place-place.result in
    let long = length-run_in c.args.words.now c.args.self.key_width c.args.self.value_width c.args.self.start c.args.self.size in
    let inside : c.args.self.start + place + 1 ≤ c.args.self.start + c.args.self.size = omega (arith, c.free_place-place.ensures.inside, long) in
    let up : (c.args.self.start + place + 1) * (c.args.self.key_width + c.args.self.value_width) ≤ (c.args.self.start + c.args.self.size) * (c.args.self.key_width + c.args.self.value_width) =
    mul-le-mul_right (c.args.self.key_width + c.args.self.value_width) inside in
    λ i v behind. c.put.ensures.back i v (omega arith)
