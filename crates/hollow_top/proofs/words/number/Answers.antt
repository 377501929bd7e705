use Rattle.std.proofs.Common.{◌∙◌, refl, sym, subst, arith}
use Rattle.std.proofs.lemmas.Bool.{false≢true}
use Rattle.hollow_top.specs.Words.{BeginsPlainly, TellsNumber}
use Rattle.hollow_top.proofs.Numbers.{decimal_begins, parse_tells, same_number}
use Rattle.hollow_top.proofs.words.number.Goals as goal
use Rattle.hollow_top.proofs.words.number.Goals.{else-least-number-via-then-least-number+else-number-most, else-least-number-via-else-least-number}

pub returns-then-not-begins_plainly : goal.returns-then-not-begins_plainly
returns-then-not-begins_plainly c n range is =
    false≢true (c.if-not-begins_plainly.ensures.1 (subst BeginsPlainly (sym c.as_bytes.ensures.value) (decimal_begins n c.args.text.now (omega arith) is)))

pub returns-in_err-number : goal.returns-in_err-number
returns-in_err-number c =
    let plain = subst BeginsPlainly c.as_bytes.ensures.value (c.if-not-begins_plainly.ensures.0 refl) in
    let none = parse_tells c.args.text.now c.parse.result _ c.parse.ensures.value.0 plain (sym c.in_err-number.was ∙ c.ok.ensures.value) in
    subst (TellsNumber c.args.least c.args.most c.args.text.now) (sym c.from_residual.ensures) (λ n range is. none n (omega arith) is)

pub returns-then-number-most : goal.returns-then-number-most
returns-then-number-most c =
    let plain = subst BeginsPlainly c.as_bytes.ensures.value (c.if-not-begins_plainly.ensures.0 refl) in
    ((omega arith, omega arith), parse_tells c.args.text.now c.parse.result _ c.parse.ensures.value.0 plain (sym c.in_ok-number.was ∙ c.ok.ensures.value))

pub returns-else-least-number : goal.returns-else-least-number
returns-else-least-number c n range is =
    let plain = subst BeginsPlainly c.as_bytes.ensures.value (c.if-not-begins_plainly.ensures.0 refl) in
    let found = parse_tells c.args.text.now c.parse.result _ c.parse.ensures.value.0 plain (sym c.in_ok-number.was ∙ c.ok.ensures.value) in
    let same = same_number c.args.text.now n c.in_ok-number.number (omega arith) (omega arith) is found in
    elim c.else-least-number.branch [
      | else-least-number-via-then-least-number+else-number-most w ↦ omega arith
      | else-least-number-via-else-least-number w ↦ omega arith
    ]
