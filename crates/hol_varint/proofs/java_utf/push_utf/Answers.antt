use Rattle.std.proofs.Common.{◌≡◌, ◌++◌, ◌∷◌, [], length, ap, ◌∙◌, arith, append_assoc}
use Rattle.std.proofs.lemmas.List.{length-append}
use Rattle.hol_varint.specs.JavaUtf.{java_bytes}
use Rattle.hol_varint.proofs.JavaTexts.{utf_written}
use Rattle.hol_varint.proofs.java_utf.push_utf.Goals as goal

pub returns-clause-ok : goal.returns-clause-ok
returns-clause-ok c =
    let before = c.args.out.now.items in
    let units = c.args.units.now in
    let zeros = c.in_ok-extend_from_slice.ensures.items in
    let all : c.push_text.new.out.items ≡ before ++ 0 ∷ 0 ∷ java_bytes units =
    c.in_ok-push_text.ensures.ok ∙ ap (λ bs. bs ++ java_bytes units) zeros ∙ append_assoc before (0 ∷ 0 ∷ []) (java_bytes units) in
    utf_written before units c.push_text.new.out.items c.len-start.result _ (omega arith) all (omega (arith, ap length all, length-append before (0 ∷ 0 ∷ java_bytes units)))
