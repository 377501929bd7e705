use Rattle.std.proofs.Common.{[], ◌∷◌, ◌++◌, All, sym, ap, ◌∙◌, subst}
use Rattle.std.proofs.lemmas.Result.{on_ok_weaker}
use Rattle.json_rows.specs.PlainText.{IsPlainUnit}
use Rattle.json_rows.specs.StoredRow.{IsValueData}
use Rattle.json_rows.proofs.PlainTexts.{plain_prints}
use Rattle.json_rows.proofs.value.put_value.Goals as goal

pub returns-in-Text-clause-put : goal.returns-in-Text-clause-put
returns-in-Text-clause-put c =
    let units = c.in-Text.units in
    let out = c.args.out.now.items in
    let all : All IsPlainUnit units = subst (All IsPlainUnit) c.as_slice.ensures (c.is_plain.ensures c.if-is_plain.true) in
    on_ok_weaker c.put_plain.result (λ put printed prints.
    put ∙ ap (λ t. out ++ 34 ∷ (t ++ 34 ∷ [])) c.as_slice-in-Text.ensures
    ∙ ap (λ t. out ++ t) (sym (plain_prints units printed all (subst (λ v. IsValueData v printed) c.in-Text.is prints)))) c.put_plain.ensures.put
