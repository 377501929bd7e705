use Rattle.std.proofs.Common.{◌≡◌, ◌++◌, to_z-of_z, ap, ◌∙◌}
use Rattle.std.specs.Fmt.{decimal, signed_decimal}
use Rattle.std.proofs.lemmas.Result.{on_ok_weaker}
use Rattle.json_rows.proofs.Decimals.{no_sign}
use Rattle.json_rows.proofs.value.put_signed.Goals as goal

pub returns-then-number-ge0-clause-put : goal.returns-then-number-ge0-clause-put
returns-then-number-ge0-clause-put c =
    let back = to_z-of_z c.ranges.number in
    let same : decimal c.unsigned_abs.result ≡ signed_decimal c.args.number = rw (c.unsigned_abs.ensures.value, back) (no_sign c.args.number (rw back at c.if-number-ge0.true)) in
    on_ok_weaker c.put_unsigned.result (λ put. put ∙ ap (λ t. c.args.out.now.items ++ t) same) c.put_unsigned.ensures.put
