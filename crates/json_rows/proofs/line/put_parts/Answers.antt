use Rattle.std.proofs.Common.{◌≡◌, ◌++◌, decimal, refl, ap, ◌∙◌, subst}
use Rattle.json_rows.proofs.Behind.{front_of, front_of_try, front_then, if_ok_put}
use Rattle.json_rows.proofs.Printed.{row_prints}
use Rattle.json_rows.proofs.Put.{line_put}
use Rattle.json_rows.proofs.line.put_parts.Goals as goal

pub returns-clause-put : goal.returns-clause-put
returns-clause-put g c =
    let form = c.args.lines.now.form in
    let schema = form.schema.now in
    let numbered = subst (λ n. c.put_unsigned.new.out.items ≡ c.extend_from_slice.new.self.items ++ decimal n) c.from.ensures c.in_ok-put_unsigned.ensures.put in
    if_ok_put c.extend_from_slice-3.result _ _ _ _ c.extend_from_slice-3.ensures.items (λ put row at.
    let printed = row_prints schema.shape row (c.requires.fits.rows c.args.type_index c.args.ordinal schema row c.requires.lines.schema at) in (
      _,
      (printed.0, printed.1, refl),
      line_put schema.name c.args.ordinal printed.0 _ _ _ _ _ _ c.in_ok-extend_from_slice.ensures.items numbered c.in_ok-extend_from_slice-2.ensures.items (c.in_ok-put_standing.ensures.put row at printed.0 printed.1)
          (put ∙ ap (λ t. c.put_standing.new.out.items ++ t) (c.as_bytes.ensures.value ∙ c.requires.lines.formed.end)),
    ))

pub returns-in_err-put_standing-clause-front : goal.returns-in_err-put_standing-clause-front
returns-in_err-put_standing-clause-front g c =
    front_then _ _ _ (front_then _ _ _ (front_then _ _ _ (front_of _ _ _ c.in_ok-extend_from_slice.ensures.items) (front_of _ _ _ c.in_ok-put_unsigned.ensures.put)) (front_of _ _ _ c.in_ok-extend_from_slice-2.ensures.items))
    c.in_err-put_standing.ensures.front

pub returns-clause-front : goal.returns-clause-front
returns-clause-front g c =
    front_then _ _ _ (front_then _ _ _ (front_then _ _ _ (front_then _ _ _ (front_of _ _ _ c.in_ok-extend_from_slice.ensures.items) (front_of _ _ _ c.in_ok-put_unsigned.ensures.put)) (front_of _ _ _ c.in_ok-extend_from_slice-2.ensures.items))
    c.in_ok-put_standing.ensures.front) (front_of_try c.extend_from_slice-3.result _ _ _ c.extend_from_slice-3.ensures.items)
