use Rattle.std.proofs.Common.{◌++◌, ap, ◌∙◌}
use Rattle.json_rows.proofs.Behind.{front_of, front_then}
use Rattle.hol_answers.proofs.OrdinalsLine.{parts_put}
use Rattle.hol_answers.proofs.ordinals_line.put_parts.Goals as goal

pub returns-clause-put : goal.returns-clause-put
returns-clause-put c =
    parts_put c.args.out.now.items c.extend_from_slice.new.self.items c.put_ordinals.new.out.items c.extend_from_slice-2.new.self.items c.args.front.now c.args.ordinals.now
    (c.in_ok-extend_from_slice.ensures.items ∙ ap (λ t. c.args.out.now.items ++ t) c.as_bytes.ensures.value) c.in_ok-put_ordinals.ensures.put c.in_ok-extend_from_slice-2.ensures.items

pub returns-clause-front : goal.returns-clause-front
returns-clause-front c =
    front_then _ _ _ (front_then _ _ _ (front_of _ _ _ c.in_ok-extend_from_slice.ensures.items) c.in_ok-put_ordinals.ensures.front) (front_of _ _ _ c.in_ok-extend_from_slice-2.ensures.items)

pub returns-in_err-put_ordinals-clause-front : goal.returns-in_err-put_ordinals-clause-front
returns-in_err-put_ordinals-clause-front c = front_then _ _ _ (front_of _ _ _ c.in_ok-extend_from_slice.ensures.items) c.in_err-put_ordinals.ensures.front
