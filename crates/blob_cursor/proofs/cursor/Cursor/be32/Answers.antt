use Rattle.std.proofs.Common.{rules, sym, ap, ◌∙◌, ℕ, List, ◌∷◌, [], get_or}
use Rattle.std.specs.Int.{w32, from_be_bytes}
use Rattle.blob_cursor.proofs.Fixed.{reads_fixed, reads_no_fixed, first_four}
use Rattle.blob_cursor.proofs.cursor.Cursor.be32.Goals as goal

pub returns-in_err-need-clause-reads : goal.returns-in_err-need-clause-reads
returns-in_err-need-clause-reads g c = reads_no_fixed w32 c.in_err-need.ensures.needs (search rules)

pub returns-clause-reads : goal.returns-clause-reads
returns-clause-reads g c =
    reads_fixed w32 c.in_ok-need.ensures.needs c.pass.ensures.moved
    (c.from_be_bytes-number.ensures ∙ (ap (λ (xs : List ℕ). from_be_bytes w32 (get_or xs 0 0 ∷ get_or xs 1 0 ∷ get_or xs 2 0 ∷ get_or xs 3 0 ∷ [])) c.ahead-bytes.ensures.value
    ∙ ap (from_be_bytes w32) (sym (first_four c.need.new.self.ahead c.in_ok-need.ensures.needs.enough))))
