use Rattle.std.proofs.Common.{◌<◌, ℕ, List, length, take, get_or, subst, ap}
use Rattle.hol_varint.specs.Varint.{GoOn}
use Rattle.blob_cursor.proofs.Seeking.{seeking_found, seeking_more}
use Rattle.blob_cursor.proofs.cursor.Cursor.stops.Goals as goal

pub returns-in-Some : goal.returns-in-Some
returns-in-Some g c =
    let k = c.in-Some.field-0 in
    record {
      seeks = seeking_found k c.loop-self.invariant
          (subst (λ (xs : List ℕ). (k < length xs) × GoOn (take k xs) × (get_or xs k 0 < 128)) c.ahead-in-loop-self.ensures.value c.in-Some.ensures);
    }

pub loop-self-preserved : goal.loop-self-preserved
loop-self-preserved g c =
    seeking_more _ c.loop-self.invariant (subst (λ (xs : List ℕ). GoOn xs) c.ahead-in-loop-self.ensures.value c.in-None.ensures)
    (ap (λ (xs : List ℕ). length xs) c.ahead-count.ensures.value) c.pass.ensures.moved c.in_ok-want-in-None.ensures.fills
