-- Texts put behind one another.
use Rattle.std.proofs.Common.{◌≡◌, ℕ, ◌≤◌, List, ◌++◌, Result, Ok, Err, OnOk, is_ok, if◌then◌else◌, length, take, length-take, sym, ap, ◌∙◌, arith, append_assoc}
use Rattle.std.proofs.lemmas.List.{take_all, take-take, take-append-le}

-- what stood at first stays in front where a text is put behind
pub front_of : (old new more : List ℕ) → new ≡ old ++ more → take (length old) new ≡ old
front_of old new more is = ap (take (length old)) is ∙ take-append-le (length old) old more (omega arith) ∙ take_all (length old) old (omega arith)

-- and it stays through two steps of which each keeps what stood before
pub front_then : (old mid new : List ℕ) → take (length old) mid ≡ old → take (length mid) new ≡ mid → take (length old) new ≡ old
front_then old mid new first second =
    let fits : length old ≤ length mid = omega (arith, ap length first, length-take (length old) mid) in
    sym (take-take (length old) (length mid) new fits) ∙ ap (take (length old)) second ∙ first

-- two texts, one behind the other
pub behind_both : (old mid new first second : List ℕ) → mid ≡ old ++ first → new ≡ mid ++ second → new ≡ old ++ (first ++ second)
behind_both old mid new first second one other = other ∙ ap (λ t. t ++ second) one ∙ append_assoc old first second

-- where a text is put on success alone
pub if_ok_put : {T E : Type 0} (r : Result T E) (P : Type 0) (whole old new : List ℕ) → new ≡ (if is_ok r then whole else old) → (new ≡ whole → P) → OnOk r P
if_ok_put (Ok x) P whole old new is put = put is
if_ok_put (Err e) P whole old new is put = tt

-- and what stood before stays in front, whether it is put or not
pub front_of_try : {T E : Type 0} (r : Result T E) (old new more : List ℕ) → new ≡ (if is_ok r then old ++ more else old) → take (length old) new ≡ old
front_of_try (Ok x) old new more is = front_of old new more is
front_of_try (Err e) old new more is = ap (take (length old)) is ∙ take_all (length old) old (omega arith)
