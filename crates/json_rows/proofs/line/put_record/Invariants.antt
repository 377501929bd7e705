use Rattle.std.proofs.Common.{◌≡◌, ◌∷◌, [], ◌++◌, List, drop, length, take}
use Rattle.std.specs.List.{AllZip}
use Rattle.serde_json.specs.Data.{Data}
use Rattle.json_rows.specs.LineForm.{text_at}
use Rattle.json_rows.specs.StoredRow.{IsValueData}
use Rattle.json_rows.proofs.line.put_record.Given as goal

-- the fields that are left make the text whole
abbrev pub invariant-loop-lead : goal.invariant-loop-lead
invariant-loop-lead l =
    ((printed : List Data) → AllZip IsValueData l.values printed
    → l.out.items ++ text_at (drop l.lead-index l.leads) printed (125 ∷ []) ≡ l.fn.out.items ++ 123 ∷ text_at l.leads printed (125 ∷ []))
    × (take (length l.fn.out.items) l.out.items ≡ l.fn.out.items)
