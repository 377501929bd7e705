-- What an answer tells of the text of a live row, clause by clause.
use Rattle.std.proofs.Common.{◌≡◌, ℕ, ◌+◌, ◌<◌, ◌++◌, List, Result, Ok, Err, refl, inl, inr, arith}
use Rattle.std.specs.Prelude.{OnOk}
use Rattle.hol_varint.specs.Yields.{Yields}
use Rattle.serde_json.specs.Data.{Data}
use Rattle.serde_json.specs.Written.{compact_text}
use Rattle.record_json.specs.Printing.{IsFreePrint, TellsPut}
use Rattle.record_json.specs.declared.print_fault.PrintFault.{PrintFault}
use Rattle.record_json.specs.declared.print_fault.PrintFault.TheVariants.{Nodes, Memory}

module _ (Prints : Data → Type 0) (nodes : ℕ) (old new : List ℕ) (before after : ℕ) where
  pub put_prints : (r : Result (Unit {0}) PrintFault) → (printed : Data) × Prints printed → TellsPut Prints nodes old new before after r → OnOk r ((printed : Data) × Prints printed × (new ≡ old ++ compact_text printed))
  put_prints (Ok x) (printed, prints) told = (printed, prints, told.0 printed prints)
  put_prints (Err fault) some told = tt

  pub put_spends : (r : Result (Unit {0}) PrintFault) → TellsPut Prints nodes old new before after r → OnOk r (after + nodes ≡ before)
  put_spends (Ok x) told = told.1
  put_spends (Err fault) told = tt

  pub put_nodes : (r : Result (Unit {0}) PrintFault) → TellsPut Prints nodes old new before after r → Yields IsFreePrint r (Err Nodes) (before < nodes)
  put_nodes (Ok x) told = (λ e. absurd cc, λ less. absurd (let spent = told.1 in omega (arith, spent, less)))
  put_nodes (Err Nodes) told = (λ e. told, λ less. inl refl)
  put_nodes (Err Memory) told = (λ e. absurd (let same : Memory ≡ Nodes = cc in cc), λ less. inr tt)
