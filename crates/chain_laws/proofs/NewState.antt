-- The next state of a producer is a sound state, which is written beside the last one.
use Rattle.std.proofs.Common.{◌≡◌, ◌≢◌, ◌≤◌, ◌<◌, ◌^◌, ℕ, ℤ, pos, zero, suc, List, [], ◌∷◌, length, Some, inl, inr, refl, sym, ap, subst, ◌∙◌, arith}
use Rattle.std.specs.Prelude.{IsSome, None, FitsSigned}
use Rattle.std.specs.Int.{w64}
use Rattle.std.specs.FinMap.{empty, get-empty, values}
use Rattle.std.specs.Ordering.{nat_cmp}
use Rattle.std.proofs.lemmas.Bool.{cases_lt}
use Rattle.row_model.specs.declared.row.Row.{Row}
use Rattle.row_model.specs.PlainTree.{PlainTree}
use Rattle.row_model.specs.Table.{Table, row_at}
use Rattle.row_model.specs.BothStates.{rows_in}
use Rattle.row_model.proofs.RowsFrom.{get_in, rows_past}
use Rattle.row_packing.specs.Chosen.{IsLiveInEither}
use Rattle.row_packing.proofs.RowsUnder.{values_all}
use Rattle.type_rows.specs.WordsHeld.{bytes_held}
use Rattle.write_engine.specs.Agreement.{HoldsOnce, TablesAgree}
use Rattle.write_engine.specs.Cycle.{Next}
use Rattle.write_engine.specs.CycleLimit.{TellsTypes}
use Rattle.write_engine.specs.Soundness.{IsClosedTableOf}
use Rattle.write_engine.proofs.ClosedStates.{next_closed}
use Rattle.write_engine.proofs.NextStates.{next_agree, next_once}
use Rattle.write_engine.proofs.StoredRows.{next_stored}
use Rattle.state_blobs.specs.Published.{Published}
use Rattle.written_laws.specs.Chain.{IsSound}
use Rattle.written_laws.specs.States.{IsWritableModel, IsState, AreStates}
use Rattle.chain_laws.specs.Producers.{state_behind}

-- past the types there are no rows
none_past : (table : Table) (t : ℕ) → length table ≤ t → rows_in table t ≡ empty
none_past [] t past = refl
none_past (rows ∷ table) zero past = absurd (omega (arith, past))
none_past (rows ∷ table) (suc t) past = none_past table t (omega (arith, past))

no_bytes : bytes_held (values (empty {X = Row} {R = nat_cmp})) ≡ 0
no_bytes = ap bytes_held (sym (values_all empty) ∙ rows_past empty 0 (λ q from. get-empty nat_cmp q))

module _ (last : Published) (rows : Table) (trees : List (ℕ × PlainTree)) (model : IsWritableModel last.model) (once : HoldsOnce last.rows) (before : IsState last.model last.rows)
    (made : Next last.model last.rows trees rows) (kept : TellsTypes last.model last.rows rows None) where
  closed : IsClosedTableOf last.model rows
  closed = next_closed last.model last.rows rows trees made

  agree : TablesAgree last.rows rows
  agree = next_agree last.model last.rows rows trees once made

  later : HoldsOnce rows
  later = next_once last.model last.rows rows trees once made

  pub state_after : IsState last.model rows
  state_after = record {
    rows = closed.fits;
    closed = closed.closed;
    stored = λ t o schema row at found. next_stored last.model last.rows rows trees made t o row found;
  }

  below : (t o : ℕ) → IsLiveInEither last.rows rows t o → o < 2 ^ 22
  below t o (inl was) = (agree t).low o (inl (subst IsSome (sym (get_in last.rows t o)) was))
  below t o (inr is) = (agree t).low o (inr (subst IsSome (sym (get_in rows t o)) is))

  pub same_rows : (t o : ℕ) (a b : Row) → row_at last.rows t o ≡ Some a → row_at rows t o ≡ Some b → a ≡ b
  same_rows t o a b was is = (agree t).one_row o a b (inl (get_in last.rows t o ∙ was)) (inr (get_in rows t o ∙ is))

  pub states : AreStates last.model last.rows rows
  states = record {
    model = model;
    before = before;
    after = state_after;
    together = record {
      agree = λ t inside. same_rows t;
      keeps = λ t inside. record { ordinals = below t; items = (kept t inside).0; old_bytes = (kept t inside).1.0; new_bytes = (kept t inside).1.1 };
    };
    words = λ t inside. (kept t inside).2;
  }

  few_bytes : (t : ℕ) → bytes_held (values (rows_in rows t)) ≤ 2 ^ 25
  few_bytes t =
      elim (cases_lt t (length last.model)) [
        | inl inside ↦ subst (λ (rs : List Row). bytes_held rs ≤ 2 ^ 25) (values_all (rows_in rows t)) (kept t inside).1.1
        | inr past ↦
            (let none = ap (λ r. bytes_held (values r)) (none_past rows t (omega (arith, past, closed.fits.types))) ∙ no_bytes in
            omega (arith, none))
      ]

  pub sound : (tag : ℤ) → FitsSigned w64 tag → tag ≢ pos 0 → IsSound (state_behind last tag rows)
  sound tag fits tagged = record {
    tag = fits;
    tagged = tagged;
    model = model.model;
    rows = closed.fits;
    closed = closed.closed;
    once = λ t a b row at_a at_b. later.once t a b row (get_in rows t a ∙ at_a) (get_in rows t b ∙ at_b);
    ordinals = λ t o live. later.low t o (subst IsSome (sym (get_in rows t o)) live);
    bytes = few_bytes;
  }
