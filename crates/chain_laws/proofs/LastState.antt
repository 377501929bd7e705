-- What is known of the last state of a producer over a chain.
use Rattle.std.proofs.Common.{◌≡◌, ◌<◌, ℕ, length, Some, inl, inr, sym, ap, subst, ◌∙◌, arith}
use Rattle.std.specs.Prelude.{FitsSigned, IsSome, is_some}
use Rattle.std.specs.Int.{w64}
use Rattle.std.specs.FinMap.{get, get-empty}
use Rattle.std.specs.Ordering.{nat_cmp}
use Rattle.std.proofs.lemmas.Int.{ints}
use Rattle.hol_io.specs.Store.{Store}
use Rattle.row_model.specs.declared.row.Row.{Row}
use Rattle.schema_model.specs.declared.limit.Limit.TheVariants.{Ordinals}
use Rattle.schema_model.specs.Limit.{number_of_limit}
use Rattle.row_model.specs.Table.{IsClosed, IsLive, IsTableOf, Table}
use Rattle.row_model.proofs.RowsFrom.{get_in}
use Rattle.write_engine.specs.Agreement.{HoldsOnce}
use Rattle.write_engine.specs.Cycle.{no_rows, rows_in}
use Rattle.write_engine.proofs.ClosedStates.{none_closed}
use Rattle.write_engine.proofs.NextStates.{none_there}
use Rattle.write_engine.proofs.StoredRows.{none_stored}
use Rattle.state_blobs.specs.Published.{Published}
use Rattle.written_laws.specs.Chain.{Chain, HoldsOnce as HoldsNoneTwice}
use Rattle.written_laws.specs.States.{IsState}
use Rattle.written_laws.proofs.GrownRows.{state_grown}
use Rattle.chain_laws.specs.Producers.{IsOver, KeepsChain}

-- no row twice, a state of the model, and a tag of 64 bits
pub record IsLast (last : Published) : Type 0 where
  pub once : HoldsOnce last.rows
  pub state : IsState last.model last.rows
  pub tag : FitsSigned w64 last.tag

pub none_once : (count : ℕ) → HoldsOnce (no_rows count)
none_once count = record {
  once = λ t a b row at_a at_b. absurd (none t a row at_a);
  low = λ t ordinal live. absurd (nothing t ordinal live);
}
  where
    none : (t a : ℕ) (row : Row) → get (rows_in (no_rows count) t) a ≡ Some row → ⊥
    none t a row at = let e = sym (ap (λ rows. get rows a) (none_there count t) ∙ get-empty nat_cmp a) ∙ at in absurd cc

    nothing : (t a : ℕ) → IsSome (get (rows_in (no_rows count) t) a) → ⊥
    nothing t a live = let e = sym (ap is_some (ap (λ rows. get rows a) (none_there count t) ∙ get-empty nat_cmp a)) ∙ live in absurd cc

none_state : (last : Published) → last.rows ≡ no_rows (length last.model) → IsState last.model last.rows
none_state last is =
    let closed = none_closed last.model in
    subst (λ (rows : Table). IsState last.model rows) (sym is)
    record { rows = closed.fits; closed = closed.closed; stored = λ t o schema row at found. none_stored (length last.model) t o row found }

pub last_is : (store : Store) (chain : Chain) (last : Published) → KeepsChain store chain → IsOver chain last → IsLast last
last_is store chain last kept over =
    elim over.stands [
      | inl new ↦ record {
        once = subst HoldsOnce (sym (ap (λ (p : Published). p.rows) new)) (none_once (length last.model));
        state = none_state last (ap (λ (p : Published). p.rows) new);
        tag = subst (FitsSigned w64) (sym (ap (λ (p : Published). p.tag) new)) (omega (arith, ints));
      }
      | inr at ↦
          (let sound = kept.holds.sound.sound last.version at.state at.there in
          let seen = state_grown at.state last.model sound over.model at.grows in
          let once : HoldsNoneTwice last.rows = subst (λ (rows : Table). HoldsNoneTwice rows) (sym at.rows) seen.once in
          let low : (t ordinal : ℕ) → IsLive last.rows t ordinal → ordinal < number_of_limit Ordinals =
          subst (λ (rows : Table). (t ordinal : ℕ) → IsLive rows t ordinal → ordinal < number_of_limit Ordinals) (sym at.rows) seen.ordinals in
          record {
            once = record {
              once = λ t a b row at_a at_b. once t a b row (sym (get_in last.rows t a) ∙ at_a) (sym (get_in last.rows t b) ∙ at_b);
              low = λ t ordinal live. low t ordinal (subst IsSome (get_in last.rows t ordinal) live);
            };
            state = record {
              rows = subst (λ (rows : Table). IsTableOf last.model rows) (sym at.rows) seen.rows;
              closed = subst (λ (rows : Table). IsClosed last.model rows) (sym at.rows) seen.closed;
              stored = at.stored;
            };
            tag = subst (FitsSigned w64) (sym at.tag) sound.tag;
          })
    ]
