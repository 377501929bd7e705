-- The rows of an older version that have a key are among those that left since and those that have the key now.
use Rattle.std.proofs.Common.{Global, Vec, ◌≡◌, inl, inr, ℕ, List, Option, Some, None, refl, sym, ap, ◌∙◌, subst, arith}
use Rattle.std.specs.Prelude.{Contains, IfSome, IsSome, IsSomeAnd}
use Rattle.std.proofs.lemmas.Bool.{false≢true}
use Rattle.schema_model.specs.declared.model.path.Path.{Path}
use Rattle.schema_model.specs.declared.schema.Schema.{Schema}
use Rattle.row_model.specs.declared.row.Row.{Row}
use Rattle.row_model.specs.declared.row.Value.{Value}
use Rattle.row_model.specs.Key.{key_of}
use Rattle.row_model.specs.Table.{IsClosed, IsLive, Table, row_at}
use Rattle.hol_history.specs.History.{PastStep, StandsOn, table_then, tables_of, versions}
use Rattle.hol_history.specs.Then.{table_at}
use Rattle.hol_history.proofs.OldTables.{place_then}
use Rattle.hol_history.proofs.Pushes.{place_within}
use Rattle.hol_history.proofs.Since.{Untouched, untouched_or_left}
use Rattle.read_engine.specs.Position.{Position, rows_now}
use Rattle.hollow_machine.specs.Kept.{AreClosed}
use Rattle.history_orders.specs.Older.{HasCandidates, HasMatches, HasMatchesNow, IsOlder}
use Rattle.history_orders.proofs.Unmoved.{key_now}

module _ (now : Position) (steps : List PastStep) (wanted t : ℕ) (schemas : List Schema) (table : Table) (paths : List Path) (key : List Value) (among : List ℕ)
    (older : IsOlder now steps wanted schemas table) where
  whole : HasCandidates steps wanted t paths key among now → HasMatches schemas table t paths key among
  whole ((count, (place, is_place, counted), left), matches) = λ o live has. by o live has (row_at table t o) refl
    where
      then_table : table ≡ table_at (rows_now now) steps place
      then_table = let one = older.rows in let other = place_then (rows_now now) steps wanted place is_place in cc

      still : (o : ℕ) → IsLive table t o → key_of schemas table t paths o ≡ Some key → Untouched steps t o place → Contains among o
      still o live has none =
          let moved = key_now schemas t o paths (rows_now now) steps place older.closed older.stands older.past_closed (place_within steps wanted place is_place) none
          (subst (λ (rows : Table). IsLive rows t o) then_table live) in
          let has_now : key_of schemas (rows_now now) t paths o ≡ Some key = moved.1 ∙ ap (λ (rows : Table). key_of schemas rows t paths o) (sym then_table) ∙ has in
          matches o moved.0 (ap (λ (s : List Schema). key_of s (rows_now now) t paths o) older.same ∙ has_now)

      by : (o : ℕ) → IsLive table t o → key_of schemas table t paths o ≡ Some key → (row : Option Row) → row_at table t o ≡ row → Contains among o
      by o live has None none = absurd (false≢true (subst IsSome none live))
      by o live has (Some row) there =
          elim (untouched_or_left schemas (rows_now now) steps place t o (place_within steps wanted place is_place) older.stands row (ap (λ (rows : Table). row_at rows t o) (sym then_table) ∙ there)) [
            | inl none ↦ still o live has none
            | inr (q, k, part, le, part_is, ordinal, stood) ↦ left q part (omega (arith, le, counted)) part_is schemas table t k o row ordinal stood there has
          ]

-- They are the candidates.
pub has_matches : (consumer : Option Position) (steps : List PastStep) (wanted t : ℕ) (schemas : List Schema) (table : Table) (paths : List Path) (key : List Value) (among : List ℕ) →
    IsSomeAnd consumer (λ now. IsOlder now steps wanted schemas table) → IsSomeAnd consumer (HasCandidates steps wanted t paths key among) → HasMatches schemas table t paths key among
has_matches None steps wanted t schemas table paths key among older has = absurd older
has_matches (Some now) steps wanted t schemas table paths key among older has = whole now steps wanted t schemas table paths key among older has

-- The same of those that are found.
pub found_then : (consumer : Option Position) (steps : List PastStep) (wanted t : ℕ) (schemas : List Schema) (table : Table) (paths : List Path) (key : List Value) (found : Option (Vec ℕ Global)) →
    IsSomeAnd consumer (λ now. IsOlder now steps wanted schemas table) → IfSome found (λ among. IsSomeAnd consumer (HasCandidates steps wanted t paths key among.items)) →
    IfSome found (λ among. HasMatches schemas table t paths key among.items)
found_then consumer steps wanted t schemas table paths key None older has = tt
found_then consumer steps wanted t schemas table paths key (Some among) older has = has_matches consumer steps wanted t schemas table paths key among.items older has

-- The same where the consumer stands.
pub found_now : (consumer : Option Position) (t : ℕ) (schemas : List Schema) (table : Table) (paths : List Path) (key : List Value) (found : Option (Vec ℕ Global)) →
    IsSomeAnd consumer (λ now. (now.schemas ≡ schemas) × (rows_now now ≡ table)) → IfSome found (λ among. IsSomeAnd consumer (HasMatchesNow t paths key among.items)) →
    IfSome found (λ among. HasMatches schemas table t paths key among.items)
found_now consumer t schemas table paths key None here has = tt
found_now None t schemas table paths key (Some among) here has = absurd here
found_now (Some now) t schemas table paths key (Some among) here has =
    subst (λ (s : List Schema). HasMatches s table t paths key among.items) here.0 (subst (λ (r : Table). HasMatches now.schemas r t paths key among.items) here.1 has)

-- The rows of a version that is reached are older ones.
pub is_older : (consumer : Option Position) (steps : List PastStep) (wanted : ℕ) (schemas model : List Schema) (table old : Table) → IsSomeAnd consumer (λ now. (now.schemas ≡ schemas) × (rows_now now ≡ table)) →
    IsClosed schemas table → StandsOn schemas table steps → AreClosed schemas (tables_of table steps) → Contains (versions steps) wanted → model ≡ schemas → table_then (tables_of table steps) wanted ≡ Some old →
    IsSomeAnd consumer (λ now. IsOlder now steps wanted model old)
is_older None steps wanted schemas model table old here closed stands past_closed reached same rows = absurd here
is_older (Some now) steps wanted schemas model table old here closed stands past_closed reached same rows =
    subst (λ (s : List Schema). IsOlder now steps wanted s old) (sym same) record {
      same = here.0;
      closed = subst (λ (r : Table). IsClosed schemas r) (sym here.1) closed;
      stands = subst (λ (r : Table). StandsOn schemas r steps) (sym here.1) stands;
      past_closed = subst (λ (r : Table). AreClosed schemas (tables_of r steps)) (sym here.1) past_closed;
      reached = reached;
      rows = ap (λ (r : Table). table_then (tables_of r steps) wanted) here.1 ∙ rows;
    }
