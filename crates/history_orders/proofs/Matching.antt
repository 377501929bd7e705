-- The rows that have a key are listed by a walk up to the bound of their type.
use Rattle.std.proofs.Common.{◌≡◌, ℕ, ◌+◌, ◌<◌, ◌≤◌, ◌⊎◌, ◌↔◌, inl, inr, List, [], ◌∷◌, ◌++◌, Some, Result, Ok, Err, sym, subst, arith}
use Rattle.std.specs.Prelude.{All, Contains, IsErrAnd}
use Rattle.std.proofs.lemmas.Bool.{cases_lt}
use Rattle.std.proofs.lemmas.List.Elements.{All-push, Contains-append_left, Contains-push, Contains-push_cases}
use Rattle.std.proofs.lemmas.List.Quantifiers.{all_pairs_push}
use Rattle.serde_json.specs.Data.{Data}
use Rattle.schema_model.specs.declared.model.path.Path.{Path}
use Rattle.schema_model.specs.declared.schema.Schema.{Schema}
use Rattle.row_model.specs.declared.row.Value.{Value}
use Rattle.row_model.specs.Key.{key_of}
use Rattle.row_model.specs.Row.{Rises}
use Rattle.row_model.specs.Table.{IsLive, Table}
use Rattle.json_values.specs.declared.fault.KeyFault.{KeyFault}
use Rattle.json_values.specs.KeyFrom.{TellsKey}
use Rattle.history_orders.specs.Told.{TellsKeyed}

module _ (schemas : List Schema) (table : Table) (t : ℕ) (paths : List Path) (key : List Value) where
  -- the row under an ordinal is live and has the key
  abbrev pub Matches : ℕ → Type 0
  Matches ordinal = IsLive table t ordinal × (key_of schemas table t paths ordinal ≡ Some key)

  -- These are the ordinals below a limit whose rows have the key, rising.
  pub record AreMatchesBelow (limit : ℕ) (ordinals : List ℕ) : Type 0 where
    pub rising : Rises ordinals
    pub low : All (λ ordinal. ordinal < limit) ordinals
    pub are : (ordinal : ℕ) → Contains ordinals ordinal ↔ ((ordinal < limit) × Matches ordinal)

  module _ (limit : ℕ) (ordinals : List ℕ) (below : AreMatchesBelow limit ordinals) where
    pub one_matched : Matches limit → AreMatchesBelow (limit + 1) (ordinals ++ limit ∷ [])
    one_matched here = record {
      rising = all_pairs_push (λ earlier later. earlier < later) ordinals limit below.rising below.low;
      low = All-push (λ ordinal. ordinal < limit + 1) ordinals limit (λ i d inside. omega (arith, below.low i d inside)) (omega arith);
      are = λ ordinal. (λ among. there ordinal (Contains-push_cases ordinals limit ordinal among), λ found. among ordinal found (cases_lt ordinal limit));
    }
      where
        there : (ordinal : ℕ) → Contains ordinals ordinal ⊎ (limit ≡ ordinal) → (ordinal < limit + 1) × Matches ordinal
        there ordinal (inl earlier) = let old = (below.are ordinal).0 earlier in (omega (arith, old.0), old.1)
        there ordinal (inr same) = subst (λ o. (o < limit + 1) × Matches o) same (omega arith, here)

        among : (ordinal : ℕ) → (ordinal < limit + 1) × Matches ordinal → (ordinal < limit) ⊎ (limit ≤ ordinal) → Contains (ordinals ++ limit ∷ []) ordinal
        among ordinal found (inl low) = Contains-append_left ordinals (limit ∷ []) ordinal ((below.are ordinal).1 (low, found.1))
        among ordinal found (inr past) = subst (Contains (ordinals ++ limit ∷ [])) (omega (arith, found.0, past)) (Contains-push ordinals limit)

    pub one_passed : (¬ Matches limit) → AreMatchesBelow (limit + 1) ordinals
    one_passed never = record {
      rising = below.rising;
      low = λ i d inside. omega (arith, below.low i d inside);
      are = λ ordinal. (λ among. (let old = (below.are ordinal).0 among in (omega (arith, old.0), old.1)), λ found. among ordinal found (cases_lt ordinal limit));
    }
      where
        among : (ordinal : ℕ) → (ordinal < limit + 1) × Matches ordinal → (ordinal < limit) ⊎ (limit ≤ ordinal) → Contains ordinals ordinal
        among ordinal found (inl low) = (below.are ordinal).1 (low, found.1)
        among ordinal found (inr past) = absurd (never (subst Matches (omega (arith, found.0, past)) found.1))

-- What is told of JSON that spells no key is told of the rows that have it.
pub spells_none : (schemas model : List Schema) (table : Table) (t : ℕ) (paths : List Path) (values : Data) (fault : KeyFault) (result : Result (List ℕ) KeyFault) → model ≡ schemas →
    TellsKey model paths values (Err fault) → IsErrAnd result (λ other. other ≡ fault) → TellsKeyed schemas table t paths values result
spells_none schemas model table t paths values fault (Ok ordinals) same tells is = absurd is
spells_none schemas model table t paths values fault (Err other) same tells is =
    subst (λ (f : KeyFault). TellsKeyed schemas table t paths values (Err f)) (sym is) (by fault (subst (λ (s : List Schema). TellsKey s paths values (Err fault)) same tells))
  where
    by : (f : KeyFault) → TellsKey schemas paths values (Err f) → TellsKeyed schemas table t paths values (Err f)
    by KeyFault.Shape tells = tells
    by KeyFault.Memory tells = tt
