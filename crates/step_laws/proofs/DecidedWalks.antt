-- Which walk indexes a step keeps can be told: whether rows have more entries along the parts of a path than a walk index may have.
use Rattle.std.proofs.Common.{◌≡◌, ◌⊎◌, ◌↔◌, ◌<◌, ◌≤◌, ◌∙◌, ℕ, List, [], ◌∷◌, length, Option, Some, None, inl, inr, refl, sym, ap, subst, arith}
use Rattle.std.specs.Prelude.{◌≢◌, AllPairs, Contains, is_some}
use Rattle.std.specs.Cmp.{nat_cmp_total, eq_by_cmp_equiv}
use Rattle.std.specs.Coded.{Coded, coded×, coded_ℕ}
use Rattle.std.specs.FinMap.{contains_key-keys, keys, nat_cmp-IsAntisymmetric}
use Rattle.std.specs.List.{flat_map}
use base.Stored.{Gv, gnil, gnum, gcons}
use Rattle.std.proofs.lemmas.Bool.{cases_eq, cases_lt}
use Rattle.std.proofs.lemmas.List.Elements.{Contains-get_or}
use Rattle.std.proofs.lemmas.List.Kept.{AllPairs-cons}
use Rattle.std.proofs.lemmas.Map.Views.{Contains-from_any, list_any-from_Contains, tells_apart}
use Rattle.schema_model.specs.declared.limit.Limit.TheVariants.{Entries}
use Rattle.schema_model.specs.declared.model.walk_path.WalkPart.{WalkPart}
use Rattle.schema_model.specs.declared.model.walk_path.WalkPath.{WalkPath}
use Rattle.schema_model.specs.declared.schema.Schema.{Schema}
use Rattle.schema_model.specs.Limit.{number_of_limit}
use Rattle.row_model.specs.contracts.row.Value as value_contract
use Rattle.row_model.specs.declared.row.Value.{Value}
use Rattle.row_model.specs.BothStates.{rows_in}
use Rattle.row_model.specs.Reach.{Reach, type_by}
use Rattle.row_model.specs.Table.{IsLive, Table}
use Rattle.row_model.proofs.RowsFrom.{get_in}
use Rattle.key_index.proofs.Lists.{contains_either, contains_first, contains_later, contains_none}
use Rattle.hol_paths.specs.Reached.{named_at, values_by}
use Rattle.hol_paths.specs.Walked.{Entry, HasManyEntries}
use Rattle.hol_paths.proofs.Apart.{AreApart, no_more}
use Rattle.hol_paths.proofs.Pieces.{from_pieces, in_pieces}
use Rattle.hol_paths.proofs.Walks.{comes_from, last_part, leads_nowhere, steps_on}
use Rattle.read_engine.specs.Walks.{AreThose, HasFewEntries, KeepsWalks}

-- ---- whether two entries are one

codes_same : (a b : Gv) → (a ≡ b) ⊎ (a ≢ b)
codes_same gnil gnil = inl refl
codes_same gnil (gnum n) = inr (λ e. cc)
codes_same gnil (gcons c d) = inr (λ e. cc)
codes_same (gnum n) gnil = inr (λ e. cc)
codes_same (gnum n) (gnum m) = elim (cases_eq n m) [ inl e ↦ inl (ap gnum e) | inr other ↦ inr (λ e. other cc) ]
codes_same (gnum n) (gcons c d) = inr (λ e. cc)
codes_same (gcons a b) gnil = inr (λ e. cc)
codes_same (gcons a b) (gnum n) = inr (λ e. cc)
codes_same (gcons a b) (gcons c d) =
    elim (codes_same a c) [
      | inl first ↦ elim (codes_same b d) [
        | inl second ↦ inl (λ i. gcons (first i) (second i))
        | inr other ↦ inr (λ e. other cc)
      ]
      | inr other ↦ inr (λ e. other cc)
    ]

abbrev entry_code : Coded Entry
entry_code = coded× coded_ℕ (value_contract.the_row).coded

same_entries : (a b : Entry) → (a ≡ b) ⊎ (a ≢ b)
same_entries a b = elim (codes_same (entry_code.code a) (entry_code.code b)) [ inl e ↦ inl (entry_code.inj a b e) | inr other ↦ inr (λ e. other (ap entry_code.code e)) ]

-- ---- each element once

among : (xs : List Entry) (x : Entry) → Contains xs x ⊎ (Contains xs x → ⊥)
among [] x = inr (contains_none x)
among (y ∷ ys) x =
    elim (same_entries y x) [
      | inl e ↦ inl (contains_first y x ys e)
      | inr other ↦ elim (among ys x) [
        | inl there ↦ inl (contains_later y x ys there)
        | inr none ↦ inr (λ h. elim (contains_either y x ys h) [ inl e ↦ other e | inr later ↦ none later ])
      ]
    ]

-- the same elements, each once
record IsOnce (xs : List Entry) : Type 0 where
  once : List Entry
  apart : AreApart once
  are : (x : Entry) → Contains once x ↔ Contains xs x

each_once : (xs : List Entry) → IsOnce xs
each_once [] = record { once = []; apart = λ i j d before within. absurd (omega (arith, within)); are = λ x. ((λ h. h), (λ h. h)) }
each_once (x ∷ xs) =
    let rest = each_once xs in
    elim (among rest.once x) [
      | inl there ↦
          record {
            once = rest.once;
            apart = rest.apart;
            are = λ z. (
              (λ h. contains_later x z xs ((rest.are z).0 h)),
              (λ h. elim (contains_either x z xs h) [ inl e ↦ subst (Contains rest.once) e there | inr later ↦ (rest.are z).1 later ]),
            );
          }
      | inr new ↦
          record {
            once = x ∷ rest.once;
            apart = AllPairs-cons (λ earlier later. earlier ≢ later) x rest.once (λ k d within e. new (subst (Contains rest.once) (sym e) (Contains-get_or rest.once k d within))) rest.apart;
            are = λ z. (
              (λ h. elim (contains_either x z rest.once h) [ inl e ↦ contains_first x z xs e | inr later ↦ contains_later x z xs ((rest.are z).0 later) ]),
              (λ h. elim (contains_either x z xs h) [ inl e ↦ contains_first x z rest.once e | inr later ↦ contains_later x z rest.once ((rest.are z).1 later) ]),
            );
          }
    ]

-- ---- all entries

module _ (schemas : List Schema) (table : Table) where
  abbrev pub reached_in : Option ℕ → (ℕ → List Value) → List Value
  reached_in None values = []
  reached_in (Some u) values = values u

  -- the values that the row under an ordinal reaches, as often as there are ways
  abbrev pub reached : List WalkPart → ℕ → ℕ → List Value
  reached [] t o = []
  reached (part ∷ []) t o = values_by table t part o
  reached (part ∷ next ∷ rest) t o = reached_in (type_by schemas t part) (λ u. flat_map (reached (next ∷ rest) u) (named_at table t part o))

  pub reaches : (parts : List WalkPart) (t o : ℕ) (v : Value) → Contains (reached parts t o) v ↔ Reach schemas table t parts o v
  reaches [] t o v = ((λ h. absurd (contains_none v h)), (λ h. absurd h))
  reaches (part ∷ []) t o v = let both = last_part schemas table t o part v in (both.1, both.0)
  reaches (part ∷ next ∷ rest) t o v = by (λ u n. reaches (next ∷ rest) u n v) (type_by schemas t part) refl
    where
      by : ((u n : ℕ) → Contains (reached (next ∷ rest) u n) v ↔ Reach schemas table u (next ∷ rest) n v) → (found : Option ℕ) → type_by schemas t part ≡ found
          → Contains (reached_in found (λ u. flat_map (reached (next ∷ rest) u) (named_at table t part o))) v ↔ Reach schemas table t (part ∷ next ∷ rest) o v
      by each None none = ((λ h. absurd (contains_none v h)), (λ h. absurd (leads_nowhere schemas table t t next rest v part o none h)))
      by each (Some u) leads = (
        (λ h. let piece = from_pieces (reached (next ∷ rest) u) v (named_at table t part o) h in
            comes_from schemas table t u next rest v part o piece.0 leads piece.1 ((each u piece.0).0 piece.2)),
        (λ h. let on = steps_on schemas table t u next rest v part o leads h in
            in_pieces (reached (next ∷ rest) u) v (named_at table t part o) on.0 on.1 ((each u on.0).1 on.2)),
      )

  module _ (t : ℕ) (parts : List WalkPart) where
    live_is : (o : ℕ) → IsLive table t o → Contains (keys (rows_in table t)) o
    live_is o live =
        Contains-from_any (tells_apart nat_cmp-IsAntisymmetric) o (keys (rows_in table t)) (sym (contains_key-keys (rows_in table t) o) ∙ ap is_some (get_in table t o) ∙ live)

    is_live : (o : ℕ) → Contains (keys (rows_in table t)) o → IsLive table t o
    is_live o key =
        ap is_some (sym (get_in table t o)) ∙ contains_key-keys (rows_in table t) o ∙ list_any-from_Contains (eq_by_cmp_equiv nat_cmp_total) o (keys (rows_in table t)) key

    abbrev pairs_of : ℕ → List Entry
    pairs_of o = flat_map (λ (v : Value). (o, v) ∷ []) (reached parts t o)

    abbrev all_entries : List Entry
    all_entries = flat_map pairs_of (keys (rows_in table t))

    in_all : (o : ℕ) (v : Value) → IsLive table t o → Reach schemas table t parts o v → Contains all_entries (o, v)
    in_all o v live reach =
        in_pieces pairs_of (o, v) (keys (rows_in table t)) o (live_is o live)
        (in_pieces (λ (w : Value). (o, w) ∷ []) (o, v) (reached parts t o) v ((reaches parts t o v).1 reach) (contains_first (o, v) (o, v) [] refl))

    from_all : (o : ℕ) (v : Value) → Contains all_entries (o, v) → IsLive table t o × Reach schemas table t parts o v
    from_all o v h =
        let piece = from_pieces pairs_of (o, v) (keys (rows_in table t)) h in
        let pair = from_pieces (λ (w : Value). (piece.0, w) ∷ []) (o, v) (reached parts t piece.0) piece.2 in
        elim (contains_either (piece.0, pair.0) (o, v) [] pair.2) [
          | inl e ↦ subst (λ (entry : Entry). IsLive table t entry.0 × Reach schemas table t parts entry.0 entry.1) e (is_live piece.0 piece.1, (reaches parts t piece.0 pair.0).0 pair.1)
          | inr none ↦ absurd (contains_none (o, v) none)
        ]

    decided : HasManyEntries schemas table t parts ⊎ (HasManyEntries schemas table t parts → ⊥)
    decided =
        let all = each_once all_entries in
        elim (cases_lt (number_of_limit Entries) (length all.once)) [
          | inl many ↦ inl (all.once, all.apart, (λ o v h. from_all o v ((all.are (o, v)).0 h)), many)
          | inr few ↦ inr (λ many. (let fewer = no_more many.0 all.once many.1 (λ e h. (all.are e).1 (let is = many.2 e.0 e.1 h in in_all e.0 e.1 is.0 is.1)) in let more = many.3 in omega (arith, few, fewer, more)))
        ]

  few_or_many : (path : WalkPath) → HasFewEntries schemas table path ⊎ (HasFewEntries schemas table path → ⊥)
  few_or_many path = elim (decided path.type_index path.parts) [ inl many ↦ inr (λ few. few many) | inr few ↦ inl few ]

  -- The walk indexes that a step to these rows keeps.
  pub walks_kept : (walks : List WalkPath) → (after : List WalkPath) × KeepsWalks schemas table walks after
  walks_kept [] = ([], refl)
  walks_kept (path ∷ walks) =
      let rest = walks_kept walks in
      elim (few_or_many path) [
        | inl few ↦ (path ∷ rest.0, inl (rest.0, few, refl, rest.1))
        | inr many ↦ (rest.0, inr (many, rest.1))
      ]
