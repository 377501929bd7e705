-- Records that are added one after another, with their rows.
use Rattle.std.proofs.Common.{◌≡◌, ◌∙◌, ℕ, List, [], ◌∷◌, ◌++◌, length, Some, refl, sym, ap, subst, inl, inr}
use Rattle.std.specs.Prelude.{All, Contains}
use Rattle.std.proofs.lemmas.List.Elements.{All-head, All-tail}
use Rattle.schema_model.specs.declared.schema.Schema.{Schema}
use Rattle.row_model.specs.PlainTree.{PlainTree}
use Rattle.row_model.specs.Table.{IsLive, Table, row_at}
use Rattle.record_trees.specs.FitsTree.{FitsTree}
use Rattle.write_engine.specs.Agreement.{TablesAgree}
use Rattle.write_engine.specs.Cycle.{Adds, AddsRecords}
use Rattle.write_engine.proofs.NextStates.{adds_agree}
use Rattle.write_engine.proofs.OneState.{adds_once}
use Rattle.hol_incremental.specs.Tops.{AddsTops}
use Rattle.hol_incremental.proofs.AddedRows.{HeldBy, adds_added, held_then, live_stays, stays_then, stood_live}
use Rattle.hol_incremental.proofs.Among.{first_in, later_in, none_in, parted}
use Rattle.hol_incremental.proofs.OneRecord.{Stays}
use Rattle.hol_incremental.proofs.PutRows.{IsThere}

-- each record fits its type
abbrev pub FitAllTypes : List Schema → List (ℕ × PlainTree) → Type 0
FitAllTypes schemas records = All (λ entry. FitsTree schemas entry.0 entry.1) records

module _ (schemas : List Schema) (previous : Table) where
  -- ---- as records

  pub tops_of : (records : List (ℕ × PlainTree)) (before after : Table) → AddsRecords schemas previous records before after → (tops : List (ℕ × ℕ)) × AddsTops schemas previous records before tops after
  tops_of [] before after adds = ([], (refl, adds))
  tops_of (entry ∷ records) before after adds =
      let rest = tops_of records adds.1 after adds.3 in
      ((entry.0, adds.0) ∷ rest.0, (adds.0, rest.0, adds.1, refl, adds.2, rest.1))

  pub of_tops : (records : List (ℕ × PlainTree)) (before after : Table) (tops : List (ℕ × ℕ)) → AddsTops schemas previous records before tops after → AddsRecords schemas previous records before after
  of_tops [] before after tops adds = adds.1
  of_tops (entry ∷ records) before after tops adds = (adds.0, adds.2, adds.4, of_tops records adds.2 after adds.1 adds.5)

  -- ---- one behind another

  pub one_top_more : (records : List (ℕ × PlainTree)) (before middle after : Table) (tops : List (ℕ × ℕ)) (t : ℕ) (tree : PlainTree) (ordinal : ℕ) → AddsTops schemas previous records before tops middle
      → Adds schemas previous t tree middle ordinal after → AddsTops schemas previous (records ++ (t, tree) ∷ []) before (tops ++ (t, ordinal) ∷ []) after
  one_top_more [] before middle after tops t tree ordinal adds more =
      (ordinal, [], after, ap (λ (xs : List (ℕ × ℕ)). xs ++ (t, ordinal) ∷ []) adds.0, subst (λ (table : Table). Adds schemas previous t tree table ordinal after) adds.1 more, (refl, refl))
  one_top_more (entry ∷ records) before middle after tops t tree ordinal adds more = (
    adds.0,
    adds.1 ++ (t, ordinal) ∷ [],
    adds.2,
    ap (λ (xs : List (ℕ × ℕ)). xs ++ (t, ordinal) ∷ []) adds.3,
    adds.4,
    one_top_more records adds.2 middle after adds.1 t tree ordinal adds.5 more,
  )

  pub tops_then : (records others : List (ℕ × PlainTree)) (before middle after : Table) (tops tops' : List (ℕ × ℕ)) → AddsTops schemas previous records before tops middle → AddsTops schemas previous others middle tops' after
      → AddsTops schemas previous (records ++ others) before (tops ++ tops') after
  tops_then [] others before middle after tops tops' adds more =
      subst (λ (xs : List (ℕ × ℕ)). AddsTops schemas previous others before (xs ++ tops') after) (sym adds.0) (subst (λ (table : Table). AddsTops schemas previous others table tops' after) adds.1 more)
  tops_then (entry ∷ records) others before middle after tops tops' adds more =
      (adds.0, adds.1 ++ tops', adds.2, ap (λ (xs : List (ℕ × ℕ)). xs ++ tops') adds.3, adds.4, tops_then records others adds.2 middle after adds.1 tops' adds.5 more)

  pub tops_parted : (records others : List (ℕ × PlainTree)) (before after : Table) (tops : List (ℕ × ℕ)) → AddsTops schemas previous (records ++ others) before tops after
      → (first : List (ℕ × ℕ)) × (second : List (ℕ × ℕ)) × (middle : Table) × (tops ≡ first ++ second) × AddsTops schemas previous records before first middle × AddsTops schemas previous others middle second after
  tops_parted [] others before after tops adds = ([], tops, before, refl, (refl, refl), adds)
  tops_parted (entry ∷ records) others before after tops adds =
      let rest = tops_parted records others adds.2 after adds.1 adds.5 in
      ((entry.0, adds.0) ∷ rest.0, rest.1, rest.2, adds.3 ∙ ap (λ (xs : List (ℕ × ℕ)). (entry.0, adds.0) ∷ xs) rest.3, (adds.0, rest.0, adds.2, refl, adds.4, rest.4), rest.5)

  pub tops_agree : (records : List (ℕ × PlainTree)) (before after : Table) (tops : List (ℕ × ℕ)) → AddsTops schemas previous records before tops after → TablesAgree previous before → TablesAgree previous after
  tops_agree [] before after tops adds agree = subst (λ (table : Table). TablesAgree previous table) (sym adds.1) agree
  tops_agree (entry ∷ records) before after tops adds agree = tops_agree records adds.2 after adds.1 adds.5 (adds_agree schemas previous entry.1 entry.0 before adds.2 adds.0 adds.4 agree)

  -- records are added in one way
  pub tops_once : (records : List (ℕ × PlainTree)) (before after after' : Table) (tops tops' : List (ℕ × ℕ)) → TablesAgree previous before → AddsTops schemas previous records before tops after → AddsTops schemas previous records before tops' after'
      → (tops ≡ tops') × (after ≡ after')
  tops_once [] before after after' tops tops' agree adds adds' = (adds.0 ∙ sym adds'.0, adds.1 ∙ sym adds'.1)
  tops_once (entry ∷ records) before after after' tops tops' agree adds adds' =
      let first = adds_once schemas previous entry.1 entry.0 before adds.2 adds'.2 adds.0 adds'.0 agree adds.4 adds'.4 in
      let rest = tops_once records adds.2 after after' adds.1 adds'.1 (adds_agree schemas previous entry.1 entry.0 before adds.2 adds.0 adds.4 agree) adds.5
      (subst (λ (table : Table). AddsTops schemas previous records table adds'.1 after') (sym first.1) adds'.5) in
      (adds.3 ∙ (λ i. (entry.0, first.0 i) ∷ rest.0 i) ∙ sym adds'.3, rest.1)

  -- ---- what they make

  -- Records were added: the rows that stood there stay, the records' rows are there, and each row that comes is one of theirs, or one that a row names.
  pub record AddedTops (before : Table) (tops : List (ℕ × ℕ)) (after : Table) : Type 0 where
    pub types : length after ≡ length schemas
    pub stays : Stays before after
    pub live : (u q : ℕ) → Contains tops (u, q) → IsLive after u q
    pub held : HeldBy schemas before (λ u q. Contains tops (u, q)) after

  pub tops_added : (records : List (ℕ × PlainTree)) (before after : Table) (tops : List (ℕ × ℕ)) → length before ≡ length schemas → TablesAgree previous before → FitAllTypes schemas records → AddsTops schemas previous records before tops after
      → AddedTops before tops after
  tops_added [] before after tops types agree fits adds = record {
    types = ap (λ (table : Table). length table) adds.1 ∙ types;
    stays = λ u q row here. subst (λ (table : Table). row_at table u q ≡ Some row) (sym adds.1) here;
    live = λ u q among. absurd (none_in (u, q) (subst (λ xs. Contains xs (u, q)) adds.0 among));
    held = λ u q live. inl (subst (λ (table : Table). IsLive table u q) adds.1 live);
  }
  tops_added (entry ∷ records) before after tops types agree fits adds =
      let Fits : ℕ × PlainTree → Type 0 = λ e. FitsTree schemas e.0 e.1 in
      let first = adds_added schemas previous entry.1 entry.0 before adds.2 adds.0 types agree (All-head Fits entry records fits) adds.4 in
      let rest = tops_added records adds.2 after adds.1 first.types (adds_agree schemas previous entry.1 entry.0 before adds.2 adds.0 adds.4 agree) (All-tail Fits entry records fits) adds.5 in
      record {
        types = rest.types;
        stays = stays_then before adds.2 after first.stays rest.stays;
        live = λ u q among.
            (elim (parted (entry.0, adds.0) adds.1 (u, q) (subst (λ xs. Contains xs (u, q)) adds.3 among)) [
              | inl same ↦ subst (λ (e : ℕ × ℕ). IsLive after e.0 e.1) same (live_stays adds.2 after rest.stays entry.0 adds.0 (stood_live schemas adds.2 entry.0 entry.1 adds.0 first.stands))
              | inr there ↦ rest.live u q there
            ]);
        held = held_then schemas before adds.2 after (IsThere entry.0 adds.0) (λ u q. Contains adds.1 (u, q)) (λ u q. Contains tops (u, q)) rest.stays first.held rest.held
            (λ u q there. subst (λ xs. Contains xs (u, q)) (sym adds.3) (subst (λ (e : ℕ × ℕ). Contains ((entry.0, adds.0) ∷ adds.1) e) (λ i. (sym there.0 i, sym there.1 i)) (first_in (entry.0, adds.0) adds.1)))
            (λ u q among. subst (λ xs. Contains xs (u, q)) (sym adds.3) (later_in (entry.0, adds.0) adds.1 (u, q) among));
      }
