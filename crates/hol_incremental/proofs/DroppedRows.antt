-- A row leaves that no row names, and of those that it named some are named no longer.
use Rattle.std.proofs.Common.{◌≡◌, ◌∙◌, ◌+◌, ◌<◌, ◌≤◌, ◌⊎◌, ℕ, List, [], ◌∷◌, ◌++◌, Option, Some, None, length, slice_get, refl, sym, ap, subst, inl, inr, arith}
use Rattle.std.specs.Prelude.{All, Contains, IsSome}
use Rattle.std.specs.FinMap.{remove}
use Rattle.std.proofs.lemmas.Bool.{cases_lt}
use Rattle.std.proofs.lemmas.List.Elements.{All-contains, Contains-append_cases, Contains-append_left, Contains-append_right}
use Rattle.schema_model.specs.declared.schema.name.Name.{Name}
use Rattle.schema_model.specs.declared.schema.Schema.{Schema}
use Rattle.row_model.specs.declared.row.Row.{Row}
use Rattle.row_model.specs.Row.{references_of_row}
use Rattle.row_model.specs.Table.{IsClosed, IsLive, IsLiveByName, Table, row_at}
use Rattle.ordinal_map.proofs.SetRows.{get_removed}
use Rattle.write_engine.specs.Cycle.{rows_in}
use Rattle.write_engine.specs.RowDrops.{IsNamed, MayLeave, without_row}
use Rattle.write_engine.proofs.ClosedStates.{at_set, length_set}
use Rattle.write_engine.proofs.Dropping.{row_stays, row_stood}
use Rattle.hol_incremental.specs.Beside.{IsPartOf}
use Rattle.hol_incremental.specs.Counts.{named_at, size_of, times_among, times_named}
use Rattle.hol_incremental.specs.Drops.{AreUnnamed, FallsFrom, Goes, IsDropping, IsHeld, IsLowered, MayFall}
use Rattle.kept_sums.specs.Sums.{TypeSums}
use Rattle.hol_incremental.specs.EditKeys.{AreCounts, count_at}
use Rattle.hol_incremental.specs.Roots.{IsKeyed, key_texts}
use Rattle.hol_incremental.specs.Sums.{AreSums, TakesRowAt}
use Rattle.hol_incremental.proofs.AddedRows.{live_stays, named_stays}
use Rattle.hol_incremental.proofs.Among.{first_in, none_in, parted}
use Rattle.hol_incremental.proofs.CountedRows.{named_here, size_more, times_more}
use Rattle.hol_incremental.proofs.HeldRows.{named_live}
use Rattle.hol_incremental.proofs.NamedCounts.{among_counted, counted_among, name_in, named_where_counted}
use Rattle.hol_incremental.proofs.OnceLists.{IsOnce, all_of, among_or, append_once, front_once, last_once}
use Rattle.hol_incremental.proofs.PutRows.{is_there}
use Rattle.hol_incremental.proofs.ShallowTypes.{live_inside, live_row, live_type}
use Rattle.hol_incremental.proofs.SumLists.{sums_less}

-- ---- who is named

pub named_is_live : (schemas : List Schema) (table : Table) → IsClosed schemas table → (t o : ℕ) → IsNamed schemas table t o → IsLive table t o
named_is_live schemas table closed t o named =
    named_live schemas table named.name t o named.type_is
    (All-contains (λ (n : Name × ℕ). IsLiveByName schemas table n.0 n.1) (references_of_row named.schema.shape named.row) (named.name, o)
    (closed named.type_index named.place named.schema named.row named.schema_is named.row_is) named.names)

pub zero_unnamed : (schemas : List Schema) (table : Table) (t o : ℕ) → times_named schemas table t o ≡ 0 → IsNamed schemas table t o → ⊥
zero_unnamed schemas table t o none named = let above = (named_where_counted schemas table t o).0 named in omega (arith, above, none)

pub named_or : (schemas : List Schema) (table : Table) (t o : ℕ) → IsNamed schemas table t o ⊎ (times_named schemas table t o ≡ 0)
named_or schemas table t o =
    elim (cases_lt 0 (times_named schemas table t o)) [
      | inl above ↦ inl ((named_where_counted schemas table t o).1 above)
      | inr none ↦ inr (omega (arith, none))
    ]

pub keyed_or : (schemas : List Schema) (t : ℕ) → IsKeyed schemas t ⊎ (IsKeyed schemas t → ⊥)
keyed_or schemas t = of_option (key_texts schemas t) refl
  where
    of_option : (found : Option (List (List ℕ))) → key_texts schemas t ≡ found → IsKeyed schemas t ⊎ (IsKeyed schemas t → ⊥)
    of_option None is = inr (λ keyed. (let e = subst IsSome is keyed in absurd cc))
    of_option (Some texts) is = inl (subst IsSome (sym is) refl)

-- what a row names is of types that there are
pub named_inside : (schemas : List Schema) (table : Table) (t o : ℕ) → length table ≡ length schemas → IsClosed schemas table → IsLive table t o → All (λ row. row.0 < length schemas) (named_at schemas table t o)
named_inside schemas table t o types closed live =
    let type = live_type schemas table t o types live in
    let there = live_row (row_at table t o) live in
    all_of (λ (row : ℕ × ℕ). row.0 < length schemas) (named_at schemas table t o)
    (λ row among.
    (let name = name_in schemas (references_of_row type.0.shape there.0) row.0 row.1 (subst (λ (rows : List (ℕ × ℕ)). Contains rows row) (named_here schemas table t o type.0 there.0 type.1 there.1) among) in
    let low = live_inside table row.0 row.1
    (named_is_live schemas table closed row.0 row.1
    (record { type_index = t; place = o; schema = type.0; row = there.0; name = name.0; schema_is = type.1; row_is = there.1; names = name.1; type_is = name.2 })) in
    omega (arith, low, types)))

-- ---- a row leaves

module _ (schemas : List Schema) (current : Table) (t o : ℕ) (types : length current ≡ length schemas) (closed : IsClosed schemas current) (leaves : MayLeave schemas current t o) where
  abbrev after : Table
  after = without_row current t o

  abbrev named : List (ℕ × ℕ)
  named = named_at schemas current t o

  inside : t < length current
  inside = live_inside current t o leaves.live

  type : (schema : Schema) × (slice_get schemas t ≡ Some schema)
  type = live_type schemas current t o types leaves.live

  there : (row : Row) × (row_at current t o ≡ Some row)
  there = live_row (row_at current t o) leaves.live

  gone : row_at after t o ≡ None
  gone = at_set current t o (remove (rows_in current t) o) inside ∙ get_removed (rows_in current t) o

  stay : (u q : ℕ) → ((u ≡ t) × (q ≡ o) → ⊥) → row_at current u q ≡ row_at after u q
  stay u q other = sym (row_stays current t o inside u q other)

  pub after_types : length after ≡ length current
  after_types = length_set current t (remove (rows_in current t) o)

  -- the counts with and without it
  pub times_with : (u q : ℕ) → times_named schemas current u q ≡ times_among u q named + times_named schemas after u q
  times_with u q = times_more schemas after current t o type.0 there.0 (sym after_types) type.1 gone there.1 stay u q

  pub size_with : size_of schemas current ≡ 1 + size_of schemas after
  size_with = size_more schemas after current t o type.0 there.0 (sym after_types) type.1 gone there.1 stay

  -- what it names is counted
  pub enough : (counts : List (List ℕ)) → AreCounts schemas current counts → (u q : ℕ) → times_among u q named ≤ count_at counts u q
  enough counts are u q = let x = are.are u q in let y = times_with u q in omega (arith, x, y)

  pub counts_after : (counts counts' : List (List ℕ)) → AreCounts schemas current counts → length counts' ≡ length counts
      → ((u q : ℕ) → count_at counts' u q + times_among u q named ≡ count_at counts u q) → AreCounts schemas after counts'
  counts_after counts counts' are long lowered = record {
    types = long ∙ are.types;
    are = λ u q. (let x = lowered u q in let y = are.are u q in let z = times_with u q in omega (arith, x, y, z));
  }

  -- the sums without it
  pub sums_without : (sums sums' : List TypeSums) → AreSums schemas current sums → TakesRowAt schemas current t o sums sums' → (table : Table) → table ≡ after → AreSums schemas table sums'
  sums_without sums sums' are takes table is =
      subst (λ (x : Table). AreSums schemas x sums') (sym is) (sums_less schemas after current t o there.0 gone there.1 stay sums sums' are (takes there.0 there.1))

  part : IsPartOf after current
  part u q row is = row_stood current t o inside u q row is

  live_after : (u q : ℕ) → ((u ≡ t) × (q ≡ o) → ⊥) → IsLive current u q → IsLive after u q
  live_after u q other live = subst IsSome (stay u q other) live

  live_before : (u q : ℕ) → IsLive after u q → IsLive current u q
  live_before u q live = live_stays after current part u q live

  not_it : (u q : ℕ) → IsLive after u q → (u ≡ t) × (q ≡ o) → ⊥
  not_it u q live same =
      let dead : row_at after u q ≡ None = ap (λ n. row_at after n q) same.0 ∙ ap (row_at after t) same.1 ∙ gone in
      let e = subst IsSome dead live in absurd cc

  names : (u q : ℕ) → Contains named (u, q) → IsNamed schemas current u q
  names u q among = (named_where_counted schemas current u q).1 (let x = times_with u q in let y = counted_among u q named among in omega (arith, x, y))

  -- what it names is of types that there are
  pub names_inside : All (λ row. row.0 < length schemas) named
  names_inside = all_of (λ (row : ℕ × ℕ). row.0 < length schemas) named (λ row among. (let low = live_inside current row.0 row.1 (named_is_live schemas current closed row.0 row.1 (names row.0 row.1 among)) in omega (arith, low, types)))

  unnamed_after : (u q : ℕ) → (IsNamed schemas current u q → ⊥) → IsNamed schemas after u q → ⊥
  unnamed_after u q unnamed is = unnamed (named_stays schemas after current part u q is)

  module _ (leaving pending pending' : List (ℕ × ℕ)) (counts' : List (List ℕ)) (are : AreCounts schemas after counts') (falls : FallsFrom (MayFall schemas leaving) named counts' pending pending')
      (unnamed : AreUnnamed schemas current (pending ++ (t, o) ∷ [])) where
    free : (u q : ℕ) → Contains pending (u, q) → MayLeave schemas current u q
    free u q among =
        All-contains (λ (row : ℕ × ℕ). MayLeave schemas current row.0 row.1) (pending ++ (t, o) ∷ []) (u, q) unnamed.leave (Contains-append_left pending ((t, o) ∷ []) (u, q) among)

    other : (u q : ℕ) → Contains pending (u, q) → (u ≡ t) × (q ≡ o) → ⊥
    other u q among same = last_once pending (t, o) unnamed.once (u, q) among (λ i. (same.0 i, same.1 i))

    fell : (u q : ℕ) → Contains falls.fallen (u, q) → MayLeave schemas after u q
    fell u q among =
        let is = (falls.are (u, q)).0 among in
        let was = names u q is.0 in
        record {
          live = live_after u q (λ same. leaves.unnamed (subst (λ n. IsNamed schemas current n o) same.0 (subst (λ n. IsNamed schemas current u n) same.1 was))) (named_is_live schemas current closed u q was);
          unnamed = zero_unnamed schemas after u q (sym (are.are u q) ∙ is.1);
        }

    stays_free : (u q : ℕ) → Contains pending (u, q) → MayLeave schemas after u q
    stays_free u q among =
        let was = free u q among in
        record { live = live_after u q (other u q among) was.live; unnamed = unnamed_after u q was.unnamed }

    pub unnamed_then : AreUnnamed schemas after pending'
    unnamed_then = record {
      once = subst (λ (rows : List (ℕ × ℕ)). IsOnce rows) (sym falls.behind)
          (append_once pending falls.fallen (front_once pending ((t, o) ∷ []) unnamed.once) falls.once
          (λ row here late. (free row.0 row.1 here).unnamed (names row.0 row.1 ((falls.are row).0 late).0)));
      leave = subst (λ (rows : List (ℕ × ℕ)). All (λ row. MayLeave schemas after row.0 row.1) rows) (sym falls.behind)
          (all_of (λ (row : ℕ × ℕ). MayLeave schemas after row.0 row.1) (pending ++ falls.fallen)
          (λ row among.
          (elim (Contains-append_cases pending falls.fallen row among) [
            | inl here ↦ stays_free row.0 row.1 here
            | inr late ↦ fell row.0 row.1 late
          ])));
    }

    module _ (start held : Table) (holds : IsHeld schemas leaving start held) (dropping : IsDropping schemas leaving start held current (pending ++ (t, o) ∷ [])) where
      goes_last : Goes schemas leaving start t o
      goes_last =
          All-contains (λ (row : ℕ × ℕ). Goes schemas leaving start row.0 row.1) (pending ++ (t, o) ∷ []) (t, o) dropping.goes (Contains-append_right pending ((t, o) ∷ []) (t, o) (first_in (t, o) []))

      keeps : IsPartOf held after
      keeps u q row is =
          elim (is_there t o u q) [
            | inr apart ↦ sym (stay u q apart) ∙ dropping.keeps u q row is
            | inl same ↦
                (let live : IsLive held t o = subst IsSome (sym (ap (row_at held t) (sym same.1) ∙ ap (λ n. row_at held n q) (sym same.0) ∙ is)) refl in
                absurd (leaves.unnamed (named_stays schemas held current dropping.keeps t o (holds.named t o live goes_last))))
          ]

      goes : (u q : ℕ) → Contains (pending ++ falls.fallen) (u, q) → Goes schemas leaving start u q
      goes u q among =
          elim (Contains-append_cases pending falls.fallen (u, q) among) [
            | inl here ↦
                All-contains (λ (row : ℕ × ℕ). Goes schemas leaving start row.0 row.1) (pending ++ (t, o) ∷ []) (u, q) dropping.goes (Contains-append_left pending ((t, o) ∷ []) (u, q) here)
            | inr late ↦ let is = (falls.are (u, q)).0 late in may u q (names u q is.0) is.2
          ]
        where
          may : (u q : ℕ) → IsNamed schemas current u q → MayFall schemas leaving (u, q) → Goes schemas leaving start u q
          may u q was (inl unkeyed) = inr (unkeyed, named_stays schemas current start dropping.within u q was)
          may u q was (inr leaves) = inl leaves

      settled : (u q : ℕ) → IsLive after u q → IsNamed schemas after u q ⊎ (Contains pending' (u, q) ⊎ (Goes schemas leaving start u q → ⊥))
      settled u q live =
          elim (named_or schemas after u q) [
            | inl is ↦ inl is
            | inr none ↦ inr (of_before none (dropping.settled u q (live_before u q live)))
          ]
        where
          in_rest : Contains (pending ++ falls.fallen) (u, q) → Contains pending' (u, q)
          in_rest among = subst (λ (rows : List (ℕ × ℕ)). Contains rows (u, q)) (sym falls.behind) among

          not_going : (MayFall schemas leaving (u, q) → ⊥) → Goes schemas leaving start u q → ⊥
          not_going never (inl leaves) = never (inr leaves)
          not_going never (inr both) = never (inl both.0)

          may_or : MayFall schemas leaving (u, q) ⊎ (MayFall schemas leaving (u, q) → ⊥)
          may_or =
              elim (keyed_or schemas u) [
                | inr unkeyed ↦ inl (inl unkeyed)
                | inl keyed ↦
                    elim (among_or leaving u q) [
                      | inl leaves ↦ inl (inr leaves)
                      | inr stays ↦ inr (either keyed stays)
                    ]
              ]
            where
              either : IsKeyed schemas u → (Contains leaving (u, q) → ⊥) → MayFall schemas leaving (u, q) → ⊥
              either keyed stays (inl unkeyed) = unkeyed keyed
              either keyed stays (inr leaves) = stays leaves

          fallen_or : times_named schemas after u q ≡ 0 → IsNamed schemas current u q → Contains pending' (u, q) ⊎ (Goes schemas leaving start u q → ⊥)
          fallen_or none was =
              elim may_or [
                | inl may ↦
                    (let x = times_with u q in
                    let y = (named_where_counted schemas current u q).0 was in
                    let among = among_counted u q named (omega (arith, x, y, none)) in
                    inl (in_rest (Contains-append_right pending falls.fallen (u, q) ((falls.are (u, q)).1 (among, are.are u q ∙ none, may)))))
                | inr never ↦ inr (not_going never)
              ]

          of_before : times_named schemas after u q ≡ 0 → IsNamed schemas current u q ⊎ (Contains (pending ++ (t, o) ∷ []) (u, q) ⊎ (Goes schemas leaving start u q → ⊥))
              → Contains pending' (u, q) ⊎ (Goes schemas leaving start u q → ⊥)
          of_before none (inl was) = fallen_or none was
          of_before none (inr (inr stays)) = inr stays
          of_before none (inr (inl among)) =
              elim (Contains-append_cases pending ((t, o) ∷ []) (u, q) among) [
                | inl here ↦ inl (in_rest (Contains-append_left pending falls.fallen (u, q) here))
                | inr last ↦
                    elim (parted (t, o) [] (u, q) last) [
                      | inl same ↦ absurd (not_it u q live (sym (ap (λ (x : ℕ × ℕ). x.0) same), sym (ap (λ (x : ℕ × ℕ). x.1) same)))
                      | inr none_there ↦ absurd (none_in (u, q) none_there)
                    ]
              ]

      pub dropping_then : IsDropping schemas leaving start held after pending'
      dropping_then = record {
        types = after_types ∙ dropping.types;
        within = λ u q row is. dropping.within u q row (part u q row is);
        keeps = keeps;
        goes = subst (λ (rows : List (ℕ × ℕ)). All (λ row. Goes schemas leaving start row.0 row.1) rows) (sym falls.behind)
            (all_of (λ (row : ℕ × ℕ). Goes schemas leaving start row.0 row.1) (pending ++ falls.fallen) (λ row among. goes row.0 row.1 among));
        gone = λ u q live. still u q (dropping.gone u q live);
        settled = settled;
      }
        where
          still : (u q : ℕ) → IsLive current u q ⊎ Goes schemas leaving start u q → IsLive after u q ⊎ Goes schemas leaving start u q
          still u q (inr goes) = inr goes
          still u q (inl live) =
              elim (is_there t o u q) [
                | inr apart ↦ inl (live_after u q apart live)
                | inl same ↦ inr (subst (λ n. Goes schemas leaving start n q) (sym same.0) (subst (λ n. Goes schemas leaving start t n) (sym same.1) goes_last))
              ]

  -- ---- all of it, as a call tells it

  module _ (model : List Schema) (model_is : model ≡ schemas) (table : Table) (table_is : table ≡ after) (leaving pending pending' named' : List (ℕ × ℕ)) (counts counts' : List (List ℕ)) (same : named' ≡ named)
      (are : AreCounts schemas current counts) (unnamed : AreUnnamed schemas current (pending ++ (t, o) ∷ [])) (lowered : IsLowered (MayFall model leaving) named' counts counts' pending pending') where
    falls : FallsFrom (MayFall schemas leaving) named counts' pending pending'
    falls =
        subst (λ (rows : List (ℕ × ℕ)). FallsFrom (MayFall schemas leaving) rows counts' pending pending') same
        (subst (λ (s : List Schema). FallsFrom (MayFall s leaving) named' counts' pending pending') model_is lowered.fallen)

    left_counts : AreCounts schemas after counts'
    left_counts = counts_after counts counts' are lowered.types (λ u q. ap (λ (rows : List (ℕ × ℕ)). count_at counts' u q + times_among u q rows) (sym same) ∙ lowered.lowered u q)

    pub taken_counts : AreCounts schemas table counts'
    taken_counts = subst (λ (x : Table). AreCounts schemas x counts') (sym table_is) left_counts

    pub taken_unnamed : AreUnnamed schemas table pending'
    taken_unnamed = subst (λ (x : Table). AreUnnamed schemas x pending') (sym table_is) (unnamed_then leaving pending pending' counts' left_counts falls unnamed)

    pub taken_left : (start held : Table) → IsHeld schemas leaving start held → IsDropping schemas leaving start held current (pending ++ (t, o) ∷ []) → IsDropping schemas leaving start held table pending'
    taken_left start held holds dropping =
        subst (λ (x : Table). IsDropping schemas leaving start held x pending') (sym table_is) (dropping_then leaving pending pending' counts' left_counts falls unnamed start held holds dropping)
