-- What is left of a change, where rows have left until none is to leave.
use Rattle.std.proofs.Common.{◌≡◌, ◌∙◌, ◌⊎◌, ◌≢◌, ℕ, List, [], ◌∷◌, Bool, true, false, refl, sym, ap, subst, inl, inr}
use Rattle.std.specs.Prelude.{◌↔◌, if◌then◌else◌, Contains, IsSome, Some, filter, nat_eq}
use Rattle.std.proofs.lemmas.Bool.{cases_eq}
use Rattle.std.proofs.lemmas.List.Kept.{AllPairs-filter}
use Rattle.schema_model.specs.declared.schema.Schema.{Schema}
use Rattle.row_model.specs.declared.row.Row.{Row}
use Rattle.row_model.specs.Table.{IsClosed, IsLive, Table, row_at}
use Rattle.write_engine.specs.RowDrops.{IsNamed, MayLeave}
use Rattle.write_engine.proofs.Members.{apart_test, same_test}
use Rattle.hol_incremental.specs.Beside.{IsFromEither}
use Rattle.hol_incremental.specs.Counts.{times_named}
use Rattle.hol_incremental.specs.Drops.{AreUnnamed, Goes, IsDropping, IsHeld}
use Rattle.hol_incremental.specs.Edited.{Keys, Records, StaysRoot}
use Rattle.hol_incremental.specs.EditKeys.{AreCounts, count_at}
use Rattle.hol_incremental.specs.Left.{IsLeftOf, StaysOwn}
use Rattle.hol_incremental.specs.Roots.{IsKeyed}
use Rattle.hol_incremental.proofs.AddedRows.{live_stays, named_stays}
use Rattle.hol_incremental.proofs.Among.{first_in, later_in, none_in, parted}
use Rattle.hol_incremental.proofs.DroppedRows.{keyed_or, named_is_live, named_or, zero_unnamed}
use Rattle.hol_incremental.proofs.LeavingRows.{HasGivenKey}
use Rattle.hol_incremental.proofs.OnceLists.{IsOnce, all_of, among_or}
use Rattle.hol_incremental.proofs.ShallowTypes.{live_row}

-- ---- those of some rows that pass a test

module _ (p : ℕ × ℕ → Bool) where
  passed_step : (x : ℕ × ℕ) (rows : List (ℕ × ℕ)) (row : ℕ × ℕ) (b : Bool) → (p x ≡ b) → (Contains (filter p rows) row → Contains rows row × (p row ≡ true)) → Contains (if b then x ∷ filter p rows else filter p rows) row
      → Contains (x ∷ rows) row × (p row ≡ true)
  passed_step x rows row true is rest among =
      elim (parted x (filter p rows) row among) [
        | inl same ↦ (subst (λ y. Contains (x ∷ rows) y) same (first_in x rows), ap p (sym same) ∙ is)
        | inr there ↦ (let found = rest there in (later_in x rows row found.0, found.1))
      ]
  passed_step x rows row false is rest among = let found = rest among in (later_in x rows row found.0, found.1)

  pub passed_in : (rows : List (ℕ × ℕ)) (row : ℕ × ℕ) → Contains (filter p rows) row → Contains rows row × (p row ≡ true)
  passed_in [] row among = absurd (none_in row among)
  passed_in (x ∷ rows) row among = passed_step x rows row (p x) refl (passed_in rows row) among

  pub in_passed : (rows : List (ℕ × ℕ)) (row : ℕ × ℕ) → Contains rows row → p row ≡ true → Contains (filter p rows) row
  in_passed [] row among is = absurd (none_in row among)
  in_passed (x ∷ rows) row among is =
      elim (parted x rows row among) [
        | inl same ↦
            subst (λ (c : Bool). Contains (if c then x ∷ filter p rows else filter p rows) row) (sym (ap p same ∙ is)) (subst (λ y. Contains (x ∷ filter p rows) y) same (first_in x (filter p rows)))
        | inr there ↦ by_test (p x) (in_passed rows row there is)
      ]
    where
      by_test : (b : Bool) → Contains (filter p rows) row → Contains (if b then x ∷ filter p rows else filter p rows) row
      by_test true there = later_in x (filter p rows) row there
      by_test false there = there

-- ---- before and behind the rows that leave

module _ (schemas : List Schema) (previous fresh whole : Table) (puts : Records) (removes : Keys) (tops leaving : List (ℕ × ℕ)) (either : IsFromEither previous fresh whole)
    (reached : (t o : ℕ) → IsLive fresh t o → Contains tops (t, o) ⊎ IsNamed schemas fresh t o) (keyed : (t o : ℕ) → Contains tops (t, o) → IsKeyed schemas t)
    (leaves : (t o : ℕ) → Contains leaving (t, o) ↔ (HasGivenKey schemas previous puts removes t o × (Contains tops (t, o) → ⊥))) where
  -- no row of the records that are put goes
  pub held : IsHeld schemas leaving whole fresh
  held = record { named = λ t o live goes. by_reached t o goes (reached t o live) }
    where
      never : (t o : ℕ) → Contains tops (t, o) → Goes schemas leaving whole t o → ⊥
      never t o top (inl leaves') = ((leaves t o).0 leaves').1 top
      never t o top (inr both) = both.0 (keyed t o top)

      by_reached : (t o : ℕ) → Goes schemas leaving whole t o → Contains tops (t, o) ⊎ IsNamed schemas fresh t o → IsNamed schemas fresh t o
      by_reached t o goes (inl top) = absurd (never t o top goes)
      by_reached t o goes (inr named) = named

  -- ---- at the start

  module _ (counts : List (List ℕ)) (are : AreCounts schemas whole counts) (once : IsOnce leaving) where
    abbrev is_zero : ℕ × ℕ → Bool
    is_zero row = nat_eq (count_at counts row.0 row.1) 0

    abbrev pub start : List (ℕ × ℕ)
    start = filter is_zero leaving

    zero_is : (t o : ℕ) → is_zero (t, o) ≡ true → times_named schemas whole t o ≡ 0
    zero_is t o is =
        elim (cases_eq (count_at counts t o) 0) [
          | inl none ↦ sym (are.are t o) ∙ none
          | inr some ↦ (let e = sym is ∙ apart_test (count_at counts t o) 0 some in absurd cc)
        ]

    pub start_unnamed : AreUnnamed schemas whole start
    start_unnamed = record {
      once = AllPairs-filter (λ a b. a ≢ b) is_zero leaving once;
      leave = all_of (λ (row : ℕ × ℕ). MayLeave schemas whole row.0 row.1) start
          (λ row among.
          (let is = passed_in is_zero leaving row among in
          record {
            live = live_stays previous whole either.first row.0 row.1 ((leaves row.0 row.1).0 is.0).0.0;
            unnamed = zero_unnamed schemas whole row.0 row.1 (zero_is row.0 row.1 is.1);
          }));
    }

    pub start_dropping : IsDropping schemas leaving whole fresh whole start
    start_dropping = record {
      types = refl;
      within = λ t o row is. is;
      keeps = either.second;
      goes = all_of (λ (row : ℕ × ℕ). Goes schemas leaving whole row.0 row.1) start (λ row among. inl (passed_in is_zero leaving row among).0);
      gone = λ t o live. inl live;
      settled = λ t o live. by_count t o (named_or schemas whole t o);
    }
      where
        stays : (t o : ℕ) → times_named schemas whole t o ≡ 0 → (Contains leaving (t, o) → ⊥) → Goes schemas leaving whole t o → ⊥
        stays t o none other (inl leaves') = other leaves'
        stays t o none other (inr both) = zero_unnamed schemas whole t o none both.1

        by_count : (t o : ℕ) → IsNamed schemas whole t o ⊎ (times_named schemas whole t o ≡ 0) → IsNamed schemas whole t o ⊎ (Contains start (t, o) ⊎ (Goes schemas leaving whole t o → ⊥))
        by_count t o (inl named) = inl named
        by_count t o (inr none) =
            elim (among_or leaving t o) [
              | inl among ↦ inr (inl (in_passed is_zero leaving (t, o) among (same_test (count_at counts t o) 0 (are.are t o ∙ none))))
              | inr other ↦ inr (inr (stays t o none other))
            ]

  -- ---- at the end

  module _ (left : Table) (dropping : IsDropping schemas leaving whole fresh left []) (closed : IsClosed schemas left) (live_tops : (t o : ℕ) → Contains tops (t, o) → IsLive fresh t o) where
    -- a row of the whole names what one of the two tables does
    namer : (t o : ℕ) → IsNamed schemas whole t o → IsNamed schemas previous t o ⊎ IsNamed schemas fresh t o
    namer t o named = by_table (either.either named.type_index named.place named.row named.row_is)
      where
        by_table : (row_at previous named.type_index named.place ≡ Some named.row) ⊎ (row_at fresh named.type_index named.place ≡ Some named.row) → IsNamed schemas previous t o ⊎ IsNamed schemas fresh t o
        by_table (inl there) =
            inl (record {
              type_index = named.type_index;
              place = named.place;
              schema = named.schema;
              row = named.row;
              name = named.name;
              schema_is = named.schema_is;
              row_is = there;
              names = named.names;
              type_is = named.type_is;
            })
        by_table (inr there) =
            inr (record {
              type_index = named.type_index;
              place = named.place;
              schema = named.schema;
              row = named.row;
              name = named.name;
              schema_is = named.schema_is;
              row_is = there;
              names = named.names;
              type_is = named.type_is;
            })

    root_left : (t o : ℕ) → StaysRoot schemas previous puts removes t o → IsLive left t o
    root_left t o stays = by_gone (dropping.gone t o (live_stays previous whole either.first t o stays.root.live))
      where
        by_own : (IsKeyed schemas t → ⊥) → IsNamed schemas previous t o ⊎ IsNamed schemas fresh t o → IsKeyed schemas t ⊎ (IsNamed schemas previous t o → ⊥) → IsLive left t o
        by_own unkeyed named (inl keyed') = absurd (unkeyed keyed')
        by_own unkeyed (inl named) (inr unnamed) = absurd (unnamed named)
        by_own unkeyed (inr named) (inr unnamed) = named_is_live schemas left closed t o (named_stays schemas fresh left dropping.keeps t o named)

        by_gone : IsLive left t o ⊎ Goes schemas leaving whole t o → IsLive left t o
        by_gone (inl live) = live
        by_gone (inr (inl leaves')) = let given = ((leaves t o).0 leaves').0 in absurd (stays.other given.1.0 given.1.1 given.1.2)
        by_gone (inr (inr both)) = by_own both.0 (namer t o both.1) stays.root.own

    root_stays : (t o : ℕ) → IsLive previous t o → (Contains tops (t, o) → ⊥) → (Goes schemas leaving whole t o → ⊥) → StaysRoot schemas previous puts removes t o
    root_stays t o live other stays = record {
      root = record { live = live; own = own (keyed_or schemas t) };
      other = λ key row given. stays (inl ((leaves t o).1 ((live, (key, row, given)), other)));
    }
      where
        own : IsKeyed schemas t ⊎ (IsKeyed schemas t → ⊥) → IsKeyed schemas t ⊎ (IsNamed schemas previous t o → ⊥)
        own (inl keyed') = inl keyed'
        own (inr unkeyed) = inr (λ named. stays (inr (unkeyed, named_stays schemas previous whole either.first t o named)))

    pub is_left : IsLeftOf schemas (StaysOwn schemas previous puts removes tops) whole left
    is_left = record {
      types = dropping.types;
      within = dropping.within;
      closed = closed;
      kept = λ t o stays. kept t o stays;
      reached = λ t o live. by_settled t o live (dropping.settled t o live);
    }
      where
        kept : (t o : ℕ) → StaysOwn schemas previous puts removes tops t o → IsLive left t o
        kept t o (inl root) = root_left t o root
        kept t o (inr top) = live_stays fresh left dropping.keeps t o (live_tops t o top)

        by_table : (t o : ℕ) (row : Row) → (Contains tops (t, o) → ⊥) → (Goes schemas leaving whole t o → ⊥) → (row_at previous t o ≡ Some row) ⊎ (row_at fresh t o ≡ Some row)
            → StaysOwn schemas previous puts removes tops t o ⊎ IsNamed schemas left t o
        by_table t o row other stays (inl there) = inl (inl (root_stays t o (subst IsSome (sym there) refl) other stays))
        by_table t o row other stays (inr there) =
            elim (reached t o (subst IsSome (sym there) refl)) [
              | inl top ↦ absurd (other top)
              | inr named ↦ inr (named_stays schemas fresh left dropping.keeps t o named)
            ]

        by_settled : (t o : ℕ) → IsLive left t o → IsNamed schemas left t o ⊎ (Contains {X = ℕ × ℕ} [] (t, o) ⊎ (Goes schemas leaving whole t o → ⊥)) → StaysOwn schemas previous puts removes tops t o ⊎ IsNamed schemas left t o
        by_settled t o live (inl named) = inr named
        by_settled t o live (inr (inl none)) = absurd (none_in (t, o) none)
        by_settled t o live (inr (inr stays)) =
            elim (among_or tops t o) [
              | inl top ↦ inl (inr top)
              | inr other ↦ (let there = live_row (row_at left t o) live in by_table t o there.0 other stays (either.either t o there.0 (dropping.within t o there.0 there.1)))
            ]
