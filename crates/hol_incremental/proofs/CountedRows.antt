-- Rows are read one after another, and counted.
use Rattle.std.proofs.Common.{◌≡◌, ◌∙◌, ◌+◌, ◌<◌, ◌≤◌, ◌⊎◌, ℕ, zero, suc, List, [], Option, Some, None, length, slice_get, refl, sym, ap, subst, inl, inr, arith}
use Rattle.std.specs.Prelude.{IsSome, option_and_then, unwrap_or}
use Rattle.std.specs.FinMap.{insert}
use Rattle.std.specs.Option.{option_map}
use Rattle.std.proofs.lemmas.Bool.{cases_eq, cases_lt}
use Rattle.std.proofs.lemmas.List.{length-replicate}
use Rattle.schema_model.specs.declared.schema.Schema.{Schema}
use Rattle.row_model.specs.declared.row.Row.{Row}
use Rattle.row_model.specs.Table.{IsBound, IsLive, Table, row_at}
use Rattle.write_engine.specs.Cycle.{no_rows, rows_in, with_row}
use Rattle.write_engine.proofs.ClosedStates.{length_set}
use Rattle.kept_sums.specs.Sums.{TypeSums}
use Rattle.hol_incremental.specs.Beside.{IsPartOf}
use Rattle.hol_incremental.specs.Counted.{CountsOf, CountsTo}
use Rattle.hol_incremental.specs.Counts.{added_up, named_at, named_by, size_of, times_among, times_named}
use Rattle.hol_incremental.specs.EditKeys.{AreCounts, count_at, no_counts}
use Rattle.hol_incremental.specs.Sums.{AddsRowAt, AreSums}
use Rattle.hol_incremental.proofs.AddedUp.{added_more, added_none, none_at, same_added}
use Rattle.hol_incremental.proofs.PutRows.{is_there, put_other, put_there}
use Rattle.hol_incremental.proofs.ShallowTypes.{live_inside, live_row, type_at}
use Rattle.hol_incremental.proofs.SumLists.{sums_more, sums_same}

-- ---- what the row under an ordinal names

pub named_here : (schemas : List Schema) (table : Table) (t o : ℕ) (schema : Schema) (row : Row) → slice_get schemas t ≡ Some schema → row_at table t o ≡ Some row → named_at schemas table t o ≡ named_by schemas schema.shape row
named_here schemas table t o schema row known is =
    ap (λ (found : Option Schema). unwrap_or (option_and_then (λ s. option_map (λ r. named_by schemas s.shape r) (row_at table t o)) found) []) known
    ∙ ap (λ (found : Option Row). unwrap_or (option_map (λ r. named_by schemas schema.shape r) found) []) is

-- ---- one row more

module _ (schemas : List Schema) (table after : Table) (t o : ℕ) (schema : Schema) (row : Row) (types : length after ≡ length table) (known : slice_get schemas t ≡ Some schema) (free : row_at table t o ≡ None)
    (here : row_at after t o ≡ Some row) (same : (u q : ℕ) → ((u ≡ t) × (q ≡ o) → ⊥) → row_at after u q ≡ row_at table u q) where
  pub times_more : (u q : ℕ) → times_named schemas after u q ≡ times_among u q (named_at schemas after t o) + times_named schemas table u q
  times_more u q =
      added_more (λ s r. times_among u q (named_by schemas s.shape r)) schemas table after t o schema row types known free here same
      ∙ ap (λ (named : List (ℕ × ℕ)). times_among u q named + times_named schemas table u q) (sym (named_here schemas after t o schema row known here))

  pub size_more : size_of schemas after ≡ 1 + size_of schemas table
  size_more = added_more (λ s r. 1) schemas table after t o schema row types known free here same

-- ---- rows are read

no_row : (found : Option Row) → (IsSome found → ⊥) → found ≡ None
no_row None dead = refl
no_row (Some row) dead = absurd (dead refl)

module _ (schemas : List Schema) (before whole : Table) (part : IsPartOf before whole) where
  -- at the start none is
  pub read_start : (counts : List (List ℕ)) (sums : List TypeSums) (steps : ℕ) → length before ≡ length whole → AreCounts schemas before counts → AreSums schemas before sums → CountsTo schemas before whole 0 0 steps counts sums steps
  read_start counts sums steps types are summed = record {
    read = before;
    is = record { types = types; below = λ u q early. absurd (none u q early); above = λ u q late. refl };
    counted = are;
    summed = summed;
    ticked = refl;
  }
    where
      none : (u q : ℕ) → (u < 0) ⊎ ((u ≡ 0) × (q < 0)) → ⊥
      none u q (inl early) = omega (arith, early)
      none u q (inr early) = omega (arith, early.1)

  -- a row that the other state lacks
  module _ (t o start steps : ℕ) (counts counts' : List (List ℕ)) (sums sums' : List TypeSums) (known : t < length schemas) (types : length whole ≡ length schemas) (live : IsLive whole t o) (dead : IsLive before t o → ⊥)
      (to : CountsTo schemas before whole t o start counts sums steps) where
    found : (schema : Schema) × (slice_get schemas t ≡ Some schema)
    found = type_at schemas t known

    there : (row : Row) × (row_at whole t o ≡ Some row)
    there = live_row (row_at whole t o) live

    abbrev now : Table
    now = with_row to.read t o there.0

    in_read : t < length to.read
    in_read = let x = to.is.types in omega (arith, x, types, known)

    long : length now ≡ length to.read
    long = length_set to.read t (insert (rows_in to.read t) o there.0)

    free : row_at to.read t o ≡ None
    free = to.is.above t o (inr (refl, omega arith)) ∙ no_row (row_at before t o) dead

    here : row_at now t o ≡ Some there.0
    here = put_there to.read t o there.0 in_read t o (refl, refl)

    other : (u q : ℕ) → ((u ≡ t) × (q ≡ o) → ⊥) → row_at now u q ≡ row_at to.read u q
    other u q apart = put_other to.read t o there.0 in_read u q apart

    names : (u q : ℕ) → times_among u q (named_at schemas now t o) ≡ times_among u q (named_at schemas whole t o)
    names u q = ap (times_among u q) (named_here schemas now t o found.0 there.0 found.1 here ∙ sym (named_here schemas whole t o found.0 there.0 found.1 there.1))

    earlier : (u q : ℕ) → (u < t) ⊎ ((u ≡ t) × (q < o + 1)) → ((u ≡ t) × (q ≡ o) → ⊥) → (u < t) ⊎ ((u ≡ t) × (q < o))
    earlier u q (inl first) apart = inl first
    earlier u q (inr both) apart =
        elim (cases_eq q o) [
          | inl same ↦ absurd (apart (both.0, same))
          | inr beside ↦ inr (both.0, (let low = both.1 in omega (arith, low, beside)))
        ]

    below : (u q : ℕ) → (u < t) ⊎ ((u ≡ t) × (q < o + 1)) → row_at now u q ≡ row_at whole u q
    below u q early =
        elim (is_there t o u q) [
          | inl same ↦ put_there to.read t o there.0 in_read u q same ∙ sym there.1 ∙ ap (λ n. row_at whole n o) (sym same.0) ∙ ap (row_at whole u) (sym same.1)
          | inr apart ↦ other u q apart ∙ to.is.below u q (earlier u q early apart)
        ]

    above : (u q : ℕ) → (t < u) ⊎ ((u ≡ t) × (o + 1 ≤ q)) → row_at now u q ≡ row_at before u q
    above u q (inl late) = other u q (λ both. (let x = both.0 in omega (arith, x, late))) ∙ to.is.above u q (inl late)
    above u q (inr late) = other u q (λ both. (let x = both.1 in let y = late.1 in omega (arith, x, y))) ∙ to.is.above u q (inr (late.0, (let y = late.1 in omega (arith, y))))

    pub read_row : length counts' ≡ length counts → ((u q : ℕ) → count_at counts' u q ≡ count_at counts u q + times_among u q (named_at schemas whole t o)) → AddsRowAt schemas whole t o sums sums'
        → CountsTo schemas before whole t (o + 1) start counts' sums' (steps + 1)
    read_row lengths raised adds = record {
      read = now;
      is = record { types = long ∙ to.is.types; below = below; above = above };
      counted = record {
        types = lengths ∙ to.counted.types;
        are = λ u q.
            (let x = raised u q in
            let y = to.counted.are u q in
            let z = times_more schemas to.read now t o found.0 there.0 long found.1 free here other u q in
            let w = names u q in
            omega (arith, x, y, z, w));
      };
      summed = sums_more schemas to.read now t o there.0 free here other sums sums' to.summed (adds there.0 there.1);
      ticked = (let x = to.ticked in let y = size_more schemas to.read now t o found.0 there.0 long found.1 free here other in omega (arith, x, y));
    }

  -- an ordinal under which both states have the same row, or none
  pub read_other : (t o start steps : ℕ) (counts : List (List ℕ)) (sums : List TypeSums) → row_at before t o ≡ row_at whole t o → CountsTo schemas before whole t o start counts sums steps → CountsTo schemas before whole t (o + 1) start counts sums steps
  read_other t o start steps counts sums same to = record {
    read = to.read;
    is = record { types = to.is.types; below = below; above = above };
    counted = to.counted;
    summed = to.summed;
    ticked = to.ticked;
  }
    where
      below : (u q : ℕ) → (u < t) ⊎ ((u ≡ t) × (q < o + 1)) → row_at to.read u q ≡ row_at whole u q
      below u q (inl early) = to.is.below u q (inl early)
      below u q (inr early) =
          elim (cases_eq q o) [
            | inl e ↦
                ap (λ n. row_at to.read n q) early.0 ∙ ap (row_at to.read t) e ∙ to.is.above t o (inr (refl, omega arith)) ∙ same ∙ ap (row_at whole t) (sym e) ∙ ap (λ n. row_at whole n q) (sym early.0)
            | inr beside ↦ to.is.below u q (inr (early.0, (let low = early.1 in omega (arith, low, beside))))
          ]

      above : (u q : ℕ) → (t < u) ⊎ ((u ≡ t) × (o + 1 ≤ q)) → row_at to.read u q ≡ row_at before u q
      above u q (inl late) = to.is.above u q (inl late)
      above u q (inr late) = to.is.above u q (inr (late.0, (let y = late.1 in omega (arith, y))))

  -- an ordinal under which the state has no row
  pub read_none : (t o start steps : ℕ) (counts : List (List ℕ)) (sums : List TypeSums) → (IsLive whole t o → ⊥) → CountsTo schemas before whole t o start counts sums steps → CountsTo schemas before whole t (o + 1) start counts sums steps
  read_none t o start steps counts sums dead to = read_other t o start steps counts sums (of_option (row_at before t o) refl ∙ sym (no_row (row_at whole t o) dead)) to
    where
      of_option : (found : Option Row) → row_at before t o ≡ found → row_at before t o ≡ None
      of_option None is = is
      of_option (Some row) is = let there = part t o row is in absurd (dead (subst IsSome (sym there) refl))

  -- where one state has a row only if the other one has it, both have the same
  same_row : (t q : ℕ) → (IsLive whole t q → IsLive before t q) → row_at before t q ≡ row_at whole t q
  same_row t q stays = of_option (row_at before t q) refl
    where
      of_option : (found : Option Row) → row_at before t q ≡ found → row_at before t q ≡ row_at whole t q
      of_option None is = is ∙ sym (no_row (row_at whole t q) (λ live. (let there = subst IsSome is (stays live) in absurd cc)))
      of_option (Some row) is = is ∙ sym (part t q row is)

  -- ordinals under which both states have the same rows
  pub read_past : (t from next start steps : ℕ) (counts : List (List ℕ)) (sums : List TypeSums) → from ≤ next → ((q : ℕ) → from ≤ q → q < next → IsLive whole t q → IsLive before t q)
      → CountsTo schemas before whole t from start counts sums steps → CountsTo schemas before whole t next start counts sums steps
  read_past t from next start steps counts sums rises stays to = record {
    read = to.read;
    is = record { types = to.is.types; below = below; above = above };
    counted = to.counted;
    summed = to.summed;
    ticked = to.ticked;
  }
    where
      of_type : (q : ℕ) → q < next → row_at to.read t q ≡ row_at whole t q
      of_type q low =
          elim (cases_lt q from) as (λ _. row_at to.read t q ≡ row_at whole t q) [
            | inl early ↦ to.is.below t q (inr (refl, early))
            | inr late ↦ to.is.above t q (inr (refl, late)) ∙ same_row t q (stays q late low)
          ]

      below : (u q : ℕ) → (u < t) ⊎ ((u ≡ t) × (q < next)) → row_at to.read u q ≡ row_at whole u q
      below u q (inl early) = to.is.below u q (inl early)
      below u q (inr early) = ap (λ n. row_at to.read n q) early.0 ∙ of_type q early.1 ∙ ap (λ n. row_at whole n q) (sym early.0)

      above : (u q : ℕ) → (t < u) ⊎ ((u ≡ t) × (next ≤ q)) → row_at to.read u q ≡ row_at before u q
      above u q (inl late) = to.is.above u q (inl late)
      above u q (inr late) = to.is.above u q (inr (late.0, (let y = late.1 in omega (arith, y, rises))))

  -- all rows of a type are read
  pub read_rest : (t from start steps : ℕ) (counts : List (List ℕ)) (sums : List TypeSums) → ((q : ℕ) → from ≤ q → IsLive whole t q → IsLive before t q) → CountsTo schemas before whole t from start counts sums steps
      → CountsTo schemas before whole (t + 1) 0 start counts sums steps
  read_rest t from start steps counts sums stays to = record {
    read = to.read;
    is = record { types = to.is.types; below = below; above = above };
    counted = to.counted;
    summed = to.summed;
    ticked = to.ticked;
  }
    where
      of_type : (u q : ℕ) → u ≡ t → row_at to.read u q ≡ row_at whole u q
      of_type u q same =
          ap (λ n. row_at to.read n q) same
          ∙ elim (cases_lt q from) as (λ _. row_at to.read t q ≡ row_at whole t q) [
            | inl low ↦ to.is.below t q (inr (refl, low))
            | inr late ↦ to.is.above t q (inr (refl, late)) ∙ same_row t q (stays q late)
          ]
          ∙ ap (λ n. row_at whole n q) (sym same)

      below : (u q : ℕ) → (u < t + 1) ⊎ ((u ≡ t + 1) × (q < 0)) → row_at to.read u q ≡ row_at whole u q
      below u q (inl early) =
          elim (cases_eq u t) [
            | inl same ↦ of_type u q same
            | inr apart ↦ to.is.below u q (inl (omega (arith, early, apart)))
          ]
      below u q (inr early) = absurd (let low = early.1 in omega (arith, low))

      above : (u q : ℕ) → (t + 1 < u) ⊎ ((u ≡ t + 1) × (0 ≤ q)) → row_at to.read u q ≡ row_at before u q
      above u q (inl late) = to.is.above u q (inl (omega (arith, late)))
      above u q (inr late) = to.is.above u q (inl (let e = late.0 in omega (arith, e)))

  -- the same up to its bound
  pub read_type : (t bound start steps : ℕ) (counts : List (List ℕ)) (sums : List TypeSums) → IsBound whole t bound → CountsTo schemas before whole t bound start counts sums steps → CountsTo schemas before whole (t + 1) 0 start counts sums steps
  read_type t bound start steps counts sums past to = read_rest t bound start steps counts sums (λ q from live. absurd (let low = past.above q live in omega (arith, low, from))) to

  -- all rows are read
  pub read_all : (count start steps : ℕ) (counts : List (List ℕ)) (sums : List TypeSums) → count ≡ length whole → CountsTo schemas before whole count 0 start counts sums steps → CountsOf schemas before whole counts sums start steps
  read_all count start steps counts sums all to = record {
    counted = record { types = to.counted.types; are = λ t o. to.counted.are t o ∙ sum (λ s r. times_among t o (named_by schemas s.shape r)) };
    summed = sums_same schemas to.read whole (λ u q. sym (same u q)) sums to.summed;
    ticked = to.ticked ∙ ap (λ n. start + n) (sum (λ s r. 1));
  }
    where
      past : (xs : Table) (u q : ℕ) → length xs ≤ u → row_at xs u q ≡ None
      past xs u q from = no_row (row_at xs u q) (λ live. (let low = live_inside xs u q live in omega (arith, low, from)))

      same : (u q : ℕ) → row_at to.read u q ≡ row_at whole u q
      same u q =
          elim (cases_lt u count) [
            | inl early ↦ to.is.below u q (inl early)
            | inr late ↦ (let long = to.is.types in past to.read u q (omega (arith, late, all, long)) ∙ sym (past whole u q (omega (arith, late, all))))
          ]

      sum : (of : Schema → Row → ℕ) → added_up of schemas to.read ≡ added_up of schemas whole
      sum of = same_added of schemas whole to.read to.is.types same

-- ---- no rows

pub none_part : (n : ℕ) (whole : Table) → IsPartOf (no_rows n) whole
none_part n whole t o row is = let e = sym is ∙ none_at n t o in absurd cc

pub none_counted : (schemas : List Schema) → AreCounts schemas (no_rows (length schemas)) (no_counts (length schemas))
none_counted schemas = record {
  types = length-replicate (length schemas) [];
  are = λ t o. at_none (length schemas) t o ∙ sym (added_none (λ s r. times_among t o (named_by schemas s.shape r)) schemas (length schemas));
}
  where
    at_none : (n t o : ℕ) → count_at (no_counts n) t o ≡ 0
    at_none zero t o = refl
    at_none (suc n) zero o = refl
    at_none (suc n) (suc t) o = at_none n t o

pub none_dead : (n t o : ℕ) → IsLive (no_rows n) t o → ⊥
none_dead n t o live = let e = subst IsSome (none_at n t o) live in absurd cc
