-- How many rows a type has, by lists of their ordinals; and how many the types with a primary key have.
use Rattle.std.proofs.Common.{◌≡◌, ◌∙◌, ◌↔◌, ◌+◌, ◌<◌, ◌≤◌, ℕ, zero, suc, List, [], ◌∷◌, Bool, true, false, cond, if◌then◌else◌, Option, Some, None, length, take, slice_get, zip, refl, sym, ap, subst, inl, inr, arith}
use Rattle.std.specs.Prelude.{Contains, IsSome, is_some, option_and_then, sum_by}
use Rattle.std.specs.FinMap.{empty, entries, find, get, get-empty, get-entries}
use Rattle.std.specs.Ordering.{nat_cmp}
use Rattle.std.proofs.lemmas.Bool.{cases_eq, cases_lt}
use Rattle.std.proofs.lemmas.List.Sums.{sum_by-cons}
use Rattle.schema_model.specs.Parts.{shape_key}
use Rattle.schema_model.specs.declared.schema.Schema.{Schema}
use Rattle.row_model.specs.BothStates.{rows_from}
use Rattle.row_model.specs.Row.{Rises}
use Rattle.row_model.specs.Table.{IsLive, RowMap, Table, row_at}
use Rattle.row_model.specs.declared.row.Row.{Row}
use Rattle.row_model.proofs.RowEntries.{Entry, skips}
use Rattle.row_model.proofs.RowsFrom.{get_in, rows_past, rows_skip, rows_take}
use Rattle.write_engine.specs.Cycle.{rows_in}
use Rattle.hol_incremental.specs.Beside.{IsFromEither}
use Rattle.hol_incremental.specs.Counts.{added_up, keyed_size_of}
use Rattle.hol_incremental.specs.Keeping.{CountsComing, CountsKeyed, CountsLacking}
use Rattle.hol_incremental.specs.Roots.{IsKeyed}
use Rattle.hol_incremental.proofs.Among.{first_in, later_in, none_in, parted}
use Rattle.hol_incremental.proofs.ShallowTypes.{live_row}

-- ---- a sum over so many ordinals from one on

abbrev pub over : (ℕ → ℕ) → ℕ → ℕ → ℕ
over f zero start = 0
over f (suc count) start = f start + over f count (start + 1)

over_both : (f g h : ℕ → ℕ) → ((o : ℕ) → f o + g o ≤ h o) → (count start : ℕ) → over f count start + over g count start ≤ over h count start
over_both f g h each zero start = omega arith
over_both f g h each (suc count) start = let here = each start in let rest = over_both f g h each count (start + 1) in omega (arith, here, rest)

-- a rising list has as many items as ordinals are in it
listed : (f : ℕ → ℕ) (count start : ℕ) (list : List ℕ) → Rises list → ((o : ℕ) → Contains list o → (start ≤ o) × (o < start + count)) → ((o : ℕ) → start ≤ o → Contains list o → f o ≡ 1)
    → ((o : ℕ) → start ≤ o → (Contains list o → ⊥) → f o ≡ 0) → length list ≡ over f count start
listed f zero start [] rises within ones zeros = refl
listed f zero start (x ∷ list) rises within ones zeros = absurd (let here = within x (first_in x list) in omega (arith, here.0, here.1))
listed f (suc count) start [] rises within ones zeros =
    let here = zeros start (omega arith) (none_in start) in
    let rest = listed f count (start + 1) [] rises (λ o among. absurd (none_in o among)) (λ o from among. absurd (none_in o among)) (λ o from none. zeros o (omega (arith, from)) none) in
    omega (arith, here, rest)
listed f (suc count) start (x ∷ list) rises within ones zeros =
    elim (cases_eq x start) [
      | inl same ↦
          (let here = ones start (omega arith) (subst (Contains (x ∷ list)) same (first_in x list)) in
          let rest = listed f count (start + 1) list (λ i j d less inside. rises (suc i) (suc j) d (omega (arith, less)) (omega (arith, inside)))
          (λ o among. (let low = above o among in let high = (within o (later_in x list o among)).1 in (omega (arith, low, same), omega (arith, high))))
          (λ o from among. ones o (omega (arith, from)) (later_in x list o among))
          (λ o from none. zeros o (omega (arith, from)) (λ among. elim (parted x list o among) [ inl first ↦ omega (arith, first, same, from) | inr there ↦ none there ])) in
          omega (arith, here, rest))
      | inr other ↦
          (let far : start + 1 ≤ x = (let here = (within x (first_in x list)).0 in omega (arith, here, other)) in
          let here = zeros start (omega arith) (λ among. elim (parted x list start among) [ inl first ↦ other first | inr there ↦ (let low = above start there in omega (arith, low, far)) ]) in
          let rest = listed f count (start + 1) (x ∷ list) rises
          (λ o among. (let high = (within o among).1 in (elim (parted x list o among) [ inl first ↦ omega (arith, first, far) | inr there ↦ (let low = above o there in omega (arith, low, far)) ], omega (arith, high))))
          (λ o from among. ones o (omega (arith, from)) among) (λ o from none. zeros o (omega (arith, from)) none) in
          omega (arith, here, rest))
    ]
  where
    above : (o : ℕ) → Contains list o → x < o
    above o among = let (k, inside, at) = among in subst (λ n. x < n) at (rises 0 (suc k) o (omega arith) (omega (arith, inside)))

-- ---- the rows of a type

-- one for a row, none for none
abbrev pub one_if : Option Row → ℕ
one_if None = 0
one_if (Some row) = 1

-- how many rows there are from an ordinal on
abbrev many : ℕ → RowMap → ℕ
many start rows = sum_by (λ row. 1) (rows_from start rows)

abbrev bound_of : List Entry → ℕ
bound_of [] = 0
bound_of (e ∷ es) = e.0 + 1 + bound_of es

past_entries : (q : ℕ) (es : List Entry) → bound_of es ≤ q → find nat_cmp q es ≡ None
past_entries q [] past = refl
past_entries q (e ∷ es) past = skips q e es (λ same. omega (arith, same, past)) ∙ past_entries q es (omega (arith, past))

-- no row is at or past this ordinal
abbrev IsOver : RowMap → ℕ → Type 0
IsOver rows bound = (q : ℕ) → bound ≤ q → get rows q ≡ None

over_bound : (rows : RowMap) → IsOver rows (bound_of (entries rows))
over_bound rows q past = get-entries rows q ∙ past_entries q (entries rows) past

count_here : (rows : RowMap) (count start : ℕ) → many (start + 1) rows ≡ over (λ o. one_if (get rows o)) count (start + 1) → (found : Option Row) → get rows start ≡ found → many start rows ≡ over (λ o. one_if (get rows o)) (suc count) start
count_here rows count start rest None is =
    let skip : many start rows ≡ many (start + 1) rows =
    ap (sum_by (λ row. 1)) (rows_skip rows start (start + 1) (omega arith) (λ q from before. ap (get rows) (omega (arith, from, before)) ∙ is)) in
    let here = ap one_if is in
    omega (arith, skip, rest, here)
count_here rows count start rest (Some row) is =
    let more : many start rows ≡ 1 + many (start + 1) rows = ap (sum_by (λ row. 1)) (rows_take rows start row is) ∙ sum_by-cons (λ (r : Row). 1) row (rows_from (start + 1) rows) in
    let here = ap one_if is in
    omega (arith, more, rest, here)

rows_counted : (rows : RowMap) (count start : ℕ) → IsOver rows (start + count) → many start rows ≡ over (λ o. one_if (get rows o)) count start
rows_counted rows zero start past = ap (sum_by (λ row. 1)) (rows_past rows start (λ q from. past q (omega (arith, from))))
rows_counted rows (suc count) start past = count_here rows count start (rows_counted rows count (start + 1) (λ q from. past q (omega (arith, from)))) (get rows start) refl

one_live : (rows : RowMap) (o : ℕ) → IsSome (get rows o) → one_if (get rows o) ≡ 1
one_live rows o live = let row = live_row (get rows o) live in ap one_if row.1

none_dead : (found : Option Row) → (IsSome found → ⊥) → one_if found ≡ 0
none_dead None dead = refl
none_dead (Some row) dead = absurd (dead refl)

abbrev both_bounds : RowMap → RowMap → RowMap → ℕ
both_bounds a b c = bound_of (entries a) + bound_of (entries b) + bound_of (entries c)

live_below : (rows : RowMap) (bound o : ℕ) → IsOver rows bound → IsSome (get rows o) → o < bound
live_below rows bound o past live = elim (cases_lt o bound) [
  | inl low ↦ low
  | inr high ↦ absurd (let e = subst IsSome (past o (omega (arith, high))) live in cc)
]

-- a list of the ordinals of a type's rows has as many as there are rows
list_many : (rows : RowMap) (list : List ℕ) → Rises list → ((o : ℕ) → Contains list o ↔ IsSome (get rows o)) → length list ≡ many 0 rows
list_many rows list rises are =
    let bound = bound_of (entries rows) in
    listed (λ o. one_if (get rows o)) bound 0 list rises (λ o among. (omega arith, (let low = live_below rows bound o (over_bound rows) ((are o).0 among) in omega (arith, low))))
    (λ o from among. one_live rows o ((are o).0 among)) (λ o from none. none_dead (get rows o) (λ live. none ((are o).1 live)))
    ∙ sym (rows_counted rows bound 0 (λ q past. over_bound rows q (omega (arith, past))))

-- the rows that one type has and another lacks, beside those of that one
module _ (before next both : RowMap) (first : (o : ℕ) → IsSome (get before o) → IsSome (get both o)) (second : (o : ℕ) → IsSome (get next o) → IsSome (get both o)) where
  -- one where a row comes
  abbrev one_new : Option Row → Option Row → ℕ
  one_new was is = cond (is_some was) 0 (one_if is)

  abbrev bound : ℕ
  bound = both_bounds before next both

  at_most : (o : ℕ) → one_if (get before o) + one_new (get before o) (get next o) ≤ one_if (get both o)
  at_most o = by_option (get before o) (get next o) (get both o) (first o) (second o)
    where
      by_option : (a b c : Option Row) → (IsSome a → IsSome c) → (IsSome b → IsSome c) → one_if a + one_new a b ≤ one_if c
      by_option None None c f g = omega arith
      by_option None (Some b) None f g = absurd (let e = g refl in cc)
      by_option None (Some b) (Some c) f g = omega arith
      by_option (Some a) b None f g = absurd (let e = f refl in cc)
      by_option (Some a) b (Some c) f g = omega arith

  new_one : (was is : Option Row) → IsSome is → (IsSome was → ⊥) → one_new was is ≡ 1
  new_one None None live dead = absurd cc
  new_one None (Some row) live dead = refl
  new_one (Some row) is live dead = absurd (dead refl)

  new_none : (was is : Option Row) → (IsSome is × (IsSome was → ⊥) → ⊥) → one_new was is ≡ 0
  new_none None None none = refl
  new_none None (Some row) none = absurd (none (refl, λ e. absurd cc))
  new_none (Some row) is none = refl

  pub lacking_many : (added : List ℕ) → Rises added → ((o : ℕ) → Contains added o ↔ (IsSome (get next o) × ¬ IsSome (get before o))) → many 0 before + length added ≤ many 0 both
  lacking_many added rises are =
      let x = rows_counted before bound 0 (λ q past. over_bound before q (omega (arith, past))) in
      let y = rows_counted both bound 0 (λ q past. over_bound both q (omega (arith, past))) in
      let z = listed (λ o. one_new (get before o) (get next o)) bound 0 added rises
      (λ o among. (omega arith, (let low = live_below next (bound_of (entries next)) o (over_bound next) ((are o).0 among).0 in omega (arith, low))))
      (λ o from among. new_one (get before o) (get next o) ((are o).0 among).0 ((are o).0 among).1) (λ o from none. new_none (get before o) (get next o) (λ there. none ((are o).1 there))) in
      let w = over_both (λ o. one_if (get before o)) (λ o. one_new (get before o) (get next o)) (λ o. one_if (get both o)) at_most bound 0 in
      omega (arith, x, y, z, w)

-- ---- the first types

module _ (of : Schema → Row → ℕ) where
  type_more : (schema : Schema) (schemas : List Schema) (rows : RowMap) (table : Table) → added_up of (schema ∷ schemas) (rows ∷ table) ≡ sum_by (of schema) (rows_from 0 rows) + added_up of schemas table
  unfolding added_up
  type_more schema schemas rows table = sum_by-cons (λ (part : Schema × RowMap). sum_by (of part.0) (rows_from 0 part.1)) (schema, rows) (zip schemas table)

  none_added : (table : Table) → added_up of [] table ≡ 0
  unfolding added_up
  none_added table = refl

  no_types : (schemas : List Schema) → added_up of schemas [] ≡ 0
  unfolding added_up
  no_types [] = refl
  no_types (s ∷ schemas) = refl

  no_rows_in : (schema : Schema) → sum_by (of schema) (rows_from 0 empty) ≡ 0
  no_rows_in schema = ap (sum_by (of schema)) (rows_past empty 0 (λ q from. get-empty nat_cmp q))

  -- a type more
  pub added_first : (schemas : List Schema) (table : Table) (k : ℕ) (schema : Schema) → slice_get schemas k ≡ Some schema
      → added_up of (take (k + 1) schemas) table ≡ added_up of (take k schemas) table + sum_by (of schema) (rows_from 0 (rows_in table k))
  added_first [] table k schema is = absurd cc
  added_first (s ∷ schemas) [] k schema is =
      let x = no_types (take (k + 1) (s ∷ schemas)) in let y = no_types (take k (s ∷ schemas)) in let z = no_rows_in schema in omega (arith, x, y, z)
  added_first (s ∷ schemas) (r ∷ table) zero schema is =
      let same : s ≡ schema = cc in
      let x = type_more s [] r table in
      let y = none_added table in
      let z = none_added (r ∷ table) in
      let w = ap (λ (c : Schema). sum_by (of c) (rows_from 0 r)) same in
      omega (arith, x, y, z, w)
  added_first (s ∷ schemas) (r ∷ table) (suc k) schema is =
      let next : suc (k + 1) ≡ suc k + 1 = omega arith in
      let rest = added_first schemas table k schema is in
      let x = type_more s (take (k + 1) schemas) r table in
      let y = type_more s (take k schemas) r table in
      let z = ap (λ n. added_up of (take n (s ∷ schemas)) (r ∷ table)) next in
      omega (arith, x, y, z, rest)

-- ---- types with a primary key

-- one for each row of a type with a primary key
abbrev pub one_keyed : Schema → Row → ℕ
one_keyed schema row = (if is_some (shape_key schema.shape) then 1 else 0)

keyed_test : (schemas : List Schema) (t : ℕ) (schema : Schema) → slice_get schemas t ≡ Some schema → IsKeyed schemas t → is_some (shape_key schema.shape) ≡ true
keyed_test schemas t schema is keyed = subst (λ found. IsSome (option_and_then (λ (s : Schema). shape_key s.shape) found)) is keyed

plain_test : (schemas : List Schema) (t : ℕ) (schema : Schema) → slice_get schemas t ≡ Some schema → (IsKeyed schemas t → ⊥) → is_some (shape_key schema.shape) ≡ false
plain_test schemas t schema is plain = by_key (shape_key schema.shape) refl
  where
    by_key : (key : Option (List (List ℕ))) → shape_key schema.shape ≡ key → is_some (shape_key schema.shape) ≡ false
    by_key None none = ap is_some none
    by_key (Some texts) some = absurd (plain (subst (λ found. IsSome (option_and_then (λ (s : Schema). shape_key s.shape) found)) (sym is) (ap is_some some)))

none_sum : {X : Type 0} (xs : List X) → sum_by (λ x. 0) xs ≡ 0
none_sum [] = refl
none_sum (x ∷ xs) = let e = sum_by-cons (λ y. 0) x xs in let rest = none_sum xs in omega (arith, e, rest)

module _ (schemas : List Schema) (t : ℕ) (schema : Schema) (is : slice_get schemas t ≡ Some schema) (table : Table) where
  keyed_many : IsKeyed schemas t → sum_by (one_keyed schema) (rows_from 0 (rows_in table t)) ≡ many 0 (rows_in table t)
  keyed_many keyed = ap (λ (b : Bool). sum_by (λ (row : Row). if b then 1 else 0) (rows_from 0 (rows_in table t))) (keyed_test schemas t schema is keyed)

  plain_none : (IsKeyed schemas t → ⊥) → sum_by (one_keyed schema) (rows_from 0 (rows_in table t)) ≡ 0
  plain_none plain = ap (λ (b : Bool). sum_by (λ (row : Row). if b then 1 else 0) (rows_from 0 (rows_in table t))) (plain_test schemas t schema is plain) ∙ none_sum (rows_from 0 (rows_in table t))

  pub first_keyed : keyed_size_of (take (t + 1) schemas) table ≡ keyed_size_of (take t schemas) table + sum_by (one_keyed schema) (rows_from 0 (rows_in table t))
  first_keyed = added_first one_keyed schemas table t schema is

  -- a type more, where its rows are counted if it has a primary key
  pub counted_more : (start steps steps' : ℕ) → steps ≡ start + keyed_size_of (take t schemas) table → CountsKeyed schemas table t steps steps' → steps' ≡ start + keyed_size_of (take (t + 1) schemas) table
  counted_more start steps steps' so_far (inl (keyed, (list, rises, are, counts))) =
      let x = list_many (rows_in table t) list rises (λ o. ((λ among. subst IsSome (sym (get_in table t o)) ((are o).0 among)), (λ live. (are o).1 (subst IsSome (get_in table t o) live)))) in
      let y = keyed_many keyed in
      let z = first_keyed in
      omega (arith, so_far, counts, x, y, z)
  counted_more start steps steps' so_far (inr (plain, same)) = let y = plain_none plain in let z = first_keyed in omega (arith, so_far, same, y, z)

-- a type more, of which the rows that come are counted
module _ (schemas : List Schema) (before next both : Table) (either : IsFromEither before next both) (t : ℕ) (schema : Schema) (is : slice_get schemas t ≡ Some schema) where
  live_in : (table : Table) (o : ℕ) → IsLive table t o → IsSome (get (rows_in table t) o)
  live_in table o live = subst IsSome (sym (get_in table t o)) live

  in_live : (table : Table) (o : ℕ) → IsSome (get (rows_in table t) o) → IsLive table t o
  in_live table o live = subst IsSome (get_in table t o) live

  live_first : (o : ℕ) → IsLive before t o → IsLive both t o
  live_first o live = let row = live_row (row_at before t o) live in ap is_some (either.first t o row.0 row.1)

  live_second : (o : ℕ) → IsLive next t o → IsLive both t o
  live_second o live = let row = live_row (row_at next t o) live in ap is_some (either.second t o row.0 row.1)

  pub lacking_more : (start steps steps' : ℕ) → steps + keyed_size_of (take t schemas) before ≤ start + keyed_size_of (take t schemas) both → IsKeyed schemas t → CountsLacking before next t steps steps'
      → steps' + keyed_size_of (take (t + 1) schemas) before ≤ start + keyed_size_of (take (t + 1) schemas) both
  lacking_more start steps steps' so_far keyed (added, lacks, counts) =
      let x = lacking_many (rows_in before t) (rows_in next t) (rows_in both t) (λ o live. live_in both o (live_first o (in_live before o live))) (λ o live. live_in both o (live_second o (in_live next o live))) added lacks.rising
      (λ o. (
        (λ among. (let there = (lacks.are o).0 among in (live_in next o there.0, λ live. there.1 (in_live before o live)))),
        (λ there. (lacks.are o).1 (in_live next o there.0, λ live. there.1 (live_in before o live))),
      )) in
      let a = keyed_many schemas t schema is before keyed in
      let b = keyed_many schemas t schema is both keyed in
      let c = first_keyed schemas t schema is before in
      let d = first_keyed schemas t schema is both in
      omega (arith, so_far, counts, x, a, b, c, d)

  pub plain_more : (start steps : ℕ) → steps + keyed_size_of (take t schemas) before ≤ start + keyed_size_of (take t schemas) both → (IsKeyed schemas t → ⊥)
      → steps + keyed_size_of (take (t + 1) schemas) before ≤ start + keyed_size_of (take (t + 1) schemas) both
  plain_more start steps so_far plain =
      let a = plain_none schemas t schema is before plain in
      let b = plain_none schemas t schema is both plain in
      let c = first_keyed schemas t schema is before in
      let d = first_keyed schemas t schema is both in
      omega (arith, so_far, a, b, c, d)

  -- a type more, whether or not it has a primary key
  pub coming_more : (start steps steps' : ℕ) → steps + keyed_size_of (take t schemas) before ≤ start + keyed_size_of (take t schemas) both → CountsComing schemas before next t steps steps'
      → steps' + keyed_size_of (take (t + 1) schemas) before ≤ start + keyed_size_of (take (t + 1) schemas) both
  coming_more start steps steps' so_far (inl (keyed, counts)) = lacking_more start steps steps' so_far keyed counts
  coming_more start steps steps' so_far (inr (plain, same)) = let more = plain_more start steps so_far plain in omega (arith, more, same)

-- no types have no rows
pub no_size : (table : Table) → keyed_size_of [] table ≡ 0
no_size table = none_added one_keyed table
