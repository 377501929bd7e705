-- Writing the lines of a table's rows: those of a type below an ordinal, those of the types before an index, and where
-- it stops.
use Rattle.std.proofs.Common.{◌≡◌, inl, inr, ◌<◌, ◌≤◌, ◌+◌, ℕ, zero, suc, List, [], ◌∷◌, ◌++◌, length, take, drop, map, Bool, true, false, T, Option, Some, None, Result, Ok, Err, IfSome, refl, sym, ap, ◌∙◌, subst, arith, append-nil, add-one}
use Rattle.std.proofs.lemmas.List.{map_push, take_all}
use Rattle.std.proofs.lemmas.Grind.{flat_map-append}
use Rattle.std.proofs.lemmas.Option.{slice_get_cases}
use Rattle.std.proofs.lemmas.Slice.Zip.{length-zip}
use Rattle.std.specs.List.{AllByRecursion, flat_map, zip, slice_get}
use Rattle.std.specs.Option.{option_and_then}
use Rattle.std.specs.Ordering.{nat_cmp}
use Rattle.std.specs.Prelude.{IsSome, IsErrAnd}
use Rattle.std.specs.FinMap.{entries, entries_sorted, find, get, get-entries, is_sorted}
use Rattle.row_model.specs.declared.row.Row.{Row}
use Rattle.schema_model.specs.declared.schema.Schema.{Schema}
use Rattle.row_model.specs.Row.{FitsShape}
use Rattle.row_model.specs.Table.{RowMap, Table, IsTableOf, IsBound, IsLive, row_at}
use Rattle.std.proofs.KnownBytes.{Appends-nil}
use Rattle.hollow_top.specs.declared.stop.Stop.{Stop}
use Rattle.hollow_top.specs.declared.stop.Stop.TheVariants.{Memory}
use Rattle.hollow_top.specs.HeldLines.{Held, HoldsLines}
use Rattle.hollow_top.specs.RowLines.{Listed, AreLinesOf, rows_of_type, rows_in_order}
use Rattle.hollow_top.proofs.Fronts.{no_lines, one_line, lines_append, none_written, then_written, cut_before}
use Rattle.hollow_top.proofs.Printed.{row_has_line}
use Rattle.hollow_top.proofs.SortedRows.{AreWalked, walk_starts, walk_passes, walk_takes, walk_ends, each_found}
use Rattle.hollow_top.proofs.Writes.{if_found, found_if, failed, LeavesRow}

-- the types of a table, each with its schema
abbrev pub Types : Type 0
Types = List (Schema × RowMap)

abbrev pub FitsEach : Schema → List (ℕ × Row) → Type 0
FitsEach schema es = AllByRecursion (λ entry. FitsShape schema.shape entry.1) es

abbrev pub FitTypes : Types → Type 0
FitTypes types = AllByRecursion (λ typed. FitsEach typed.0 (entries typed.1)) types

zip_at : {A B : Type 0} (xs : List A) (ys : List B) (t : ℕ) (x : A × B) → slice_get (zip xs ys) t ≡ Some x → (slice_get xs t ≡ Some x.0) × (slice_get ys t ≡ Some x.1)
zip_at [] ys t x at = absurd cc
zip_at (a ∷ xs) [] t x at = absurd cc
zip_at (a ∷ xs) (b ∷ ys) zero x at = let same : (a, b) ≡ x = cc in (ap (λ p. Some p.0) same, ap (λ p. Some p.1) same)
zip_at (a ∷ xs) (b ∷ ys) (suc t) x at = zip_at xs ys t x at

take_next : {A : Type 0} (xs : List A) (t : ℕ) (x : A) → slice_get xs t ≡ Some x → take (suc t) xs ≡ take t xs ++ x ∷ []
take_next [] t x at = absurd cc
take_next (y ∷ ys) zero x at = let same : y ≡ x = cc in λ i. same i ∷ []
take_next (y ∷ ys) (suc t) x at = ap (λ zs. y ∷ zs) (take_next ys t x at)

split_at : {A : Type 0} (xs : List A) (t : ℕ) (x : A) → slice_get xs t ≡ Some x → xs ≡ take t xs ++ (x ∷ drop (suc t) xs)
split_at [] t x at = absurd cc
split_at (y ∷ ys) zero x at = let same : y ≡ x = cc in λ i. same i ∷ ys
split_at (y ∷ ys) (suc t) x at = ap (λ zs. y ∷ zs) (split_at ys t x at)

each_after : {A : Type 0} (P : A → Type 0) (xs ys : List A) → AllByRecursion P (xs ++ ys) → AllByRecursion P ys
each_after P [] ys all = all
each_after P (x ∷ xs) ys all = each_after P xs ys all.1

each_at : {A : Type 0} (P : A → Type 0) (xs : List A) → ((t : ℕ) (x : A) → slice_get xs t ≡ Some x → P x) → AllByRecursion P xs
each_at P [] each = tt
each_at P (x ∷ xs) each = (each 0 x refl, each_at P xs (λ t y at. each (suc t) y at))

map_both : {A B : Type 0} (f : A → B) (xs ys : List A) → map f (xs ++ ys) ≡ map f xs ++ map f ys
map_both f [] ys = refl
map_both f (x ∷ xs) ys = ap (λ zs. f x ∷ zs) (map_both f xs ys)

is_true : (b : Bool) → T b → b ≡ true
is_true true h = refl
is_true false h = absurd h

pub sorted_entries : (rows : RowMap) → is_sorted nat_cmp (entries rows) ≡ true
sorted_entries rows = is_true _ (entries_sorted rows)

row_there : (table : Table) (t ordinal : ℕ) (rows : RowMap) → slice_get table t ≡ Some rows → row_at table t ordinal ≡ find nat_cmp ordinal (entries rows)
row_there table t ordinal rows at = ap (option_and_then (λ map. get map ordinal)) at ∙ get-entries rows ordinal

-- rows that fit have lines
entries_have_lines : (schema : Schema) (es : List (ℕ × Row)) → FitsEach schema es → (text : List ℕ) × AreLinesOf (map (λ entry. (schema, entry)) es) text
entries_have_lines schema [] fit = ([], no_lines)
entries_have_lines schema (e ∷ es) fit =
    let first = row_has_line schema e.0 e.1 fit.0 in
    let others = entries_have_lines schema es fit.1 in
    (first.0 ++ others.0, lines_append ((schema, e) ∷ []) (map (λ entry. (schema, entry)) es) first.0 others.0 (one_line (schema, e) first.0 first.1) others.1)

pub types_have_lines : (types : Types) → FitTypes types → (text : List ℕ) × AreLinesOf (flat_map rows_of_type types) text
types_have_lines [] fit = ([], no_lines)
types_have_lines (typed ∷ types) fit =
    let first = entries_have_lines typed.0 (entries typed.1) fit.0 in
    let others = types_have_lines types fit.1 in
    (first.0 ++ others.0, lines_append (rows_of_type typed) (flat_map rows_of_type types) first.0 others.0 first.1 others.1)

type_fits : (schemas : List Schema) (table : Table) (t : ℕ) (typed : Schema × RowMap) → IsTableOf schemas table → slice_get (zip schemas table) t ≡ Some typed → FitsEach typed.0 (entries typed.1)
type_fits schemas table t typed fits is =
    let at = zip_at schemas table t typed is in
    each_found (λ entry. FitsShape typed.0.shape entry.1) (entries typed.1) (sorted_entries typed.1) (λ q row found. fits.rows t q typed.0 row at.0 (row_there table t q typed.1 at.1 ∙ found))

types_fit : (schemas : List Schema) (table : Table) → IsTableOf schemas table → FitTypes (zip schemas table)
types_fit schemas table fits = each_at _ (zip schemas table) (λ t typed is. type_fits schemas table t typed fits is)

there_is : (o : Option Row) → IsSome o → (row : Row) × (o ≡ Some row)
there_is None some = absurd cc
there_is (Some row) some = (row, refl)

-- The lines of the rows of a type below an ordinal were written, and no others.
pub record ShownBelow (typed : Schema × RowMap) (ordinal : ℕ) (before now : Held) : Type 0 where
  pub walked : List (ℕ × Row)
  pub left : List (ℕ × Row)
  pub walk : AreWalked (entries typed.1) ordinal walked left
  pub lines : HoldsLines (map (λ entry. (typed.0, entry)) walked) before now (Ok tt)

module _ (schemas : List Schema) (table : Table) (t : ℕ) (before : Held) where
  -- the same of the type at an index
  abbrev pub AreShownBelow : ℕ → Held → Type 0
  AreShownBelow ordinal now = IfSome (slice_get (zip schemas table) t) (λ typed. ShownBelow typed ordinal before now)

  -- what writing the lines of its rows leaves
  abbrev pub LeavesType : Held → Result Unit Stop → Type 0
  LeavesType after r = IfSome (slice_get (zip schemas table) t) (λ typed. HoldsLines (rows_of_type typed) before after r)

  pub type_starts : AreShownBelow 0 before
  type_starts = if_found (slice_get (zip schemas table) t) _ (λ typed is.
      record { walked = []; left = entries typed.1; walk = walk_starts (entries typed.1) (sorted_entries typed.1); lines = none_written before })

  -- where memory is refused before the first line is made
  pub type_not_made : (r : Result Unit Stop) → IsErrAnd r (λ e. e ≡ Memory) → IsTableOf schemas table → LeavesType before r
  type_not_made r failed_so fits = failed r Memory (LeavesType before) failed_so (if_found (slice_get (zip schemas table) t) _ (λ typed is.
      (let all = entries_have_lines typed.0 (entries typed.1) (type_fits schemas table t typed fits is) in
      (all.0, all.1, (0, omega arith, Appends-nil before.0)))))

  pub type_passes : (ordinal : ℕ) (now : Held) → (IsLive table t ordinal → ⊥) → AreShownBelow ordinal now → AreShownBelow (ordinal + 1) now
  type_passes ordinal now none shown = if_found (slice_get (zip schemas table) t) _ (λ typed is.
      (let s = found_if (slice_get (zip schemas table) t) _ typed shown is in
      let there = row_there table t ordinal typed.1 (zip_at schemas table t typed is).1 in
      record { walked = s.walked; left = s.left; walk = walk_passes (entries typed.1) ordinal s.walked s.left s.walk (is_none _ (λ some. none (subst (λ (o : Option Row). IsSome o) (sym there) some))); lines = s.lines }))
    where
      is_none : (o : Option Row) → (IsSome o → ⊥) → o ≡ None
      is_none None h = refl
      is_none (Some row) h = absurd (h refl)

  pub type_takes : (ordinal : ℕ) (mid after : Held) → IsLive table t ordinal → AreShownBelow ordinal mid → LeavesRow schemas table t ordinal mid after (Ok tt) → AreShownBelow (ordinal + 1) after
  type_takes ordinal mid after live shown one = if_found (slice_get (zip schemas table) t) _ (λ typed is.
      (let s = found_if (slice_get (zip schemas table) t) _ typed shown is in
      let at = zip_at schemas table t typed is in
      let some = there_is (row_at table t ordinal) live in
      let here = found_if (row_at table t ordinal) _ some.0 (found_if (slice_get schemas t) _ typed.0 one at.0) some.1 in
      let taken = walk_takes (entries typed.1) ordinal some.0 s.walked s.left s.walk (sym (row_there table t ordinal typed.1 at.1) ∙ some.1) in
      let both = then_written (map (λ entry. (typed.0, entry)) s.walked) ((typed.0, (ordinal, some.0)) ∷ []) before mid after (Ok tt) s.lines here in
      record {
        walked = s.walked ++ (ordinal, some.0) ∷ [];
        left = taken.0;
        walk = taken.2;
        lines = subst (λ (rows : List Listed). HoldsLines rows before after (Ok tt)) (sym (map_push (λ entry. (typed.0, entry)) s.walked (ordinal, some.0))) both;
      }))

  pub type_stops : (ordinal : ℕ) (mid after : Held) (r : Result Unit Stop) (stop : Stop) → IsErrAnd r (λ e. e ≡ stop) → IsTableOf schemas table → IsLive table t ordinal →
      AreShownBelow ordinal mid → LeavesRow schemas table t ordinal mid after (Err stop) → LeavesType after r
  type_stops ordinal mid after r stop failed_so fits live shown one = failed r stop (LeavesType after) failed_so (if_found (slice_get (zip schemas table) t) _ (λ typed is.
      (let s = found_if (slice_get (zip schemas table) t) _ typed shown is in
      let at = zip_at schemas table t typed is in
      let some = there_is (row_at table t ordinal) live in
      let here = found_if (row_at table t ordinal) _ some.0 (found_if (slice_get schemas t) _ typed.0 one at.0) some.1 in
      let taken = walk_takes (entries typed.1) ordinal some.0 s.walked s.left s.walk (sym (row_there table t ordinal typed.1 at.1) ∙ some.1) in
      let whole : entries typed.1 ≡ s.walked ++ ((ordinal, some.0) ∷ taken.0) = s.walk.whole ∙ ap (λ es. s.walked ++ es) taken.1 in
      let rest_fits = (each_after (λ (entry : ℕ × Row). FitsShape typed.0.shape entry.1) s.walked ((ordinal, some.0) ∷ taken.0)
      (subst (FitsEach typed.0) whole (type_fits schemas table t typed fits is))).1 in
      let rest = entries_have_lines typed.0 taken.0 rest_fits in
      let f : ℕ × Row → Listed = λ entry. (typed.0, entry) in
      let cut = cut_before ((typed.0, (ordinal, some.0)) ∷ []) (map f taken.0) mid after stop rest.0 rest.1 here in
      let all = then_written (map f s.walked) ((typed.0, (ordinal, some.0)) ∷ map f taken.0) before mid after (Err stop) s.lines cut in
      subst (λ (rows : List Listed). HoldsLines rows before after (Err stop)) (sym (ap (map f) whole ∙ map_both f s.walked ((ordinal, some.0) ∷ taken.0))) all)))

  pub type_ends : (ordinal bound : ℕ) (now : Held) → bound ≤ ordinal → IsBound table t bound → AreShownBelow ordinal now → LeavesType now (Ok tt)
  type_ends ordinal bound now past bounds shown = if_found (slice_get (zip schemas table) t) _ (λ typed is.
      (let s = found_if (slice_get (zip schemas table) t) _ typed shown is in
      let at = zip_at schemas table t typed is in
      let all = walk_ends (entries typed.1) ordinal s.walked s.left s.walk (λ q some.
      (let below = bounds.above q (subst (λ (o : Option Row). IsSome o) (sym (row_there table t q typed.1 at.1)) some) in omega arith)) in
      subst (λ (es : List (ℕ × Row)). HoldsLines (map (λ entry. (typed.0, entry)) es) before now (Ok tt)) (sym all) s.lines))

module _ (schemas : List Schema) (table : Table) (before : Held) where
  -- the lines of the rows of the types before an index were written
  abbrev pub AreShownBefore : ℕ → Held → Type 0
  AreShownBefore t now = HoldsLines (flat_map rows_of_type (take t (zip schemas table))) before now (Ok tt)

  pub types_start : AreShownBefore 0 before
  types_start = none_written before

  there_is_type : (t : ℕ) → IsTableOf schemas table → t < length schemas → (typed : Schema × RowMap) × (slice_get (zip schemas table) t ≡ Some typed)
  there_is_type t fits known =
      elim (slice_get_cases (zip schemas table) t).1 [
        | inl found ↦ (found.0, found.2)
        | inr past ↦ absurd (let long = length-zip schemas table in let same = fits.types in let over = past.0 in omega arith)
      ]

  pub types_next : (t : ℕ) (mid after : Held) → IsTableOf schemas table → t < length schemas → AreShownBefore t mid → LeavesType schemas table t mid after (Ok tt) → AreShownBefore (t + 1) after
  types_next t mid after fits known shown one =
      let typed = there_is_type t fits known in
      let types = zip schemas table in
      let here = found_if (slice_get types t) _ typed.0 one typed.1 in
      let both = then_written (flat_map rows_of_type (take t types)) (rows_of_type typed.0) before mid after (Ok tt) shown here in
      let rows_are : flat_map rows_of_type (take (t + 1) types) ≡ flat_map rows_of_type (take t types) ++ rows_of_type typed.0 =
      ap (λ n. flat_map rows_of_type (take n types)) (add-one t) ∙ ap (flat_map rows_of_type) (take_next types t typed.0 typed.1)
      ∙ flat_map-append rows_of_type (take t types) (typed.0 ∷ []) ∙ ap (λ rows. flat_map rows_of_type (take t types) ++ rows) (append-nil (rows_of_type typed.0)) in
      subst (λ (rows : List Listed). HoldsLines rows before after (Ok tt)) (sym rows_are) both

  pub types_stop : (t : ℕ) (mid after : Held) (r : Result Unit Stop) (stop : Stop) → IsErrAnd r (λ e. e ≡ stop) → IsTableOf schemas table → t < length schemas →
      AreShownBefore t mid → LeavesType schemas table t mid after (Err stop) → HoldsLines (rows_in_order schemas table) before after r
  types_stop t mid after r stop failed_so fits known shown one = failed r stop (HoldsLines (rows_in_order schemas table) before after) failed_so
      (let typed = there_is_type t fits known in
      let types = zip schemas table in
      let here = found_if (slice_get types t) _ typed.0 one typed.1 in
      let whole = split_at types t typed.0 typed.1 in
      let rest_fits = (each_after (λ (one : Schema × RowMap). FitsEach one.0 (entries one.1)) (take t types) (typed.0 ∷ drop (suc t) types) (subst FitTypes whole (types_fit schemas table fits))).1 in
      let rest = types_have_lines (drop (suc t) types) rest_fits in
      let cut = cut_before (rows_of_type typed.0) (flat_map rows_of_type (drop (suc t) types)) mid after stop rest.0 rest.1 here in
      let all = then_written (flat_map rows_of_type (take t types)) (rows_of_type typed.0 ++ flat_map rows_of_type (drop (suc t) types)) before mid after (Err stop) shown cut in
      let rows_are : rows_in_order schemas table ≡ flat_map rows_of_type (take t types) ++ (rows_of_type typed.0 ++ flat_map rows_of_type (drop (suc t) types)) =
      ap (flat_map rows_of_type) whole ∙ flat_map-append rows_of_type (take t types) (typed.0 ∷ drop (suc t) types) in
      subst (λ (rows : List Listed). HoldsLines rows before after (Err stop)) (sym rows_are) all)

  pub types_end : (t : ℕ) (now : Held) → length schemas ≤ t → AreShownBefore t now → HoldsLines (rows_in_order schemas table) before now (Ok tt)
  types_end t now past shown =
      let long = length-zip schemas table in
      let all = take_all t (zip schemas table) (omega arith) in
      subst (λ (types : Types). HoldsLines (flat_map rows_of_type types) before now (Ok tt)) all shown
