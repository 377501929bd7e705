-- The rows of a section, read one after another by rising ordinal.
use Rattle.std.proofs.Common.{◌≡◌, ℕ, ◌+◌, ◌<◌, ◌≤◌, List, [], ◌∷◌, ◌++◌, length, take, drop, get_or, refl, ap, sym, ◌∙◌, subst, arith, append_assoc, suc, zero-add}
use Rattle.std.specs.Prelude.{All, slice_index}
use Rattle.std.specs.Map.{keys_of, values_of}
use Rattle.std.specs.List.Sorted.{IsStrictlyIncreasing}
use Rattle.std.proofs.lemmas.List.{take_more, take-map, map-append, take-append-drop, length-take, get_or-take}
use Rattle.std.proofs.lemmas.List.Elements.{All-take, All-append, All-from_recursion}
use Rattle.std.proofs.lemmas.List.Sums.{sum_by-append}
use Rattle.std.proofs.lemmas.Map.Keys.{sorted_from_strictly_increasing, below_from_sorted}
use Rattle.schema_model.specs.declared.limit.Limit.TheVariants.{Bytes}
use Rattle.schema_model.specs.Limit.{number_of_limit}
use Rattle.schema_model.specs.Parts.{shape_fields}
use Rattle.schema_model.specs.declared.schema.Shape.{Shape}
use Rattle.row_model.specs.declared.row.Row.{Row}
use Rattle.ordinal_set.specs.Ordinals.{bound_of}
use Rattle.type_rows.specs.WordsHeld.{row_bytes, part_bytes, field_bytes, bytes_held}
use Rattle.type_rows.specs.Layout.{items_of_row, item_count}
use Rattle.type_rows.specs.Holds.{FitsRow, HoldsRow, HoldsRows}
use Rattle.type_rows.specs.Ends.{FitsBehind}

abbrev pub Entry : Type 0
Entry = ℕ × Row

-- The same entries: equal keys, and for each key one row.
pub record IsFunction (P : Entry → Type 0) : Type 0 where
  pub once : (o : ℕ) (a b : Row) → P (o, a) → P (o, b) → a ≡ b

same_entry : (P : Entry → Type 0) → IsFunction P → (e f : Entry) → e.0 ≡ f.0 → P e → P f → e ≡ f
same_entry P one e f key a b =
    let rows : e.1 ≡ f.1 = one.once f.0 e.1 f.1 (subst (λ o. P (o, e.1)) key a) b in λ i. (key i, rows i)

head_or : List ℕ → ℕ
head_or [] = 0
head_or (x ∷ xs) = x

tail_of : List ℕ → List ℕ
tail_of [] = []
tail_of (x ∷ xs) = xs

pub same_entries : (P : Entry → Type 0) → IsFunction P → (es fs : List Entry) → keys_of es ≡ keys_of fs → All P es → All P fs → es ≡ fs
unfolding head_or tail_of
same_entries P one [] [] keys a b = refl
same_entries P one [] (f ∷ fs) keys a b = absurd (let e = ap length keys in omega arith)
same_entries P one (e ∷ es) [] keys a b = absurd (let e = ap length keys in omega arith)
same_entries P one (e ∷ es) (f ∷ fs) keys a b =
    let first = same_entry P one e f (ap head_or keys) (a 0 e (omega arith)) (b 0 e (omega arith)) in
    let rest = same_entries P one es fs (ap tail_of keys) (λ k d h. a (suc k) d (omega arith)) (λ k d h. b (suc k) d (omega arith)) in
    λ i. first i ∷ rest i

-- Rows that fit, and one more behind them.
pub held_more : (shape : Shape) (widths : List ℕ) (before rows : List Row) (row : Row) → HoldsRows shape widths before rows → HoldsRow shape widths (before ++ (rows ++ row ∷ [])) row → HoldsRows shape widths before (rows ++ row ∷ [])
held_more shape widths before [] row h last = (last, tt)
held_more shape widths before (r ∷ rows) row h last =
    (h.0, held_more shape widths (before ++ r ∷ []) rows row h.1 (subst (λ all. HoldsRow shape widths all row) (sym (append_assoc before (r ∷ []) (rows ++ row ∷ []))) last))

pub held_at : (shape : Shape) (widths : List ℕ) (before rows : List Row) (row : Row) (after : List Row) → HoldsRows shape widths before (rows ++ row ∷ after) → HoldsRow shape widths (before ++ (rows ++ row ∷ [])) row
held_at shape widths before [] row after h = h.0
held_at shape widths before (r ∷ rows) row after h =
    subst (λ all. HoldsRow shape widths all row) (append_assoc before (r ∷ []) (rows ++ row ∷ [])) (held_at shape widths (before ++ r ∷ []) rows row after h.1)

-- The end offsets behind one more row.
pub more_bytes : (f : ℕ) (rows : List Row) (row : Row) → field_bytes f (rows ++ row ∷ []) ≡ field_bytes f rows + part_bytes f row
more_bytes f rows row = sum_by-append (part_bytes f) rows (row ∷ []) ∙ ap (λ n. field_bytes f rows + n) (zero-add (part_bytes f row))

-- The items of one more row.
pub more_items : (rows : List Row) (row : Row) → item_count (rows ++ row ∷ []) ≡ item_count rows + items_of_row row
more_items rows row = sum_by-append items_of_row rows (row ∷ []) ∙ ap (λ n. item_count rows + n) (zero-add (items_of_row row))

-- A row fits where it ends at equal offsets and behind as many items.
fits_same : (shape : Shape) (widths : List ℕ) (row : Row) (one other : ℕ → ℕ) (few more : ℕ) → ((f : ℕ) → one f ≡ other f) → few ≡ more → FitsRow shape widths one few row → FitsRow shape widths other more row
fits_same shape widths row one other few more same count h =
    let ends : one ≡ other = λ i. λ f. same f i in
    subst (λ e. FitsRow shape widths e more row) ends (subst (λ n. FitsRow shape widths one n row) count h)

-- What fits behind the ends of some rows is held behind the rows, and the other way round.
pub holds_row : (shape : Shape) (widths ends : List ℕ) (items : ℕ) (rows : List Row) (row : Row) → ((f : ℕ) → slice_index ends f ≡ field_bytes f rows) → items ≡ item_count rows → FitsBehind shape widths ends items row
    → HoldsRow shape widths (rows ++ row ∷ []) row
holds_row shape widths ends items rows row is count h =
    fits_same shape widths row (λ f. slice_index ends f + part_bytes f row) (λ f. field_bytes f (rows ++ row ∷ [])) (items + items_of_row row) (item_count (rows ++ row ∷ []))
    (λ f. ap (λ n. n + part_bytes f row) (is f) ∙ sym (more_bytes f rows row)) (ap (λ n. n + items_of_row row) count ∙ sym (more_items rows row)) h

pub fits_row : (shape : Shape) (widths ends : List ℕ) (items : ℕ) (rows : List Row) (row : Row) → ((f : ℕ) → slice_index ends f ≡ field_bytes f rows) → items ≡ item_count rows → HoldsRow shape widths (rows ++ row ∷ []) row
    → FitsBehind shape widths ends items row
fits_row shape widths ends items rows row is count h =
    fits_same shape widths row (λ f. field_bytes f (rows ++ row ∷ [])) (λ f. slice_index ends f + part_bytes f row) (item_count (rows ++ row ∷ [])) (items + items_of_row row)
    (λ f. more_bytes f rows row ∙ sym (ap (λ n. n + part_bytes f row) (is f))) (more_items rows row ∙ sym (ap (λ n. n + items_of_row row) count)) h

-- The rows of the live ordinals below an index are read.
pub record Progress (P : Entry → Type 0) (shape : Shape) (widths live : List ℕ) (index : ℕ) (es : List Entry) (ends : List ℕ) (items bytes : ℕ) : Type 0 where
  pub keys : keys_of es ≡ take index live
  pub spelled : All P es
  pub held : HoldsRows shape widths [] (values_of es)
  pub reached : (f : ℕ) → slice_index ends f ≡ field_bytes f (values_of es)
  pub counted : items ≡ item_count (values_of es)
  pub long : length ends ≡ length (shape_fields shape)
  pub total : bytes ≡ bytes_held (values_of es)
  pub few : bytes ≤ number_of_limit Bytes

-- At first none are read.
pub begun : (P : Entry → Type 0) (shape : Shape) (widths live : List ℕ) (es : List Entry) (ends : List ℕ) (items : ℕ) → es ≡ [] → ((f : ℕ) → slice_index ends f ≡ 0) → items ≡ 0 → length ends ≡ length (shape_fields shape)
    → Progress P shape widths live 0 es ends items 0
begun P shape widths live es ends items none zeros zero long =
    subst (λ all. Progress P shape widths live 0 all ends items 0) (sym none)
    record { keys = refl; spelled = λ k d l. absurd (omega arith); held = tt; reached = zeros; counted = zero; long = long; total = refl; few = omega arith }

values_more : (es : List Entry) (o : ℕ) (row : Row) → values_of (es ++ (o, row) ∷ []) ≡ values_of es ++ row ∷ []
values_more es o row = map-append (λ e. e.1) es ((o, row) ∷ [])

keys_more : (live : List ℕ) (index o : ℕ) (es : List Entry) (row : Row) → keys_of es ≡ take index live → index < length live → o ≡ get_or live index 0 → keys_of (es ++ (o, row) ∷ []) ≡ take (index + 1) live
keys_more live index o es row keys inside is =
    map-append (λ e. e.0) es ((o, row) ∷ []) ∙ ap (λ t. t ++ o ∷ []) keys ∙ ap (λ n. take index live ++ n ∷ []) is ∙ sym (take_more live index 0 inside)

-- The entries of the section begin with those read, and the next one.
front : (P : Entry → Type 0) → IsFunction P → (live : List ℕ) (index o : ℕ) (es : List Entry) (row : Row) (fs : List Entry) → keys_of es ≡ take index live → All P es → index < length live → o ≡ get_or live index 0 → P (o, row)
    → keys_of fs ≡ live → All P fs → fs ≡ (es ++ (o, row) ∷ []) ++ drop (index + 1) fs
front P one live index o es row fs keys spelled inside is here lived all =
    let same_keys : keys_of (es ++ (o, row) ∷ []) ≡ keys_of (take (index + 1) fs) =
    keys_more live index o es row keys inside is ∙ ap (take (index + 1)) (sym lived) ∙ take-map (λ e. e.0) (index + 1) fs in
    let last : All P ((o, row) ∷ []) = All-from_recursion P ((o, row) ∷ []) (here, tt) in
    let same = same_entries P one (es ++ (o, row) ∷ []) (take (index + 1) fs) same_keys (All-append P es ((o, row) ∷ []) spelled last) (All-take P (index + 1) fs all) in
    sym (take-append-drop (index + 1) fs) ∙ ap (λ t. t ++ drop (index + 1) fs) (sym same)

-- What the values of those entries are.
pub front_values : (P : Entry → Type 0) → IsFunction P → (live : List ℕ) (index o : ℕ) (es : List Entry) (row : Row) (fs : List Entry) → keys_of es ≡ take index live → All P es → index < length live → o ≡ get_or live index 0
    → P (o, row) → keys_of fs ≡ live → All P fs → values_of fs ≡ values_of es ++ row ∷ values_of (drop (index + 1) fs)
front_values P one live index o es row fs keys spelled inside is here lived all =
    ap values_of (front P one live index o es row fs keys spelled inside is here lived all)
    ∙ map-append (λ e. e.1) (es ++ (o, row) ∷ []) (drop (index + 1) fs)
    ∙ ap (λ t. t ++ values_of (drop (index + 1) fs)) (values_more es o row)
    ∙ append_assoc (values_of es) (row ∷ []) (values_of (drop (index + 1) fs))

-- A row that does not fit stands in no rows of the section.
pub misfit : (P : Entry → Type 0) → IsFunction P → (shape : Shape) (widths live : List ℕ) (index : ℕ) (es : List Entry) (ends : List ℕ) (items bytes o : ℕ) (row : Row) → Progress P shape widths live index es ends items bytes → index < length live
    → o ≡ get_or live index 0 → P (o, row) → (FitsBehind shape widths ends items row → ⊥) → (fs : List Entry) → keys_of fs ≡ live → All P fs → HoldsRows shape widths [] (values_of fs) → ⊥
misfit P one shape widths live index es ends items bytes o row p inside is here wide fs lived all held =
    let whole = front_values P one live index o es row fs p.keys p.spelled inside is here lived all in
    let at = held_at shape widths [] (values_of es) row (values_of (drop (index + 1) fs)) (subst (HoldsRows shape widths []) whole held) in
    wide (fits_row shape widths ends items (values_of es) row p.reached p.counted at)

-- Rows of more bytes than the limit are part of no fewer.
pub heavy : (P : Entry → Type 0) → IsFunction P → (shape : Shape) (widths live : List ℕ) (index : ℕ) (es : List Entry) (ends : List ℕ) (items bytes o : ℕ) (row : Row) → Progress P shape widths live index es ends items bytes → index < length live
    → o ≡ get_or live index 0 → P (o, row) → number_of_limit Bytes < bytes + row_bytes row → (fs : List Entry) → keys_of fs ≡ live → All P fs → bytes_held (values_of fs) ≤ number_of_limit Bytes → ⊥
heavy P one shape widths live index es ends items bytes o row p inside is here over fs lived all few =
    let whole = front_values P one live index o es row fs p.keys p.spelled inside is here lived all in
    let sum = ap bytes_held whole ∙ sum_by-append row_bytes (values_of es) (row ∷ values_of (drop (index + 1) fs)) in
    let next = sum_by-append row_bytes (row ∷ []) (values_of (drop (index + 1) fs)) in
    omega (arith, p.total)

-- The next ordinal is above those that were read.
low_bound : (os : List ℕ) (o : ℕ) → ((i : ℕ) → i < length os → get_or os i 0 < o) → bound_of os ≤ o
unfolding bound_of
low_bound [] o below = omega arith
low_bound (k ∷ os) o below = let first = below 0 (omega arith) in let rest = low_bound os o (λ i h. below (suc i) (omega arith)) in omega arith

pub next_above : (P : Entry → Type 0) (shape : Shape) (widths live : List ℕ) (index : ℕ) (es : List Entry) (ends : List ℕ) (items bytes o : ℕ) → Progress P shape widths live index es ends items bytes → index < length live
    → o ≡ get_or live index 0 → IsStrictlyIncreasing live → bound_of (keys_of es) ≤ o
next_above P shape widths live index es ends items bytes o p inside is rising =
    let sorted = sorted_from_strictly_increasing live rising in
    let taken = length-take index live in
    subst (λ os. bound_of os ≤ o) (sym p.keys) (low_bound (take index live) o (λ i h.
    subst (λ n. n < o) (sym (get_or-take index live i 0 (omega arith))) (subst (λ n. get_or live i 0 < n) (sym is) (below_from_sorted live i index 0 sorted (omega arith) inside))))

-- The next row is read.
pub read_on : (P : Entry → Type 0) (shape : Shape) (widths live : List ℕ) (index : ℕ) (es new : List Entry) (ends after : List ℕ) (items more bytes counted o : ℕ) (row : Row) → Progress P shape widths live index es ends items bytes
    → index < length live → o ≡ get_or live index 0 → P (o, row) → FitsBehind shape widths ends items row → ((f : ℕ) → slice_index after f ≡ slice_index ends f + part_bytes f row) → more ≡ items + items_of_row row → length after ≡ length ends
    → counted ≡ bytes + row_bytes row → counted ≤ number_of_limit Bytes → new ≡ es ++ (o, row) ∷ [] → Progress P shape widths live (index + 1) new after more counted
read_on P shape widths live index es new ends after items more bytes counted o row p inside is here fits grown up long sum few last =
    let whole : values_of new ≡ values_of es ++ row ∷ [] = ap values_of last ∙ values_more es o row in
    let single : All P ((o, row) ∷ []) = All-from_recursion P ((o, row) ∷ []) (here, tt) in
    record {
      keys = ap keys_of last ∙ keys_more live index o es row p.keys inside is;
      spelled = subst (All P) (sym last) (All-append P es ((o, row) ∷ []) p.spelled single);
      held = subst (HoldsRows shape widths []) (sym whole) (held_more shape widths [] (values_of es) row p.held (holds_row shape widths ends items (values_of es) row p.reached p.counted fits));
      reached = λ f. grown f ∙ ap (λ n. n + part_bytes f row) (p.reached f) ∙ sym (more_bytes f (values_of es) row) ∙ ap (field_bytes f) (sym whole);
      counted = up ∙ ap (λ n. n + items_of_row row) p.counted ∙ sym (more_items (values_of es) row) ∙ ap item_count (sym whole);
      long = long ∙ p.long;
      total = sum ∙ ap (λ n. n + row_bytes row) p.total ∙ sym (ap bytes_held whole ∙ sum_by-append row_bytes (values_of es) (row ∷ []) ∙ ap (λ n. bytes_held (values_of es) + n) (zero-add (row_bytes row)));
      few = few;
    }
