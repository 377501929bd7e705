-- The records that a change puts at their places, and the keys that they have.
use Rattle.std.proofs.Common.{◌≡◌, ◌∙◌, ◌⊎◌, ◌<◌, ◌≤◌, ◌+◌, ℕ, zero, suc, List, [], ◌∷◌, ◌++◌, length, map, take, drop, get_or, Bool, Option, Some, None, Result, Ok, Err, inl, inr, refl, sym, ap, subst, arith, add-one}
use Rattle.std.specs.declared.alloc.AllocError.{AllocError}
use Rattle.std.specs.Prelude.{All, Contains, IfOk, IsSomeAnd, ⊤, if◌then◌else◌, nat_eq, slice_get}
use Rattle.std.specs.List.{AllZip, flat_map, range_with_len, zip}
use Rattle.std.proofs.lemmas.Bool.{cases_lt}
use Rattle.std.proofs.lemmas.List.{length-map, take-append-drop, take_all}
use Rattle.std.proofs.lemmas.List.Elements.{All-cons, All-nil}
use Rattle.std.proofs.lemmas.Option.{get_or_from_slice_get, slice_get-get_or, slice_get_within}
use Rattle.write_engine.proofs.Members.{apart_test, same_test}
use Rattle.write_engine.proofs.Parts.{drop_at}
use Rattle.serde_json.specs.Data.{Data}
use Rattle.schema_model.specs.Model.{IsKept}
use Rattle.schema_model.specs.declared.model.path.Path.{Path}
use Rattle.schema_model.specs.declared.model.rule.Rule.TheVariants.{DuplicateName}
use Rattle.schema_model.specs.declared.schema.Schema.{Schema}
use Rattle.row_model.specs.PlainTree.{PlainTree}
use Rattle.row_model.specs.declared.row.Value.{Value}
use Rattle.record_trees.specs.Tree.{plain}
use Rattle.record_trees.specs.declared.tree.Tree.{Tree}
use Rattle.hol_incremental.specs.Changes.{HaveKeys, HaveOwnKeys, records}
use Rattle.hol_incremental.specs.Roots.{IsTreeKey, TellsTreeKey, key_of_tree}
use Rattle.hol_incremental.proofs.FoundPaths.{paths_once}
use Rattle.hol_orders.specs.Parts.{AskedChange}
use Rattle.hol_answers.specs.declared.refusal.Refusal.{Refusal}
use Rattle.hol_answers.specs.declared.refusal.Refusal.TheVariants as refusal
use Rattle.hollow_machine.specs.ChangeOrder.{ArePut, HasKey, HasKeyAt, HaveOneKey, IsFirstKeyless, IsFirstTwice, IsNoChange}
use Rattle.hollow_machine.specs.Records.{AreRead, Entry, GivesTree, entries, entries_of_type, values_under}
use Rattle.producer_orders.proofs.Placed.{entry_at, item_at}
use Rattle.change_orders.specs.declared.keyed_records.KeyAt.{KeyAt}
use Rattle.change_orders.specs.Given.{TellsKeyed}
use Rattle.change_orders.specs.Keys.{AreApartTo, HaveSameKey, IsKeyOf, IsKeyless, IsSameAt, NamesTwo, TellsAgain, TellsTwice}

-- ---- lists side by side

one_item : {A : Type 0} (xs : List A) (i : ℕ) (x : A) → slice_get xs i ≡ Some x → take (i + 1) xs ≡ take i xs ++ x ∷ []
one_item [] i x at = absurd cc
one_item (y ∷ ys) zero x at =
    let same : y ≡ x = cc in
    ap (λ z. z ∷ []) same
one_item (y ∷ ys) (suc i) x at = rw add-one (ap (λ zs. y ∷ zs) (rw add-one at (one_item ys i x at)))

module _ {A B : Type 0} (R : A → B → Type 0) where
  pub beside : (xs : List A) (ys : List B) → AllZip R xs ys → (i : ℕ) (y : B) → slice_get ys i ≡ Some y → (x : A) × (slice_get xs i ≡ Some x) × R x y
  beside [] [] are i y at = absurd cc
  beside [] (z ∷ ys) are i y at = absurd are
  beside (w ∷ xs) [] are i y at = absurd are
  beside (w ∷ xs) (z ∷ ys) are zero y at =
      let same : z ≡ y = cc in
      (w, refl, subst (R w) same are.0)
  beside (w ∷ xs) (z ∷ ys) are (suc i) y at = beside xs ys are.1 i y at

  pub beside_front : (xs : List A) (ys : List B) → AllZip R xs ys → (i : ℕ) (x : A) → slice_get xs i ≡ Some x → (y : B) × (slice_get ys i ≡ Some y) × R x y
  beside_front [] [] are i x at = absurd cc
  beside_front [] (z ∷ ys) are i x at = absurd are
  beside_front (w ∷ xs) [] are i x at = absurd are
  beside_front (w ∷ xs) (z ∷ ys) are zero x at =
      let same : w ≡ x = cc in
      (z, refl, subst (λ v. R v z) same are.0)
  beside_front (w ∷ xs) (z ∷ ys) are (suc i) x at = beside_front xs ys are.1 i x at

  pub behind : (xs : List A) (ys : List B) (x : A) (y : B) → AllZip R xs ys → R x y → AllZip R (xs ++ x ∷ []) (ys ++ y ∷ [])
  behind [] [] x y are is = (is, tt)
  behind [] (z ∷ ys) x y are is = absurd are
  behind (w ∷ xs) [] x y are is = absurd are
  behind (w ∷ xs) (z ∷ ys) x y are is = (are.0, behind xs ys x y are.1 is)

  -- one more of both
  pub next_beside : (xs : List A) (ys : List B) (i : ℕ) (x : A) (y : B) → slice_get xs i ≡ Some x → AllZip R (take i xs) ys → R x y → AllZip R (take (i + 1) xs) (ys ++ y ∷ [])
  next_beside xs ys i x y at are is = subst (λ zs. AllZip R zs (ys ++ y ∷ [])) (sym (one_item xs i x at)) (behind (take i xs) ys x y are is)

-- ---- the records of all types, one after another

-- records stand behind a type and a place: no type is below the last one, and the places of a type are counted from 0
abbrev pub IsRun : ℕ → ℕ → List Entry → Type 0
IsRun last next [] = ⊤
IsRun last next (e ∷ es) = (last ≤ e.type_index) × (e.place ≡ (if nat_eq e.type_index last then next else 0)) × IsRun e.type_index (e.place + 1) es

start_of : (t last next k : ℕ) → ((last ≡ t) × (next ≡ k)) ⊎ ((last < t) × (k ≡ 0)) → (last ≤ t) × (k ≡ (if nat_eq t last then next else 0))
start_of t last next k (inl (same, is)) = (omega (arith, same), sym is ∙ sym (ap (λ (b : Bool). if b then next else 0) (same_test t last (sym same))))
start_of t last next k (inr (below, none)) = (omega (arith, below), none ∙ sym (ap (λ (b : Bool). if b then next else 0) (apart_test t last (λ same. omega (arith, below, same)))))

values_run : (t k : ℕ) (values : List Data) (last next : ℕ) (rest : List Entry) → ((last ≡ t) × (next ≡ k)) ⊎ ((last < t) × (k ≡ 0)) → ((l n : ℕ) → l < t + 1 → IsRun l n rest)
    → IsRun last next (map (λ (at : ℕ × Data). entry_at t at.0 at.1) (zip (range_with_len k (length values)) values) ++ rest)
values_run t k [] last next rest start run = let up = (start_of t last next k start).0 in run last next (omega (arith, up))
values_run t k (value ∷ values) last next rest start run =
    let first = start_of t last next k start in
    (first.0, first.1, values_run t (k + 1) values t (k + 1) rest (inl (refl, refl)) run)

types_run : (json : Data) (from : ℕ) (schemas : List Schema) (last next : ℕ) → ((last ≡ from) × (next ≡ 0)) ⊎ (last < from)
    → IsRun last next (flat_map (entries_of_type json) (zip (range_with_len from (length schemas)) schemas))
types_run json from [] last next start = tt
types_run json from (schema ∷ schemas) last next start =
    values_run from 0 (values_under json schema.name) last next (flat_map (entries_of_type json) (zip (range_with_len (from + 1) (length schemas)) schemas)) (begin start)
    (λ l n below. types_run json (from + 1) schemas l n (inr below))
  where
    begin : ((last ≡ from) × (next ≡ 0)) ⊎ (last < from) → ((last ≡ from) × (next ≡ 0)) ⊎ ((last < from) × ◌≡◌ {A = ℕ} 0 0)
    begin (inl same) = inl same
    begin (inr below) = inr (below, refl)

pub all_run : (schemas : List Schema) (json : Data) → IsRun 0 0 (entries schemas json)
all_run schemas json = types_run json 0 schemas 0 0 (inl (refl, refl))

-- the next of a run
pub run_next : (es : List Entry) (i last next : ℕ) (e : Entry) → slice_get es i ≡ Some e → IsRun last next (drop i es) → (e.place ≡ (if nat_eq e.type_index last then next else 0)) × IsRun e.type_index (e.place + 1) (drop (i + 1) es)
run_next es i last next e at run = let here = subst (IsRun last next) (drop_at es i e at) run in (here.1, here.2)

-- a type and place stand before others
abbrev pub IsEarlier : ℕ → ℕ → ℕ → ℕ → Type 0
IsEarlier t p u q = (t < u) ⊎ ((t ≡ u) × (p < q))

first_run : (last next t p : ℕ) → last ≤ t → p ≡ (if nat_eq t last then next else 0) → (last < t) ⊎ ((last ≡ t) × (next ≤ p))
first_run last next t p up is = elim (cases_lt last t) [
  | inl below ↦ inl below
  | inr past ↦
      let same : t ≡ last = omega (arith, up, past) in
      let here : p ≡ next = is ∙ ap (λ (b : Bool). if b then next else 0) (same_test t last same) in
      inr (sym same, omega (arith, here))
]

further : (last next t p u q : ℕ) → (last < t) ⊎ ((last ≡ t) × (next ≤ p)) → (t < u) ⊎ ((t ≡ u) × (p + 1 ≤ q)) → (last < u) ⊎ ((last ≡ u) × (next ≤ q))
further last next t p u q (inl a) (inl b) = inl (omega (arith, a, b))
further last next t p u q (inl a) (inr (same, more)) = inl (omega (arith, a, same))
further last next t p u q (inr (same, up)) (inl b) = inl (omega (arith, same, b))
further last next t p u q (inr (is, up)) (inr (same, more)) = inr (is ∙ same, omega (arith, up, more))

after_run : (last next : ℕ) (es : List Entry) → IsRun last next es → (j : ℕ) (e : Entry) → slice_get es j ≡ Some e → (last < e.type_index) ⊎ ((last ≡ e.type_index) × (next ≤ e.place))
after_run last next [] run j e at = absurd cc
after_run last next (x ∷ es) run zero e at =
    let same : x ≡ e = cc in
    subst (λ (y : Entry). (last < y.type_index) ⊎ ((last ≡ y.type_index) × (next ≤ y.place))) same (first_run last next x.type_index x.place run.0 run.1)
after_run last next (x ∷ es) run (suc j) e at =
    further last next x.type_index x.place e.type_index e.place (first_run last next x.type_index x.place run.0 run.1) (after_run x.type_index (x.place + 1) es run.2 j e at)

strictly : (t p u q : ℕ) → (t < u) ⊎ ((t ≡ u) × (p + 1 ≤ q)) → IsEarlier t p u q
strictly t p u q (inl below) = inl below
strictly t p u q (inr (same, more)) = inr (same, omega (arith, more))

run_rises : (last next : ℕ) (es : List Entry) → IsRun last next es → (i j : ℕ) (a b : Entry) → i < j → slice_get es i ≡ Some a → slice_get es j ≡ Some b → IsEarlier a.type_index a.place b.type_index b.place
run_rises last next [] run i j a b before at too = absurd cc
run_rises last next (x ∷ es) run zero zero a b before at too = absurd (omega (arith, before))
run_rises last next (x ∷ es) run zero (suc j) a b before at too =
    let same : x ≡ a = cc in
    subst (λ (y : Entry). IsEarlier y.type_index y.place b.type_index b.place) same
    (strictly x.type_index x.place b.type_index b.place (after_run x.type_index (x.place + 1) es run.2 j b too))
run_rises last next (x ∷ es) run (suc i) zero a b before at too = absurd (omega (arith, before))
run_rises last next (x ∷ es) run (suc i) (suc j) a b before at too = run_rises x.type_index (x.place + 1) es run.2 i j a b (omega (arith, before)) at too

-- ---- a record has one key

module _ (schemas : List Schema) (names : IsKept schemas DuplicateName) where
  tree_key_once : (t : ℕ) (tree : PlainTree) (a b : List Value) → IsTreeKey schemas t tree a → IsTreeKey schemas t tree b → a ≡ b
  tree_key_once t tree a b one other =
      let same : one.0 ≡ other.0 = paths_once schemas names t one.0 other.0 one.1 other.1 in
      let both : Some a ≡ Some b = sym one.2 ∙ ap (λ (paths : List Path). key_of_tree paths tree) same ∙ other.2 in
      cc

  key_once : (entry : Entry) (a b : List Value) → HasKey schemas entry a → HasKey schemas entry b → a ≡ b
  key_once entry a b one other =
      let trees : Ok one.0 ≡ Ok other.0 = sym one.1 ∙ other.1 in
      let tree : one.0 ≡ other.0 = cc in
      tree_key_once entry.type_index other.0 a b (subst (λ (tr : PlainTree). IsTreeKey schemas entry.type_index tr a) tree one.2) other.2

  -- ---- the keys of the records

  module _ (recorded : List Entry) (found : List KeyAt) (run : IsRun 0 0 recorded) (are : AllZip (IsKeyOf schemas) recorded found) where
    earlier_as : (t p u q t' p' u' q' : ℕ) → t' ≡ t → p' ≡ p → u' ≡ u → q' ≡ q → IsEarlier t p u q → IsEarlier t' p' u' q'
    earlier_as t p u q t' p' u' q' a b c d (inl below) = inl (omega (arith, a, c, below))
    earlier_as t p u q t' p' u' q' a b c d (inr (same, below)) = inr (a ∙ same ∙ sym c, omega (arith, b, d, below))

    rise : (i j : ℕ) (x y : KeyAt) → i < j → slice_get found i ≡ Some x → slice_get found j ≡ Some y → IsEarlier x.type_index x.place y.type_index y.place
    rise i j x y before at too =
        let one = beside (IsKeyOf schemas) recorded found are i x at in
        let other = beside (IsKeyOf schemas) recorded found are j y too in
        earlier_as one.0.type_index one.0.place other.0.type_index other.0.place x.type_index x.place y.type_index y.place one.2.type one.2.place other.2.type other.2.place
        (run_rises 0 0 recorded run i j one.0 other.0 before one.1 other.1)

    not_both : (t p u q : ℕ) → IsEarlier t p u q → IsEarlier u q t p → ⊥
    not_both t p u q (inl a) (inl b) = omega (arith, a, b)
    not_both t p u q (inl a) (inr (same, b)) = omega (arith, a, same)
    not_both t p u q (inr (same, a)) (inl b) = omega (arith, same, b)
    not_both t p u q (inr (same, a)) (inr (too, b)) = omega (arith, a, b)

    same_item : (i j : ℕ) (x y : KeyAt) → i ≡ j → slice_get found i ≡ Some x → slice_get found j ≡ Some y → x ≡ y
    same_item i j x y same at too = let both : Some x ≡ Some y = sym at ∙ ap (slice_get found) same ∙ too in cc

    -- keys that stand earlier stand before
    order : (i j : ℕ) (x y : KeyAt) → slice_get found i ≡ Some x → slice_get found j ≡ Some y → IsEarlier x.type_index x.place y.type_index y.place → i < j
    order i j x y at too earlier = elim (cases_lt i j) [
      | inl before ↦ before
      | inr past ↦ absurd (elim (cases_lt j i) [
        | inl back ↦ not_both x.type_index x.place y.type_index y.place earlier (rise j i y x back too at)
        | inr here ↦
            let same : x ≡ y = same_item i j x y (omega (arith, past, here)) at too in
            let itself = subst (λ (z : KeyAt). IsEarlier z.type_index z.place y.type_index y.place) same earlier in
            not_both y.type_index y.place y.type_index y.place itself itself
      ])
    ]

    same_at : (i j : ℕ) (x y : KeyAt) → slice_get found i ≡ Some x → slice_get found j ≡ Some y → HaveSameKey x y → IsSameAt found i j
    same_at i j x y at too same =
        subst (λ (o : Option KeyAt). IsSomeAnd o (λ one. IsSomeAnd (slice_get found j) (λ other. HaveSameKey one other))) (sym at)
        (subst (λ (o : Option KeyAt). IsSomeAnd o (λ other. HaveSameKey x other)) (sym too) same)

    -- the record of a key, at its place
    at_found : (i : ℕ) (x : KeyAt) → slice_get found i ≡ Some x → HasKeyAt schemas recorded x.type_index x.place x.key
    at_found i x at =
        let (e, there, is) = beside (IsKeyOf schemas) recorded found are i x at in
        let here : e ≡ entry_at x.type_index x.place e.value = λ k. record { type_index = sym is.type k; place = sym is.place k; value = e.value } in
        let among : Contains recorded e = (i, slice_get_within recorded i e there, get_or_from_slice_get recorded i e e there) in
        (e.value, subst (λ (en : Entry). Contains recorded en) here among, subst (λ (en : Entry). HasKey schemas en x.key) here is.key)

    -- the key of a record at a place
    record IsFoundAt (t p : ℕ) (key : List Value) : Type 0 where
      index : ℕ
      item : KeyAt
      at : slice_get found index ≡ Some item
      type : item.type_index ≡ t
      place : item.place ≡ p
      key_is : item.key ≡ key

    found_at : (t p : ℕ) (key : List Value) → HasKeyAt schemas recorded t p key → IsFoundAt t p key
    found_at t p key (value, (k, within, is), has) =
        let at : slice_get recorded k ≡ Some (entry_at t p value) = slice_get-get_or recorded k (entry_at t p value) within ∙ ap (λ (e : Entry). Some e) is in
        let (x, there, of) = beside_front (IsKeyOf schemas) recorded found are k (entry_at t p value) at in
        record { index = k; item = x; at = there; type = of.type; place = of.place; key_is = key_once (entry_at t p value) x.key key of.key has }

    -- the keys of two records that have one
    record ArePair (t a b : ℕ) : Type 0 where
      i : ℕ
      j : ℕ
      x : KeyAt
      y : KeyAt
      before : i < j
      at : slice_get found i ≡ Some x
      too : slice_get found j ≡ Some y
      same : HaveSameKey x y
      type : x.type_index ≡ t
      first : x.place ≡ a
      second : y.place ≡ b

    pair_of : (t a b : ℕ) → HaveOneKey schemas recorded t a b → ArePair t a b
    pair_of t a b (below, (key, one, other)) =
        let f = found_at t a key one in
        let g = found_at t b key other in
        let types : f.item.type_index ≡ g.item.type_index = f.type ∙ sym g.type in
        let p = f.place in
        let q = g.place in
        record {
          i = f.index;
          j = g.index;
          x = f.item;
          y = g.item;
          before = order f.index g.index f.item g.item f.at g.at (inr (types, omega (arith, below, p, q)));
          at = f.at;
          too = g.at;
          same = (types, f.key_is ∙ sym g.key_is);
          type = f.type;
          first = f.place;
          second = g.place;
        }

    module _ (i j : ℕ) (x y : KeyAt) (at : slice_get found i ≡ Some x) (too : slice_get found j ≡ Some y) (before : i < j) (same : HaveSameKey x y) (apart : AreApartTo found j) where
      below_place : (t p u q : ℕ) → t ≡ u → IsEarlier t p u q → p < q
      below_place t p u q is (inl below) = absurd (omega (arith, is, below))
      below_place t p u q is (inr (also, below)) = below

      one_key : HaveOneKey schemas recorded y.type_index x.place y.place
      one_key = (
        below_place x.type_index x.place y.type_index y.place same.0 (rise i j x y before at too),
        (
          y.key,
          subst (λ (key : List Value). HasKeyAt schemas recorded y.type_index x.place key) same.1 (subst (λ (t : ℕ). HasKeyAt schemas recorded t x.place x.key) same.0 (at_found i x at)),
          at_found j y too,
        ),
      )

      no_pair : (t a b : ℕ) (p : ArePair t a b) → IsEarlier p.y.type_index p.y.place y.type_index y.place → ⊥
      no_pair t a b p earlier = apart p.i p.j p.before (order p.j j p.y y p.too too earlier) (same_at p.i p.j p.x p.y p.at p.too p.same)

      -- the second of a pair at the place
      at_second : (a : ℕ) (p : ArePair y.type_index a y.place) → p.y ≡ y
      at_second a p =
          let type : p.y.type_index ≡ y.type_index = sym p.same.0 ∙ p.type in
          let place = p.second in
          elim (cases_lt p.j j) [
            | inl less ↦ absurd (off p.y y type place (rise p.j j p.y y less p.too too))
            | inr past ↦ elim (cases_lt j p.j) [
              | inl less ↦ absurd (off y p.y (sym type) (sym place) (rise j p.j y p.y less too p.too))
              | inr here ↦ same_item p.j j p.y y (omega (arith, past, here)) p.too too
            ]
          ]
        where
          off : (v w : KeyAt) → v.type_index ≡ w.type_index → v.place ≡ w.place → IsEarlier v.type_index v.place w.type_index w.place → ⊥
          off v w t q (inl below) = omega (arith, t, below)
          off v w t q (inr (also, below)) = omega (arith, q, below)

      first_twice : IsFirstTwice schemas recorded y.type_index x.place y.place
      first_twice = record {
        twice = one_key;
        types = λ u a b below have.
            (let p = pair_of u a b have in
            let is = sym p.same.0 ∙ p.type in
            no_pair u a b p (inl (omega (arith, is, below))));
        seconds = λ a b have. elim (cases_lt b y.place) [
          | inr past ↦ past
          | inl below ↦ absurd
              (let p = pair_of y.type_index a b have in
              let place = p.second in
              no_pair y.type_index a b p (inr (sym p.same.0 ∙ p.type, omega (arith, place, below))))
        ];
        firsts = λ a have. elim (cases_lt a x.place) [
          | inr past ↦ past
          | inl below ↦ absurd
              (let p = pair_of y.type_index a y.place have in
              let place = p.first in
              let type : p.x.type_index ≡ x.type_index = p.type ∙ sym same.0 in
              let key : p.x.key ≡ x.key = p.same.1 ∙ ap (λ (z : KeyAt). z.key) (at_second a p) ∙ sym same.1 in
              apart p.i i (order p.i i p.x x p.at at (inr (type, omega (arith, place, below)))) before (same_at p.i i p.x x p.at at (type, key)))
        ];
      }

    -- ---- what is told of the keys

    module _ (puts : List (ℕ × PlainTree)) (read : AreRead schemas recorded puts) where
      own_keys : TellsAgain found None → HaveOwnKeys schemas puts
      own_keys again i j d before within key same one other =
          let a = get_or puts i d in
          let b = get_or puts j d in
          let (e, there, gives) = beside (GivesTree schemas) recorded puts read i a (slice_get-get_or puts i d (omega (arith, before, within))) in
          let (e', there', gives') = beside (GivesTree schemas) recorded puts read j b (slice_get-get_or puts j d within) in
          let (x, at, is) = beside_front (IsKeyOf schemas) recorded found are i e there in
          let (y, too, is') = beside_front (IsKeyOf schemas) recorded found are j e' there' in
          let first : x.key ≡ key = key_once e x.key key is.key (a.1, gives.1, subst (λ (t : ℕ). IsTreeKey schemas t a.1 key) gives.0 one) in
          let second : y.key ≡ key = key_once e' y.key key is'.key (b.1, gives'.1, subst (λ (t : ℕ). IsTreeKey schemas t b.1 key) gives'.0 other) in
          again i j before (same_at i j x y at too (is.type ∙ sym gives.0 ∙ same ∙ gives'.0 ∙ sym is'.type, first ∙ sym second))

have_keys : (schemas : List Schema) (recorded : List Entry) (found : List KeyAt) (puts : List (ℕ × PlainTree)) → AllZip (IsKeyOf schemas) recorded found → AreRead schemas recorded puts → HaveKeys schemas puts
have_keys schemas [] found [] are read = All-nil (λ entry. (key : List Value) × IsTreeKey schemas entry.0 entry.1 key)
have_keys schemas [] found (p ∷ puts) are read = absurd read
have_keys schemas (e ∷ es) found [] are read = absurd read
have_keys schemas (e ∷ es) [] (p ∷ puts) are read = absurd are
have_keys schemas (e ∷ es) (k ∷ found) (p ∷ puts) are read =
    All-cons (λ entry. (key : List Value) × IsTreeKey schemas entry.0 entry.1 key) p puts (k.key, key_of are.0.key read.0) (have_keys schemas es found puts are.1 read.1)
  where
    key_of : HasKey schemas e k.key → GivesTree schemas e p → IsTreeKey schemas p.0 p.1 k.key
    key_of (tree, gives, is) (type, read') =
        let both : Ok tree ≡ Ok p.1 = sym gives ∙ read' in
        let same : tree ≡ p.1 = cc in
        subst (λ (t : ℕ). IsTreeKey schemas t p.1 k.key) (sym type) (subst (λ (tr : PlainTree). IsTreeKey schemas e.type_index tr k.key) same is)

-- What is told of the keys is told of the records.
module _ (schemas : List Schema) (names : IsKept schemas DuplicateName) (asked : AskedChange) (puts : List (ℕ × PlainTree)) (put : ArePut schemas asked puts) (found : List KeyAt)
    (are : AllZip (IsKeyOf schemas) (entries schemas asked.put) found) where
  twice_is : (places : ℕ × ℕ) (why : Refusal) → TellsAgain found (Some places) → IsSomeAnd (slice_get found places.0) (λ one. IsSomeAnd (slice_get found places.1) (λ other. NamesTwo schemas one other why))
      → IsNoChange schemas asked why
  twice_is places why again named = by_first (slice_get found places.0) refl named
    where
      same_key : (x y : KeyAt) → slice_get found places.0 ≡ Some x → slice_get found places.1 ≡ Some y → HaveSameKey x y
      same_key x y at too =
          subst (λ (o : Option KeyAt). IsSomeAnd o (λ other. HaveSameKey x other)) too
          (subst (λ (o : Option KeyAt). IsSomeAnd o (λ one. IsSomeAnd (slice_get found places.1) (λ other. HaveSameKey one other))) at again.1)

      by_why : (x y : KeyAt) → slice_get found places.0 ≡ Some x → slice_get found places.1 ≡ Some y → (w : Refusal) → NamesTwo schemas x y w → IsNoChange schemas asked w
      by_why x y at too (refusal.KeyTwice keys) is =
          let first = first_twice schemas names (entries schemas asked.put) found (all_run schemas asked.put) are places.0 places.1 x y at too again.0 (same_key x y at too) again.2 in (
            puts,
            put,
            have_keys schemas (entries schemas asked.put) found puts are put.1,
            (
              y.type_index,
              is.0,
              subst (λ (n : ℕ). IsFirstTwice schemas (entries schemas asked.put) y.type_index n keys.second) (sym is.1)
                  (subst (λ (n : ℕ). IsFirstTwice schemas (entries schemas asked.put) y.type_index x.place n) (sym is.2) first),
            ),
          )
      by_why x y at too _ is = absurd is

      by_second : (x : KeyAt) → slice_get found places.0 ≡ Some x → (o : Option KeyAt) → slice_get found places.1 ≡ o → IsSomeAnd o (λ other. NamesTwo schemas x other why) → IsNoChange schemas asked why
      by_second x at None too is = absurd is
      by_second x at (Some y) too is = by_why x y at too why is

      by_first : (o : Option KeyAt) → slice_get found places.0 ≡ o → IsSomeAnd o (λ one. IsSomeAnd (slice_get found places.1) (λ other. NamesTwo schemas one other why)) → IsNoChange schemas asked why
      by_first None at is = absurd is
      by_first (Some x) at is = by_second x at (slice_get found places.1) refl is

  pub tells_keyed : (r : Option Refusal) → TellsTwice schemas found r → TellsKeyed schemas asked puts r
  tells_keyed None told =
      (have_keys schemas (entries schemas asked.put) found puts are put.1, own_keys schemas names (entries schemas asked.put) found (all_run schemas asked.put) are puts put.1 told)
  tells_keyed (Some why) (places, again, named) = twice_is places why again named

-- ---- the first record without a key

module _ (schemas : List Schema) (asked : AskedChange) (puts : List (ℕ × PlainTree)) (put : ArePut schemas asked puts) where
  -- the record beside one that is put
  pub record_of : (i : ℕ) (p : ℕ × PlainTree) → slice_get puts i ≡ Some p → (e : Entry) × (slice_get (entries schemas asked.put) i ≡ Some e) × GivesTree schemas e p
  record_of i p at = beside (GivesTree schemas) (entries schemas asked.put) puts put.1 i p at

  all_keyed : (es : List Entry) (found : List KeyAt) → AllZip (IsKeyOf schemas) es found → All (λ entry. (key : List Value) × HasKey schemas entry key) es
  all_keyed [] found are = All-nil (λ entry. (key : List Value) × HasKey schemas entry key)
  all_keyed (e ∷ es) [] are = absurd are
  all_keyed (e ∷ es) (k ∷ found) are = All-cons (λ entry. (key : List Value) × HasKey schemas entry key) e es (k.key, are.0.key) (all_keyed es found are.1)

  -- its type and place, and what is told of its key
  pub keyless_is : (found : List KeyAt) (i : ℕ) (p : ℕ × PlainTree) (place : ℕ) (why : Refusal) → slice_get puts i ≡ Some p → AllZip (IsKeyOf schemas) (take i (entries schemas asked.put)) found
      → ((e : Entry) → slice_get (entries schemas asked.put) i ≡ Some e → e.place ≡ place) → TellsTreeKey schemas p.0 p.1 None → IsKeyless schemas p.0 place why → IsNoChange schemas asked why
  keyless_is found i p place why at are placed none is = by_why why is
    where
      recorded : List Entry
      recorded = entries schemas asked.put

      there : (e : Entry) × (slice_get recorded i ≡ Some e) × GivesTree schemas e p
      there = record_of i p at

      value : Data
      value = there.0.value

      here : there.0 ≡ entry_at p.0 place value
      here = λ k. record { type_index = sym there.2.0 k; place = placed there.0 there.1 k; value = value }

      no_key : (key : List Value) → HasKey schemas (entry_at p.0 place value) key → ⊥
      no_key key has =
          let (tree, gives, is_key) = subst (λ (en : Entry). HasKey schemas en key) (sym here) has in
          let both : Ok tree ≡ Ok p.1 = sym gives ∙ there.2.1 in
          let same : tree ≡ p.1 = cc in
          none key (subst (λ (t : ℕ). IsTreeKey schemas t p.1 key) (sym there.2.0) (subst (λ (tr : PlainTree). IsTreeKey schemas there.0.type_index tr key) same is_key))

      first : IsFirstKeyless schemas recorded p.0 place
      first = record {
        before = take i recorded;
        value = value;
        rest = drop (i + 1) recorded;
        split = sym (take-append-drop i recorded) ∙ ap (λ es. take i recorded ++ es) (drop_at recorded i there.0 there.1 ∙ ap (λ (e : Entry). e ∷ drop (i + 1) recorded) here);
        keyed = all_keyed (take i recorded) found are;
        keyless = no_key;
      }

      by_why : (w : Refusal) → IsKeyless schemas p.0 place w → IsNoChange schemas asked w
      by_why (refusal.NoKey name index) is' =
          (puts, put, (p.0, is'.0, subst (λ (n : ℕ). IsFirstKeyless schemas recorded p.0 n) (sym is'.1) first))
      by_why _ is' = absurd is'

-- ---- one record after another

module _ (schemas : List Schema) (put : List (ℕ × Tree)) (i last next place : ℕ) (item : ℕ × Tree) (found : List KeyAt) (within : i < length put) (is : item ≡ get_or put i item)
    (placed : place ≡ (if nat_eq item.0 last then next else 0)) where
  -- the keys of the records before a place, and what comes next
  abbrev Before : AskedChange → Type 0
  Before asked = IsRun last next (drop i (entries schemas asked.put)) × AllZip (IsKeyOf schemas) (take i (entries schemas asked.put)) found

  there : slice_get (records put) i ≡ Some (item.0, plain item.1)
  there = item_at (λ (entry : ℕ × Tree). (entry.0, plain entry.1)) put i item within is

  -- the record and its place
  beside_item : (asked : AskedChange) → ArePut schemas asked (records put) → Before asked
      → (e : Entry) × (slice_get (entries schemas asked.put) i ≡ Some e) × GivesTree schemas e (item.0, plain item.1) × (place ≡ e.place) × IsRun e.type_index (e.place + 1) (drop (i + 1) (entries schemas asked.put))
  beside_item asked are before =
      let (e, at, gives) = record_of schemas asked (records put) are i (item.0, plain item.1) there in
      let step = run_next (entries schemas asked.put) i last next e at before.0 in
      (e, at, gives, placed ∙ ap (λ (t : ℕ). if nat_eq t last then next else 0) gives.0 ∙ sym step.0, step.1)

  pub keys_more : (found' : List KeyAt) (key : List Value) → IsTreeKey schemas item.0 (plain item.1) key → found' ≡ found ++ record { type_index = item.0; place = place; key = key } ∷ []
      → ((asked : AskedChange) → ArePut schemas asked (records put) → Before asked) → (asked : AskedChange) → ArePut schemas asked (records put)
      → IsRun item.0 (place + 1) (drop (i + 1) (entries schemas asked.put)) × AllZip (IsKeyOf schemas) (take (i + 1) (entries schemas asked.put)) found'
  keys_more found' key has pushed so_far asked are =
      let recorded = entries schemas asked.put in
      let one : KeyAt = record { type_index = item.0; place = place; key = key } in
      let (e, at, gives, same, run) = beside_item asked are (so_far asked are) in
      let key_of : HasKey schemas e key = (plain item.1, gives.1, subst (λ (t : ℕ). IsTreeKey schemas t (plain item.1) key) gives.0 has) in
      let more = next_beside (IsKeyOf schemas) recorded found i e one at (so_far asked are).1 (record { type = gives.0; place = same; key = key_of }) in (
        subst (λ (t : ℕ). IsRun t (place + 1) (drop (i + 1) recorded)) (sym gives.0) (subst (λ (n : ℕ). IsRun e.type_index (n + 1) (drop (i + 1) recorded)) (sym same) run),
        subst (λ (ks : List KeyAt). AllZip (IsKeyOf schemas) (take (i + 1) recorded) ks) (sym pushed) more,
      )

  pub first_keyless : (why : Refusal) → TellsTreeKey schemas item.0 (plain item.1) None → IsKeyless schemas item.0 place why → ((asked : AskedChange) → ArePut schemas asked (records put) → Before asked)
      → (asked : AskedChange) → ArePut schemas asked (records put) → IsNoChange schemas asked why
  first_keyless why none is_why so_far asked are =
      let (e, at, gives, same, run) = beside_item asked are (so_far asked are) in
      keyless_is schemas asked (records put) are found i (item.0, plain item.1) place why there (so_far asked are).1
      (λ e' at'. (let both : Some e ≡ Some e' = sym at ∙ at' in let one : e ≡ e' = cc in sym (ap (λ (x : Entry). x.place) one) ∙ sym same)) none is_why

-- all records have keys
pub keys_all : (schemas : List Schema) (put : List (ℕ × Tree)) (i : ℕ) (found : List KeyAt) → length put ≤ i → (asked : AskedChange) → ArePut schemas asked (records put)
    → AllZip (IsKeyOf schemas) (take i (entries schemas asked.put)) found → AllZip (IsKeyOf schemas) (entries schemas asked.put) found
keys_all schemas put i found past asked are keyed =
    let long = length-map {B = ℕ × PlainTree} put (λ (entry : ℕ × Tree). (entry.0, plain entry.1)) in
    let same = zip_length (GivesTree schemas) (entries schemas asked.put) (records put) are.1 in
    subst (λ (es : List Entry). AllZip (IsKeyOf schemas) es found) (take_all i (entries schemas asked.put) (omega (arith, past, long, same))) keyed
  where
    zip_length : {A B : Type 0} (R : A → B → Type 0) (xs : List A) (ys : List B) → AllZip R xs ys → length xs ≡ length ys
    zip_length R [] [] is = refl
    zip_length R [] (y ∷ ys) is = absurd is
    zip_length R (x ∷ xs) [] is = absurd is
    zip_length R (x ∷ xs) (y ∷ ys) is = ap suc (zip_length R xs ys is.1)

-- what is answered of keys that stand twice is answered of the records
pub keyed_result : (schemas : List Schema) → IsKept schemas DuplicateName → (items put : List (ℕ × Tree)) → items ≡ put → (slice found : List KeyAt) → slice ≡ found
    → ((asked : AskedChange) → ArePut schemas asked (records items) → AllZip (IsKeyOf schemas) (entries schemas asked.put) found) → (r : Result (Option Refusal) AllocError) → IfOk r (TellsTwice schemas slice)
    → (asked : AskedChange) → ArePut schemas asked (records put) → IfOk r (TellsKeyed schemas asked (records put))
keyed_result schemas names items put same slice found also keyed (Err e) told asked are = tt
keyed_result schemas names items put same slice found also keyed (Ok o) told asked are =
    tells_keyed schemas names asked (records put) are found (keyed asked (subst (λ (xs : List (ℕ × Tree)). ArePut schemas asked (records xs)) (sym same) are)) o
    (subst (λ (ks : List KeyAt). TellsTwice schemas ks o) also told)
