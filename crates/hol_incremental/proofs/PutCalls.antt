-- Records are put into a producer's cycle, by the calls that put them.
use Rattle.std.proofs.Common.{◌≡◌, ◌∙◌, ◌+◌, ◌<◌, ℕ, List, [], ◌∷◌, ◌++◌, Result, Ok, Err, drop, get_or, length, map, take, sym, ap, subst, arith}
use Rattle.std.specs.Prelude.{IsErrAnd}
use Rattle.schema_model.specs.declared.schema.Schema.{Schema}
use Rattle.row_model.specs.PlainTree.{PlainTree}
use Rattle.row_model.specs.Table.{Table}
use Rattle.record_trees.specs.FitsTree.{FitsTree}
use Rattle.record_trees.specs.Tree.{plain}
use Rattle.record_trees.specs.declared.tree.Tree.{Tree}
use Rattle.write_engine.specs.Agreement.{TablesAgree}
use Rattle.write_engine.specs.Cycle.{Adds}
use Rattle.write_engine.specs.Production.{Production}
use Rattle.hol_incremental.specs.Changes.{AreFitting, records}
use Rattle.hol_incremental.specs.Edited.{Records, of_first, of_type}
use Rattle.hol_incremental.specs.Tops.{AddsMore, AddsTops}
use Rattle.hol_incremental.specs.declared.fault.ChangeFault.{ChangeFault}
use Rattle.hol_incremental.specs.declared.fault.ChangeFault.TheVariants.{TooMany}
use Rattle.hol_incremental.proofs.AddedTops.{tops_agree}
use Rattle.hol_incremental.proofs.CountLists.{image_at, image_length}
use Rattle.hol_incremental.proofs.PutSteps.{first_all, first_more, more_one, more_then, refused_one, refused_part, typed_all, typed_more, typed_same}

-- a fault that is passed on is the same
pub passed : {A B : Type 0} (fault : ChangeFault) (result : Result A ChangeFault) → result ≡ Err TooMany → IsErrAnd result (λ told. told ≡ fault) → ◌≡◌ {A = Result B ChangeFault} (Err fault) (Err TooMany)
passed fault (Ok x) is told = absurd cc
passed fault (Err e) is told = let same : e ≡ TooMany = cc in ap Err (sym told ∙ same)

-- a cycle whose rows alone have changed, and then once more
pub kept_then : (a b c : Production) → b ≡ record a { current = b.current } → c ≡ record b { current = c.current } → c ≡ record a { current = c.current }
kept_then a b c one two = two ∙ ap (λ (p : Production). record p { current = c.current }) one

pub more_agree : (schemas : List Schema) (previous : Table) (put : Records) (before after : Table) (gathered tops : List (ℕ × ℕ)) → TablesAgree previous before → AddsMore schemas previous put before gathered after tops → TablesAgree previous after
more_agree schemas previous put before after gathered tops agree more = tops_agree schemas previous put before after more.0 more.1 agree

module _ (start now : Production) (kept : now ≡ record start { current = now.current }) where
  schemas_are : now.schemas ≡ start.schemas
  schemas_are = ap (λ (p : Production). p.schemas) kept

  previous_is : now.previous ≡ start.previous
  previous_is = ap (λ (p : Production). p.previous) kept

  pub agree_now : TablesAgree start.previous now.current → TablesAgree now.previous now.current
  agree_now agree = subst (λ (x : Table). TablesAgree x now.current) (sym previous_is) agree

  -- ---- one record of a type

  module _ (t : ℕ) (puts : List (ℕ × Tree)) (i : ℕ) (item : ℕ × Tree) (inside : i < length puts) (item_is : item ≡ get_or puts i item) where
    pub item_fits : AreFitting start.schemas (records puts) → FitsTree now.schemas item.0 (plain item.1)
    item_fits fits =
        let f : ℕ × Tree → ℕ × PlainTree = λ e. (e.0, plain e.1) in
        let long = image_length f puts in
        let at = fits i (f item) (omega (arith, inside, long)) in
        let same : get_or (map f puts) i (f item) ≡ f item = image_at f puts i item (f item) inside ∙ ap f (sym item_is) in
        subst (λ (s : List Schema). FitsTree s item.0 (plain item.1)) (sym schemas_are) (subst (λ (e : ℕ × PlainTree). FitsTree start.schemas e.0 e.1) same at)

    taken_is : item.0 ≡ t → of_type t (records (take (i + 1) puts)) ≡ of_type t (records (take i puts)) ++ (t, plain item.1) ∷ []
    taken_is typed =
        typed_more t puts i item inside (ap (λ (e : ℕ × Tree). e.0) (sym item_is) ∙ typed)
        ∙ ap (λ (e : ℕ × Tree). of_type t (records (take i puts)) ++ (t, plain e.1) ∷ []) (sym item_is)

    pub item_added : (before after : Table) (gathered tops tops' : List (ℕ × ℕ)) → item.0 ≡ t → AddsMore start.schemas start.previous (of_type t (records (take i puts))) before gathered now.current tops
        → (ordinal : ℕ) × Adds now.schemas now.previous item.0 (plain item.1) now.current ordinal after × (tops' ≡ tops ++ (item.0, ordinal) ∷ [])
        → AddsMore start.schemas start.previous (of_type t (records (take (i + 1) puts))) before gathered after tops'
    item_added before after gathered tops tops' typed more (ordinal, adds, is) =
        subst (λ (xs : Records). AddsMore start.schemas start.previous xs before gathered after tops') (sym (taken_is typed))
        (more_one start.schemas start.previous (of_type t (records (take i puts))) before now.current after gathered tops tops' t (plain item.1) ordinal more
        (subst (λ (s : List Schema). Adds s start.previous t (plain item.1) now.current ordinal after) schemas_are
        (subst (λ (x : Table). Adds now.schemas x t (plain item.1) now.current ordinal after) previous_is (subst (λ (n : ℕ). Adds now.schemas now.previous n (plain item.1) now.current ordinal after) typed adds)))
        (is ∙ ap (λ (n : ℕ). tops ++ (n, ordinal) ∷ []) typed))

    pub item_passed : (before : Table) (gathered tops : List (ℕ × ℕ)) → (item.0 ≡ t → ⊥) → AddsMore start.schemas start.previous (of_type t (records (take i puts))) before gathered now.current tops
        → AddsMore start.schemas start.previous (of_type t (records (take (i + 1) puts))) before gathered now.current tops
    item_passed before gathered tops other more =
        subst (λ (xs : Records). AddsMore start.schemas start.previous xs before gathered now.current tops) (sym (typed_same t puts i item inside (λ e. other (ap (λ (x : ℕ × Tree). x.0) item_is ∙ e)))) more

    pub item_refused : (before : Table) (gathered tops : List (ℕ × ℕ)) → TablesAgree start.previous before → item.0 ≡ t → AddsMore start.schemas start.previous (of_type t (records (take i puts))) before gathered now.current tops
        → ((ordinal : ℕ) (after : Table) → Adds now.schemas now.previous item.0 (plain item.1) now.current ordinal after → ⊥) → (rows : List (ℕ × ℕ)) (after : Table)
        → AddsTops start.schemas start.previous (of_type t (records puts)) before rows after → ⊥
    item_refused before gathered tops agree typed more never rows after added =
        refused_part start.schemas start.previous (of_type t (records (take i puts))) ((t, plain item.1) ∷ []) (of_type t (records (drop (i + 1) puts))) before now.current more.0 agree more.1
        (refused_one start.schemas start.previous t (plain item.1) now.current
        (λ ordinal after' adds.
        never ordinal after'
        (subst (λ (s : List Schema). Adds s now.previous item.0 (plain item.1) now.current ordinal after') (sym schemas_are)
        (subst (λ (x : Table). Adds start.schemas x item.0 (plain item.1) now.current ordinal after') (sym previous_is)
        (subst (λ (n : ℕ). Adds start.schemas start.previous n (plain item.1) now.current ordinal after') (sym typed) adds)))))
        rows after
        (subst (λ (xs : Records). AddsTops start.schemas start.previous xs before rows after)
        (typed_all t puts (i + 1) ∙ ap (λ (xs : Records). xs ++ of_type t (records (drop (i + 1) puts))) (taken_is typed)) added)

  -- ---- those of a type

  module _ (t : ℕ) (puts : Records) where
    pub type_added : (before after : Table) (gathered tops tops' : List (ℕ × ℕ)) → AddsMore start.schemas start.previous (of_first t puts) before gathered now.current tops
        → AddsMore now.schemas now.previous (of_type t puts) now.current tops after tops' → AddsMore start.schemas start.previous (of_first (t + 1) puts) before gathered after tops'
    type_added before after gathered tops tops' one two =
        subst (λ (xs : Records). AddsMore start.schemas start.previous xs before gathered after tops') (sym (first_more puts t))
        (more_then start.schemas start.previous (of_first t puts) (of_type t puts) before now.current after gathered tops tops' one
        (subst (λ (s : List Schema). AddsMore s start.previous (of_type t puts) now.current tops after tops') schemas_are (subst (λ (x : Table). AddsMore now.schemas x (of_type t puts) now.current tops after tops') previous_is two)))

    pub type_refused : (count : ℕ) → t < count → (before : Table) (gathered tops : List (ℕ × ℕ)) → TablesAgree start.previous before → AddsMore start.schemas start.previous (of_first t puts) before gathered now.current tops
        → ((rows : List (ℕ × ℕ)) (after : Table) → AddsTops now.schemas now.previous (of_type t puts) now.current rows after → ⊥) → (rows : List (ℕ × ℕ)) (after : Table)
        → AddsTops start.schemas start.previous (of_first count puts) before rows after → ⊥
    type_refused count early before gathered tops agree more never rows after added =
        let all = first_all puts t count early in
        refused_part start.schemas start.previous (of_first t puts) (of_type t puts) all.0 before now.current more.0 agree more.1
        (λ rows' after' adds.
        never rows' after'
        (subst (λ (s : List Schema). AddsTops s now.previous (of_type t puts) now.current rows' after') (sym schemas_are)
        (subst (λ (x : Table). AddsTops start.schemas x (of_type t puts) now.current rows' after') (sym previous_is) adds)))
        rows after (subst (λ (xs : Records). AddsTops start.schemas start.previous xs before rows after) all.1 added)
