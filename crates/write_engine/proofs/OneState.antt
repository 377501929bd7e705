-- A tree is added in one way, and records make one next state.
use Rattle.std.proofs.Common.{◌≡◌, ℕ, List, [], ◌∷◌, length, Option, Some, sym, ap, subst, ◌∙◌}
use Rattle.row_model.specs.declared.row.Row.{Row}
use Rattle.row_model.specs.declared.row.Value.{Value}
use Rattle.schema_model.specs.declared.schema.Field.{Field}
use Rattle.schema_model.specs.declared.schema.Schema.{Schema}
use Rattle.row_model.specs.PlainTree.{PlainTree, PlainTrees, PlainPairs, leaf, object, list, set, map, no_trees, tree_then, no_pairs, pair_then}
use Rattle.row_model.specs.Table.{Table}
use Rattle.ordinal_map.specs.Assign.{IsPut}
use Rattle.ordinal_map.proofs.Puts.{put_once}
use Rattle.write_engine.specs.Agreement.{HoldsOnce, TablesAgree}
use Rattle.write_engine.specs.Cycle.{Adds, AddsFields, AddsAll, AddsPairs, AddsRecords, IsMapOf, IsSetOf, Next, PutsRow, no_rows, rows_in, with_row}
use Rattle.record_trees.specs.FitsTree.{IsLeafOr}
use Rattle.record_trees.specs.Types.{referred}
use Rattle.write_engine.proofs.NextStates.{adds_agree, fields_agree, all_agree, pairs_agree, start_agree}
use Rattle.write_engine.proofs.Parts.{AddsField}
use Rattle.write_engine.proofs.RisingLists.{one_set, one_map}

pub same_some : {A : Type 0} (a b : A) (o : Option A) → o ≡ Some a → o ≡ Some b → a ≡ b
same_some a b o is is' = let e : Some a ≡ Some b = sym is ∙ is' in cc

puts_once : (previous before before' after after' : Table) (t o o' : ℕ) (row row' : Row) → TablesAgree previous before → before ≡ before' → row ≡ row' → PutsRow previous t row before o after → PutsRow previous t row' before' o' after' → (o ≡ o') × (after ≡ after')
puts_once previous before before' after after' t o o' row row' agree same same_row puts puts' =
    let put' = subst (λ r. IsPut (rows_in previous t) (rows_in before t) r o') (sym same_row) (subst (λ (table : Table). IsPut (rows_in previous t) (rows_in table t) row' o') (sym same) puts'.put) in
    let ordinal = put_once (rows_in previous t) (rows_in before t) row o o' (agree t) puts.put put' in
    (ordinal, puts.after_is ∙ (λ i. with_row (same i) t (ordinal i) (same_row i)) ∙ sym puts'.after_is)

leaf_both : (tree : PlainTree) (P P' : Value → Type 0) (Q Q' R : Type 0) → ((value : Value) → P value → P' value → R) → (Q → Q' → R) → IsLeafOr tree P Q → IsLeafOr tree P' Q' → R
leaf_both (leaf value) P P' Q Q' R f g h h' = f value h h'
leaf_both (object trees) P P' Q Q' R f g h h' = g h h'
leaf_both (list trees) P P' Q Q' R f g h h' = g h h'
leaf_both (set trees) P P' Q Q' R f g h h' = g h h'
leaf_both (map pairs) P P' Q Q' R f g h h' = g h h'

module _ (schemas : List Schema) (previous : Table) where
  -- a field is added in one way where its tree is
  pub field_once : (tree : PlainTree) (field field' : Field) (before middle middle' : Table) (value value' : Value) → field ≡ field' → TablesAgree previous before
      → ((t o o' : ℕ) → Adds schemas previous t tree before o middle → Adds schemas previous t tree before o' middle' → (o ≡ o') × (middle ≡ middle'))
      → AddsField schemas previous field tree before value middle → AddsField schemas previous field' tree before value' middle' → (value ≡ value') × (middle ≡ middle') × TablesAgree previous middle
  field_once tree field field' before middle middle' value value' same agree once adds adds' =
      leaf_both tree _ _ _ _ ((value ≡ value') × (middle ≡ middle') × TablesAgree previous middle)
      (λ found is is'. (is.2 ∙ sym is'.2, is.3 ∙ sym is'.3, subst (λ (table : Table). TablesAgree previous table) (sym is.3) agree))
      (λ row row'.
      (let type = same_some row.0 row'.0 (referred schemas field.kind) row.2 (ap (λ (f : Field). referred schemas f.kind) same ∙ row'.2) in
      let one = once row.0 row.1 row'.1 row.3 (subst (λ u. Adds schemas previous u tree before row'.1 middle') (sym type) row'.3) in
      (row.4 ∙ ap Value.Ref one.0 ∙ sym row'.4, one.1, adds_agree schemas previous tree row.0 before middle row.1 row.3 agree))) adds adds'

  mutual
    pub adds_once : (tree : PlainTree) (t : ℕ) (before after after' : Table) (o o' : ℕ) → TablesAgree previous before → Adds schemas previous t tree before o after → Adds schemas previous t tree before o' after' → (o ≡ o') × (after ≡ after')
    adds_once (leaf value) t before after after' o o' agree adds adds' = absurd adds
    adds_once (object trees) t before after after' o o' agree adds adds' =
        let fields = same_some adds.0 adds'.0 _ adds.3 adds'.3 in
        let parts = fields_once trees adds.0 before adds.2 adds'.2 adds.1 adds'.1 agree adds.4 (subst (λ fs. AddsFields schemas previous fs trees before adds'.1 adds'.2) (sym fields) adds'.4) in
        puts_once previous adds.2 adds'.2 after after' t o o' (Row.Object adds.1) (Row.Object adds'.1) (fields_agree schemas previous trees adds.0 before adds.2 adds.1 adds.4 agree) parts.1 (ap Row.Object parts.0) adds.5 adds'.5
    adds_once (list trees) t before after after' o o' agree adds adds' =
        let element = same_some adds.0 adds'.0 _ adds.3 adds'.3 in
        let parts = all_once trees adds.0 before adds.2 adds'.2 adds.1 adds'.1 agree adds.4 (subst (λ u. AddsAll schemas previous u trees before adds'.1 adds'.2) (sym element) adds'.4) in
        puts_once previous adds.2 adds'.2 after after' t o o' (Row.List adds.1) (Row.List adds'.1) (all_agree schemas previous trees adds.0 before adds.2 adds.1 adds.4 agree) parts.1 (ap Row.List parts.0) adds.5 adds'.5
    adds_once (set trees) t before after after' o o' agree adds adds' =
        let element = same_some adds.0 adds'.0 _ adds.3 adds'.3 in
        let parts = all_once trees adds.0 before adds.2 adds'.2 adds.1 adds'.1 agree adds.4 (subst (λ u. AddsAll schemas previous u trees before adds'.1 adds'.2) (sym element) adds'.4) in
        let members = one_set adds.1 adds.5.0 adds'.5.0 adds.5.1 (subst (λ os. IsSetOf os adds'.5.0) (sym parts.0) adds'.5.1) in
        puts_once previous adds.2 adds'.2 after after' t o o' (Row.Set adds.5.0) (Row.Set adds'.5.0) (all_agree schemas previous trees adds.0 before adds.2 adds.1 adds.4 agree) parts.1 (ap Row.Set members) adds.5.2 adds'.5.2
    adds_once (map pairs) t before after after' o o' agree adds adds' =
        let types = same_some adds.0 adds'.0 _ adds.3 adds'.3 in
        let parts = pairs_once pairs adds.0 before adds.2 adds'.2 adds.1 adds'.1 agree adds.4 (subst (λ ts. AddsPairs schemas previous ts pairs before adds'.1 adds'.2) (sym types) adds'.4) in
        let members = one_map adds.1 adds.5.0 adds'.5.0 adds.5.1 (subst (λ ps. IsMapOf ps adds'.5.0) (sym parts.0) adds'.5.1) in
        puts_once previous adds.2 adds'.2 after after' t o o' (Row.Map adds.5.0) (Row.Map adds'.5.0) (pairs_agree schemas previous pairs adds.0 before adds.2 adds.1 adds.4 agree) parts.1 (ap Row.Map members) adds.5.2 adds'.5.2

    pub fields_once : (trees : PlainTrees) (fields : List Field) (before after after' : Table) (values values' : List Value) → TablesAgree previous before → AddsFields schemas previous fields trees before values after → AddsFields schemas previous fields trees before values' after'
        → (values ≡ values') × (after ≡ after')
    fields_once no_trees fields before after after' values values' agree adds adds' = (adds.1 ∙ sym adds'.1, adds.2 ∙ sym adds'.2)
    fields_once (tree_then tree trees) fields before after after' values values' agree adds adds' =
        let both : adds.0 ∷ adds.1 ≡ adds'.0 ∷ adds'.1 = sym adds.5 ∙ adds'.5 in
        let field : adds.0 ≡ adds'.0 = cc in
        let others : adds.1 ≡ adds'.1 = cc in
        let first = field_once tree adds.0 adds'.0 before adds.4 adds'.4 adds.2 adds'.2 field agree (λ t o o' one one'. adds_once tree t before adds.4 adds'.4 o o' agree one one') adds.7 adds'.7 in
        let rest = fields_once trees adds.1 adds.4 after after' adds.3 adds'.3 first.2 adds.8
        (subst (λ fs. AddsFields schemas previous fs trees adds.4 adds'.3 after') (sym others) (subst (λ (table : Table). AddsFields schemas previous adds'.1 trees table adds'.3 after') (sym first.1) adds'.8)) in
        (adds.6 ∙ (λ i. first.0 i ∷ rest.0 i) ∙ sym adds'.6, rest.1)

    pub all_once : (trees : PlainTrees) (t : ℕ) (before after after' : Table) (os os' : List ℕ) → TablesAgree previous before → AddsAll schemas previous t trees before os after → AddsAll schemas previous t trees before os' after' → (os ≡ os') × (after ≡ after')
    all_once no_trees t before after after' os os' agree adds adds' = (adds.0 ∙ sym adds'.0, adds.1 ∙ sym adds'.1)
    all_once (tree_then tree trees) t before after after' os os' agree adds adds' =
        let first = adds_once tree t before adds.2 adds'.2 adds.0 adds'.0 agree adds.4 adds'.4 in
        let rest = all_once trees t adds.2 after after' adds.1 adds'.1 (adds_agree schemas previous tree t before adds.2 adds.0 adds.4 agree) adds.5
        (subst (λ (table : Table). AddsAll schemas previous t trees table adds'.1 after') (sym first.1) adds'.5) in
        (adds.3 ∙ (λ i. first.0 i ∷ rest.0 i) ∙ sym adds'.3, rest.1)

    pub pairs_once : (pairs : PlainPairs) (types : ℕ × ℕ) (before after after' : Table) (ps ps' : List (ℕ × ℕ)) → TablesAgree previous before → AddsPairs schemas previous types pairs before ps after → AddsPairs schemas previous types pairs before ps' after'
        → (ps ≡ ps') × (after ≡ after')
    pairs_once no_pairs types before after after' ps ps' agree adds adds' = (adds.0 ∙ sym adds'.0, adds.1 ∙ sym adds'.1)
    pairs_once (pair_then key value pairs) types before after after' ps ps' agree adds adds' =
        let first = adds_once key types.0 before adds.3 adds'.3 adds.0 adds'.0 agree adds.6 adds'.6 in
        let agree' = adds_agree schemas previous key types.0 before adds.3 adds.0 adds.6 agree in
        let second = adds_once value types.1 adds.3 adds.4 adds'.4 adds.1 adds'.1 agree' adds.7 (subst (λ (table : Table). Adds schemas previous types.1 value table adds'.1 adds'.4) (sym first.1) adds'.7) in
        let rest = pairs_once pairs types adds.4 after after' adds.2 adds'.2 (adds_agree schemas previous value types.1 adds.3 adds.4 adds.1 adds.7 agree') adds.8
        (subst (λ (table : Table). AddsPairs schemas previous types pairs table adds'.2 after') (sym second.1) adds'.8) in
        (adds.5 ∙ (λ i. (first.0 i, second.0 i) ∷ rest.0 i) ∙ sym adds'.5, rest.1)

  records_once : (records : List (ℕ × PlainTree)) (before after after' : Table) → TablesAgree previous before → AddsRecords schemas previous records before after → AddsRecords schemas previous records before after' → after ≡ after'
  records_once [] before after after' agree adds adds' = adds ∙ sym adds'
  records_once (entry ∷ records) before after after' agree adds adds' =
      let first = adds_once entry.1 entry.0 before adds.1 adds'.1 adds.0 adds'.0 agree adds.2 adds'.2 in
      records_once records adds.1 after after' (adds_agree schemas previous entry.1 entry.0 before adds.1 adds.0 adds.2 agree) adds.3
      (subst (λ (table : Table). AddsRecords schemas previous records table after') (sym first.1) adds'.3)

pub next_is_one : (schemas : List Schema) (previous next next' : Table) (records : List (ℕ × PlainTree)) → HoldsOnce previous → Next schemas previous records next → Next schemas previous records next' → next ≡ next'
next_is_one schemas previous next next' records once made made' = records_once schemas previous records (no_rows (length schemas)) next next' (start_agree previous (length schemas) once) made made'
