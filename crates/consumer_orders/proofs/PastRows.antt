-- The records of the rows that left are shown one after another, and their nodes are taken off one budget.
use Rattle.std.proofs.Common.{◌≡◌, ◌+◌, ◌<◌, ◌≤◌, ℕ, List, [], ◌∷◌, ◌++◌, length, take, get_or, sym, ap, ◌∙◌, subst, arith}
use Rattle.std.specs.Prelude.{sum_by}
use Rattle.std.specs.List.{AllZip}
use Rattle.std.proofs.lemmas.List.{take_all, take_more}
use Rattle.std.proofs.lemmas.List.Sums.{sum_by-take-le, sum_by_push}
use Rattle.std.proofs.lemmas.Slice.Zip.{all_zipped_more}
use Rattle.serde_json.specs.View.{view}
use Rattle.serde_json.specs.declared.value.Value.{Value}
use Rattle.schema_model.specs.declared.limit.Limit.TheVariants.{Nodes}
use Rattle.schema_model.specs.declared.schema.Schema.{Schema}
use Rattle.schema_model.specs.Limit.{number_of_limit}
use Rattle.row_model.specs.PlainTree.{node_count}
use Rattle.row_model.specs.Table.{Table}
use Rattle.row_model.specs.Unfold.{unfold_row}
use Rattle.record_json.specs.PrintTree.{PrintsTree}
use Rattle.read_engine.specs.Gone.{AreGone}
use Rattle.read_engine.specs.Position.{Position}
use Rattle.hol_answers.specs.declared.refusal.Refusal.TheVariants.{TooLarge}
use Rattle.hol_answers.specs.declared.reply.Reply.TheVariants as reply
use Rattle.hollow_machine.specs.RowOrders.{ShowsPast}
use Rattle.consumer_orders.proofs.ShownRows.{of_position}

-- the nodes of the record of a row
abbrev pub nodes_of : List Schema → Table → ℕ → ℕ → ℕ
nodes_of schemas table t ordinal = node_count (unfold_row schemas table t ordinal)

-- an entry shows the record of a row
abbrev pub ShowsEntry : List Schema → Table → ℕ → ℕ → ℕ × Value → Type 0
ShowsEntry schemas table t ordinal entry = (entry.0 ≡ ordinal) × PrintsTree schemas t (unfold_row schemas table t ordinal) (view entry.1)

-- The first so many rows are shown, and this is left of the budget.
pub record HasShown (schemas : List Schema) (table : Table) (t : ℕ) (gone : List ℕ) (place budget : ℕ) (entries : List (ℕ × Value)) : Type 0 where
  pub left : budget + sum_by (nodes_of schemas table t) (take place gone) ≡ number_of_limit Nodes
  pub shown : AllZip (ShowsEntry schemas table t) (take place gone) entries

module _ (schemas : List Schema) (table : Table) (t : ℕ) (gone : List ℕ) where
  -- the nodes of one row more
  more_nodes : (place : ℕ) → place < length gone → sum_by (nodes_of schemas table t) (take (place + 1) gone) ≡ sum_by (nodes_of schemas table t) (take place gone) + nodes_of schemas table t (get_or gone place 0)
  more_nodes place inside = ap (sum_by (nodes_of schemas table t)) (take_more gone place 0 inside) ∙ sum_by_push (nodes_of schemas table t) (take place gone) (get_or gone place 0)

  pub one_shown : (place before after : ℕ) (entries entries' : List (ℕ × Value)) (entry : ℕ × Value) → place < length gone → HasShown schemas table t gone place before entries →
      after + nodes_of schemas table t (get_or gone place 0) ≡ before → ShowsEntry schemas table t (get_or gone place 0) entry → entries' ≡ entries ++ entry ∷ [] →
      HasShown schemas table t gone (place + 1) after entries'
  one_shown place before after entries entries' entry inside so_far taken shows is = record {
    left = omega (arith, so_far.left, taken, more_nodes place inside);
    shown =
        subst (λ (ordinals : List ℕ). AllZip (ShowsEntry schemas table t) ordinals entries') (sym (take_more gone place 0 inside))
        (subst (λ (es : List (ℕ × Value)). AllZip (ShowsEntry schemas table t) (take place gone ++ get_or gone place 0 ∷ []) es) (sym is)
        (all_zipped_more (ShowsEntry schemas table t) (take place gone) entries (get_or gone place 0) entry so_far.shown shows));
  }

  -- Where the budget does not suffice for one row more, the rows have too many nodes together.
  pub too_many : (place budget : ℕ) (entries : List (ℕ × Value)) → place < length gone → HasShown schemas table t gone place budget entries → budget < nodes_of schemas table t (get_or gone place 0) →
      number_of_limit Nodes < sum_by (nodes_of schemas table t) gone
  too_many place budget entries inside so_far over = omega (arith, so_far.left, over, more_nodes place inside, sum_by-take-le (nodes_of schemas table t) gone (place + 1))

  pub is_past : (place budget : ℕ) (entries : List (ℕ × Value)) (now : Position) → length gone ≤ place → HasShown schemas table t gone place budget entries → now.schemas ≡ schemas → now.before ≡ table →
      AreGone now t gone → ShowsPast now t (reply.Past entries)
  is_past place budget entries now past so_far same rows are =
      let all = take_all place gone past in
      let shown : AllZip (ShowsEntry schemas table t) gone entries = subst (λ (ordinals : List ℕ). AllZip (ShowsEntry schemas table t) ordinals entries) all so_far.shown in
      let few : sum_by (nodes_of schemas table t) gone ≤ number_of_limit Nodes = omega (arith, so_far.left, ap (sum_by (nodes_of schemas table t)) all) in
      let both = of_position (λ (s : List Schema) (r : Table). (sum_by (nodes_of s r t) gone ≤ number_of_limit Nodes) × AllZip (ShowsEntry s r t) gone entries) schemas now.schemas table now.before same rows (few, shown) in
      (gone, are, both.0, both.1)

  pub is_over : (now : Position) → number_of_limit Nodes < sum_by (nodes_of schemas table t) gone → now.schemas ≡ schemas → now.before ≡ table → AreGone now t gone → ShowsPast now t (reply.Refused (TooLarge Nodes))
  is_over now over same rows are =
      (gone, are, of_position (λ (s : List Schema) (r : Table). number_of_limit Nodes < sum_by (nodes_of s r t) gone) schemas now.schemas table now.before same rows over)
