-- What a cycle takes, and what is told of it once it is closed.
use Rattle.std.proofs.Common.{◌≡◌, ℕ, List, Ok, true, sym, subst}
use Rattle.serde_json.specs.Data.{Data}
use Rattle.hollow.specs.schema_model.declared.schema.Schema.{Schema}
use Rattle.hollow.specs.schema_model.Model.{IsModel}
use Rattle.hollow.specs.row_model.PlainTree.{PlainTree}
use Rattle.hollow.specs.record_trees.FitsTree.{FitsTree}
use Rattle.hollow.specs.record_json.ReadTree.{read_tree}
use Rattle.hollow.specs.write_engine.CycleLimit.{TellsCycle}
use Rattle.hollow.specs.write_engine.Production.{Production}

-- a record that was read by the schemas of a model fits its type, by a law that says so of every model
pub record_fits : (schemas one other : List Schema) (t : ℕ) (value : Data) (tree : PlainTree) → ((all : List Schema) (t' : ℕ) (value' : Data) (tree' : PlainTree) → IsModel all → read_tree all t' value' ≡ Ok tree' → FitsTree all t' tree') →
    one ≡ schemas → other ≡ schemas → IsModel one → read_tree other t value ≡ Ok tree → FitsTree schemas t tree
record_fits schemas one other t value tree law is also model read =
    law schemas t value tree (subst IsModel is model) (subst (λ (s : List Schema). read_tree s t value ≡ Ok tree) also read)

-- what is told of a cycle as it is closed is told of the closed one
pub closed_tells : (old new : Production) (changed : List ℕ) → new ≡ record old { closed = true; over = new.over } → TellsCycle old.schemas old.previous old.current old.version changed new.over →
    TellsCycle new.schemas new.previous new.current new.version changed new.over
closed_tells old new changed is tells = subst (λ (p : Production). TellsCycle p.schemas p.previous p.current p.version changed new.over) (sym is) tells
