-- What asking for the next record as a tree or a row answers.
use Rattle.std.specs.Prelude.{◌≡◌, ℕ, List, [], ◌∷◌, Ok}
use Rattle.json.specs.Token.{Token}
use Rattle.serde_json.specs.Data.{Data}
use Rattle.schema_model.specs.declared.schema.Schema.{Schema}
use Rattle.row_model.specs.PlainTree.{PlainTree}
use Rattle.record_trees.specs.Tree.{plain}
use Rattle.record_json.specs.ReadTree.{read_tree}
use Rattle.record_stream.specs.Records.{AreAhead, record_depth}
use Rattle.record_trees.specs.Rows.{IsRowOf}
use Rattle.record_tokens.specs.Taken.{Takes}
use Rattle.record_tokens.specs.declared.next.NextTree.{NextTree}
use Rattle.record_tokens.specs.declared.next.NextTree.TheVariants as next
use Rattle.record_tokens.specs.declared.next.NextWhole.{NextWhole}
use Rattle.record_tokens.specs.declared.next.NextWhole.TheVariants as whole
use Rattle.record_tokens.specs.declared.next.Record.{Record}
use Rattle.record_tokens.specs.declared.next.Record.TheVariants.{Row, Tree}

-- The JSON gives this tree of the type.
pub record IsReadAs (schemas : List Schema) (type_index : ℕ) (value : Data) (tree : PlainTree) : Type 0 where
  pub gives : read_tree schemas type_index value ≡ Ok tree

-- Where these records are ahead: the first one gives this tree by the schemas, and the others are ahead.
pub record IsTreeAhead (schemas : List Schema) (type_index : ℕ) (records : List Data) (rest : List Token) (tree : PlainTree) (now : List Token) : Type 0 where
  pub first : Data
  pub others : List Data
  pub split : records ≡ first ∷ others
  pub is : IsReadAs schemas type_index first tree
  pub ahead : AreAhead now others rest

-- The tree refers to no record, and this is its row; or it is this one.
abbrev pub IsRecordOf : PlainTree → Record → Type 0
IsRecordOf tree (Row row) = IsRowOf tree row
IsRecordOf tree (Tree found) = tree ≡ plain found

-- Where these records are ahead: the first one gives a tree of which this is the record, and the others are ahead; or none is left, and the reader is
-- behind the bracket; or it is not told.
abbrev pub TellsTree : List Schema → ℕ → List Data → List Token → NextTree → List Token → Type 0
TellsTree schemas type_index records rest (next.Record record_found) now = (tree : PlainTree) × IsTreeAhead schemas type_index records rest tree now × IsRecordOf tree record_found
TellsTree schemas type_index records rest next.End now = (records ≡ []) × (now ≡ rest)
TellsTree schemas type_index records rest next.Other now = Unit {0}

-- Where these records are ahead: the first one gives this tree, and the others are ahead; or none is left, and the reader is behind the bracket; or it is
-- not told.
abbrev pub TellsWhole : List Schema → ℕ → List Data → List Token → NextWhole → List Token → Type 0
TellsWhole schemas type_index records rest (whole.Tree tree) now = IsTreeAhead schemas type_index records rest (plain tree) now
TellsWhole schemas type_index records rest whole.End now = (records ≡ []) × (now ≡ rest)
TellsWhole schemas type_index records rest whole.Other now = Unit {0}

-- The tokens begin with a record that gives a tree of which this is the record.
abbrev pub TakesRecord : List Schema → ℕ → List Token → Record → List Token → Type 0
TakesRecord schemas type_index tokens record_found now = (tree : PlainTree) × Takes (read_tree schemas type_index) record_depth tokens tree now × IsRecordOf tree record_found
