-- The rows that have the primary key which an order spells, and why there are none.
use Rattle.std.proofs.Common.{◌≡◌, ℕ, List, [], Ok, Err, sym, subst}
use Rattle.std.specs.Prelude.{All}
use Rattle.serde_json.specs.Data.{Data}
use Rattle.schema_model.specs.declared.model.path.Path.{Path}
use Rattle.schema_model.specs.declared.schema.Schema.{Schema}
use Rattle.row_model.specs.Key.{IsResolved}
use Rattle.row_model.specs.Table.{Table}
use Rattle.json_values.specs.declared.fault.KeyFault.TheVariants.{Shape}
use Rattle.read_engine.specs.Position.{Position}
use Rattle.hol_answers.specs.declared.refusal.Refusal.TheVariants.{BadKey}
use Rattle.hollow_machine.specs.HistoryOrders.{HasPrimaryKey, HaveKey, OldKeyRefusal}
use Rattle.hollow_machine.specs.KeyPaths.{AreKeyPaths, HasShape, IsObject}
use Rattle.consumer_orders.proofs.KeyWays.{key_resolved}
use Rattle.consumer_orders.specs.Sought.{TellsKeyPaths}
use Rattle.consumer_orders.specs.declared.key_paths.KeyPaths.{KeyPaths}
use Rattle.consumer_orders.specs.declared.key_paths.KeyPaths.TheVariants as key_paths
use Rattle.history_orders.specs.Told.{TellsKeyed}

-- the paths of the primary key
abbrev pub ArePrimary : List Schema → ℕ → List Path → Type 0
ArePrimary schemas t paths = HasShape IsObject schemas t × AreKeyPaths schemas t [] paths

module _ (schemas model : List Schema) (t : ℕ) (name : List ℕ) (texts : List (List ℕ)) (found : KeyPaths) (same : model ≡ schemas) (none : texts ≡ []) (tells : TellsKeyPaths model t name texts found) where
  told : TellsKeyPaths schemas t name [] found
  told = subst (λ (s : List Schema). TellsKeyPaths s t name [] found) same (subst (λ (ts : List (List ℕ)). TellsKeyPaths model t name ts found) none tells)

  pub are_primary : (paths : List Path) → found ≡ key_paths.Resolved paths → ArePrimary schemas t paths
  are_primary paths is = subst (λ (f : KeyPaths). TellsKeyPaths schemas t name [] f) is told

  -- They are resolved.
  pub are_resolved : (paths : List Path) → found ≡ key_paths.Resolved paths → All (IsResolved schemas t) paths
  are_resolved paths is = key_resolved schemas t [] paths (are_primary paths is).1

module _ (table : Table) (t : ℕ) (values : Data) (now : Position) (schemas : List Schema) (same : now.schemas ≡ schemas) where
  pub has_primary : (paths : List Path) → ArePrimary schemas t paths → HasPrimaryKey now t paths
  has_primary paths are = subst (λ (s : List Schema). ArePrimary s t paths) (sym same) are

  -- The rows that have the key.
  pub have_key : (paths : List Path) (ordinals : List ℕ) → HasPrimaryKey now t paths → TellsKeyed schemas table t paths values (Ok ordinals) → HaveKey values table now t ordinals
  have_key paths ordinals has tells = (paths, has, subst (λ (s : List Schema). TellsKeyed s table t paths values (Ok ordinals)) (sym same) tells)

  -- The JSON spells no key.
  pub of_no_key : (name : List ℕ) (paths : List Path) → HasPrimaryKey now t paths → TellsKeyed schemas table t paths values (Err Shape) → OldKeyRefusal name values table now t BadKey
  of_no_key name paths has tells = (paths, has, subst (λ (s : List Schema). TellsKeyed s table t paths values (Err Shape)) (sym same) tells)
