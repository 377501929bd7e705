-- The laws hold of the orders of each kind.
use Rattle.hol_orders.specs.declared.kind.Kind.{Kind}
use Rattle.hollow_machine.specs.Step.{form}
use Rattle.chain_laws.proofs.ChangeLaws.{change_lawful}
use Rattle.chain_laws.proofs.CheckLaws.{check_lawful}
use Rattle.chain_laws.proofs.CycleLaws.{cycle_lawful}
use Rattle.chain_laws.proofs.GrowLaws.{grow_lawful}
use Rattle.chain_laws.proofs.HistoryLaws.{history_lawful, was_lawful, wasget_lawful}
use Rattle.chain_laws.proofs.IndexLaws.{index_lawful}
use Rattle.chain_laws.proofs.LoadLaws.{load_lawful}
use Rattle.chain_laws.proofs.ModelLaws.{model_lawful}
use Rattle.chain_laws.proofs.PastLaws.{past_lawful}
use Rattle.chain_laws.proofs.PlanLaws.{goto_lawful, plan_lawful}
use Rattle.chain_laws.proofs.RestoreLaws.{restore_lawful}
use Rattle.chain_laws.proofs.StatLaws.{stat_lawful}
use Rattle.chain_laws.proofs.StepLaws.{step_lawful}
use Rattle.chain_laws.proofs.Lawful.{IsLawful}
use Rattle.chain_laws.proofs.OneChange.{one_change}
use Rattle.chain_laws.proofs.LookLaws.{at_lawful, find_lawful, get_lawful, has_lawful, live_lawful, row_lawful}
use Rattle.chain_laws.proofs.WalkLaws.{walkfind_lawful, walkindex_lawful}

pub laws : (kind : Kind) → IsLawful kind (form kind)
laws Kind.Model = model_lawful
laws Kind.Cycle = cycle_lawful
laws Kind.Restore = restore_lawful
laws Kind.Load = load_lawful
laws Kind.Step = step_lawful
laws Kind.Index = index_lawful
laws Kind.Get = get_lawful
laws Kind.Find = find_lawful
laws Kind.Live = live_lawful
laws Kind.Row = row_lawful
laws Kind.Has = has_lawful
laws Kind.At = at_lawful
laws Kind.Past = past_lawful
laws Kind.Check = check_lawful
laws Kind.Stat = stat_lawful
laws Kind.Grow = grow_lawful
laws Kind.Plan = plan_lawful
laws Kind.Goto = goto_lawful
laws Kind.Change = change_lawful one_change
laws Kind.WalkIndex = walkindex_lawful
laws Kind.WalkFind = walkfind_lawful
laws Kind.History = history_lawful
laws Kind.Was = was_lawful
laws Kind.WasGet = wasget_lawful
