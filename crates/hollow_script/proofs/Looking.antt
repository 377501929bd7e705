-- Which orders look, and what they are answered.
use Rattle.std.proofs.Common.{◌≡◌, ℕ, List, Option, Result, IfOk, refl, sym, subst}
use Rattle.std.specs.Prelude.{◌≢◌}
use Rattle.serde_json.specs.declared.value.Value.{Value}
use Rattle.schema_model.specs.declared.schema.name.Name.{Name}
use Rattle.hol_orders.specs.declared.order.NextState.{NextState}
use Rattle.hol_orders.specs.declared.order.StateChange.{StateChange}
use Rattle.hol_orders.specs.declared.order.Order.{Order}
use Rattle.hol_orders.specs.declared.order.Order.TheVariants as order
use Rattle.hol_orders.specs.declared.order_stop.OrderStop.{OrderStop}
use Rattle.hol_answers.specs.declared.reply.Reply.{Reply}
use Rattle.hollow_machine.specs.Step.{IsLook, LooksAt}
use Rattle.hollow_script.specs.Orders.{IsLookBack, IsOfReader}
use Rattle.read_engine.specs.Position.{Position}

-- an order that is none of a producer, and does not check the store
pub of_reader : (asked : Order) → ((schemas : Value) → asked ≢ order.Model schemas) → ((next : NextState) → asked ≢ order.Cycle next) → ((version : ℕ) → asked ≢ order.Restore version) →
    ((versions : List ℕ) → asked ≢ order.Check versions) → ((schemas : Value) → asked ≢ order.Grow schemas) → ((next : StateChange) → asked ≢ order.Change next) → IsOfReader asked
of_reader (order.Model schemas) not_model not_cycle not_restore not_check not_grow not_change = absurd (not_model schemas refl)
of_reader (order.Cycle next) not_model not_cycle not_restore not_check not_grow not_change = absurd (not_cycle next refl)
of_reader (order.Restore version) not_model not_cycle not_restore not_check not_grow not_change = absurd (not_restore version refl)
of_reader (order.Check versions) not_model not_cycle not_restore not_check not_grow not_change = absurd (not_check versions refl)
of_reader (order.Grow schemas) not_model not_cycle not_restore not_check not_grow not_change = absurd (not_grow schemas refl)
of_reader (order.Change next) not_model not_cycle not_restore not_check not_grow not_change = absurd (not_change next refl)
of_reader _ not_model not_cycle not_restore not_check not_grow not_change = tt

-- an order of the consumer that is none of those that move the machine, or ask for a plan, looks
pub looks_back : (asked : Order) → IsOfReader asked → ((version : ℕ) → asked ≢ order.Load version) → ((from to : ℕ) → asked ≢ order.Step from to) →
    ((version : ℕ) → asked ≢ order.Plan version) → ((version : ℕ) → asked ≢ order.Goto version) → ((name : Name) (paths : Value) → asked ≢ order.Index name paths) →
    ((bound : ℕ) → asked ≢ order.History bound) → ((name path : Name) → asked ≢ order.WalkIndex name path) → IsLookBack asked
looks_back (order.Model schemas) of not_load not_step not_plan not_goto not_index not_history not_walkindex = absurd of
looks_back (order.Cycle next) of not_load not_step not_plan not_goto not_index not_history not_walkindex = absurd of
looks_back (order.Grow schemas) of not_load not_step not_plan not_goto not_index not_history not_walkindex = absurd of
looks_back (order.Change next) of not_load not_step not_plan not_goto not_index not_history not_walkindex = absurd of
looks_back (order.Restore version) of not_load not_step not_plan not_goto not_index not_history not_walkindex = absurd of
looks_back (order.Check versions) of not_load not_step not_plan not_goto not_index not_history not_walkindex = absurd of
looks_back (order.Load version) of not_load not_step not_plan not_goto not_index not_history not_walkindex = absurd (not_load version refl)
looks_back (order.Step from to) of not_load not_step not_plan not_goto not_index not_history not_walkindex = absurd (not_step from to refl)
looks_back (order.Plan version) of not_load not_step not_plan not_goto not_index not_history not_walkindex = absurd (not_plan version refl)
looks_back (order.Goto version) of not_load not_step not_plan not_goto not_index not_history not_walkindex = absurd (not_goto version refl)
looks_back (order.Index name paths) of not_load not_step not_plan not_goto not_index not_history not_walkindex = absurd (not_index name paths refl)
looks_back (order.History bound) of not_load not_step not_plan not_goto not_index not_history not_walkindex = absurd (not_history bound refl)
looks_back (order.WalkIndex name path) of not_load not_step not_plan not_goto not_index not_history not_walkindex = absurd (not_walkindex name path refl)
looks_back _ of not_load not_step not_plan not_goto not_index not_history not_walkindex = tt

-- one that does not look at a version looks at where the consumer stands
pub looks_here : (asked : Order) → IsLookBack asked → ((version : ℕ) (name : Name) (ordinal : ℕ) → asked ≢ order.Was version name ordinal) →
    ((version : ℕ) (name : Name) (values : Value) → asked ≢ order.WasGet version name values) → IsLook asked
looks_here (order.Was version name ordinal) back not_was not_wasget = absurd (not_was version name ordinal refl)
looks_here (order.WasGet version name values) back not_was not_wasget = absurd (not_wasget version name values refl)
looks_here _ back not_was not_wasget = back

-- as one look is answered, so is an order that is this one
pub look_is : (asked other : Order) (consumer : Option Position) (r : Result Reply OrderStop) → asked ≡ other → IfOk r (LooksAt other consumer) → IfOk r (LooksAt asked consumer)
look_is asked other consumer r is looks = subst (λ (o : Order). IfOk r (LooksAt o consumer)) (sym is) looks

-- each look is one of these
pub no_other_look : (asked : Order) → IsLook asked → ((name : Name) (values : Value) → asked ≢ order.Get name values) →
    ((name : Name) (paths values : Value) → asked ≢ order.Find name paths values) → ((name : Name) → asked ≢ order.Live name) → ((name : Name) (ordinal : ℕ) → asked ≢ order.Row name ordinal) →
    ((name : Name) (ordinal element : ℕ) → asked ≢ order.Has name ordinal element) → ((name : Name) (ordinal key : ℕ) → asked ≢ order.At name ordinal key) →
    ((name : Name) → asked ≢ order.Past name) → asked ≢ order.Stat → ((name path : Name) (value : Value) → asked ≢ order.WalkFind name path value) → ⊥
no_other_look (order.Get name values) look not_get not_find not_live not_row not_has not_at not_past not_stat not_walkfind = absurd (not_get name values refl)
no_other_look (order.Find name paths values) look not_get not_find not_live not_row not_has not_at not_past not_stat not_walkfind = absurd (not_find name paths values refl)
no_other_look (order.Live name) look not_get not_find not_live not_row not_has not_at not_past not_stat not_walkfind = absurd (not_live name refl)
no_other_look (order.Row name ordinal) look not_get not_find not_live not_row not_has not_at not_past not_stat not_walkfind = absurd (not_row name ordinal refl)
no_other_look (order.Has name ordinal element) look not_get not_find not_live not_row not_has not_at not_past not_stat not_walkfind = absurd (not_has name ordinal element refl)
no_other_look (order.At name ordinal key) look not_get not_find not_live not_row not_has not_at not_past not_stat not_walkfind = absurd (not_at name ordinal key refl)
no_other_look (order.Past name) look not_get not_find not_live not_row not_has not_at not_past not_stat not_walkfind = absurd (not_past name refl)
no_other_look order.Stat look not_get not_find not_live not_row not_has not_at not_past not_stat not_walkfind = absurd (not_stat refl)
no_other_look (order.WalkFind name path value) look not_get not_find not_live not_row not_has not_at not_past not_stat not_walkfind = absurd (not_walkfind name path value refl)
no_other_look _ look not_get not_find not_live not_row not_has not_at not_past not_stat not_walkfind = look
