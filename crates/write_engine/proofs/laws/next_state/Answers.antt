use Rattle.std.proofs.Common.{inl, inr}
use Rattle.write_engine.proofs.NextStates.{next_agree, next_once}
use Rattle.write_engine.proofs.laws.next_state.Goals as goal

pub returns-clause-once : goal.returns-clause-once
returns-clause-once c = next_once

pub returns-clause-kept : goal.returns-clause-kept
returns-clause-kept c = λ schemas previous next records t a b row once made here there. (next_agree schemas previous next records once made t).one_ordinal row a b (inl here) (inr there)

pub returns-clause-same : goal.returns-clause-same
returns-clause-same c = λ schemas previous next records t ordinal a b once made here there. (next_agree schemas previous next records once made t).one_row ordinal a b (inl here) (inr there)
