-- The laws of the orders that look at a consumer.
use Rattle.std.proofs.Common.{true}
use Rattle.hol_orders.specs.declared.kind.Kind.{Kind}
use Rattle.hollow_machine.specs.KeyOrders.{FindReply, GetReply, find_form, get_form}
use Rattle.hollow_machine.specs.KeyPaths.{texts_of_array}
use Rattle.hollow_machine.specs.MemberOrders.{AtReply, HasReply, at_form, has_form}
use Rattle.hollow_machine.specs.RowOrders.{LiveReply, RowReply, live_form, row_form}
use Rattle.chain_laws.proofs.Answering.{at_unpublished, find_unpublished, get_unpublished, has_unpublished, live_unpublished, row_unpublished}
use Rattle.chain_laws.proofs.FreshAnswers.{live_afresh, row_afresh}
use Rattle.chain_laws.proofs.FreshKeys.{at_afresh, find_afresh, get_afresh, has_afresh}
use Rattle.chain_laws.proofs.Lawful.{IsLawful, looks_lawful}
use Rattle.chain_laws.proofs.OneKey.{one_find, one_get}
use Rattle.chain_laws.proofs.OneLook.{one_live, one_row}
use Rattle.chain_laws.proofs.OneMember.{one_at, one_has}

pub live_lawful : IsLawful Kind.Live live_form
live_lawful = looks_lawful Kind.Live (λ consumer name answer. LiveReply consumer name answer) true
    (λ consumer name one other typed is also. one_live consumer name one other is also)
    (λ consumer name answer is. live_unpublished consumer name answer is)
    (λ can machine fresh chain sound of afresh name answer is. live_afresh machine fresh chain sound of afresh name answer is)

pub row_lawful : IsLawful Kind.Row row_form
row_lawful = looks_lawful Kind.Row (λ consumer asked answer. RowReply consumer asked.0 asked.1 answer) true
    (λ consumer asked one other typed is also. one_row consumer asked.0 asked.1 one other is also)
    (λ consumer asked answer is. row_unpublished consumer asked.0 asked.1 answer is)
    (λ can machine fresh chain sound of afresh asked answer is. row_afresh machine fresh chain sound of afresh asked.0 asked.1 answer is)

pub has_lawful : IsLawful Kind.Has has_form
has_lawful = looks_lawful Kind.Has (λ consumer asked answer. HasReply consumer asked.0 asked.1 asked.2 answer) true
    (λ consumer asked one other typed is also. one_has consumer asked.0 asked.1 asked.2 one other is also)
    (λ consumer asked answer is. has_unpublished consumer asked.0 asked.1 asked.2 answer is)
    (λ can machine fresh chain sound of afresh asked answer is. has_afresh machine fresh chain sound of afresh asked.0 asked.1 asked.2 answer is)

pub at_lawful : IsLawful Kind.At at_form
at_lawful = looks_lawful Kind.At (λ consumer asked answer. AtReply consumer asked.0 asked.1 asked.2 answer) true
    (λ consumer asked one other typed is also. one_at consumer asked.0 asked.1 asked.2 one other typed is also)
    (λ consumer asked answer is. at_unpublished consumer asked.0 asked.1 asked.2 answer is)
    (λ can machine fresh chain sound of afresh asked answer is. at_afresh machine fresh chain sound of afresh asked.0 asked.1 asked.2 answer is)

pub get_lawful : IsLawful Kind.Get get_form
get_lawful = looks_lawful Kind.Get (λ consumer asked answer. GetReply consumer asked.0 asked.1 answer) true
    (λ consumer asked one other typed is also. one_get consumer asked.0 asked.1 one other typed is also)
    (λ consumer asked answer is. get_unpublished consumer asked.0 asked.1 answer is)
    (λ can machine fresh chain sound of afresh asked answer is. get_afresh machine fresh chain sound of afresh asked.0 asked.1 answer is)

pub find_lawful : IsLawful Kind.Find find_form
find_lawful = looks_lawful Kind.Find (λ consumer asked answer. FindReply consumer asked.0 (texts_of_array asked.1) asked.2 answer) true
    (λ consumer asked one other typed is also. one_find consumer asked.0 (texts_of_array asked.1) asked.2 one other typed is also)
    (λ consumer asked answer is. find_unpublished consumer asked.0 (texts_of_array asked.1) asked.2 answer is)
    (λ can machine fresh chain sound of afresh asked answer is. find_afresh machine fresh chain sound of afresh asked.0 (texts_of_array asked.1) asked.2 answer is)
