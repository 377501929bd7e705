use Rattle.producer_orders.specs.Asked.{adding_of}
use Rattle.producer_orders.proofs.Makings.{is_made}
use Rattle.producer_orders.proofs.make.make_state.Goals as goal

pub returns-clause-tells : goal.returns-clause-tells
returns-clause-tells c =
    is_made c.args.producer.now c.take_records.new.producer c.close.new.self (adding_of c.args.records.now) c.in_ok-closed.closed
    c.take_records.ensures.kept c.in_ok-closed.ensures.ok c.in_ok-take_records.ensures.tells c.in_ok-closed.ensures.changed
    c.in_ok-closed.ensures.first c.in_ok-closed.ensures.over c.in_ok-closed.ensures.measured c.previous-previous.ensures.closed.fits.types c.current-current.ensures.closed.fits.types
