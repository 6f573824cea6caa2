use Rattle.std.proofs.Common.{arith}
use Rattle.relay.proofs.InOrder.{in_order}
use Rattle.relay.proofs.Runs.{underway_none, underway_more, underway_all}
use Rattle.relay.proofs.carrying.carry.Goals as goal

pub loop-entry-init : goal.loop-entry-init
loop-entry-init g c = underway_none _ _

pub loop-entry-preserved : goal.loop-entry-preserved
loop-entry-preserved g c =
    underway_more _ _ _ _ c.loop-entry.log c.loop-entry.entry-index _ c.make.new.self c.loop-entry.invariant (omega arith) c.make.ensures.entry c.make.ensures.lines

pub returns : goal.returns
returns g c =
    let before = g.E.Exchange.lines c.args.exchange.now in
    let after = g.E.Exchange.lines c.loop-entry.exchange in
    let end = underway_all before after c.args.log.now c.loop-entry.log c.loop-entry.entry-index c.loop-entry.invariant (omega arith) in
    record { log = end.0; lines = end.1; in_order = in_order before after c.args.log.now c.loop-entry.log end.0 end.1 }
