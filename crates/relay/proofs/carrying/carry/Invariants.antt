use Rattle.relay.proofs.Runs.{Underway}
use Rattle.relay.proofs.carrying.carry.Given as goal

abbrev pub invariant-loop-entry : goal.invariant-loop-entry
invariant-loop-entry g l =
    Underway (g.E.Exchange.lines l.initial.exchange) (g.E.Exchange.lines l.exchange) l.initial.log l.log l.entry-index
