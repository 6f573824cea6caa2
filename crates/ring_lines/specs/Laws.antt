-- The laws that every exchange owes, proved of ring lines: no list is longer than its places, and nothing waits where no line leads.
use Rattle.std.specs.Prelude.{◌≡◌, ◌≤◌, false, [], length}
use Rattle.std.proofs.Common.{arith}
use Rattle.std.proofs.lemmas.Bool.{cond-false, cond_both}
use Rattle.bank.specs.Meaning.{queue, places_of}
use Rattle.bank.proofs.Banks.{queue_short}
use Rattle.exchange.specs.Lines.{joins}
use Rattle.exchange.specs.declared.lines.Line.{Line}
use Rattle.ring_lines.specs.Meaning.{queue_of, ring_lines}
use Rattle.ring_lines.specs.declared.lines.RingLines.{RingLines}

pub ring_short : {K : Type 0} (x : RingLines K) (line : Line) → length ((ring_lines x).at line) ≤ (ring_lines x).places
ring_short x line =
    cond_both (joins (ring_lines x) line) (queue x.bank (queue_of x.bays line)) [] (λ l. length l ≤ places_of x.bank) (λ e. queue_short x.bank (queue_of x.bays line)) (λ e. omega arith)

pub ring_outside : {K : Type 0} (x : RingLines K) (line : Line) → joins (ring_lines x) line ≡ false → (ring_lines x).at line ≡ []
ring_outside x line e = cond-false (joins (ring_lines x) line) (queue x.bank (queue_of x.bays line)) [] e
