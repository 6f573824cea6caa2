-- What ring lines stand for.
use Rattle.std.specs.Prelude.{ℕ, ◌+◌, ◌-◌, ◌*◌, if◌then◌else◌, [], nat_lt}
use Rattle.bank.specs.Meaning.{queue, places_of}
use Rattle.bank.specs.declared.queues.Bank.{Bank}
use Rattle.exchange.specs.Lines.{Lines, two_bays}
use Rattle.exchange.specs.declared.lines.Line.{Line}
use Rattle.ring_lines.specs.declared.lines.RingLines.{RingLines}

-- the queue of a line among n bays: by sender, then by receiver, leaving out the sender itself
abbrev pub queue_of : ℕ → Line → ℕ
queue_of n line = line.from * (n - 1) + (if nat_lt line.to line.from then line.to else line.to - 1)

-- the bank that they stand on
abbrev pub bank_of : {K : Type 0} → RingLines K → Bank K
bank_of x = x.bank

-- the lines: each has the list of its queue
abbrev pub ring_lines : {K : Type 0} → RingLines K → Lines K
ring_lines x =
    record {
      bays = x.bays;
      places = places_of x.bank;
      at = λ line.
          if two_bays x.bays line then queue x.bank (queue_of x.bays line) else [];
    }
