-- What an exchange stands for, for any kind K of message.
use Rattle.std.specs.Prelude.{ℕ, Bool, if◌then◌else◌, not, ◌&&◌, List, [], ◌∷◌, ◌++◌, drop, ◌==◌, nat_lt}
use Rattle.exchange.specs.declared.lines.Line.{Line}

pub record Lines (K : Type 0) : Type 0 where
  -- how many bays there are
  pub bays : ℕ
  -- how many messages each line has places for
  pub places : ℕ
  -- what waits on each line, oldest first
  pub at : Line → List K

-- the two are one line
abbrev pub same_line : Line → Line → Bool
same_line a b = a.from == b.from && a.to == b.to

-- the line leads from one of n bays to another
abbrev pub two_bays : ℕ → Line → Bool
two_bays n line = nat_lt line.from n && (nat_lt line.to n && not (line.from == line.to))

module _ {K : Type 0} where
  -- there is such a line
  abbrev pub joins : Lines K → Line → Bool
  joins l line = two_bays l.bays line

  -- the lines l, with xs in place of one list
  abbrev pub with_line : Lines K → Line → List K → Lines K
  with_line l line xs = record { bays = l.bays; places = l.places; at = λ a. if same_line a line then xs else l.at a }

  -- after an accepted put: m waits behind the others
  abbrev pub with_put : Lines K → Line → K → Lines K
  with_put l line m = with_line l line (l.at line ++ m ∷ [])

  -- after an accepted take: the oldest is gone
  abbrev pub with_take : Lines K → Line → Lines K
  with_take l line = with_line l line (drop 1 (l.at line))
