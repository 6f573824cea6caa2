-- What the calls of an exchange answer. The conditions of a call are tried in the order written; the first that holds gives the refusal.
use Rattle.std.specs.Prelude.{ℕ, ◌-◌, ◌*◌, if◌then◌else◌, ◌||◌, length, slice_get, ok_or, Ok, Err, Result, ◌==◌, nat_le, nat_lt}
use Rattle.bank.specs.declared.refusals.Refusal as bank
use Rattle.bank.specs.declared.refusals.Refusal.TheVariants as queues
use Rattle.exchange.specs.Lines.{Lines}
use Rattle.exchange.specs.declared.lines.Line.{Line}
use Rattle.exchange.specs.declared.refusals.Refusal.{Refusal}
use Rattle.exchange.specs.declared.refusals.Refusal.TheVariants.{Bays, Places, Memory, NoBay, SameBay, Full, Empty}

-- each refusal's number, each layer's by a table of its own
abbrev pub number : Refusal → ℕ
number Bays = 1
number Places = 2
number Memory = 3
number NoBay = 4
number SameBay = 5
number Full = 6
number Empty = 7

-- what the refusal of a bank is called where its queues are lines
abbrev pub line_refusal : bank.Refusal → Refusal
line_refusal queues.Queues = Bays
line_refusal queues.Places = Places
line_refusal queues.Memory = Memory
line_refusal queues.NoQueue = NoBay
line_refusal queues.Full = Full
line_refusal queues.Empty = Empty

-- what the check before a making of lines answers, of a memory of `len` records. It stands beside the bank's, since it is that of exchanges on no bank too
abbrev pub check_answer : ℕ → ℕ → ℕ → Result (Unit {0}) Refusal
check_answer len bays places =
    if nat_lt bays 2 || nat_lt 12 bays then Err Bays
    else if nat_lt places 1 || nat_lt 1024 places then Err Places
    else if nat_lt len (bays * (bays - 1) * places) then Err Memory
    else Ok tt

module _ {K : Type 0} where
  -- the answer r of a call on a line, unless there is no such line
  abbrev pub on_line : {X : Type 0} → Lines K → Line → Result X Refusal → Result X Refusal
  on_line l line r =
      if nat_le l.bays line.from || nat_le l.bays line.to then Err NoBay
      else if line.from == line.to then Err SameBay
      else r

  -- what a put on a line answers
  abbrev pub put_answer : Lines K → Line → Result (Unit {0}) Refusal
  put_answer l line = on_line l line (if nat_le l.places (length (l.at line)) then Err Full else Ok tt)

  -- what a take from it answers: the oldest, if there is one
  abbrev pub take_answer : Lines K → Line → Result K Refusal
  take_answer l line = on_line l line (ok_or (slice_get (l.at line) 0) Empty)

  -- what a count of it answers
  abbrev pub count_answer : Lines K → Line → Result ℕ Refusal
  count_answer l line = on_line l line (Ok (length (l.at line)))
