-- What the calls of a bank answer. The conditions of a call are tried in the order written; the first that holds gives the refusal.
use Rattle.std.specs.Prelude.{ℕ, ◌*◌, if◌then◌else◌, ◌||◌, is_ok, length, slice_get, ok_or, Ok, Err, Result, nat_le, nat_lt}
use Rattle.bank.specs.Meaning.{queues_of, places_of, queue}
use Rattle.bank.specs.declared.queues.Bank.{Bank}
use Rattle.bank.specs.declared.refusals.Refusal.{Refusal}
use Rattle.bank.specs.declared.refusals.Refusal.TheVariants.{Queues, Places, Memory, NoQueue, Full, Empty}

-- each refusal's number, each layer's by a table of its own
abbrev pub number : Refusal → ℕ
number Queues = 1
number Places = 2
number Memory = 3
number NoQueue = 4
number Full = 6
number Empty = 7

-- what `check` answers, each layer's by a table of its own: of a memory of `len` records
abbrev pub check_answer : ℕ → ℕ → ℕ → Result (Unit {0}) Refusal
check_answer len queues places =
    if nat_lt queues 1 || nat_lt 132 queues then Err Queues
    else if nat_lt places 1 || nat_lt 1024 places then Err Places
    else if nat_lt len (queues * places) then Err Memory
    else Ok tt

-- what is made of a number that was asked for: none from what the check refuses
abbrev pub made : {E : Type 0} → Result (Unit {0}) E → ℕ → ℕ
made answer n = if is_ok answer then n else 0

module _ {T : Type 0} where
  -- the answer r of a call on queue q, unless there is no such queue
  abbrev pub on_queue : {X : Type 0} → Bank T → ℕ → Result X Refusal → Result X Refusal
  on_queue b q r = if nat_le (queues_of b) q then Err NoQueue else r

  -- what a put in queue q answers
  abbrev pub put_answer : Bank T → ℕ → Result (Unit {0}) Refusal
  put_answer b q = on_queue b q (if nat_le (places_of b) (length (queue b q)) then Err Full else Ok tt)

  -- what a take from queue q answers: the oldest, if there is one
  abbrev pub take_answer : Bank T → ℕ → Result T Refusal
  take_answer b q = on_queue b q (ok_or (slice_get (queue b q) 0) Empty)

  -- what a count of queue q answers
  abbrev pub count_answer : Bank T → ℕ → Result ℕ Refusal
  count_answer b q = on_queue b q (Ok (length (queue b q)))
