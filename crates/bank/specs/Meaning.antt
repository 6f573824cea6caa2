-- What a bank stands for: a number of queues, a number of places in each, and the list of each queue.
use Rattle.std.specs.Prelude.{ℕ, ◌<◌, ◌≢◌, List, length}
use Rattle.bank.specs.Cells.{place}
use Rattle.bank.specs.Rings.{ring_of, list_in}
use Rattle.bank.specs.declared.queues.Bank.{Bank}

module _ {T : Type 0} where
  -- what the borrowed memory holds
  abbrev pub memory_of : Bank T → List T
  memory_of b = b.memory.now

  -- the name of the loan of that memory
  abbrev pub lender_of : Bank T → ℕ
  lender_of b = b.memory.ghost_name

  -- how many queues there are
  abbrev pub queues_of : Bank T → ℕ
  queues_of b = b.queues

  -- how many places each queue has
  abbrev pub places_of : Bank T → ℕ
  places_of b = b.places

  -- the records that wait in queue q, oldest first
  abbrev pub queue : Bank T → ℕ → List T
  queue b q = list_in (memory_of b) (queues_of b) (places_of b) b.rings q

  -- the place of the memory where the k-th record of queue q stands, counted from its oldest
  abbrev pub place_of : Bank T → ℕ → ℕ → ℕ
  place_of b q k = place (places_of b) q (ring_of b.rings q).first k

  -- the place that the next record of queue q goes to
  abbrev pub next_place : Bank T → ℕ → ℕ
  next_place b q = place_of b q (length (queue b q))

  -- no waiting record stands at the place p
  abbrev pub Free : Bank T → ℕ → Type 0
  Free b p = (q k : ℕ) → k < length (queue b q) → place_of b q k ≢ p
