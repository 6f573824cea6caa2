-- What an accepted call makes of a bank.
use Rattle.std.specs.Prelude.{◌≡◌, ℕ, if◌then◌else◌, List, [], ◌∷◌, ◌++◌, drop, ◌==◌, slice_set}
use Rattle.bank.specs.Meaning.{lender_of, memory_of, queues_of, places_of, queue, next_place, Free}
use Rattle.bank.specs.declared.queues.Bank.{Bank}

-- b' is b with f of its list in queue q; the numbers, the loan of the memory and all other lists stay
pub record Changes {T : Type 0} (b b' : Bank T) (q : ℕ) (f : List T → List T) : Type 0 where
  pub queues : queues_of b' ≡ queues_of b
  pub places : places_of b' ≡ places_of b
  pub lists : (j : ℕ) → queue b' j ≡ (if j == q then f (queue b q) else queue b j)
  pub lender : lender_of b' ≡ lender_of b

-- b' is b after an accepted put of x in queue q
pub record Added {T : Type 0} (b b' : Bank T) (q : ℕ) (x : T) : Type 0 where
  -- x is the newest of its queue
  pub changes : Changes b b' q (λ l. l ++ x ∷ [])
  -- one place of the memory is written, where nothing waited
  pub memory : memory_of b' ≡ slice_set (memory_of b) (next_place b q) x
  pub free : Free b (next_place b q)

-- b' is b after an accepted take from queue q
pub record Removed {T : Type 0} (b b' : Bank T) (q : ℕ) : Type 0 where
  -- the queue has lost its oldest
  pub changes : Changes b b' q (drop 1)
  -- nothing in the memory is written
  pub memory : memory_of b' ≡ memory_of b
