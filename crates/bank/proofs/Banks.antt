-- What the invariants of a bank tell of its queues.
use Rattle.std.proofs.Common.{◌≡◌, ℕ, ◌<◌, ◌≤◌, length, sym, refl, ap, ⊎_elim, arith}
use Rattle.std.proofs.lemmas.Bool.{cases_lt}
use Rattle.bank.specs.Rings.{ring_of}
use Rattle.bank.specs.Meaning.{memory_of, queues_of, places_of, queue, next_place, Free}
use Rattle.bank.specs.declared.queues.Bank.{Bank}
use Rattle.std.proofs.Math.Nat.{min-eq_left}
use Rattle.bank.proofs.Lists.{length_list, list_past}
use Rattle.bank.proofs.Lists as lists

module _ {T : Type 0} (b : Bank T) where
  pub length_queue : (q : ℕ) → q < queues_of b → length (queue b q) ≡ (ring_of b.rings q).waiting
  length_queue q h = length_list (memory_of b) (queues_of b) (places_of b) b.rings q (ring_of b.rings q).waiting h (sym (min-eq_left (b.short q))) b.room

  -- no queue has more records than places
  pub queue_short : (q : ℕ) → length (queue b q) ≤ places_of b
  queue_short q =
      ⊎_elim
      (λ h. let e = length_queue q h in let s = b.short q in omega arith)
      (λ h. let e = ap length (list_past (memory_of b) (queues_of b) (places_of b) b.rings q h) in omega arith)
      (cases_lt q (queues_of b))

  -- the place behind the newest record of a queue that is not full holds no waiting record of any queue
  pub next_free : (q : ℕ) → length (queue b q) < places_of b → Free b (next_place b q)
  next_free q hn = lists.next_free (memory_of b) (queues_of b) (places_of b) b.rings q (length (queue b q)) refl hn
