-- The queues that lie in a memory as rings.
use Rattle.std.specs.Prelude.{ℕ, min, if◌then◌else◌, List, [], nat_lt, slice_index_or}
use Rattle.bank.specs.Cells.{cells, place}
use Rattle.bank.specs.declared.rings.Ring.{Ring}

-- the ring of queue q
abbrev pub ring_of : List Ring → ℕ → Ring
ring_of rings q = slice_index_or rings q (record { first = 0; waiting = 0 })

-- the list of queue q among the first `queues` queues, oldest record first, by the memory and the rings; past them there is nothing.
-- Of parts, not of a bank, since lemmas speak of them half-way through a call
unfoldable pub list_in : {T : Type 0} → List T → ℕ → ℕ → List Ring → ℕ → List T
list_in memory queues places rings q =
    if nat_lt q queues then cells memory (place places q (ring_of rings q).first) (min (ring_of rings q).waiting places) else []
