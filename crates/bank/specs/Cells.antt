-- Where the records of a queue stand in the memory.
use Rattle.std.specs.Prelude.{ℕ, zero, suc, ◌+◌, ◌*◌, ◌%◌, List, [], ◌++◌, take, drop}

-- what stands in xs at the places f 0, f 1, .. f (n - 1), in this order; a place past the end of xs has nothing
unfoldable pub cells : {T : Type 0} → List T → (ℕ → ℕ) → ℕ → List T
cells xs f zero = []
cells xs f (suc n) = cells xs f n ++ take 1 (drop (f n) xs)

-- the place of the k-th record of queue q, each queue having `places` places of its own and this one's oldest standing at its place `first`
abbrev pub place : ℕ → ℕ → ℕ → ℕ → ℕ
place places q first k = q * places + (first + k) % places
