-- Places of a memory, and what stands at them.
use Rattle.std.proofs.Common.{◌≡◌, ℕ, zero, suc, ◌+◌, ◌-◌, ◌*◌, ◌/◌, ◌%◌, ◌<◌, ◌≤◌, ◌≢◌, ◌⊎◌, List, [], ◌∷◌, ◌++◌, length, get_or, take, drop, set, sym, refl, ap, ◌∙◌, inl, inr, ⊎_elim, append_assoc, mod-lt, mod-eq_of_lt, mul_comm, arith, length-append, length-set, drop-cons, get_or-set_same}
use native.Mathlib.Nat.{mod-eq-sub-mod, mod-add-mod}
use Rattle.std.proofs.lemmas.List.{append-nil}
use Rattle.std.proofs.lemmas.Nat.{mul-add-lt, div-mul-add}
use Rattle.std.proofs.lemmas.Bool.{cases_lt}
use Rattle.bank.specs.Cells.{cells, place}

-- ---- one place of a list
module _ {T : Type 0} where
  one_other : (xs : List T) (i j : ℕ) (x : T) → j ≢ i → take 1 (drop j (set xs i x)) ≡ take 1 (drop j xs)
  one_other [] i j x ne = refl
  one_other (y ∷ ys) zero zero x ne = absurd (ne refl)
  one_other (y ∷ ys) zero (suc j) x ne = refl
  one_other (y ∷ ys) (suc i) zero x ne = refl
  one_other (y ∷ ys) (suc i) (suc j) x ne = one_other ys i j x (λ e. ne (ap suc e))

  pub one_is : (xs : List T) (j : ℕ) (d : T) → j < length xs → take 1 (drop j xs) ≡ get_or xs j d ∷ []
  one_is xs j d h = ap (take 1) (drop-cons xs j d h)

  pub one_set : (xs : List T) (j : ℕ) (x : T) → j < length xs → take 1 (drop j (set xs j x)) ≡ x ∷ []
  one_set xs j x h =
      let l : j < length (set xs j x) = simp length-set (omega arith) in
      one_is (set xs j x) j x l ∙ ap (λ y. y ∷ []) (get_or-set_same xs j x x h)

-- ---- the cells at several places
module _ {T : Type 0} where
  -- a write at another place leaves them
  pub cells-set : (xs : List T) (f : ℕ → ℕ) (n i : ℕ) (x : T) → ((k : ℕ) → k < n → f k ≢ i) → cells (set xs i x) f n ≡ cells xs f n
  unfolding cells
  cells-set xs f zero i x h = refl
  cells-set xs f (suc n) i x h =
      let a = cells-set xs f n i x (λ k l. h k (omega arith)) in
      let b = one_other xs i (f n) x (h n (omega arith)) in cc

  pub cells_ext : (xs : List T) (f g : ℕ → ℕ) (n : ℕ) → ((k : ℕ) → k < n → f k ≡ g k) → cells xs f n ≡ cells xs g n
  unfolding cells
  cells_ext xs f g zero h = refl
  cells_ext xs f g (suc n) h =
      let a = cells_ext xs f g n (λ k l. h k (omega arith)) in
      let b = h n (omega arith) in cc

  -- the first of them, and the others
  pub cells_head : (xs : List T) (f : ℕ → ℕ) (n : ℕ) → cells xs f (suc n) ≡ take 1 (drop (f 0) xs) ++ cells xs (λ k. f (suc k)) n
  unfolding cells
  cells_head xs f zero = sym (append-nil (take 1 (drop (f 0) xs)))
  cells_head xs f (suc n) =
      ap (λ r. r ++ take 1 (drop (f (suc n)) xs)) (cells_head xs f n)
      ∙ append_assoc (take 1 (drop (f 0) xs)) (cells xs (λ k. f (suc k)) n) (take 1 (drop (f (suc n)) xs))

  pub length-cells : (xs : List T) (f : ℕ → ℕ) (n : ℕ) → ((k : ℕ) → k < n → f k < length xs) → length (cells xs f n) ≡ n
  unfolding cells
  length-cells xs f zero h = refl
  length-cells [] f (suc n) h = let z : f n < 0 = h n (omega arith) in omega arith
  length-cells (y ∷ ys) f (suc n) h =
      let a = length-cells (y ∷ ys) f n (λ k l. h k (omega arith)) in
      let b : length (take 1 (drop (f n) (y ∷ ys))) ≡ 1 = ap length (one_is (y ∷ ys) (f n) y (h n (omega arith))) in
      simp length-append (omega arith)

-- ---- the places of a queue
-- one step round a ring of p places
wrap : (p a k : ℕ) → a < p → k < p → (((a + k) % p ≡ a + k) × (a + k < p)) ⊎ (((a + k) % p ≡ (a + k) - p) × (p ≤ a + k))
wrap p a k ha hk =
    ⊎_elim (λ l. inl (mod-eq_of_lt l, l)) (λ l. let m : (a + k) - p < p = omega arith in inr (mod-eq-sub-mod l ∙ mod-eq_of_lt m, l)) (cases_lt (a + k) p)

apart_low : (p a k n : ℕ) → a < p → k < n → n < p → (a + k) % p ≢ (a + n) % p
apart_low p a k n ha hk hn e =
    ⊎_elim
    (λ u. ⊎_elim (λ v. omega (arith, u.0, v.0, e, u.1, v.1)) (λ v. omega (arith, u.0, v.0, e, u.1, v.1)) (wrap p a n ha hn))
    (λ u. ⊎_elim (λ v. omega (arith, u.0, v.0, e, u.1, v.1)) (λ v. omega (arith, u.0, v.0, e, u.1, v.1)) (wrap p a n ha hn))
    (wrap p a k ha (omega arith))

-- two records of one queue have two places
pub apart : (p a k n : ℕ) → k < n → n < p → (a + k) % p ≢ (a + n) % p
apart p a k n hk hn e =
    apart_low p (a % p) k n (mod-lt a (omega arith)) hk hn (mod-add-mod a p k ∙ e ∙ sym (mod-add-mod a p n))

pub place_below : (m p q a k n : ℕ) → q < m → 0 < p → m * p ≤ n → place p q a k < n
place_below m p q a k n hq hp hm = omega (arith, mul-add-lt q p ((a + k) % p) m hq (mod-lt (a + k) hp), mul_comm m p)

-- two queues share no place
pub place_other : (p q j a b k l : ℕ) → 0 < p → j ≢ q → place p j a k ≢ place p q b l
place_other p q j a b k l hp ne e =
    ne (sym (div-mul-add j p ((a + k) % p) (mod-lt (a + k) hp)) ∙ ap (λ x. x / p) e ∙ div-mul-add q p ((b + l) % p) (mod-lt (b + l) hp))

pub place_next : (p q a k : ℕ) → place p q ((a + 1) % p) k ≡ place p q a (suc k)
place_next p q a k = ap (λ r. q * p + r) (mod-add-mod (a + 1) p k ∙ ap (λ r. r % p) (omega arith))
