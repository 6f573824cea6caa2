-- What a write and a step of a ring make of the lists of the queues.
use Rattle.std.proofs.Common.{◌≡◌, ℕ, zero, suc, ◌+◌, ◌-◌, ◌*◌, ◌%◌, ◌<◌, ◌≤◌, min, cond, eqb, ◌≢◌, List, [], ◌∷◌, ◌++◌, length, get_or, take, drop, set, replicate, sym, refl, ap, ◌∙◌, subst, ⊎_elim, arith, get_or-set_other, get_or-set_same}
use Rattle.std.proofs.lemmas.Bool.{lt-ltb, le-ltb, eq-eqb, ne_eqb, cases_eq, cases_lt}
use Rattle.bank.specs.Cells.{cells, place}
use Rattle.bank.specs.Rings.{ring_of, list_in}
use Rattle.bank.specs.declared.rings.Ring.{Ring}
use Rattle.bank.proofs.Cells.{one_is, one_set, cells-set, cells_ext, cells_head, length-cells, apart, place_below, place_other, place_next}

abbrev pub ring : ℕ → ℕ → Ring
ring first waiting = record { first = first; waiting = waiting }

pub ring_same : (rings : List Ring) (q : ℕ) (x : Ring) → q < length rings → ring_of (set rings q x) q ≡ x
ring_same rings q x h = get_or-set_same rings q x (ring 0 0) h

pub ring_other : (rings : List Ring) (q j : ℕ) (x : Ring) → j ≢ q → ring_of (set rings q x) j ≡ ring_of rings j
ring_other rings q j x ne = get_or-set_other rings q j x (ring 0 0) ne

-- a new table of rings has nothing waiting
pub rings_new : (r : Ring) → r.waiting ≡ 0 → (n q : ℕ) → (ring_of (replicate n r) q).waiting ≡ 0
rings_new r e zero q = refl
rings_new r e (suc n) zero = e
rings_new r e (suc n) (suc q) = rings_new r e n q

-- a ring that is replaced by one with few enough records leaves all of them so
pub short_set : (rings : List Ring) (places q : ℕ) (x : Ring) → q < length rings → x.waiting ≤ places → ((j : ℕ) → (ring_of rings j).waiting ≤ places) → (j : ℕ) → (ring_of (set rings q x) j).waiting ≤ places
short_set rings places q x hr hx h j =
    ⊎_elim
    (λ e. let P : ℕ → Type 0 = λ i. (ring_of (set rings q x) i).waiting ≤ places in subst P (sym e) (rw (ring_same rings q x hr) hx))
    (λ ne. rw (ring_other rings q j x ne) (h j))
    (cases_eq j q)

-- ---- the list of one queue
module _ {T : Type 0} (memory : List T) (queues places : ℕ) (rings : List Ring) where
  pub list_at : (q n : ℕ) → q < queues → n ≡ min (ring_of rings q).waiting places → list_in memory queues places rings q ≡ cells memory (place places q (ring_of rings q).first) n
  unfolding list_in
  list_at q n h e = rw (lt-ltb q queues h, e)

  pub list_past : (q : ℕ) → queues ≤ q → list_in memory queues places rings q ≡ []
  unfolding list_in
  list_past q h = rw (le-ltb q queues h)

  pub list_none : (q : ℕ) → (ring_of rings q).waiting ≡ 0 → list_in memory queues places rings q ≡ []
  unfolding cells
  list_none q e = ⊎_elim (λ l. list_at q 0 l (omega arith)) (λ l. list_past q l) (cases_lt q queues)

  pub length_list : (q n : ℕ) → q < queues → n ≡ min (ring_of rings q).waiting places → queues * places ≤ length memory → length (list_in memory queues places rings q) ≡ n
  length_list q n h e hm =
      ap length (list_at q n h e)
      ∙ length-cells memory (place places q (ring_of rings q).first) n (λ k l. place_below queues places q (ring_of rings q).first k (length memory) h (omega arith) hm)

-- ---- a put and a take on queue q, in which n records wait
module _ {T : Type 0} (memory : List T) (queues places : ℕ) (rings : List Ring) (q n : ℕ) (hq : q < queues) (en : n ≡ min (ring_of rings q).waiting places) (hm : queues * places ≤ length memory) (hr : q < length rings) where
  pub put_same : (x : T) → n < places → list_in (set memory (place places q (ring_of rings q).first n) x) queues places (set rings q (ring (ring_of rings q).first (n + 1))) q ≡ list_in memory queues places rings q ++ x ∷ []
  unfolding cells
  put_same x hn =
      let a = (ring_of rings q).first in
      let f = place places q a in
      let rings' = set rings q (ring a (n + 1)) in
      let same : ring_of rings' q ≡ ring a (n + 1) = ring_same rings q (ring a (n + 1)) hr in
      let more : suc n ≡ min (ring_of rings' q).waiting places = omega (arith, ap (λ r. r.waiting) same) in
      list_at (set memory (f n) x) queues places rings' q (suc n) hq more
      ∙ ap (λ r. cells (set memory (f n) x) (place places q r.first) (suc n)) same
      ∙ ap (λ r. r ++ take 1 (drop (f n) (set memory (f n) x))) (cells-set memory f n (f n) x (λ k l e. apart places a k n l hn (omega (arith, e))))
      ∙ ap (λ r. cells memory f n ++ r) (one_set memory (f n) x (place_below queues places q a n (length memory) hq (omega arith) hm))
      ∙ ap (λ r. r ++ x ∷ []) (sym (list_at memory queues places rings q n hq en))

  put_other : (x : T) (r : Ring) (j k : ℕ) → 0 < places → j ≢ q → list_in (set memory (place places q (ring_of rings q).first k) x) queues places (set rings q r) j ≡ list_in memory queues places rings j
  unfolding list_in
  put_other x r j k hp ne =
      let a = ring_other rings q j r ne in
      let b = cells-set memory (place places j (ring_of rings j).first) (min (ring_of rings j).waiting places) (place places q (ring_of rings q).first k) x (λ i l. place_other places q j (ring_of rings j).first (ring_of rings q).first i k hp ne) in
      rw a (rw b)

  -- one record more, behind the others of queue q
  pub list_put : (x : T) (j : ℕ) → n < places → list_in (set memory (place places q (ring_of rings q).first n) x) queues places (set rings q (ring (ring_of rings q).first (n + 1))) j ≡ cond (eqb j q) (list_in memory queues places rings q ++ x ∷ []) (list_in memory queues places rings j)
  list_put x j hn =
      ⊎_elim
      (λ e. rw (eq-eqb j q e) (let P : ℕ → Type 0 = λ i. list_in (set memory (place places q (ring_of rings q).first n) x) queues places (set rings q (ring (ring_of rings q).first (n + 1))) i ≡ list_in memory queues places rings q ++ x ∷ [] in subst P (sym e) (put_same x hn)))
      (λ ne. rw (ne_eqb j q ne) (put_other x (ring (ring_of rings q).first (n + 1)) j n (omega arith) ne))
      (cases_eq j q)

  -- the oldest record of queue q, and the others
  pub list_split : (x : T) → 0 < n → x ≡ get_or memory (place places q (ring_of rings q).first 0) x → list_in memory queues places rings q ≡ x ∷ cells memory (place places q (((ring_of rings q).first + 1) % places)) (n - 1)
  list_split x hn is =
      let a = (ring_of rings q).first in
      let f = place places q a in
      let others = λ (k : ℕ). f (suc k) in
      let m : n ≡ suc (n - 1) = omega arith in
      list_at memory queues places rings q n hq en
      ∙ ap (cells memory f) m
      ∙ cells_head memory f (n - 1)
      ∙ ap (λ u. u ++ cells memory others (n - 1)) (one_is memory (f 0) x (place_below queues places q a 0 (length memory) hq (omega arith) hm))
      ∙ ap (λ y. y ∷ cells memory others (n - 1)) (sym is)
      ∙ ap (λ u. x ∷ u) (cells_ext memory others (place places q ((a + 1) % places)) (n - 1) (λ k l. sym (place_next places q a k)))

  -- the oldest record of queue q less
  pub list_take : (x : T) (j : ℕ) → 0 < n → x ≡ get_or memory (place places q (ring_of rings q).first 0) x → list_in memory queues places (set rings q (ring (((ring_of rings q).first + 1) % places) (n - 1))) j ≡ cond (eqb j q) (drop 1 (list_in memory queues places rings q)) (list_in memory queues places rings j)
  unfolding list_in
  list_take x j hn is =
      let b = ((ring_of rings q).first + 1) % places in
      let rings' = set rings q (ring b (n - 1)) in
      let same : ring_of rings' q ≡ ring b (n - 1) = ring_same rings q (ring b (n - 1)) hr in
      ⊎_elim
      (λ e. rw (eq-eqb j q e)
      (let P : ℕ → Type 0 = λ i. list_in memory queues places rings' i ≡ drop 1 (list_in memory queues places rings q) in
      subst P (sym e)
      (list_at memory queues places rings' q (n - 1) hq (omega (arith, ap (λ r. r.waiting) same))
      ∙ ap (λ r. cells memory (place places q r.first) (n - 1)) same
      ∙ sym (ap (drop 1) (list_split x hn is)))))
      (λ ne. rw (ne_eqb j q ne, ring_other rings q j (ring b (n - 1)) ne))
      (cases_eq j q)

-- the place behind the newest record of queue q holds no waiting record of any queue
module _ {T : Type 0} (memory : List T) (queues places : ℕ) (rings : List Ring) (q n : ℕ) (en : n ≡ length (list_in memory queues places rings q)) (hn : n < places) where
  pub next_free : (j k : ℕ) → k < length (list_in memory queues places rings j) → place places j (ring_of rings j).first k ≢ place places q (ring_of rings q).first n
  next_free j k hk =
      ⊎_elim
      (λ e.
      let P : ℕ → Type 0 = λ i. k < length (list_in memory queues places rings i) → place places i (ring_of rings i).first k ≢ place places q (ring_of rings q).first n in
      subst P (sym e) (λ l z. apart places (ring_of rings q).first k n (omega arith) hn (omega (arith, z))) hk)
      (λ ne. place_other places q j (ring_of rings j).first (ring_of rings q).first k n (omega arith) ne)
      (cases_eq j q)
