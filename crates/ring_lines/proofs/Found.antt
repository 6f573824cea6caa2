-- What a call on the queue of a line makes of the lines.
use Rattle.std.proofs.Common.{◌≡◌, ℕ, Bool, ◌||◌, is_ok, ◌-◌, ◌*◌, ◌≤◌, true, false, cond, drop, eqb, leb, List, [], ◌∷◌, ◌++◌, length, Ok, Err, Result, sym, refl, ap, ◌∙◌, subst, arith}
use Rattle.std.proofs.lemmas.Bool.{lt-leb, cond-true}
use Rattle.std.proofs.lemmas.Result.{err_from_is_err_and}
use Rattle.std.proofs.Math.Bridge.{le_prop}
use Rattle.std.proofs.Math.Nat.{ℕ_set}
use Rattle.std.specs.Prelude.{ok_or, slice_get}
use Rattle.std.specs.Result.{result_map_both, IsErrAnd, OnErr}
use Rattle.bank.specs.Answers as bank
use Rattle.bank.specs.Changes.{Added, Removed}
use Rattle.bank.specs.Meaning.{queue, queues_of, places_of}
use Rattle.bank.specs.declared.queues.Bank.{Bank}
use Rattle.bank.specs.declared.refusals.Refusal as bank_refusal
use Rattle.bank.specs.declared.refusals.Refusal.TheVariants as queues
use Rattle.exchange.specs.Lines.{Lines, with_line, with_put, with_take, two_bays}
use Rattle.exchange.specs.Answers.{on_line, put_answer, take_answer, count_answer, line_refusal}
use Rattle.exchange.specs.declared.lines.Line.{Line}
use Rattle.exchange.specs.declared.refusals.Refusal.{Refusal}
use Rattle.exchange.specs.declared.refusals.Refusal.TheVariants.{NoBay, SameBay, Full, Empty}
use Rattle.exchange.proofs.OnLine.{joins_answers, answered, lines_ext}
use Rattle.ring_lines.specs.Meaning.{queue_of, ring_lines}
use Rattle.ring_lines.specs.declared.lines.RingLines.{RingLines}
use Rattle.ring_lines.specs.declared.lines.TheConstants.{MOST_BAYS}
use Rattle.ring_lines.proofs.Pairs.{pair, queue_below, one_line}

-- the bank's answer, with its refusal under the name that it has on a line
abbrev pub line_answer : {X : Type 0} → Result X bank_refusal.Refusal → Result X Refusal
line_answer r = result_map_both (λ x. x) line_refusal r

oldest_named : {K : Type 0} (l : List K) → ok_or (slice_get l 0) Empty ≡ line_answer (ok_or (slice_get l 0) queues.Empty)
oldest_named [] = refl
oldest_named (x ∷ xs) = refl

-- what `?` makes of an answer of the bank that is a refusal
pub refused : {X : Type 0} (result answer : Result X Refusal) (made : Result X bank_refusal.Refusal) (e : bank_refusal.Refusal) → IsErrAnd result (λ r. r ≡ line_refusal e) → answer ≡ line_answer made → made ≡ Err e → result ≡ answer
refused result answer made e h is was =
    let p = err_from_is_err_and result h in rw (p.1, p.2) (sym (is ∙ ap line_answer was))

-- ring lines are known by their bank and their number of bays
pub unmoved : {K : Type 0} (x : RingLines K) (b : Bank K) → b ≡ x.bank → (few : x.bays ≤ MOST_BAYS) (pairs : queues_of b ≡ x.bays * (x.bays - 1)) → record { bank = b; bays = x.bays; few = few; pairs = pairs } ≡ x
unmoved {K} x b e =
    let P : Bank K → Type 0 = λ y. (few : x.bays ≤ MOST_BAYS) (pairs : queues_of y ≡ x.bays * (x.bays - 1)) → record { bank = y; bays = x.bays; few = few; pairs = pairs } ≡ x in
    subst P (sym e) (λ h p i. record { bank = x.bank; bays = x.bays; few = le_prop h x.few i; pairs = ℕ_set _ _ p x.pairs i })

-- what a call leaves whose bank is as it was
pub kept : {K X : Type 0} (result : Result X Refusal) (x : RingLines K) (b : Bank K) (few : x.bays ≤ MOST_BAYS) (pairs : queues_of b ≡ x.bays * (x.bays - 1)) → b ≡ x.bank → OnErr result (record { bank = b; bays = x.bays; few = few; pairs = pairs } ≡ x)
kept (Ok y) x b few pairs e = tt
kept (Err y) x b few pairs e = unmoved x b e few pairs

-- a call that finds its line finds the queue of that line
finds : (s t : Bool) (q : ℕ) → is_ok {E = Refusal} (cond s (Err NoBay) (cond t (Err SameBay) (Ok q))) ≡ true → cond s (Err NoBay) (cond t (Err SameBay) (Ok q)) ≡ Ok q
finds true t q e = cc
finds false true q e = cc
finds false false q e = refl

-- ---- the queue q was found for a line
module _ {K : Type 0} (x : RingLines K) (line : Line) (q : ℕ) (found : on_line (ring_lines x) line (Ok (queue_of x.bays line)) ≡ Ok q) where
  pub leads : two_bays x.bays line ≡ true
  leads = (answered (ring_lines x) line (Ok (queue_of x.bays line)) q found).joins

  pub place : queue_of x.bays line ≡ q
  place = let e = (answered (ring_lines x) line (Ok (queue_of x.bays line)) q found).is in cc

  pub inside : leb (queues_of x.bank) q ≡ false
  inside =
      let below = queue_below x.bays line (pair x.bays line leads) in
      let e = place in
      let all = x.pairs in
      lt-leb (queues_of x.bank) q (omega arith)

  pub here : (ring_lines x).at line ≡ queue x.bank q
  here = cond-true (two_bays x.bays line) (queue x.bank (queue_of x.bays line)) [] leads ∙ ap (queue x.bank) place

  pub put_is : put_answer (ring_lines x) line ≡ line_answer (bank.put_answer x.bank q)
  put_is =
      joins_answers (ring_lines x) line (cond (leb (places_of x.bank) (length ((ring_lines x).at line))) (Err Full) (Ok tt)) leads
      ∙ ap (λ l. cond (leb (places_of x.bank) (length l)) (Err Full) (Ok tt)) here
      ∙ rw inside
      (elim (leb (places_of x.bank) (length (queue x.bank q))) as
      (λ t. cond t (Err Full) (Ok (tt {0})) ≡ line_answer (cond t (Err queues.Full) (Ok (tt {0}))))
      [ true ↦ refl | false ↦ refl ])

  pub take_is : take_answer (ring_lines x) line ≡ line_answer (bank.take_answer x.bank q)
  take_is =
      joins_answers (ring_lines x) line (ok_or (slice_get ((ring_lines x).at line) 0) Empty) leads
      ∙ ap (λ l. ok_or (slice_get l 0) Empty) here
      ∙ rw inside (oldest_named (queue x.bank q))

  pub count_is : count_answer (ring_lines x) line ≡ line_answer (bank.count_answer x.bank q)
  count_is =
      joins_answers (ring_lines x) line (Ok (length ((ring_lines x).at line))) leads
      ∙ ap (λ l. Ok (length l)) here
      ∙ rw inside

  -- the lines after a call that changed one queue of the bank
  pub changed : (b : Bank K) (f : List K → List K) → places_of b ≡ places_of x.bank → ((k : ℕ) → queue b k ≡ cond (eqb k q) (f (queue x.bank q)) (queue x.bank k)) → record { bays = x.bays; places = places_of b; at = λ a. cond (two_bays x.bays a) (queue b (queue_of x.bays a)) [] } ≡ with_line (ring_lines x) line (f ((ring_lines x).at line))
  changed b f places lists =
      lines_ext _ _ refl places
      (one_line x.bays (queue x.bank) (queue b) line f leads
      (λ k. let P : ℕ → Type 0 = λ w. queue b k ≡ cond (eqb k w) (f (queue x.bank w)) (queue x.bank k) in subst P (sym place) (lists k)))

-- ---- and after a put or a take that the bank accepted
-- the lines of the same bays on the bank b
abbrev lines_on : {K : Type 0} → RingLines K → Bank K → Lines K
lines_on x b = record { bays = x.bays; places = places_of b; at = λ a. cond (two_bays x.bays a) (queue b (queue_of x.bays a)) [] }

module _ {K : Type 0} (x : RingLines K) (line : Line) (b : Bank K) (there : is_ok (on_line (ring_lines x) line (Ok (queue_of x.bays line))) ≡ true) where
  found : on_line (ring_lines x) line (Ok (queue_of x.bays line)) ≡ Ok (queue_of x.bays line)
  found = finds (leb x.bays line.from || leb x.bays line.to) (eqb line.from line.to) (queue_of x.bays line) there

  pub added : (m : K) → Added x.bank b (queue_of x.bays line) m → lines_on x b ≡ with_put (ring_lines x) line m
  added m made = changed x line (queue_of x.bays line) found b (λ l. l ++ m ∷ []) made.changes.places made.changes.lists

  pub removed : Removed x.bank b (queue_of x.bays line) → lines_on x b ≡ with_take (ring_lines x) line
  removed made = changed x line (queue_of x.bays line) found b (drop 1) made.changes.places made.changes.lists
