-- Each line between two bays has a queue of its own.
use Rattle.std.proofs.Common.{◌≡◌, ℕ, ◌-◌, ◌*◌, ◌/◌, ◌%◌, ◌<◌, true, cond, eqb, ltb, ◌≢◌, List, [], sym, refl, ap, ◌∙◌, subst, ⊎_elim, mul_comm, arith}
use Rattle.std.proofs.lemmas.Nat.{mul-add-lt, div-mul-add, mod-mul-add}
use Rattle.std.proofs.lemmas.Bool.Decides.{nat_tests}
use Rattle.std.proofs.lemmas.Bool.{eq-eqb, ne_eqb, cases_Bool}
use Rattle.exchange.specs.Lines.{same_line, two_bays}
use Rattle.exchange.specs.declared.lines.Line.{Line}
use Rattle.exchange.proofs.OnLine.{line_ext, same_line-true, same_line-false, same_line-refl}
use Rattle.ring_lines.specs.Meaning.{queue_of}

-- the line leads from one of n bays to another
pub record Pair (n : ℕ) (line : Line) : Type 0 where
  pub from : line.from < n
  pub to : line.to < n
  pub apart : line.from ≢ line.to

pub pair : (n : ℕ) (line : Line) → two_bays n line ≡ true → Pair n line
pair n line e = record { from = grind (arith, nat_tests); to = grind (arith, nat_tests); apart = grind (arith, nat_tests) }

-- the receiver's place among the n - 1 others
abbrev column : Line → ℕ
column line = cond (ltb line.to line.from) line.to (line.to - 1)

column_below : (n : ℕ) (line : Line) → Pair n line → column line < n - 1
column_below n line p = grind (arith, nat_tests)

column_same : (a b : Line) → a.from ≢ a.to → b.from ≢ b.to → a.from ≡ b.from → column a ≡ column b → a.to ≡ b.to
column_same a b p r row place = grind (arith, nat_tests)

pub queue_below : (n : ℕ) (line : Line) → Pair n line → queue_of n line < n * (n - 1)
queue_below n line p = omega (arith, mul-add-lt line.from (n - 1) (column line) n p.from (column_below n line p), mul_comm n (n - 1))

-- two lines share no queue
pub queue_same : (n : ℕ) (a b : Line) → Pair n a → Pair n b → queue_of n a ≡ queue_of n b → a ≡ b
queue_same n a b p r e =
    let u = column_below n a p in
    let v = column_below n b r in
    let row : a.from ≡ b.from = sym (div-mul-add a.from (n - 1) (column a) u) ∙ ap (λ x. x / (n - 1)) e ∙ div-mul-add b.from (n - 1) (column b) v in
    let place : column a ≡ column b = sym (mod-mul-add a.from (n - 1) (column a) u) ∙ ap (λ x. x % (n - 1)) e ∙ mod-mul-add b.from (n - 1) (column b) v in
    line_ext a b row (column_same a b p.apart r.apart row place)

-- one queue of a bank changes: so does one line, and no other
module _ {M : Type 0} (n : ℕ) (before after : ℕ → List M) (line : Line) (f : List M → List M) where
  pub one_line : two_bays n line ≡ true → ((q : ℕ) → after q ≡ cond (eqb q (queue_of n line)) (f (before (queue_of n line))) (before q)) → (a : Line) → cond (two_bays n a) (after (queue_of n a)) [] ≡ cond (same_line a line) (f (cond (two_bays n line) (before (queue_of n line)) [])) (cond (two_bays n a) (before (queue_of n a)) [])
  one_line ok h a =
      ⊎_elim
      (λ s.
      let P : Line → Type 0 = λ x. cond (two_bays n x) (after (queue_of n x)) [] ≡ cond (same_line x line) (f (cond (two_bays n line) (before (queue_of n line)) [])) (cond (two_bays n x) (before (queue_of n x)) []) in
      subst P (sym (same_line-true a line s)) (rw (ok, same_line-refl line, h (queue_of n line), eq-eqb (queue_of n line) (queue_of n line) refl)))
      (λ s. rw s
      (⊎_elim
      (λ t. rw (t, h (queue_of n a), ne_eqb (queue_of n a) (queue_of n line) (λ z. same_line-false a line s (queue_same n a line (pair n a t) (pair n line ok) z))))
      (λ t. rw t)
      (cases_Bool (two_bays n a))))
      (cases_Bool (same_line a line))
