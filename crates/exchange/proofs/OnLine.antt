-- Lines that are equal, and calls on a line that there is.
use Rattle.std.proofs.Common.{◌≡◌, ℕ, Bool, true, false, cond, ◌||◌, eqb, leb, ◌≢◌, Ok, Err, Result, refl, subst, arith}
use Rattle.std.proofs.lemmas.Bool.{and_parts, eqb-true, eq-eqb}
use Rattle.std.proofs.lemmas.Bool.Decides.{nat_tests}
use Rattle.exchange.specs.Lines.{Lines, same_line, two_bays, joins}
use Rattle.exchange.specs.Answers.{on_line}
use Rattle.exchange.specs.declared.lines.Line.{Line}
use Rattle.exchange.specs.declared.refusals.Refusal.{Refusal}
use Rattle.exchange.specs.declared.refusals.Refusal.TheVariants.{NoBay, SameBay}

-- ---- equal lines
pub line_ext : (a b : Line) → a.from ≡ b.from → a.to ≡ b.to → a ≡ b
line_ext a b p q = λ i. record { from = p i; to = q i }

pub same_line-true : (a b : Line) → same_line a b ≡ true → a ≡ b
same_line-true a b e =
    let p = and_parts (eqb a.from b.from) (eqb a.to b.to) e in
    line_ext a b (eqb-true a.from b.from p.0) (eqb-true a.to b.to p.1)

pub same_line-refl : (a : Line) → same_line a a ≡ true
same_line-refl a = rw (eq-eqb a.from a.from refl, eq-eqb a.to a.to refl)

pub same_line-false : (a b : Line) → same_line a b ≡ false → a ≢ b
same_line-false a b e z = let t : same_line b b ≡ false = subst (λ x. same_line x b ≡ false) z e in let s = same_line-refl b in cc

-- ---- what a line that there is answers
-- where a line leads, neither condition of `on_line` holds
record Tests (n i j : ℕ) : Type 0 where
  pub bays : (leb n i || leb n j) ≡ false
  pub apart : eqb i j ≡ false

tests : (n : ℕ) (line : Line) → two_bays n line ≡ true → Tests n line.from line.to
tests n line e = record { bays = grind (arith, nat_tests); apart = grind (arith, nat_tests) }

pub joins_answers : {K X : Type 0} (l : Lines K) (line : Line) (r : Result X Refusal) → joins l line ≡ true → on_line l line r ≡ r
joins_answers l line r e = let t = tests l.bays line e in rw (t.bays, t.apart)

-- lines with the same parts are the same
pub lines_ext : {K : Type 0} (l r : Lines K) → l.bays ≡ r.bays → l.places ≡ r.places → ((line : Line) → l.at line ≡ r.at line) → l ≡ r
lines_ext l r p q h = λ i. record { bays = p i; places = q i; at = λ line. h line i }

-- a call that is not refused is made on a line that there is, and not refused there
pub record Answered {K X : Type 0} (l : Lines K) (line : Line) (r : Result X Refusal) (x : X) : Type 0 where
  pub joins : joins l line ≡ true
  pub is : r ≡ Ok x

neither : {X : Type 0} (s t : Bool) (r : Result X Refusal) (x : X) → cond s (Err NoBay) (cond t (Err SameBay) r) ≡ Ok x → (s ≡ false) × ((t ≡ false) × (r ≡ Ok x))
neither true t r x e = cc
neither false true r x e = cc
neither false false r x e = (refl, (refl, e))

pub answered : {K X : Type 0} (l : Lines K) (line : Line) (r : Result X Refusal) (x : X) → on_line l line r ≡ Ok x → Answered l line r x
answered l line r x e =
    let p = neither (leb l.bays line.from || leb l.bays line.to) (eqb line.from line.to) r x e in
    let bays = p.0 in
    let apart = p.1.0 in
    record { joins = grind (arith, nat_tests); is = p.1.1 }
