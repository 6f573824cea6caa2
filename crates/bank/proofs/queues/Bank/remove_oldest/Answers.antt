use Rattle.std.proofs.Common.{◌≡◌, ◌<◌, get_or, Some, sym, refl, ap, ◌∙◌, arith, rules}
use Rattle.std.proofs.Math.Nat.{min-eq_left}
use Rattle.bank.specs.Rings.{ring_of}
use Rattle.bank.specs.Meaning.{memory_of}
use Rattle.bank.proofs.Lists.{list_split, list_take}
use Rattle.bank.proofs.Banks.{length_queue}
use Rattle.bank.proofs.queues.Bank.remove_oldest.Goals as goal

pub returns : goal.returns
returns g c =
    let b = c.args.self.now in
    let q = c.args.q in
    let r = ring_of b.rings q in
    let x = c.index-self-at.result in
    let e = length_queue b q c.requires.queue in
    let some : 0 < r.waiting = omega arith in
    let all = sym (min-eq_left (b.short q)) in
    let is : x ≡ get_or (memory_of b) _ x = c.index-self-at.is ∙ ap (λ i. get_or (memory_of b) i x) c.place-at.ensures.value in
    record {
      answer = rw (list_split (memory_of b) b.queues b.places b.rings q r.waiting c.requires.queue all b.room (search rules) x some is) (ap Some (sym c.index-self-at.is));
      removed = record {
        changes = record {
          queues = refl;
          places = refl;
          lender = refl;
          lists = λ j. list_take (memory_of b) b.queues b.places b.rings q r.waiting c.requires.queue all b.room (search rules) x j some is;
        };
        memory = refl;
      };
    }
