use Rattle.std.proofs.Common.{◌+◌, set, length-set, sym, refl, ap, ◌∙◌, arith, rules}
use Rattle.std.proofs.Math.Nat.{min-eq_left}
use Rattle.bank.specs.Rings.{ring_of, list_in}
use Rattle.bank.specs.Meaning.{memory_of}
use Rattle.bank.proofs.Lists.{ring, list_put, short_set}
use Rattle.bank.proofs.Banks.{length_queue, next_free}
use Rattle.bank.proofs.queues.Bank.append.Goals as goal

pub invariant_of-self-clause-room : goal.invariant_of-self-clause-room
invariant_of-self-clause-room g c =
    let b = c.args.self.now in
    let s = length-set b.memory.now c.place-at.result c.args.item in
    let h = b.room in omega arith

pub invariant_of-self-clause-short : goal.invariant_of-self-clause-short
invariant_of-self-clause-short g c =
    let b = c.args.self.now in
    let e = length_queue b c.args.q c.requires.queue in
    short_set b.rings b.places c.args.q _ (search rules) (omega arith) b.short

pub returns : goal.returns
returns g c =
    let b = c.args.self.now in
    let q = c.args.q in
    let r = ring_of b.rings q in
    let e = length_queue b q c.requires.queue in
    let at = c.place-at.ensures.value in
    record {
      memory = cc;
      free = next_free b q c.requires.room;
      changes = record {
        queues = refl;
        places = refl;
        lender = refl;
        lists = λ j.
            ap (λ i. list_in (set (memory_of b) i c.args.item) b.queues b.places (set b.rings q (ring r.first (r.waiting + 1))) j) at
            ∙ list_put (memory_of b) b.queues b.places b.rings q r.waiting c.requires.queue (sym (min-eq_left (b.short q))) b.room (search rules) c.args.item j (omega arith);
      };
    }
