-- Lines give out what came on them, in the order in which it came.
use Rattle.std.proofs.Common.{◌≡◌, cond, List, [], ◌∷◌, ◌++◌, drop, is_ok, Ok, Err, Result, sym, refl, ap, ◌∙◌, ⊎_elim, append_assoc}
use Rattle.std.specs.Prelude.{ok_or, slice_get, Some, None}
use Rattle.std.specs.Result.{result_map_both}
use Rattle.std.proofs.lemmas.List.{append-nil}
use Rattle.std.proofs.lemmas.Bool.{cases_Bool}
use Rattle.exchange.specs.Lines.{Lines, same_line, with_put, with_take}
use Rattle.exchange.specs.Answers.{put_answer, take_answer}
use Rattle.exchange.specs.declared.lines.Line.{Line}
use Rattle.exchange.specs.declared.messages.Message.{Message}
use Rattle.exchange.specs.declared.refusals.Refusal.{Refusal}
use Rattle.exchange.specs.declared.refusals.Refusal.TheVariants.{Empty}
use Rattle.exchange.proofs.OnLine.{same_line-true, answered}
use Rattle.relay.specs.Runs.{outcome_of, lines_after, log_of, lines_after_all, put_by, taken_by, all_by, InOrder}
use Rattle.relay.specs.declared.steps.Step.{Step}
use Rattle.relay.specs.declared.steps.Step.TheVariants.{Put, Take}
use Rattle.relay.specs.declared.entries.Entry.{Entry}

-- one step: what it took from the line, with what then waits, is what waited, with what it put there
abbrev One : Lines Message → Step → Type 0
One l s = (a : Line) → taken_by a s (Some (outcome_of l s)) ++ (lines_after l s).at a ≡ l.at a ++ put_by a s (Some (outcome_of l s))

-- the line that is meant, and the others
put_line : (l : Lines Message) (line : Line) (m : Message) (a : Line) → (with_put l line m).at a ≡ l.at a ++ cond (same_line a line) (m ∷ []) []
put_line l line m a =
    ⊎_elim
    (λ e. rw e (ap (λ x. l.at x ++ m ∷ []) (sym (same_line-true a line e))))
    (λ e. rw e (sym (append-nil (l.at a))))
    (cases_Bool (same_line a line))

take_line : (l : Lines Message) (line : Line) (x : Message) (a : Line) → l.at line ≡ x ∷ drop 1 (l.at line) → cond (same_line a line) (x ∷ []) [] ++ (with_take l line).at a ≡ l.at a
take_line l line x a h =
    ⊎_elim
    (λ e. rw e (sym h ∙ ap l.at (sym (same_line-true a line e))))
    (λ e. rw e)
    (cases_Bool (same_line a line))

-- an answered take was answered the oldest
oldest_first : (l : List Message) (x : Message) → ok_or (slice_get l 0) Empty ≡ Ok x → l ≡ x ∷ drop 1 l
oldest_first [] x e = cc
oldest_first (y ∷ ys) x e = cc

put_one : (l : Lines Message) (line : Line) (m : Message) (r : Result (Unit {0}) Refusal) (a : Line) → taken_by a (Put line m) (Some (result_map_both (λ u. None) (λ e. e) r)) ++ (cond (is_ok r) (with_put l line m) l).at a ≡ l.at a ++ put_by a (Put line m) (Some (result_map_both (λ u. None) (λ e. e) r))
put_one l line m (Ok u) a = put_line l line m a
put_one l line m (Err e) a = sym (append-nil (l.at a))

take_one : (l : Lines Message) (line : Line) (r : Result Message Refusal) (a : Line) → ((x : Message) → r ≡ Ok x → l.at line ≡ x ∷ drop 1 (l.at line)) → taken_by a (Take line) (Some (result_map_both Some (λ e. e) r)) ++ (cond (is_ok r) (with_take l line) l).at a ≡ l.at a ++ put_by a (Take line) (Some (result_map_both Some (λ e. e) r))
take_one l line (Ok x) a h = take_line l line x a (h x refl) ∙ sym (append-nil (l.at a))
take_one l line (Err e) a h = sym (append-nil (l.at a))

one : (l : Lines Message) (s : Step) → One l s
one l (Put line m) a = put_one l line m (put_answer l line) a
one l (Take line) a =
    take_one l line (take_answer l line) a
    (λ x e. oldest_first (l.at line) x (answered l line (ok_or (slice_get (l.at line) 0) Empty) x e).is)

all_in_order : (l : Lines Message) (es : List Entry) → InOrder l (log_of l es) (lines_after_all l es)
all_in_order l [] a = sym (append-nil (l.at a))
all_in_order l (e ∷ es) a =
    let took = taken_by a e.step (Some (outcome_of l e.step)) in
    let put = put_by a e.step (Some (outcome_of l e.step)) in
    let next = lines_after l e.step in
    let puts = all_by (put_by a) (log_of next es) in
    append_assoc took (all_by (taken_by a) (log_of next es)) ((lines_after_all next es).at a)
    ∙ ap (λ r. took ++ r) (all_in_order next es a)
    ∙ sym (append_assoc took (next.at a) puts)
    ∙ ap (λ r. r ++ puts) (one l e.step a)
    ∙ append_assoc (l.at a) put puts

pub in_order : (l l' : Lines Message) (es es' : List Entry) → es' ≡ log_of l es → l' ≡ lines_after_all l es → InOrder l es' l'
in_order l l' es es' ee el a =
    ap (λ x. all_by (taken_by a) x ++ l'.at a) ee
    ∙ ap (λ x. all_by (taken_by a) (log_of l es) ++ x.at a) el
    ∙ all_in_order l es a
    ∙ ap (λ x. l.at a ++ all_by (put_by a) x) (sym ee)
