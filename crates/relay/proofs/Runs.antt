-- A loop that makes the steps of a log in place: what is done, with what the entries that are left will become, is the whole run.
use Rattle.std.proofs.Common.{◌≡◌, ℕ, ◌+◌, ◌<◌, ◌≤◌, List, [], ◌∷◌, ◌++◌, length, get_or, take, drop, set, sym, refl, ap, ◌∙◌, append_assoc, arith}
use Rattle.std.proofs.lemmas.List.{append-nil, at_drop_more, at_drop_all, take_all, take_more_set, drop-set-lt}
use Rattle.exchange.specs.Lines.{Lines}
use Rattle.exchange.specs.declared.messages.Message.{Message}
use Rattle.relay.specs.Runs.{made_on, lines_after, log_of, lines_after_all}
use Rattle.relay.specs.declared.entries.Entry.{Entry}

-- l₀ and es₀ are the lines and the log before the first step, l and es those after k steps
pub record Underway (l₀ l : Lines Message) (es₀ es : List Entry) (k : ℕ) : Type 0 where
  pub log : take k es ++ log_of l (drop k es) ≡ log_of l₀ es₀
  pub lines : lines_after_all l (drop k es) ≡ lines_after_all l₀ es₀

pub underway_none : (l : Lines Message) (es : List Entry) → Underway l l es es 0
underway_none l es = record { log = refl; lines = refl }

-- one step more: the entry at k, once made, and the lines after it
pub underway_more : (l₀ l l' : Lines Message) (es₀ es : List Entry) (k : ℕ) (d x : Entry) → Underway l₀ l es₀ es k → k < length es → x ≡ made_on l (get_or es k d) → l' ≡ lines_after l (get_or es k d).step → Underway l₀ l' es₀ (set es k x) (k + 1)
underway_more l₀ l l' es₀ es k d x u h ex el =
    let left = drop (k + 1) es in
    let same : drop (k + 1) (set es k x) ≡ left = drop-set-lt (k + 1) es k x (omega arith) in
    record {
      log =
          ap (λ xs. xs ++ log_of l' (drop (k + 1) (set es k x))) (take_more_set es k x h)
          ∙ ap (λ xs. (take k es ++ x ∷ []) ++ log_of l' xs) same
          ∙ append_assoc (take k es) (x ∷ []) (log_of l' left)
          ∙ ap (λ y. take k es ++ (y ∷ log_of l' left)) ex
          ∙ ap (λ y. take k es ++ (made_on l (get_or es k d) ∷ log_of y left)) el
          ∙ ap (λ xs. take k es ++ xs) (sym (at_drop_more (log_of l) es k d h))
          ∙ u.log;
      lines = ap (lines_after_all l') same ∙ ap (λ y. lines_after_all y left) el ∙ sym (at_drop_more (lines_after_all l) es k d h) ∙ u.lines;
    }

pub underway_all : (l₀ l : Lines Message) (es₀ es : List Entry) (k : ℕ) → Underway l₀ l es₀ es k → length es ≤ k → (es ≡ log_of l₀ es₀) × (l ≡ lines_after_all l₀ es₀)
underway_all l₀ l es₀ es k u h = (
  sym (take_all k es h) ∙ sym (append-nil (take k es)) ∙ ap (λ xs. take k es ++ xs) (sym (at_drop_all (log_of l) es k h)) ∙ u.log,
  sym (at_drop_all (lines_after_all l) es k h) ∙ u.lines,
)
