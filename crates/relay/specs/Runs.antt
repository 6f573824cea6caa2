-- What steps on an exchange are answered and leave, by the lines that the exchange stands for.
use Rattle.std.specs.Prelude.{◌≡◌, if◌then◌else◌, List, [], ◌∷◌, ◌++◌, is_ok, Ok, Err, Result, Some, None, Option}
use Rattle.std.specs.Result.{result_map_both}
use Rattle.exchange.specs.Lines.{Lines, same_line, with_put, with_take}
use Rattle.exchange.specs.Answers.{put_answer, take_answer}
use Rattle.exchange.specs.declared.lines.Line.{Line}
use Rattle.exchange.specs.declared.messages.Message.{Message}
use Rattle.exchange.specs.declared.refusals.Refusal.{Refusal}
use Rattle.relay.specs.declared.steps.Step.{Step}
use Rattle.relay.specs.declared.steps.Step.TheVariants.{Put, Take}
use Rattle.relay.specs.declared.entries.Entry.{Entry}

-- what became of a step: a take has a message, a put has none
abbrev pub Outcome : Type 0
Outcome = Result (Option Message) Refusal

-- what becomes of a step on these lines
abbrev pub outcome_of : Lines Message → Step → Outcome
outcome_of l (Put line m) = result_map_both (λ u. None) (λ e. e) (put_answer l line)
outcome_of l (Take line) = result_map_both Some (λ e. e) (take_answer l line)

-- the lines after it
abbrev pub lines_after : Lines Message → Step → Lines Message
lines_after l (Put line m) = if is_ok (put_answer l line) then with_put l line m else l
lines_after l (Take line) = if is_ok (take_answer l line) then with_take l line else l

-- an entry for a step that has not been made
abbrev pub pending : Step → Entry
pending s = record { step = s; outcome = None }

-- an entry whose step has been made on these lines
abbrev pub made_on : Lines Message → Entry → Entry
made_on l e = record { step = e.step; outcome = Some (outcome_of l e.step) }

-- the log of its steps, each made on what the ones before it left
abbrev pub log_of : Lines Message → List Entry → List Entry
log_of l [] = []
log_of l (e ∷ es) = made_on l e ∷ log_of (lines_after l e.step) es

-- the lines after all of them
abbrev pub lines_after_all : Lines Message → List Entry → Lines Message
lines_after_all l [] = l
lines_after_all l (e ∷ es) = lines_after_all (lines_after l e.step) es

-- what a step with this outcome, or one that has not been made, put on the line a
abbrev pub put_by : Line → Step → Option Outcome → List Message
put_by a (Put line m) None = []
put_by a (Put line m) (Some (Ok None)) = if same_line a line then m ∷ [] else []
put_by a (Put line m) (Some (Ok (Some x))) = []
put_by a (Put line m) (Some (Err e)) = []
put_by a (Take line) o = []

-- what it took from there
abbrev pub taken_by : Line → Step → Option Outcome → List Message
taken_by a (Put line m) o = []
taken_by a (Take line) None = []
taken_by a (Take line) (Some (Ok None)) = []
taken_by a (Take line) (Some (Ok (Some x))) = if same_line a line then x ∷ [] else []
taken_by a (Take line) (Some (Err e)) = []

-- the messages that a log tells of, entry after entry
abbrev pub all_by : (Step → Option Outcome → List Message) → List Entry → List Message
all_by f [] = []
all_by f (e ∷ es) = f e.step e.outcome ++ all_by f es

-- On every line the messages that the log says were taken, followed by those that wait in the end, are those that waited at first,
-- followed by those that the log says were put: none is lost, doubled, changed, overtaken or led astray.
abbrev pub InOrder : Lines Message → List Entry → Lines Message → Type 0
InOrder l es l' = (a : Line) → all_by (taken_by a) es ++ l'.at a ≡ l.at a ++ all_by (put_by a) es
