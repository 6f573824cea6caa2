-- How steps and their outcomes are written for a person to read.
use Rattle.std.specs.Prelude.{ℕ, List, ◌++◌, codes, Ok, Err, Some, None, Option}
use Rattle.exchange.specs.Texts.{line_text, message_text, refusal_text}
use Rattle.relay.specs.declared.steps.Step.{Step}
use Rattle.relay.specs.declared.steps.Step.TheVariants.{Put, Take}
use Rattle.relay.specs.Runs.{Outcome}
use Rattle.relay.specs.declared.entries.Entry.{Entry}

-- a step
abbrev pub step_text : Step → List ℕ
step_text (Put line m) = codes "put " ++ (line_text line ++ (codes " " ++ message_text m))
step_text (Take line) = codes "take " ++ line_text line

-- what became of it
abbrev pub outcome_text : Outcome → List ℕ
outcome_text (Ok None) = codes "ok"
outcome_text (Ok (Some m)) = message_text m
outcome_text (Err e) = codes "refused " ++ refusal_text e

-- the same, if the step has been made
abbrev pub made_text : Option Outcome → List ℕ
made_text None = codes "not made"
made_text (Some o) = outcome_text o

-- both
abbrev pub entry_text : Entry → List ℕ
entry_text e = step_text e.step ++ (codes ": " ++ made_text e.outcome)
