-- How messages and refusals are written for a person to read.
use Rattle.std.specs.Prelude.{ℕ, List, ◌++◌, codes, decimal}
use Rattle.exchange.specs.Answers.{number}
use Rattle.exchange.specs.declared.lines.Line.{Line}
use Rattle.exchange.specs.declared.messages.Message.{Message}
use Rattle.exchange.specs.declared.messages.Message.TheVariants.{Request, Answer, Probe, Notice}
use Rattle.exchange.specs.declared.refusals.Refusal.{Refusal}
use Rattle.exchange.specs.declared.refusals.Refusal.TheVariants.{Bays, Places, Memory, NoBay, SameBay, Full, Empty}

-- a line
abbrev pub line_text : Line → List ℕ
line_text line = decimal line.from ++ (codes "->" ++ decimal line.to)

-- a message
abbrev pub message_text : Message → List ℕ
message_text Request = codes "request"
message_text Answer = codes "answer"
message_text (Probe b n) = codes "probe of bay " ++ (decimal b ++ (codes ", search " ++ decimal n))
message_text (Notice u v) = codes "notice of wait " ++ (decimal u ++ (codes "->" ++ decimal v))

-- why a refusal is given
abbrev pub reason : Refusal → List ℕ
reason Bays = codes "number of bays out of range"
reason Places = codes "number of places out of range"
reason Memory = codes "too little memory for the lines"
reason NoBay = codes "no such bay"
reason SameBay = codes "no line leads from a bay to itself"
reason Full = codes "the line is full"
reason Empty = codes "the line is empty"

-- a refusal: its number, and why
abbrev pub refusal_text : Refusal → List ℕ
refusal_text e = decimal (number e) ++ (codes ", " ++ reason e)
