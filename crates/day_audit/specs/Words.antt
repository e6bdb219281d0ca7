-- The words of a line of a log that is due.
use Rattle.std.specs.Prelude.{ℕ, List, map, codes, decimal}
use Rattle.text_sections.specs.Sections.{Line}
use Rattle.day_audit.specs.declared.words.DueWord.{DueWord}
use Rattle.day_audit.specs.declared.words.DueWord.TheVariants.{Row, Accepted, Refused, Board, Deliver, Total, End, Number}

abbrev pub due_text : DueWord → List ℕ
due_text Row = codes "row"
due_text Accepted = codes "accepted"
due_text Refused = codes "refused"
due_text Board = codes "board"
due_text Deliver = codes "deliver"
due_text Total = codes "total"
due_text End = codes "end"
due_text (Number n) = decimal n

abbrev pub due_words : List DueWord → Line
due_words due = map due_text due
