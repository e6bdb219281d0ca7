-- The lines of a day's log: of a row, and of the end.
use Rattle.std.specs.Prelude.{ℕ, zero, suc, List, [], ◌∷◌, ◌++◌, length, map, decimal, codes}
use Rattle.elevator_model.specs.Snapshot.{Snapshot}
use Rattle.search_model.specs.declared.Event.{Event}
use Rattle.search_model.specs.declared.Event.TheVariants.{Board, Deliver}
use Rattle.search_model.specs.declared.RowFault.{RowFault}
use Rattle.search_model.specs.declared.Stated.{Stated}
use Rattle.search_model.specs.Advancing.{last_events}
use Rattle.search_model.specs.Days.{Day, RowLog, code_of_row, delivered_count}
use Rattle.search_model.specs.Days.RowLog.{Refused, Accepted}
use Rattle.text_sections.specs.Sections.{Line}
use Rattle.text_sections.specs.Canonical.{line_text, lines_text}
use Rattle.answer_text.specs.Texts.{body_text}

-- ---- events

abbrev pub event_words : Event → Line
event_words (Board call car moment) = codes "board" ∷ decimal call ∷ decimal car ∷ decimal moment ∷ []
event_words (Deliver call car moment) = codes "deliver" ∷ decimal call ∷ decimal car ∷ decimal moment ∷ []

unfoldable pub events_text : List Event → List ℕ
events_text events = lines_text (map event_words events)

-- ---- rows

abbrev pub accepted_words : ℕ → Line
accepted_words number = codes "row" ∷ decimal number ∷ codes "accepted" ∷ []

abbrev pub refused_words : ℕ → RowFault → Line
refused_words number fault = codes "row" ∷ decimal number ∷ codes "refused" ∷ decimal (code_of_row fault) ∷ []

-- the lines of a plan with its cost and its bound, or the proof in their place
abbrev pub plan_text : Snapshot → Stated → (proof : List ℕ) → List ℕ
plan_text s printed [] = body_text s printed.plan printed.cost printed.bound
plan_text s printed (b ∷ bytes) = b ∷ bytes

unfoldable pub accepted_text : Snapshot → ℕ → List Event → Stated → (proof : List ℕ) → List ℕ
accepted_text s number events printed proof = line_text (accepted_words number) ++ (events_text events ++ plan_text s printed proof)

unfoldable pub refused_text : ℕ → RowFault → List ℕ
refused_text number fault = line_text (refused_words number fault)

-- The lines of a row; an accepted one left this snapshot.
abbrev pub row_text : Snapshot → RowLog → (proof : List ℕ) → List ℕ
row_text s (Refused number fault) proof = refused_text number fault
row_text s (Accepted number events printed) proof = accepted_text s number events printed proof

-- ---- the end

abbrev pub total_words : (accepted refused delivered : ℕ) → Line
total_words accepted refused delivered = codes "total" ∷ decimal accepted ∷ decimal refused ∷ decimal delivered ∷ []

-- the comment line: whether each bound was reached, or how many were not
abbrev pub solved_words : (unsolved : ℕ) → Line
solved_words zero = codes "#" ∷ codes "solved" ∷ []
solved_words (suc n) = codes "#" ∷ codes "stopped" ∷ decimal (suc n) ∷ []

unfoldable pub total_text : (accepted refused delivered unsolved : ℕ) → List ℕ
total_text accepted refused delivered unsolved =
    line_text (total_words accepted refused delivered) ++ (line_text (codes "end" ∷ []) ++ line_text (solved_words unsolved))

-- The lines of the log that follow those of the last row.
abbrev pub end_text : Day → List ℕ
end_text day =
    events_text (last_events day.world) ++ total_text (length day.calls) day.refused (delivered_count day) day.unsolved
