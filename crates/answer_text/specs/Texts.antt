-- The canonical text of an answer.
use Rattle.std.specs.Prelude.{ℕ, List, [], ◌∷◌, ◌++◌, map, decimal, codes}
use Rattle.std.specs.List.{flat_map, range_with_len}
use Rattle.elevator_model.specs.declared.Stop.{Stop}
use Rattle.elevator_model.specs.Snapshot.{Snapshot, car_count, spec_of, call_of}
use Rattle.elevator_model.specs.Plans.{tour_of}
use Rattle.text_sections.specs.Sections.{Line}
use Rattle.text_sections.specs.Canonical.{lines_text}
use Rattle.search_model.specs.declared.Stated.{Stated}
use Rattle.answer_text.specs.Plans.{by_index}

-- ---- the words of each line

abbrev pub head_words : Line
head_words = codes "answer" ∷ decimal 1 ∷ []

abbrev pub cost_words : ℕ → Line
cost_words cost = codes "cost" ∷ decimal cost ∷ []

abbrev pub bound_words : ℕ → Line
bound_words bound = codes "bound" ∷ decimal bound ∷ []

abbrev pub tour_words : Snapshot → ℕ → Line
tour_words s c = codes "tour" ∷ decimal (spec_of s c).id ∷ []

-- the floor, and the ids of the calls that board, by rising index of the calls
abbrev pub stop_words : Snapshot → Stop → Line
stop_words s stop = codes "stop" ∷ decimal stop.floor ∷ map (λ j. decimal (call_of s j).id) (by_index s stop.boards)

abbrev pub end_words : Line
end_words = codes "end" ∷ []

-- ---- the lines of an answer

abbrev pub stop_lines : Snapshot → List Stop → List Line
stop_lines s tour = map (stop_words s) tour

abbrev pub tour_lines : Snapshot → List (List Stop) → ℕ → List Line
tour_lines s plan c = tour_words s c ∷ stop_lines s (tour_of plan c)

-- the lines between the first one and the last one
abbrev pub body_lines : Snapshot → List (List Stop) → (cost bound : ℕ) → List Line
body_lines s plan cost bound = cost_words cost ∷ bound_words bound ∷ flat_map (tour_lines s plan) (range_with_len 0 (car_count s))

unfoldable pub answer_lines : Snapshot → Stated → List Line
answer_lines s stated = head_words ∷ body_lines s stated.plan stated.cost stated.bound ++ end_words ∷ []

-- ---- texts

unfoldable pub stops_text : Snapshot → List Stop → List ℕ
stops_text s tour = lines_text (stop_lines s tour)

unfoldable pub body_text : Snapshot → List (List Stop) → (cost bound : ℕ) → List ℕ
body_text s plan cost bound = lines_text (body_lines s plan cost bound)

unfoldable pub answer_text : Snapshot → Stated → List ℕ
answer_text s stated = lines_text (answer_lines s stated)

-- the comment line after the answer of a search that was solved
abbrev pub solved_line : List ℕ
solved_line = codes "# solved\n"
