-- The text of an answer, part by part.
use Rattle.std.proofs.Common.{◌≡◌, ℕ, List, [], ◌∷◌, ◌++◌, map, sym, ap, ◌∙◌, append_assoc, append-nil}
use Rattle.std.specs.Prelude.{codes, decimal, Result, Ok, Err, OnOk}
use Rattle.std.specs.List.{flat_map, range_with_len}
use Rattle.std.proofs.lemmas.Grind.{flat_map-append}
use Rattle.std.proofs.lemmas.List.Folds.{flat_map-map}
use Rattle.elevator_model.specs.declared.Stop.{Stop}
use Rattle.elevator_model.specs.Snapshot.{Snapshot, car_count, spec_of, call_of}
use Rattle.elevator_model.specs.Plans.{tour_of}
use Rattle.lift_text.specs.Text.{word, words, line}
use Rattle.text_sections.specs.Canonical.{line_text, lines_text}
use Rattle.text_sections.proofs.CanonicalLemmas.{line_of_numbers}
use Rattle.search_model.specs.declared.Stated.{Stated}
use Rattle.answer_text.specs.Plans.{by_index}
use Rattle.answer_text.specs.Texts.{head_words, cost_words, bound_words, tour_words, stop_words, end_words, stop_lines, tour_lines, body_lines, answer_lines}
use Rattle.answer_text.specs.Texts.{stops_text, body_text, answer_text}
use Rattle.answer_text.proofs.Boards.{flat_map-flat_map}

-- ---- the line of a stop

ids_in_words : (id : ℕ → ℕ) (boards : List ℕ) → flat_map (λ j. word (id j)) boards ≡ flat_map (λ later. 32 ∷ later) (map (λ j. decimal (id j)) boards)
unfolding word
ids_in_words id boards = sym (flat_map-map (λ later. 32 ∷ later) (λ j. decimal (id j)) boards)

pub wrote_stop : (s : Snapshot) (stop : Stop) (old front all new : List ℕ) → front ≡ old ++ words (codes "stop") (stop.floor ∷ [])
    → all ≡ front ++ flat_map (λ j. word (call_of s j).id) (by_index s stop.boards) → new ≡ all ++ 10 ∷ []
    → new ≡ old ++ line_text (stop_words s stop)
unfolding words word
wrote_stop s stop old front all new first second third =
    let name = codes "stop" in
    let floor = 32 ∷ decimal stop.floor in
    let ids = flat_map (λ later. 32 ∷ later) (map (λ j. decimal (call_of s j).id) (by_index s stop.boards)) in
    let ids_are = ids_in_words (λ j. (call_of s j).id) (by_index s stop.boards) in
    third ∙ ap (λ (xs : List ℕ). xs ++ 10 ∷ [])
    (second ∙ ap (λ (xs : List ℕ). front ++ xs) ids_are
    ∙ ap (λ (xs : List ℕ). xs ++ ids) (first ∙ ap (λ (xs : List ℕ). old ++ (name ++ xs)) (append-nil floor)))
    ∙ regroup old name floor ids
  where
    regroup : (a b c d : List ℕ) → ((a ++ (b ++ c)) ++ d) ++ 10 ∷ [] ≡ a ++ ((b ++ (c ++ d)) ++ 10 ∷ [])
    regroup a b c d = simp append_assoc

-- ---- the lines of several stops, and of tours

pub stops_are : (s : Snapshot) (tour : List Stop) → flat_map (λ x. line_text (stop_words s x)) tour ≡ stops_text s tour
unfolding stops_text
stops_are s tour = sym (flat_map-map line_text (stop_words s) tour)

pub wrote_tour : (s : Snapshot) (plan : List (List Stop)) (c id : ℕ) (tour : List Stop) (out named new : List ℕ) → id ≡ (spec_of s c).id → tour ≡ tour_of plan c
    → named ≡ out ++ line (codes "tour") (id ∷ []) → new ≡ named ++ stops_text s tour
    → new ≡ out ++ lines_text (tour_lines s plan c)
unfolding stops_text
wrote_tour s plan c id tour out named new own same first second =
    let name : line (codes "tour") (id ∷ []) ≡ line_text (tour_words s c) = line_of_numbers (codes "tour") (id ∷ [])
    ∙ ap (λ (n : ℕ). line_text (codes "tour" ∷ decimal n ∷ [])) own in
    second ∙ ap (λ (ts : List Stop). named ++ lines_text (stop_lines s ts)) same
    ∙ ap (λ (xs : List ℕ). xs ++ lines_text (stop_lines s (tour_of plan c))) (first ∙ ap (λ (xs : List ℕ). out ++ xs) name)
    ∙ append_assoc out (line_text (tour_words s c)) (lines_text (stop_lines s (tour_of plan c)))

-- ---- the whole

pub wrote_body : (s : Snapshot) (plan : List (List Stop)) (cost bound : ℕ) (old first second new : List ℕ) → first ≡ old ++ line (codes "cost") (cost ∷ [])
    → second ≡ first ++ line (codes "bound") (bound ∷ [])
    → new ≡ second ++ flat_map (λ c. lines_text (tour_lines s plan c)) (range_with_len 0 (car_count s)) → new ≡ old ++ body_text s plan cost bound
unfolding body_text
wrote_body s plan cost bound old first second new put_cost put_bound put_tours =
    let costs = line_text (cost_words cost) in
    let bounds = line_text (bound_words bound) in
    let tours = lines_text (flat_map (tour_lines s plan) (range_with_len 0 (car_count s))) in
    put_tours ∙ ap (λ (xs : List ℕ). second ++ xs) (sym (flat_map-flat_map line_text (tour_lines s plan) (range_with_len 0 (car_count s))))
    ∙ ap (λ (xs : List ℕ). xs ++ tours)
    (put_bound ∙ ap (λ (xs : List ℕ). first ++ xs) (line_of_numbers (codes "bound") (bound ∷ []))
    ∙ ap (λ (xs : List ℕ). xs ++ bounds) (put_cost ∙ ap (λ (xs : List ℕ). old ++ xs) (line_of_numbers (codes "cost") (cost ∷ []))))
    ∙ regroup old costs bounds tours
  where
    regroup : (a b c d : List ℕ) → ((a ++ b) ++ c) ++ d ≡ a ++ (b ++ (c ++ d))
    regroup a b c d = simp append_assoc

pub wrote_answer : (s : Snapshot) (stated : Stated) (old head body new : List ℕ) → head ≡ old ++ line (codes "answer") (1 ∷ [])
    → body ≡ head ++ body_text s stated.plan stated.cost stated.bound → new ≡ body ++ line (codes "end") []
    → new ≡ old ++ answer_text s stated
unfolding answer_text answer_lines body_text
wrote_answer s stated old head body new put_head put_body put_end =
    let first = line_text head_words in
    let middle = body_lines s stated.plan stated.cost stated.bound in
    let last : List ℕ = line_text end_words in
    put_end ∙ ap (λ (xs : List ℕ). body ++ xs) (line_of_numbers (codes "end") [])
    ∙ ap (λ (xs : List ℕ). xs ++ last)
    (put_body ∙ ap (λ (xs : List ℕ). xs ++ lines_text middle) (put_head ∙ ap (λ (xs : List ℕ). old ++ xs) (line_of_numbers (codes "answer") (1 ∷ []))))
    ∙ regroup old first (lines_text middle) last ∙ ap (λ (xs : List ℕ). old ++ (first ++ xs)) (sym (flat_map-append line_text middle (end_words ∷ [])))
  where
    regroup : (a b c d : List ℕ) → ((a ++ b) ++ c) ++ d ≡ a ++ (b ++ (c ++ d))
    regroup a b c d = simp append_assoc

-- ---- what is said of an answer

pub ok_then : {X E P Q : Type 0} (answer : Result X E) → OnOk answer P → (P → Q) → OnOk answer Q
ok_then (Ok x) told more = more told
ok_then (Err e) told more = tt
