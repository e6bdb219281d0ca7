-- The lines of a log, part by part.
use Rattle.std.proofs.Common.{◌≡◌, ◌<◌, ◌≤◌, ◌+◌, ℕ, zero, suc, List, [], ◌∷◌, ◌++◌, length, take, drop, get_or, refl, sym, ap, ◌∙◌, append_assoc, append-nil}
use Rattle.std.proofs.Common.{arith, drop_at, length-drop, take-append-drop, take_all, take_at}
use Rattle.std.specs.Prelude.{codes, decimal, cond, is_ok, Result, Ok, Err, OnOk}
use Rattle.std.specs.List.{flat_map}
use Rattle.std.proofs.lemmas.List.{drop_all, take_more}
use Rattle.std.proofs.lemmas.List.Concat.{flat_map-append}
use Rattle.std.proofs.lemmas.List.Folds.{flat_map-map}
use Rattle.elevator_model.specs.Snapshot.{Snapshot}
use Rattle.search_model.specs.declared.Event.{Event}
use Rattle.search_model.specs.declared.Event.TheVariants.{Board, Deliver}
use Rattle.search_model.specs.declared.RowFault.{RowFault}
use Rattle.search_model.specs.declared.Stated.{Stated}
use Rattle.search_model.specs.Advancing.{last_events}
use Rattle.search_model.specs.Days.{Day, code_of_row, delivered_count}
use Rattle.lift_text.specs.Text.{word, words, line}
use Rattle.text_sections.specs.Canonical.{line_text}
use Rattle.text_sections.proofs.CanonicalLemmas.{line_of_numbers}
use Rattle.answer_text.specs.Texts.{body_text}
use Rattle.day_text.specs.LogTexts.{event_words, events_text, accepted_words, plan_text, accepted_text, refused_text, total_words, solved_words, total_text}
use Rattle.day_text.specs.LogTexts.{end_text}

-- what is known of a list that was extended, where memory was there
pub extended_then : {X E Q : Type 0} (answer : Result X E) (old other new : List ℕ) → new ≡ cond (is_ok answer) (old ++ other) old → (new ≡ old ++ other → Q)
    → OnOk answer Q
extended_then (Ok x) old other new is more = more is
extended_then (Err e) old other new is more = tt

-- ---- events

pub wrote_board : (event : Event) (call car moment : ℕ) (old new : List ℕ) → event ≡ Board call car moment
    → new ≡ old ++ line (codes "board") (call ∷ car ∷ moment ∷ []) → new ≡ old ++ line_text (event_words event)
wrote_board event call car moment old new is wrote =
    wrote ∙ ap (λ (xs : List ℕ). old ++ xs)
    (line_of_numbers (codes "board") (call ∷ car ∷ moment ∷ []) ∙ ap (λ (e : Event). line_text (event_words e)) (sym is))

pub wrote_deliver : (event : Event) (call car moment : ℕ) (old new : List ℕ) → event ≡ Deliver call car moment
    → new ≡ old ++ line (codes "deliver") (call ∷ car ∷ moment ∷ []) → new ≡ old ++ line_text (event_words event)
wrote_deliver event call car moment old new is wrote =
    wrote ∙ ap (λ (xs : List ℕ). old ++ xs)
    (line_of_numbers (codes "deliver") (call ∷ car ∷ moment ∷ []) ∙ ap (λ (e : Event). line_text (event_words e)) (sym is))

pub events_are : (events : List Event) → flat_map (λ x. line_text (event_words x)) events ≡ events_text events
unfolding events_text
events_are events = sym (flat_map-map line_text event_words events)

-- one more event is written
pub event_more : (events : List Event) (i : ℕ) (d : Event) (first before after : List ℕ) → i < length events
    → before ≡ first ++ flat_map (λ x. line_text (event_words x)) (take i events) → after ≡ before ++ line_text (event_words (get_or events i d))
    → after ≡ first ++ flat_map (λ x. line_text (event_words x)) (take (i + 1) events)
event_more events i d first before after within so_far wrote =
    let text : Event → List ℕ = λ x. line_text (event_words x) in
    let event = get_or events i d in
    let earlier = flat_map text (take i events) in
    let both : earlier ++ text event ≡ flat_map text (take i events ++ event ∷ []) = ap (λ (xs : List ℕ). earlier ++ xs) (sym (append-nil (text event)))
    ∙ sym (flat_map-append text (take i events) (event ∷ [])) in
    wrote ∙ ap (λ (xs : List ℕ). xs ++ text event) so_far ∙ append_assoc first earlier (text event)
    ∙ ap (λ (xs : List ℕ). first ++ xs) (both ∙ ap (flat_map text) (sym (take_more events i d within)))

-- ---- rows

pub wrote_accepted : (number : ℕ) (old first new : List ℕ) → first ≡ old ++ words (codes "row") (number ∷ []) → new ≡ first ++ codes " accepted\n"
    → new ≡ old ++ line_text (accepted_words number)
unfolding words word
wrote_accepted number old first new one two =
    let digits = 32 ∷ decimal number in
    two ∙ ap (λ (xs : List ℕ). xs ++ codes " accepted\n") (one ∙ ap (λ (xs : List ℕ). old ++ (codes "row" ++ xs)) (append-nil digits))
    ∙ regroup old (codes "row") digits (codes " accepted")
  where
    regroup : (a b c d : List ℕ) → (a ++ (b ++ c)) ++ (d ++ 10 ∷ []) ≡ a ++ ((b ++ (c ++ d)) ++ 10 ∷ [])
    regroup a b c d = simp append_assoc

pub wrote_refused : (number : ℕ) (fault : RowFault) (code : ℕ) (old first new : List ℕ) → code ≡ code_of_row fault
    → first ≡ old ++ words (codes "row") (number ∷ []) → new ≡ first ++ line (codes " refused") (code ∷ []) → new ≡ old ++ refused_text number fault
unfolding words word line refused_text
wrote_refused number fault code old first new is one two =
    let digits = 32 ∷ decimal number in
    let last = 32 ∷ decimal code in
    two ∙ ap (λ (xs : List ℕ). xs ++ ((codes " refused" ++ (last ++ [])) ++ 10 ∷ []))
    (one ∙ ap (λ (xs : List ℕ). old ++ (codes "row" ++ xs)) (append-nil digits)) ∙ regroup old (codes "row") digits (codes " refused") (last ++ [])
    ∙ ap (λ (n : ℕ). old ++ line_text (codes "row" ∷ decimal number ∷ codes "refused" ∷ decimal n ∷ [])) is
  where
    regroup : (a b c d e : List ℕ) → (a ++ (b ++ c)) ++ ((d ++ e) ++ 10 ∷ []) ≡ a ++ ((b ++ (c ++ (d ++ e))) ++ 10 ∷ [])
    regroup a b c d e = simp append_assoc

-- a proof that is there is what is printed
plan_there : (s : Snapshot) (printed : Stated) (proof : List ℕ) → 0 < length proof → proof ≡ plan_text s printed proof
plan_there s printed [] some = absurd (omega (arith, some))
plan_there s printed (b ∷ proof) some = refl

pub plan_behind : (s : Snapshot) (printed : Stated) (place written : ℕ) (out : List ℕ) → written ≡ length out → place < written
    → out ≡ take place out ++ plan_text s printed (drop place out)
plan_behind s printed place written out counted more =
    let some : 0 < length (drop place out) = omega (arith, length-drop place out, counted, more) in
    sym (take-append-drop place out) ∙ ap (λ (xs : List ℕ). take place out ++ xs) (plan_there s printed (drop place out) some)

-- none is there, and the plan was written
pub plan_wanting : (s : Snapshot) (printed : Stated) (place written : ℕ) (old new : List ℕ) → written ≡ length old → written ≤ place
    → new ≡ old ++ body_text s printed.plan printed.cost printed.bound → new ≡ take place old ++ plan_text s printed (drop place old)
plan_wanting s printed place written old new counted few wrote =
    let short : length old ≤ place = omega (arith, counted, few) in
    wrote ∙ ap (λ (xs : List ℕ). xs ++ body_text s printed.plan printed.cost printed.bound) (sym (take_all place old short))
    ∙ ap (λ (xs : List ℕ). take place old ++ plan_text s printed xs) (sym (drop_all place old short))

-- the lines of a row, with what stands behind its events before its plan is written there
pub wrote_row : (s : Snapshot) (number : ℕ) (events : List Event) (printed : Stated) (proof old first second new : List ℕ) (place : ℕ)
    → first ≡ old ++ (line_text (accepted_words number) ++ events_text events) → second ≡ first ++ proof → place ≡ length first
    → new ≡ take place second ++ plan_text s printed (drop place second) → new ≡ old ++ accepted_text s number events printed proof
unfolding accepted_text
wrote_row s number events printed proof old first second new place one two counted three =
    let front : take place second ≡ first = ap (take place) two ∙ take_at first proof place (sym counted) in
    let behind : drop place second ≡ proof = ap (drop place) two ∙ drop_at first proof place (sym counted) in
    three ∙ ap (λ (xs : List ℕ). xs ++ plan_text s printed (drop place second)) (front ∙ one)
    ∙ ap (λ (xs : List ℕ). (old ++ (line_text (accepted_words number) ++ events_text events)) ++ plan_text s printed xs) behind
    ∙ regroup old (line_text (accepted_words number)) (events_text events) (plan_text s printed proof)
  where
    regroup : (a b c d : List ℕ) → (a ++ (b ++ c)) ++ d ≡ a ++ (b ++ (c ++ d))
    regroup a b c d = simp append_assoc

-- ---- the end

pub wrote_solved : (unsolved : ℕ) (old new : List ℕ) → unsolved ≡ 0 → new ≡ old ++ codes "# solved\n" → new ≡ old ++ line_text (solved_words unsolved)
wrote_solved zero old new none wrote = wrote
wrote_solved (suc n) old new none wrote = absurd cc

pub wrote_stopped : (unsolved : ℕ) (old new : List ℕ) → (unsolved ≡ 0 → ⊥) → new ≡ old ++ line (codes "# stopped") (unsolved ∷ [])
    → new ≡ old ++ line_text (solved_words unsolved)
wrote_stopped zero old new some wrote = absurd (some refl)
wrote_stopped (suc n) old new some wrote = wrote ∙ ap (λ (xs : List ℕ). old ++ xs) (line_of_numbers (codes "# stopped") (suc n ∷ []))

pub wrote_total : (accepted refused delivered unsolved : ℕ) (old first second new : List ℕ)
    → first ≡ old ++ line (codes "total") (accepted ∷ refused ∷ delivered ∷ []) → second ≡ first ++ codes "end\n"
    → new ≡ second ++ line_text (solved_words unsolved) → new ≡ old ++ total_text accepted refused delivered unsolved
unfolding total_text
wrote_total accepted refused delivered unsolved old first second new one two three =
    three ∙ ap (λ (xs : List ℕ). xs ++ line_text (solved_words unsolved))
    (two ∙ ap (λ (xs : List ℕ). xs ++ codes "end\n")
    (one ∙ ap (λ (xs : List ℕ). old ++ xs) (line_of_numbers (codes "total") (accepted ∷ refused ∷ delivered ∷ []))))
    ∙ regroup old (line_text (total_words accepted refused delivered)) (codes "end\n") (line_text (solved_words unsolved))
  where
    regroup : (a b c d : List ℕ) → ((a ++ b) ++ c) ++ d ≡ a ++ (b ++ (c ++ d))
    regroup a b c d = simp append_assoc

pub wrote_end : (old first new events total : List ℕ) → first ≡ old ++ events → new ≡ first ++ total → new ≡ old ++ (events ++ total)
wrote_end old first new events total one two = two ∙ ap (λ (xs : List ℕ). xs ++ total) one ∙ append_assoc old events total

-- the last lines, of the day's own numbers
pub wrote_log : (day : Day) (old out text fresh : List ℕ) (events : List Event) (accepted refused delivered unsolved : ℕ) → out ≡ old ++ text
    → text ≡ fresh ++ (events_text events ++ total_text accepted refused delivered unsolved) → fresh ≡ [] → events ≡ last_events day.world
    → accepted ≡ length day.calls → refused ≡ day.refused → delivered ≡ delivered_count day → unsolved ≡ day.unsolved → out ≡ old ++ end_text day
wrote_log day old out text fresh events accepted refused delivered unsolved wrote says empty happened counted declined served unmet =
    wrote ∙ ap (λ (xs : List ℕ). old ++ xs) (says ∙ ap (λ (xs : List ℕ). xs ++ (events_text events ++ total_text accepted refused delivered unsolved)) empty
    ∙ ap (λ (es : List Event). events_text es ++ total_text accepted refused delivered unsolved) happened
    ∙ ap (λ (n : ℕ). events_text (last_events day.world) ++ total_text n refused delivered unsolved) counted
    ∙ ap (λ (n : ℕ). events_text (last_events day.world) ++ total_text (length day.calls) n delivered unsolved) declined
    ∙ ap (λ (n : ℕ). events_text (last_events day.world) ++ total_text (length day.calls) day.refused n unsolved) served
    ∙ ap (λ (n : ℕ). events_text (last_events day.world) ++ total_text (length day.calls) day.refused (delivered_count day) n) unmet)
