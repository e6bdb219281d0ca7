-- The text of a snapshot, part by part.
use Rattle.std.proofs.Common.{◌≡◌, ℕ, zero, suc, ◌+◌, ◌<◌, Bool, true, false, not, eqb, ◌&&◌, ◌||◌, List, [], ◌∷◌, ◌++◌, map, Option, Some, None, refl, sym, ap}
use Rattle.std.proofs.Common.{◌∙◌, subst, arith, append_assoc, IfSome, ◌⊎◌, inl, inr}
use Rattle.std.specs.List.{flat_map, range_with_len}
use Rattle.std.proofs.lemmas.Bool.{eqb-true, false≢true}
use Rattle.std.proofs.lemmas.List.{map-id, flat_map_more}
use Rattle.std.proofs.lemmas.List.FromFn.{map-range_with_len_more}
use Rattle.std.proofs.lemmas.Grind.{flat_map-append}
use Rattle.call_sets.specs.Counting.{any_below}
use Rattle.elevator_model.specs.declared.Call.{Call}
use Rattle.elevator_model.specs.Snapshot.{Snapshot, car_count, call_count, call_of, is_pinned_elsewhere, is_possible, can_take, IsAccepted}
use Rattle.text_sections.specs.Sections.{Line}
use Rattle.text_sections.specs.Canonical.{line_text, lines_text}
use Rattle.snapshot_text.specs.Texts.{head_words, moment_words, car_words, group_words, call_words, end_words, car_lines, group_lines, call_lines}
use Rattle.snapshot_text.specs.Texts.{snapshot_lines, snapshot_text}

-- ---- the pin of an accepted call is a car

or_cases : (a b : Bool) → (a || b) ≡ true → (a ≡ true) ⊎ (b ≡ true)
or_cases true b e = inl refl
or_cases false b e = inr e

is_pinned_here : (a b : Bool) → (not (not a) && b) ≡ true → a ≡ true
is_pinned_here true b e = refl
is_pinned_here false b e = absurd (false≢true e)

pin_is_possible : (s : Snapshot) (call : Call) (x n : ℕ) → call.pin ≡ Some x → any_below n (λ c. is_possible s c call) ≡ true → x < n
pin_is_possible s call x zero pinned e = absurd (false≢true e)
pin_is_possible s call x (suc n) pinned e =
    elim (or_cases (any_below n (λ c. is_possible s c call)) (is_possible s n call) e) [
      | inl earlier ↦ omega (arith, pin_is_possible s call x n pinned earlier)
      | inr here ↦
          let moved : (not (is_pinned_elsewhere (Some x) n) && can_take s.building n call) ≡ true =
          subst (λ (pin : Option ℕ). (not (is_pinned_elsewhere pin n) && can_take s.building n call) ≡ true) pinned here in
          omega (arith, eqb-true x n (is_pinned_here (eqb x n) (can_take s.building n call) moved))
    ]

pin_within : (pin : Option ℕ) (n : ℕ) → ((x : ℕ) → pin ≡ Some x → x < n) → IfSome pin (λ c. c < n)
pin_within None n each = tt
pin_within (Some x) n each = each x refl

pub pin_is_car : (s : Snapshot) (j : ℕ) → IsAccepted s → j < call_count s → IfSome (call_of s j).pin (λ c. c < car_count s)
pin_is_car s j accepted below =
    pin_within (call_of s j).pin (car_count s) (λ x pinned. pin_is_possible s (call_of s j) x (car_count s) pinned (accepted.calls j below).possible)

-- ---- one more number of a range

pub range_more : (n : ℕ) → range_with_len 0 (n + 1) ≡ range_with_len 0 n ++ n ∷ []
range_more n =
    sym (map-id (range_with_len 0 (n + 1))) ∙ map-range_with_len_more (λ (x : ℕ). x) 0 n n (omega arith)
    ∙ ap (λ (xs : List ℕ). xs ++ n ∷ []) (map-id (range_with_len 0 n))

pub wrote_one : (f : ℕ → List ℕ) (old out new piece : List ℕ) (n : ℕ) → out ≡ old ++ flat_map f (range_with_len 0 n) → new ≡ out ++ piece → piece ≡ f n
    → new ≡ old ++ flat_map f (range_with_len 0 (n + 1))
wrote_one f old out new piece n so_far one same =
    one ∙ ap (λ (x : List ℕ). x ++ piece) so_far ∙ ap (λ (x : List ℕ). (old ++ flat_map f (range_with_len 0 n)) ++ x) same
    ∙ flat_map_more f old (range_with_len 0 n) n ∙ ap (λ (xs : List ℕ). old ++ flat_map f xs) (sym (range_more n))

-- ---- the whole text

lines_map : {X : Type 0} (words : X → Line) (xs : List X) → lines_text (map words xs) ≡ flat_map (λ x. line_text (words x)) xs
lines_map words [] = refl
lines_map words (x ∷ xs) = ap (λ (rest : List ℕ). line_text (words x) ++ rest) (lines_map words xs)

regroup : (old h m c g k e : List ℕ) → ((((old ++ (h ++ m)) ++ c) ++ g) ++ k) ++ e ≡ old ++ (h ++ (m ++ (((c ++ g) ++ k) ++ e)))
regroup old h m c g k e = simp append_assoc

pub parts_are : (s : Snapshot) (old : List ℕ)
    → ((((old ++ (line_text (head_words s.version) ++ line_text (moment_words s.moment)))
    ++ flat_map (λ c. line_text (car_words s c)) (range_with_len 0 (car_count s))) ++ flat_map (λ x. line_text (group_words s.building x)) s.aboard)
    ++ flat_map (λ x. line_text (call_words s.building x)) s.calls) ++ line_text end_words
    ≡ old ++ snapshot_text s
unfolding snapshot_text snapshot_lines
parts_are s old =
    let head = line_text (head_words s.version) in
    let moment = line_text (moment_words s.moment) in
    let cars = flat_map (λ c. line_text (car_words s c)) (range_with_len 0 (car_count s)) in
    let groups = flat_map (λ x. line_text (group_words s.building x)) s.aboard in
    let calls = flat_map (λ x. line_text (call_words s.building x)) s.calls in
    let end : List ℕ = line_text end_words in
    let middle : lines_text ((car_lines s ++ group_lines s ++ call_lines s) ++ end_words ∷ []) ≡ ((cars ++ groups) ++ calls) ++ end =
    flat_map-append line_text (car_lines s ++ group_lines s ++ call_lines s) (end_words ∷ [])
    ∙ ap (λ (x : List ℕ). x ++ end) (flat_map-append line_text (car_lines s ++ group_lines s) (call_lines s)
    ∙ ap (λ (x : List ℕ). x ++ lines_text (call_lines s)) (flat_map-append line_text (car_lines s) (group_lines s)
    ∙ ap (λ (x : List ℕ). x ++ lines_text (group_lines s)) (lines_map (car_words s) (range_with_len 0 (car_count s)))
    ∙ ap (λ (x : List ℕ). cars ++ x) (lines_map (group_words s.building) s.aboard))
    ∙ ap (λ (x : List ℕ). (cars ++ groups) ++ x) (lines_map (call_words s.building) s.calls)) in
    regroup old head moment cars groups calls end ∙ ap (λ (x : List ℕ). old ++ (head ++ (moment ++ x))) (sym middle)
