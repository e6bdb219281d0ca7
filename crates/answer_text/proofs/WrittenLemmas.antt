-- The lines of an answer's text stand for it.
use Rattle.std.proofs.Common.{◌≡◌, ℕ, zero, suc, ◌+◌, ◌^◌, ◌<◌, ◌≤◌, ◌==◌, Bool, List, [], ◌∷◌, ◌++◌, length, map, filter, get_or, refl, sym, ap, ◌∙◌, subst}
use Rattle.std.proofs.Common.{arith, add-one, Option, None, Some, Result, Ok, Err, length-append, append_assoc, lit<}
use Rattle.std.specs.Prelude.{codes, decimal, All, if◌then◌else◌}
use Rattle.std.specs.List.{flat_map, range_with_len, AllByRecursion}
use Rattle.std.proofs.lemmas.Bool.{eqb-true, le-ltb}
use Rattle.std.proofs.lemmas.List.{length-map}
use Rattle.std.proofs.lemmas.Fmt.{length-decimal-le}
use Rattle.elevator_model.specs.declared.Stop.{Stop}
use Rattle.elevator_model.specs.Snapshot.{Snapshot, IsAccepted, car_count, call_count, spec_of, call_of}
use Rattle.elevator_model.specs.Plans.{tour_of}
use Rattle.lift_text.specs.Numbers.{digits_number}
use Rattle.lift_text.specs.Reading.{TextState, reading, line_limit}
use Rattle.lift_text.specs.declared.faults.TextFault.{TextFault}
use Rattle.lift_text.specs.declared.codes.TextCode.TheVariants.{Missing}
use Rattle.text_sections.specs.Judging.{Judged, ◌>>=◌}
use Rattle.text_sections.specs.Words.{at_least, within, short}
use Rattle.text_sections.specs.NumberLists.{numbers, numbers_of}
use Rattle.text_sections.specs.Canonical.{IsWord, IsLineOfWords, BeginsWith, joined}
use Rattle.text_sections.proofs.NumberLemmas.{number_again, written_number}
use Rattle.text_sections.proofs.CanonicalLemmas.{decimal_word, lines_again, name_word}
use Rattle.text_sections.proofs.StepLemmas.{then-ok}
use Rattle.text_sections.proofs.EachLemmas.{each_of, each-append}
use Rattle.snapshot_text.specs.Words.{car_named}
use Rattle.snapshot_text.proofs.CarLemmas.{named_car}
use Rattle.search_model.specs.declared.Stated.{Stated}
use Rattle.answer_text.specs.Plans.{by_index, stop_by_index, plan_by_index, stated_by_index}
use Rattle.answer_text.specs.Texts.{head_words, cost_words, bound_words, tour_words, stop_words, end_words, stop_lines, tour_lines, answer_lines, answer_text}
use Rattle.answer_text.specs.Words.{call_named, calls_named}
use Rattle.answer_text.specs.Answers.{says_tour, says_stop, SaysTour, SayTours, StandsFor, ReadsLines}
use Rattle.answer_text.specs.Written.{HasText, behind, ReadsText}
use Rattle.answer_text.proofs.Boards.{each_kept}
use Rattle.answer_text.proofs.CallLemmas.{named_call}

-- ---- lists

both_each : {X : Type 0} (P Q : X → Type 0) (xs : List X) → AllByRecursion P xs → AllByRecursion Q xs → AllByRecursion (λ x. P x × Q x) xs
both_each P Q [] one other = tt
both_each P Q (x ∷ xs) one other = ((one.0, other.0), both_each P Q xs one.1 other.1)

both_each_of : {X : Type 0} (P Q : X → Type 0) (xss : List (List X)) → All (All P) xss → All (All Q) xss → AllByRecursion (AllByRecursion (λ x. P x × Q x)) xss
both_each_of P Q [] one other = tt
both_each_of P Q (xs ∷ xss) one other = (
  both_each P Q xs (each_of P xs (one 0 xs (omega arith))) (each_of Q xs (other 0 xs (omega arith))),
  both_each_of P Q xss (λ k d below. one (suc k) d (omega arith)) (λ k d below. other (suc k) d (omega arith)),
)

mid : {X : Type 0} (front xs : List X) (x d : X) → get_or (front ++ x ∷ xs) (length front) d ≡ x
mid [] xs x d = refl
mid (y ∷ front) xs x d = mid front xs x d

-- ---- words and lines

number_line : (name : List ℕ) (n : ℕ) → IsWord name → length name ≤ 20 → n < 2 ^ 64 → IsLineOfWords (name ∷ decimal n ∷ [])
number_line name n is few small =
    let digits = length-decimal-le 20 n (lit< tt) (omega arith) small in
    let all = length-append name ((32 ∷ decimal n) ++ []) in
    let rest = length-append (32 ∷ decimal n) [] in
    record { some = omega arith; each = (is, (decimal_word n small, tt)); short = omega (arith, digits, all, rest, few) }

end_line : IsLineOfWords end_words
end_line = record { some = omega arith; each = (name_word (codes "end") refl refl, tt); short = omega arith }

-- ---- the line of a stop

module _ (s : Snapshot) where
  low_in : (boards : List ℕ) (m a : ℕ) → a + m ≤ call_count s
      → AllByRecursion (λ j. j < call_count s) (flat_map (λ j. filter (λ x. x == j) boards) (range_with_len a m))
  low_in boards zero a within = tt
  low_in boards (suc m) a within =
      each-append (λ j. j < call_count s) (filter (λ x. x == a) boards) (flat_map (λ j. filter (λ x. x == j) boards) (range_with_len (a + 1) m))
      (each_kept (λ x. x == a) (λ j. j < call_count s) boards (λ j is. (let same = eqb-true j a is in omega (arith, same, within))))
      (low_in boards m (a + 1) (omega (arith, within)))

  by_index_low : (boards : List ℕ) → AllByRecursion (λ j. j < call_count s) (by_index s boards)
  by_index_low boards = low_in boards (call_count s) 0 (omega arith)

  abbrev id_of : ℕ → ℕ
  id_of j = (call_of s j).id

  module _ (ids_low : (j : ℕ) → j < call_count s → (call_of s j).id < 2 ^ 32) where
    ids_read : (boards : List ℕ) → AllByRecursion (λ j. j < call_count s) boards
        → numbers_of 0 4294967295 (map (λ j. decimal (call_of s j).id) boards) ≡ Ok (map id_of boards)
    ids_read [] all = refl
    ids_read (j ∷ boards) all =
        let low = ids_low j all.0 in
        let later = map (λ i. decimal (call_of s i).id) boards in
        let one : within 0 4294967295 (digits_number (decimal (id_of j))) ≡ Ok (id_of j) =
        number_again (id_of j) 0 4294967295 (omega (arith, low)) (omega arith) (omega (arith, low)) in
        then-ok (within 0 4294967295 (digits_number (decimal (id_of j)))) (λ n. numbers_of 0 4294967295 later >>= λ ns. Ok (n ∷ ns)) (id_of j)
        (id_of j ∷ map id_of boards) one
        (then-ok (numbers_of 0 4294967295 later) (λ ns. Ok (id_of j ∷ ns)) (map id_of boards) (id_of j ∷ map id_of boards) (ids_read boards all.1) refl)

    ids_words : (boards : List ℕ) → AllByRecursion (λ j. j < call_count s) boards → AllByRecursion IsWord (map (λ j. decimal (call_of s j).id) boards)
    ids_words [] all = tt
    ids_words (j ∷ boards) all = let low = ids_low j all.0 in (decimal_word (id_of j) (omega (arith, low)), ids_words boards all.1)

    ids_known : IsAccepted s → (boards : List ℕ) → AllByRecursion (λ j. j < call_count s) boards → calls_named s (map id_of boards) ≡ Ok boards
    ids_known accepted [] all = refl
    ids_known accepted (j ∷ boards) all =
        then-ok (call_named s (id_of j)) (λ i. calls_named s (map id_of boards) >>= λ is. Ok (i ∷ is)) j (j ∷ boards)
        (sym (named_call s (id_of j) j accepted all.0 refl))
        (then-ok (calls_named s (map id_of boards)) (λ is. Ok (j ∷ is)) boards (j ∷ boards) (ids_known accepted boards all.1) refl)

    stop_says : IsAccepted s → (stop : Stop) → stop.floor < 2 ^ 32 → says_stop s (stop_words s stop) ≡ Ok (stop_by_index s stop)
    stop_says accepted stop low =
        let words = stop_words s stop in
        let boards = by_index s stop.boards in
        let all = by_index_low stop.boards in
        let found = stop_by_index s stop in
        let many : at_least words 2 ≡ Ok tt = ap (λ (few : Bool). if few then Err Missing else Ok tt) (le-ltb (length words) 2 (omega arith)) in
        then-ok (at_least words 2)
        (λ _. short words 1 >>= λ floor.
        (numbers words 2 0 4294967295 >>= λ ids. (calls_named s ids >>= λ bs. Ok (record { floor = floor; boards = bs })))) tt found many
        (then-ok (short words 1)
        (λ floor. numbers words 2 0 4294967295 >>= λ ids. (calls_named s ids >>= λ bs. Ok (record { floor = floor; boards = bs }))) stop.floor found
        (written_number words 1 stop.floor 0 4294967295 (omega (arith, low)) refl (omega arith) (omega (arith, low)))
        (then-ok (numbers words 2 0 4294967295) (λ ids. calls_named s ids >>= λ bs. Ok (record { floor = stop.floor; boards = bs })) (map id_of boards) found
        (ids_read boards all)
        (then-ok (calls_named s (map id_of boards)) (λ bs. Ok (record { floor = stop.floor; boards = bs })) boards found (ids_known accepted boards all) refl)))

    stop_line : (stop : Stop) → stop.floor < 2 ^ 32 → length (joined (stop_words s stop)) ≤ line_limit → IsLineOfWords (stop_words s stop)
    stop_line stop low short = record {
      some = omega arith;
      each = (
        name_word (codes "stop") refl refl,
        (decimal_word stop.floor (omega (arith, low)), ids_words (by_index s stop.boards) (by_index_low stop.boards)),
      );
      short = short;
    }

  -- ---- the lines of the tours

  -- what is told of a stop
  abbrev HasLine : Stop → Type 0
  HasLine stop = (stop.floor < 2 ^ 32) × (length (joined (stop_words s stop)) ≤ line_limit)

  module _ (accepted : IsAccepted s) (plan : List (List Stop)) (car_ids : (c : ℕ) → c < car_count s → (spec_of s c).id < 2 ^ 32)
      (call_ids : (j : ℕ) → j < call_count s → (call_of s j).id < 2 ^ 32) where
    stops_say : (tour : List Stop) → AllByRecursion HasLine tour → map (says_stop s) (stop_lines s tour) ≡ map Ok (map (stop_by_index s) tour)
    stops_say [] all = refl
    stops_say (stop ∷ tour) all =
        ap (λ (x : Judged Stop). x ∷ map (says_stop s) (stop_lines s tour)) (stop_says call_ids accepted stop all.0.0)
        ∙ ap (λ (xs : List (Judged Stop)). Ok (stop_by_index s stop) ∷ xs) (stops_say tour all.1)

    stops_lines : (tour : List Stop) → AllByRecursion HasLine tour → AllByRecursion IsLineOfWords (stop_lines s tour)
    stops_lines [] all = tt
    stops_lines (stop ∷ tour) all = (stop_line call_ids stop all.0.0 all.0.1, stops_lines tour all.1)

    car_says : (c : ℕ) → c < car_count s → says_tour s (tour_words s c) ≡ Ok c
    car_says c below =
        let words = tour_words s c in
        let id = (spec_of s c).id in
        let low = car_ids c below in
        then-ok (short words 1) (λ i. car_named s.building i) id c
        (written_number words 1 id 0 4294967295 (omega (arith, low)) refl (omega arith) (omega (arith, low)))
        (sym (named_car s.building id c accepted.building below refl))

    car_line : (c : ℕ) → c < car_count s → IsLineOfWords (tour_words s c)
    car_line c below = let low = car_ids c below in
        number_line (codes "tour") (spec_of s c).id (name_word (codes "tour") refl refl) (omega arith) (omega (arith, low))

    -- the tours from one car on
    record Rest (front rest : List (List Stop)) (a m : ℕ) : Type 0 where
      whole : plan ≡ front ++ rest
      place : a ≡ length front
      count : m ≡ length rest
      within : a + m ≤ car_count s
      told : AllByRecursion (AllByRecursion HasLine) rest

    rest_later : (front rest : List (List Stop)) (tour : List Stop) (a m : ℕ) → Rest front (tour ∷ rest) a (suc m) → Rest (front ++ tour ∷ []) rest (a + 1) m
    rest_later front rest tour a m here =
        let size = length-append front (tour ∷ []) in
        record {
          whole = here.whole ∙ sym (append_assoc front (tour ∷ []) rest);
          place = omega (arith, here.place, size);
          count = omega (arith, here.count);
          within = omega (arith, here.within);
          told = here.told.1;
        }

    own_tour : (front rest : List (List Stop)) (tour : List Stop) (a m : ℕ) → Rest front (tour ∷ rest) a (suc m) → tour_of plan a ≡ tour
    own_tour front rest tour a m here = ap (λ (p : List (List Stop)). tour_of p a) here.whole ∙ ap (λ (c : ℕ). tour_of (front ++ tour ∷ rest) c) here.place
        ∙ mid front rest tour []

    tours_say : (front rest : List (List Stop)) (a m : ℕ) → Rest front rest a m
        → SayTours s a (flat_map (tour_lines s plan) (range_with_len a m)) (plan_by_index s rest)
    tours_say front [] a zero here = refl
    tours_say front [] a (suc m) here = absurd (omega (arith, here.count))
    tours_say front (tour ∷ rest) a zero here = absurd (omega (arith, here.count))
    tours_say front (tour ∷ rest) a (suc m) here =
        let later = flat_map (tour_lines s plan) (range_with_len (a + 1) m) in
        let own : SaysTour s a (tour_lines s plan a) (map (stop_by_index s) tour) = record {
          first = tour_words s a;
          stops = stop_lines s (tour_of plan a);
          lines_are = refl;
          car_is_said = car_says a (omega (arith, here.within));
          stops_are_said = ap (λ (t : List Stop). map (says_stop s) (stop_lines s t)) (own_tour front rest tour a m here) ∙ stops_say tour here.told.0;
        } in
        let more = tours_say (front ++ tour ∷ []) rest (a + 1) m (rest_later front rest tour a m here) in
        (tour_lines s plan a, later, refl, own, subst (λ (c : ℕ). SayTours s c later (plan_by_index s rest)) (add-one a) more)

    tours_lines : (front rest : List (List Stop)) (a m : ℕ) → Rest front rest a m
        → AllByRecursion IsLineOfWords (flat_map (tour_lines s plan) (range_with_len a m))
    tours_lines front [] a zero here = tt
    tours_lines front [] a (suc m) here = absurd (omega (arith, here.count))
    tours_lines front (tour ∷ rest) a zero here = absurd (omega (arith, here.count))
    tours_lines front (tour ∷ rest) a (suc m) here =
        let stops = subst (λ (t : List Stop). AllByRecursion IsLineOfWords (stop_lines s t)) (sym (own_tour front rest tour a m here))
        (stops_lines tour here.told.0) in
        each-append IsLineOfWords (tour_lines s plan a) (flat_map (tour_lines s plan) (range_with_len (a + 1) m))
        (car_line a (omega (arith, here.within)), stops)
        (tours_lines (front ++ tour ∷ []) rest (a + 1) m (rest_later front rest tour a m here))

-- ---- the whole

module _ (s : Snapshot) (accepted : IsAccepted s) (stated : Stated) (text : HasText s stated) where
  start : Rest s accepted stated.plan text.car_ids text.call_ids [] stated.plan 0 (car_count s)
  start = record {
    whole = refl;
    place = refl;
    count = sym text.within.fits.tours;
    within = omega arith;
    told = both_each_of (λ (stop : Stop). stop.floor < 2 ^ 32)
        (λ (stop : Stop). length (joined (stop_words s stop)) ≤ line_limit) stated.plan text.within.floors text.short;
  }

  -- the lines of the text stand for the answer with its boards by rising index
  pub text_stands : StandsFor s (answer_lines s stated) (stated_by_index s stated)
  unfolding answer_lines
  text_stands = record {
    head = head_words;
    cost = cost_words stated.cost;
    bound = bound_words stated.bound;
    tours = flat_map (tour_lines s stated.plan) (range_with_len 0 (car_count s));
    end = end_words;
    lines_are = refl;
    head_is_said = written_number head_words 1 1 1 1 (omega arith) refl (omega arith) (omega arith);
    cost_is_said = written_number (cost_words stated.cost) 1 stated.cost 0 1000000000000000000 (omega (arith, text.within.cost)) refl
        (omega arith) text.within.cost;
    bound_is_said = written_number (bound_words stated.bound) 1 stated.bound 0 1000000000000000000 (omega (arith, text.within.bound)) refl
        (omega arith) text.within.bound;
    tours_are_said = tours_say s accepted stated.plan text.car_ids text.call_ids [] stated.plan 0 (car_count s) start;
    each_car = length-map stated.plan (map (stop_by_index s)) ∙ text.within.fits.tours;
    end_is_said = refl;
  }

  text_lines : AllByRecursion IsLineOfWords (answer_lines s stated)
  unfolding answer_lines
  text_lines =
      let tours = tours_lines s accepted stated.plan text.car_ids text.call_ids [] stated.plan 0 (car_count s) start in
      let head = number_line (codes "answer") 1 (name_word (codes "answer") refl refl) (omega arith) (omega arith) in
      let cost = number_line (codes "cost") stated.cost (name_word (codes "cost") refl refl) (omega arith) (omega (arith, text.within.cost)) in
      let bound = number_line (codes "bound") stated.bound (name_word (codes "bound") refl refl) (omega arith) (omega (arith, text.within.bound)) in (
        head,
        (
          cost,
          (
            bound,
            each-append IsLineOfWords (flat_map (tour_lines s stated.plan) (range_with_len 0 (car_count s))) (end_words ∷ []) tours (end_line, tt),
          ),
        ),
      )

  pub text_begins : (before : TextState) (tail : List ℕ) → before.bytes ≡ answer_text s stated ++ tail → length (answer_text s stated) ≤ before.limit
      → BeginsWith (answer_lines s stated) (reading before) (reading (behind before s stated tail))
  unfolding answer_text
  text_begins before tail same room =
      subst (λ (bytes : List ℕ).
      BeginsWith (answer_lines s stated) (reading (record { line = before.line; limit = before.limit; bytes = bytes }))
      (reading (behind before s stated tail))) (sym same)
      (lines_again (answer_lines s stated) before.line before.limit tail text_lines room)

-- the text of an answer is read as that answer, where the lines that stand for one are
pub reads_text : (before now : Option TextState) (s : Snapshot) (answer : Result Stated TextFault) → IsAccepted s → ReadsLines before s answer now
    → ReadsText before s answer now
reads_text None now s answer accepted reads stated tail text = tt
reads_text (Some before) now s answer accepted reads stated tail text = λ begins room.
    reads (answer_lines s stated) (stated_by_index s stated) (reading (behind before s stated tail)) (text_stands s accepted stated text)
    (text_begins s accepted stated text before tail begins room)
