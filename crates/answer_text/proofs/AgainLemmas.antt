-- Lines that stand for an answer make a section.
use Rattle.std.proofs.Common.{◌≡◌, ℕ, suc, ◌==◌, not, Bool, true, List, [], ◌∷◌, ◌++◌, length, map, refl, sym, ap, ◌∙◌, subst, arith, Option, None, Some}
use Rattle.std.proofs.Common.{Result, Ok, Err, append_assoc, append-nil, length-append, IfSome}
use Rattle.std.specs.Prelude.{codes, if◌then◌else◌, IsSomeAnd}
use Rattle.std.proofs.lemmas.Bool.{eq-eqb, ne_eqb}
use Rattle.elevator_model.specs.declared.Stop.{Stop}
use Rattle.elevator_model.specs.Snapshot.{Snapshot, car_count}
use Rattle.lift_text.specs.Reading.{TextState, Reading, reading}
use Rattle.lift_text.specs.declared.faults.TextFault.{TextFault}
use Rattle.lift_text.specs.declared.faults.TextFault.TheVariants.{Read, TooLong, Bad, NoMemory}
use Rattle.lift_text.specs.declared.codes.TextCode.TheVariants.{NoLineWord}
use Rattle.text_sections.specs.declared.sections.AfterLine.TheVariants.{Whole}
use Rattle.text_sections.specs.Judging.{◌>>=◌, in_order}
use Rattle.text_sections.specs.Words.{is_word, exactly, named, says_end}
use Rattle.text_sections.specs.Sections.{Line, Step, goes_on, is_whole, step_of, accepted, refused, too_long, outcome, ReadAs}
use Rattle.text_sections.specs.Canonical.{BeginsWith, Goes, Makes, IsMade}
use Rattle.text_sections.proofs.CanonicalLemmas.{goes-append, made, accepted_made}
use Rattle.text_sections.proofs.StepLemmas.{then-inv, then-ok, in_order-ok, named-inv}
use Rattle.search_model.specs.declared.Stated.{Stated}
use Rattle.answer_text.specs.declared.kinds.LineWord.{LineWord}
use Rattle.answer_text.specs.declared.kinds.LineWord.TheVariants.{Answer, Cost as CostWord, Bound as BoundWord, Tour as TourWord, Stop as StopWord, End}
use Rattle.answer_text.specs.Words.{head_said, amount_said, tour_said, stop_said}
use Rattle.answer_text.specs.Drafts.{Draft, blank, stated_read, add_stop, any_word, line_word, has_tour, tour_in, stop_in, end_in, judged_word, after}
use Rattle.answer_text.specs.Answers.{says_head, says_cost, says_bound, says_tour, says_stop, SaysTour, SayTours, StandsFor, IsSaid, IsAnswered}
use Rattle.answer_text.proofs.StepLemmas.{text_of, word_found}
use Rattle.answer_text.proofs.WholeLemmas.{begun, priced, touring, sound}

-- ---- one line

-- a line of this word is judged by its word
by_word : (d : Draft) (words : Line) (word : LineWord) (step : Step Draft) → line_word d.due words ≡ Ok word → judged_word word d words ≡ Ok step
    → after d words ≡ step
by_word d words word step found judged = ap step_of (then-ok (line_word d.due words) (λ w. judged_word w d words) word step found judged)

-- the first word of a line that is named so
word_named : (words : Line) (word : LineWord) (u : Unit {0}) → named (text_of word) words ≡ Ok u → any_word words ≡ Ok word
word_named words word u e = word_found words word (named-inv (is_word words 0 (text_of word)) u e)

module _ (s : Snapshot) where
  head_goes : (words : Line) → says_head words ≡ Ok 1 → after (blank s) words ≡ goes_on (begun s)
  head_goes words says =
      let name = then-inv (named (codes "answer") words) (λ _. head_said words) 1 says in
      let found : line_word (blank s).due words ≡ Ok Answer =
      ap (λ (is : Bool). if is then Ok Answer else Err NoLineWord) (named-inv (is_word words 0 (codes "answer")) name.0 name.1) in
      by_word (blank s) words Answer (goes_on (begun s)) found (then-ok (head_said words) (λ _. Ok (goes_on (begun s))) 1 (goes_on (begun s)) name.2 refl)

  cost_goes : (cost : ℕ) (words : Line) → says_cost words ≡ Ok cost → after (begun s) words ≡ goes_on (priced s cost)
  cost_goes cost words says =
      let name = then-inv (named (codes "cost") words) (λ _. amount_said words) cost says in
      by_word (begun s) words CostWord (goes_on (priced s cost)) (word_named words CostWord name.0 name.1)
      (then-ok (amount_said words) (λ n. Ok (goes_on (priced s n))) cost (goes_on (priced s cost)) name.2 refl)

  bound_goes : (cost bound : ℕ) (words : Line) → says_bound words ≡ Ok bound → after (priced s cost) words ≡ goes_on (touring s cost bound [])
  bound_goes cost bound words says =
      let name = then-inv (named (codes "bound") words) (λ _. amount_said words) bound says in
      by_word (priced s cost) words BoundWord (goes_on (touring s cost bound [])) (word_named words BoundWord name.0 name.1)
      (then-ok (amount_said words) (λ n. Ok (goes_on (touring s cost n []))) bound (goes_on (touring s cost bound [])) name.2 refl)

  -- ---- the lines of the tours

  added : (front : List (List Stop)) (tour : List Stop) (stop : Stop) → add_stop (front ++ tour ∷ []) stop ≡ front ++ (tour ++ stop ∷ []) ∷ []
  added [] tour stop = refl
  added (first ∷ []) tour stop = refl
  added (first ∷ next ∷ front) tour stop = ap (λ (ts : List (List Stop)). first ∷ ts) (added (next ∷ front) tour stop)

  is_some : (front : List (List Stop)) (tour : List Stop) → not (length (front ++ tour ∷ []) == 0) ≡ true
  is_some front tour = let size = length-append front (tour ∷ []) in ap not (ne_eqb (length (front ++ tour ∷ [])) 0 (λ none. omega (arith, size, none)))

  module _ (cost bound : ℕ) where
    abbrev draft : List (List Stop) → Draft
    draft tours = touring s cost bound tours

    tour_goes : (front : List (List Stop)) (words : Line) (c : ℕ) → c ≡ length front → says_tour s words ≡ Ok c
        → after (draft front) words ≡ goes_on (draft (front ++ [] ∷ []))
    tour_goes front words c place says =
        let name = then-inv (named (codes "tour") words) (λ _. tour_said s words) c says in
        let due : in_order (c == length front) ≡ Ok tt = in_order-ok (c == length front) (eq-eqb c (length front) place) in
        let here : tour_in (draft front) words ≡ Ok c =
        then-ok (tour_said s words) (λ k. in_order (k == length front) >>= λ _. Ok k) c c name.2
        (then-ok (in_order (c == length front)) (λ _. Ok c) tt c due refl) in
        by_word (draft front) words TourWord (goes_on (draft (front ++ [] ∷ []))) (word_named words TourWord name.0 name.1)
        (then-ok (tour_in (draft front) words) (λ _. Ok (goes_on (draft (front ++ [] ∷ [])))) c (goes_on (draft (front ++ [] ∷ []))) here refl)

    stop_goes : (front : List (List Stop)) (tour : List Stop) (words : Line) (stop : Stop) → says_stop s words ≡ Ok stop
        → after (draft (front ++ tour ∷ [])) words ≡ goes_on (draft (front ++ (tour ++ stop ∷ []) ∷ []))
    stop_goes front tour words stop says =
        let d = draft (front ++ tour ∷ []) in
        let name = then-inv (named (codes "stop") words) (λ _. stop_said s words) stop says in
        let here : stop_in d words ≡ Ok stop =
        then-ok (in_order (has_tour d)) (λ _. stop_said s words) tt stop (in_order-ok (has_tour d) (is_some front tour)) name.2 in
        by_word d words StopWord (goes_on (draft (front ++ (tour ++ stop ∷ []) ∷ []))) (word_named words StopWord name.0 name.1)
        (then-ok (stop_in d words) (λ x. Ok (goes_on (draft (add_stop (front ++ tour ∷ []) x)))) stop
        (goes_on (draft (front ++ (tour ++ stop ∷ []) ∷ []))) here (ap (λ (ts : List (List Stop)). Ok (goes_on (draft ts))) (added front tour stop)))

    stops_go : (front : List (List Stop)) (tour : List Stop) (lines : List Line) (stops : List Stop) → map (says_stop s) lines ≡ map Ok stops
        → Goes after lines (draft (front ++ tour ∷ [])) (draft (front ++ (tour ++ stops) ∷ []))
    stops_go front tour [] [] says = ap (λ (t : List Stop). draft (front ++ t ∷ [])) (sym (append-nil tour))
    stops_go front tour [] (stop ∷ stops) says = absurd cc
    stops_go front tour (words ∷ lines) [] says = absurd cc
    stops_go front tour (words ∷ lines) (stop ∷ stops) says =
        let here : says_stop s words ≡ Ok stop = cc in
        let later : map (says_stop s) lines ≡ map Ok stops = cc in
        let rest = stops_go front (tour ++ stop ∷ []) lines stops later in (
          draft (front ++ (tour ++ stop ∷ []) ∷ []),
          stop_goes front tour words stop here,
          subst (λ (t : List Stop). Goes after lines (draft (front ++ (tour ++ stop ∷ []) ∷ [])) (draft (front ++ t ∷ [])))
              (append_assoc tour (stop ∷ []) stops) rest,
        )

    own_goes : (front : List (List Stop)) (c : ℕ) (lines : List Line) (tour : List Stop) → c ≡ length front → SaysTour s c lines tour
        → Goes after lines (draft front) (draft (front ++ tour ∷ []))
    own_goes front c lines tour place says =
        subst (λ (ls : List Line). Goes after ls (draft front) (draft (front ++ tour ∷ []))) (sym says.lines_are)
        (draft (front ++ [] ∷ []), tour_goes front says.first c place says.car_is_said, stops_go front [] says.stops tour says.stops_are_said)

    tours_go : (front : List (List Stop)) (c : ℕ) (lines : List Line) (tours : List (List Stop)) → c ≡ length front → SayTours s c lines tours
        → Goes after lines (draft front) (draft (front ++ tours))
    tours_go front c lines [] place says =
        subst (λ (ls : List Line). Goes after ls (draft front) (draft (front ++ []))) (sym says)
        (ap (λ (ts : List (List Stop)). draft ts) (sym (append-nil front)))
    tours_go front c lines (tour ∷ tours) place says =
        let own = own_goes front c says.0 tour place says.3 in
        let size = length-append front (tour ∷ []) in
        let rest = tours_go (front ++ tour ∷ []) (suc c) says.1 tours (omega (arith, place, size)) says.4 in
        let later = subst (λ (ts : List (List Stop)). Goes after says.1 (draft (front ++ tour ∷ [])) (draft ts)) (append_assoc front (tour ∷ []) tours) rest in
        subst (λ (ls : List Line). Goes after ls (draft front) (draft (front ++ tour ∷ tours))) (sym says.2)
        (goes-append after says.0 says.1 (draft front) (draft (front ++ tour ∷ [])) (draft (front ++ tour ∷ tours)) own later)

    end_goes : (tours : List (List Stop)) (words : Line) → length tours ≡ car_count s → says_end words ≡ Ok tt
        → after (draft tours) words ≡ is_whole (draft tours)
    end_goes tours words all says =
        let name = then-inv (named (codes "end") words) (λ _. exactly words 1) tt says in
        let order : in_order (length tours == car_count s) ≡ Ok tt = in_order-ok (length tours == car_count s) (eq-eqb (length tours) (car_count s) all) in
        let here : end_in (draft tours) words ≡ Ok Whole =
        then-ok (in_order (length tours == car_count s)) (λ _. exactly words 1 >>= λ _. Ok Whole) tt Whole order
        (then-ok (exactly words 1) (λ _. Ok Whole) tt Whole name.2 refl) in
        by_word (draft tours) words End (is_whole (draft tours)) (word_named words End name.0 name.1)
        (then-ok (end_in (draft tours) words) (λ _. Ok (is_whole (draft tours))) Whole (is_whole (draft tours)) here refl)

  -- ---- the whole

  abbrev final : Stated → Draft
  final stated = touring s stated.cost stated.bound stated.plan

  -- the lines that stand for an answer make a section
  pub stands_made : (lines : List Line) (stated : Stated) → StandsFor s lines stated → Makes after lines (blank s) (final stated)
  stands_made lines stated says = record {
    front = says.head ∷ says.cost ∷ says.bound ∷ says.tours;
    last = says.end;
    before = final stated;
    lines_are = says.lines_are;
    goes = (
      begun s,
      head_goes says.head says.head_is_said,
      (
        priced s stated.cost,
        cost_goes stated.cost says.cost says.cost_is_said,
        (
          touring s stated.cost stated.bound [],
          bound_goes stated.cost stated.bound says.bound says.bound_is_said,
          tours_go stated.cost stated.bound [] 0 says.tours stated.plan refl says.tours_are_said,
        ),
      ),
    );
    whole = end_goes stated.cost stated.bound stated.plan says.end says.each_car says.end_is_said;
  }

  -- ---- what is answered

  module _ (lines : List Line) (stated : Stated) (rest : Reading) (says : StandsFor s lines stated) where
    -- what was read of a text that begins with the lines
    outcome_is : (read : Reading) → BeginsWith lines read rest → outcome after read (blank s) ≡ accepted (final stated) rest
    outcome_is read begins = made after lines (blank s) (final stated) read rest begins (stands_made lines stated says)

    pub answer_ok : (before now : Option TextState) (end : Draft) → ReadAs after before (blank s) (Ok tt) end now
        → IfSome before (λ text. BeginsWith lines (reading text) rest → (stated_read end ≡ stated) × IsSomeAnd now (λ behind. reading behind ≡ rest))
    answer_ok None now end read = tt
    answer_ok (Some text) None end read = λ begins. absurd read
    answer_ok (Some text) (Some behind) end read = λ begins.
        (let same : accepted end (reading behind) ≡ accepted (final stated) rest = sym read ∙ outcome_is (reading text) begins in
        let ends : end ≡ final stated = cc in
        let left : reading behind ≡ rest = cc in
        (ap stated_read ends, left))

    pub answer_err : (before now : Option TextState) (fault : TextFault) (end : Draft) → ReadAs after before (blank s) (Err fault) end now
        → IfSome before (λ text. BeginsWith lines (reading text) rest → IsAnswered stated rest (Err fault) now)
    answer_err None now fault end read = tt
    answer_err (Some text) now Read end read = λ begins. tt
    answer_err (Some text) now NoMemory end read = λ begins. tt
    answer_err (Some text) now TooLong end read = λ begins. let clash : too_long ≡ accepted (final stated) rest = sym read
        ∙ outcome_is (reading text) begins in cc
    answer_err (Some text) now (Bad line code) end read = λ begins. let clash : refused line code ≡ accepted (final stated) rest = sym read
        ∙ outcome_is (reading text) begins in cc

  -- ---- the lines that were read

  pub said_by : (before now : Option TextState) (end : Draft) → IsMade after (blank s) end → ReadAs after before (blank s) (Ok tt) end now
      → IsSaid before s (stated_read end) now
  said_by None now end is_made read = (is_made.0, sound s is_made.0 end is_made.1)
  said_by (Some text) None end is_made read = absurd read
  said_by (Some text) (Some behind) end is_made read =
      let found = accepted_made after (reading text) (blank s) end (reading behind) read in
      (found.0, found.1, sound s found.0 end found.2)

-- ---- a reader that has failed before

abbrev done : Result Unit TextFault
done = Ok tt

pub never_ok : (failed : Option TextFault) (x : Stated) → IfSome failed (λ fault. done ≡ Err fault) → IfSome failed (λ fault. Ok x ≡ Err fault)
never_ok None x is = tt
never_ok (Some fault) x is = cc
