-- An answer that lines stand for fits the snapshot.
use Rattle.std.proofs.Common.{◌≡◌, ℕ, suc, ◌^◌, ◌<◌, ◌≤◌, ◌==◌, List, [], ◌∷◌, map, subst, arith, Ok}
use Rattle.std.specs.Prelude.{codes, All}
use Rattle.elevator_model.specs.declared.Call.{Call}
use Rattle.elevator_model.specs.declared.Stop.{Stop}
use Rattle.elevator_model.specs.Snapshot.{Snapshot, call_count}
use Rattle.text_sections.specs.Judging.{◌>>=◌}
use Rattle.text_sections.specs.Words.{exactly, at_least, number, short, named}
use Rattle.text_sections.specs.NumberLists.{numbers}
use Rattle.text_sections.specs.Sections.{Line}
use Rattle.text_sections.proofs.StepLemmas.{then-inv, known-below}
use Rattle.text_sections.proofs.EachLemmas.{all_more}
use Rattle.text_sections.proofs.NumberLemmas.{number_in}
use Rattle.search_model.specs.declared.Stated.{Stated}
use Rattle.answer_text.specs.Plans.{AreCalls}
use Rattle.answer_text.specs.Words.{amount_said, call_named, calls_named, stop_said}
use Rattle.answer_text.specs.Answers.{says_stop, SayTours, StandsFor, IsWithin}

amount_high : (words : Line) (name : List ℕ) (n : ℕ) → (named name words >>= λ _. amount_said words) ≡ Ok n → n ≤ 1000000000000000000
amount_high words name n e =
    let named_so = then-inv (named name words) (λ _. amount_said words) n e in
    let two = then-inv (exactly words 2) (λ _. number words 1 0 1000000000000000000) n named_so.2 in
    (number_in words 1 0 1000000000000000000 n two.2).1

-- ---- calls

call_below : (s : Snapshot) (id j : ℕ) → call_named s id ≡ Ok j → j < call_count s
call_below s id j e = known-below (λ (x : Call). x.id == id) s.calls j e

calls_below : (s : Snapshot) (ids boards : List ℕ) → calls_named s ids ≡ Ok boards → AreCalls s boards
calls_below s [] [] e = λ k d below. absurd (omega arith)
calls_below s [] (j ∷ boards) e = absurd cc
calls_below s (id ∷ ids) boards e =
    let first = then-inv (call_named s id) (λ j. calls_named s ids >>= λ js. Ok (j ∷ js)) boards e in
    let later = then-inv (calls_named s ids) (λ js. Ok (first.0 ∷ js)) boards first.2 in
    let same : first.0 ∷ later.0 ≡ boards = cc in
    subst (AreCalls s) same (all_more (λ j. j < call_count s) first.0 later.0 (call_below s id first.0 first.1) (calls_below s ids later.0 later.1))

-- ---- stops

abbrev Fits : Snapshot → Stop → Type 0
Fits s stop = AreCalls s stop.boards × (stop.floor < 2 ^ 32)

stop_fits : (s : Snapshot) (words : Line) (stop : Stop) → says_stop s words ≡ Ok stop → Fits s stop
stop_fits s words stop e =
    let named_so = then-inv (named (codes "stop") words) (λ _. stop_said s words) stop e in
    let two = then-inv (at_least words 2)
    (λ _. short words 1 >>= λ floor.
    (numbers words 2 0 4294967295 >>= λ ids. (calls_named s ids >>= λ boards. Ok (record { floor = floor; boards = boards })))) stop named_so.2 in
    let floor = then-inv (short words 1)
    (λ floor. numbers words 2 0 4294967295 >>= λ ids. (calls_named s ids >>= λ boards. Ok (record { floor = floor; boards = boards }))) stop two.2 in
    let ids = then-inv (numbers words 2 0 4294967295) (λ ids. calls_named s ids >>= λ boards. Ok (record { floor = floor.0; boards = boards })) stop floor.2 in
    let boards = then-inv (calls_named s ids.0) (λ boards. Ok (record { floor = floor.0; boards = boards })) stop ids.2 in
    let found : Stop = record { floor = floor.0; boards = boards.0 } in
    let same : found ≡ stop = cc in
    let low = (number_in words 1 0 4294967295 floor.0 floor.1).1 in
    subst (Fits s) {x = found} same (calls_below s ids.0 boards.0 boards.1, omega (arith, low))

all_none : {X : Type 0} (P : X → Type 0) → All P []
all_none P k d below = absurd (omega arith)

stops_fit : (s : Snapshot) (lines : List Line) (tour : List Stop) → map (says_stop s) lines ≡ map Ok tour → All (Fits s) tour
stops_fit s [] [] e = all_none (Fits s)
stops_fit s [] (stop ∷ tour) e = absurd cc
stops_fit s (words ∷ lines) [] e = absurd cc
stops_fit s (words ∷ lines) (stop ∷ tour) e =
    let here : says_stop s words ≡ Ok stop = cc in
    let later : map (says_stop s) lines ≡ map Ok tour = cc in
    all_more (Fits s) stop tour (stop_fits s words stop here) (stops_fit s lines tour later)

tours_fit : (s : Snapshot) (c : ℕ) (lines : List Line) (plan : List (List Stop)) → SayTours s c lines plan → All (All (Fits s)) plan
tours_fit s c lines [] said = all_none (All (Fits s))
tours_fit s c lines (tour ∷ plan) said =
    all_more (All (Fits s)) tour plan (stops_fit s said.3.stops tour said.3.stops_are_said) (tours_fit s (suc c) said.1 plan said.4)

-- ---- the whole

pub stands_within : (s : Snapshot) (lines : List Line) (stated : Stated) → StandsFor s lines stated → IsWithin s stated
stands_within s lines stated stands =
    let all = tours_fit s 0 stands.tours stated.plan stands.tours_are_said in
    record {
      fits = record { tours = stands.each_car; boards = λ c d below k e inside. (all c d below k e inside).0 };
      floors = λ c d below k e inside. (all c d below k e inside).1;
      cost = amount_high stands.cost (codes "cost") stated.cost stands.cost_is_said;
      bound = amount_high stands.bound (codes "bound") stated.bound stands.bound_is_said;
    }
