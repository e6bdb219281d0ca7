-- What lines that make a section say.
use Rattle.std.proofs.Common.{◌≡◌, ℕ, zero, suc, ◌+◌, ◌<◌, ◌==◌, not, true, List, [], ◌∷◌, ◌++◌, length, map, refl, sym, ap, ◌∙◌, subst, arith, Ok}
use Rattle.std.proofs.Common.{append_assoc, append-nil}
use Rattle.std.specs.Prelude.{codes}
use Rattle.std.proofs.lemmas.Bool.{eqb-true}
use Rattle.std.proofs.lemmas.List.{map_push}
use Rattle.elevator_model.specs.declared.Stop.{Stop}
use Rattle.elevator_model.specs.Snapshot.{Snapshot, car_count}
use Rattle.text_sections.specs.declared.sections.AfterLine.TheVariants.{Whole}
use Rattle.text_sections.specs.Judging.{Judged, ◌>>=◌, in_order}
use Rattle.text_sections.specs.Words.{is_word, exactly, number, named, says_end}
use Rattle.text_sections.specs.Sections.{Line, goes_on, is_whole}
use Rattle.text_sections.specs.Canonical.{Goes, Makes}
use Rattle.text_sections.proofs.StepLemmas.{then-inv, then-ok, in_order-inv, named-ok}
use Rattle.text_sections.proofs.NumberLemmas.{number_one}
use Rattle.answer_text.specs.declared.kinds.Due.TheVariants.{Cost, Bound, Tours}
use Rattle.answer_text.specs.declared.kinds.LineWord.{LineWord}
use Rattle.answer_text.specs.declared.kinds.LineWord.TheVariants.{Answer, Cost as CostWord, Bound as BoundWord, Tour as TourWord, Stop as StopWord, End}
use Rattle.answer_text.specs.Words.{head_said, amount_said, tour_said, stop_said}
use Rattle.answer_text.specs.Drafts.{Draft, blank, stated_read, add_stop, has_tour, tour_in, stop_in, end_in, judged_word, after}
use Rattle.answer_text.specs.Answers.{says_head, says_cost, says_bound, says_tour, says_stop, SaysTour, SayTours, StandsFor}
use Rattle.answer_text.proofs.StepLemmas.{after_goes, after_whole, item_goes, item_not_whole, end_whole, end_not_on, text_of, any_word_is, only_word}

-- ---- one more line of the tours

module _ (s : Snapshot) where
  tour_begins : (c : ℕ) (lines : List Line) (tours : List (List Stop)) (words : Line) → SayTours s c lines tours → says_tour s words ≡ Ok (c + length tours)
      → SayTours s c (lines ++ words ∷ []) (tours ++ [] ∷ [])
  tour_begins c lines [] words said says =
      let own : SaysTour s c (words ∷ []) [] =
      record { first = words; stops = []; lines_are = refl; car_is_said = says ∙ ap (λ (n : ℕ). Ok n) (omega arith); stops_are_said = refl } in
      (words ∷ [], [], ap (λ (ls : List Line). ls ++ words ∷ []) said ∙ sym (append-nil (words ∷ [])), own, refl)
  tour_begins c lines (tour ∷ tours) words said says =
      let later = tour_begins (suc c) said.1 tours words said.4 (says ∙ ap (λ (n : ℕ). Ok n) (omega arith)) in
      (said.0, said.1 ++ words ∷ [], ap (λ (ls : List Line). ls ++ words ∷ []) said.2 ∙ append_assoc said.0 said.1 (words ∷ []), said.3, later)

  tour_goes_on : (c : ℕ) (lines : List Line) (tour : List Stop) (words : Line) (stop : Stop) → SaysTour s c lines tour → says_stop s words ≡ Ok stop
      → SaysTour s c (lines ++ words ∷ []) (tour ++ stop ∷ [])
  tour_goes_on c lines tour words stop said says = record {
    first = said.first;
    stops = said.stops ++ words ∷ [];
    lines_are = ap (λ (ls : List Line). ls ++ words ∷ []) said.lines_are;
    car_is_said = said.car_is_said;
    stops_are_said = map_push (says_stop s) said.stops words ∙ ap (λ (xs : List (Judged Stop)). xs ++ says_stop s words ∷ []) said.stops_are_said
        ∙ ap (λ (x : Judged Stop). map Ok tour ++ x ∷ []) says ∙ sym (map_push Ok tour stop);
  }

  stop_added : (c : ℕ) (lines : List Line) (tours : List (List Stop)) (words : Line) (stop : Stop) → 0 < length tours → SayTours s c lines tours
      → says_stop s words ≡ Ok stop → SayTours s c (lines ++ words ∷ []) (add_stop tours stop)
  stop_added c lines [] words stop some said says = absurd (omega arith)
  stop_added c lines (tour ∷ []) words stop some said says =
      let alone : lines ≡ said.0 = said.2 ∙ ap (λ (ls : List Line). said.0 ++ ls) said.4 ∙ append-nil said.0 in (
        said.0 ++ words ∷ [],
        [],
        ap (λ (ls : List Line). ls ++ words ∷ []) alone ∙ sym (append-nil (said.0 ++ words ∷ [])),
        tour_goes_on c said.0 tour words stop said.3 says,
        refl,
      )
  stop_added c lines (tour ∷ next ∷ tours) words stop some said says =
      let later = stop_added (suc c) said.1 (next ∷ tours) words stop (omega arith) said.4 says in
      (said.0, said.1 ++ words ∷ [], ap (λ (ls : List Line). ls ++ words ∷ []) said.2 ∙ append_assoc said.0 said.1 (words ∷ []), said.3, later)

  -- ---- the draft at each stage

  abbrev pub begun : Draft
  begun = record { snapshot = s; due = Cost; cost = 0; bound = 0; tours = [] }

  abbrev pub priced : ℕ → Draft
  priced cost = record { snapshot = s; due = Bound; cost = cost; bound = 0; tours = [] }

  abbrev pub touring : ℕ → ℕ → List (List Stop) → Draft
  touring cost bound tours = record { snapshot = s; due = Tours; cost = cost; bound = bound; tours = tours }

  -- ---- the first three lines

  head_line : (words : Line) (next : Draft) → after (blank s) words ≡ goes_on next → (begun ≡ next) × (says_head words ≡ Ok 1)
  head_line words next e =
      let inv = after_goes (blank s) next words e in
      let word = only_word (is_word words 0 (codes "answer")) inv.0 inv.1 in
      let here : judged_word Answer (blank s) words ≡ Ok (goes_on next) =
      subst (λ (w : LineWord). judged_word w (blank s) words ≡ Ok (goes_on next)) (sym word.1) inv.2 in
      let one = item_goes (head_said words) (λ _. begun) next here in
      let two = then-inv (exactly words 2) (λ _. number words 1 1 1) one.0 one.1 in
      let first : head_said words ≡ Ok 1 = one.1 ∙ ap (λ (n : ℕ). Ok n) (sym (number_one words one.0 two.2)) in
      (one.2, then-ok (named (codes "answer") words) (λ _. head_said words) tt 1 (named-ok words (text_of Answer) word.0) first)

  cost_by_word : (word : LineWord) (words : Line) (next : Draft) → is_word words 0 (text_of word) ≡ true → judged_word word begun words ≡ Ok (goes_on next)
      → (cost : ℕ) × (priced cost ≡ next) × (says_cost words ≡ Ok cost)
  cost_by_word Answer words next is e = absurd cc
  cost_by_word CostWord words next is e =
      let one = item_goes (amount_said words) priced next e in
      (one.0, one.2, then-ok (named (codes "cost") words) (λ _. amount_said words) tt one.0 (named-ok words (text_of CostWord) is) one.1)
  cost_by_word BoundWord words next is e = absurd cc
  cost_by_word TourWord words next is e = absurd cc
  cost_by_word StopWord words next is e = absurd cc
  cost_by_word End words next is e = absurd cc

  cost_line : (words : Line) (next : Draft) → after begun words ≡ goes_on next → (cost : ℕ) × (priced cost ≡ next) × (says_cost words ≡ Ok cost)
  cost_line words next e = let inv = after_goes begun next words e in cost_by_word inv.0 words next (any_word_is words inv.0 inv.1) inv.2

  bound_by_word : (cost : ℕ) (word : LineWord) (words : Line) (next : Draft) → is_word words 0 (text_of word) ≡ true
      → judged_word word (priced cost) words ≡ Ok (goes_on next)
      → (bound : ℕ) × (touring cost bound [] ≡ next) × (says_bound words ≡ Ok bound)
  bound_by_word cost Answer words next is e = absurd cc
  bound_by_word cost CostWord words next is e = absurd cc
  bound_by_word cost BoundWord words next is e =
      let one = item_goes (amount_said words) (λ bound. touring cost bound []) next e in
      (one.0, one.2, then-ok (named (codes "bound") words) (λ _. amount_said words) tt one.0 (named-ok words (text_of BoundWord) is) one.1)
  bound_by_word cost TourWord words next is e = absurd cc
  bound_by_word cost StopWord words next is e = absurd cc
  bound_by_word cost End words next is e = absurd cc

  bound_line : (cost : ℕ) (words : Line) (next : Draft) → after (priced cost) words ≡ goes_on next → (bound : ℕ) × (touring cost bound [] ≡ next)
      × (says_bound words ≡ Ok bound)
  bound_line cost words next e = let inv = after_goes (priced cost) next words e in bound_by_word cost inv.0 words next (any_word_is words inv.0 inv.1) inv.2

  -- the section is not whole with one of them

  blank_not_whole : (words : Line) (end : Draft) → after (blank s) words ≡ is_whole end → ⊥
  blank_not_whole words end e =
      let inv = after_whole (blank s) end words e in
      let word = only_word (is_word words 0 (codes "answer")) inv.0 inv.1 in
      let here : judged_word Answer (blank s) words ≡ Ok (is_whole end) =
      subst (λ (w : LineWord). judged_word w (blank s) words ≡ Ok (is_whole end)) (sym word.1) inv.2 in
      item_not_whole (head_said words) (λ _. begun) end here

  begun_not_whole_by : (word : LineWord) (words : Line) (end : Draft) → judged_word word begun words ≡ Ok (is_whole end) → ⊥
  begun_not_whole_by Answer words end e = cc
  begun_not_whole_by CostWord words end e = item_not_whole (amount_said words) priced end e
  begun_not_whole_by BoundWord words end e = cc
  begun_not_whole_by TourWord words end e = cc
  begun_not_whole_by StopWord words end e = cc
  begun_not_whole_by End words end e = cc

  begun_not_whole : (words : Line) (end : Draft) → after begun words ≡ is_whole end → ⊥
  begun_not_whole words end e = let inv = after_whole begun end words e in begun_not_whole_by inv.0 words end inv.2

  priced_not_whole_by : (cost : ℕ) (word : LineWord) (words : Line) (end : Draft) → judged_word word (priced cost) words ≡ Ok (is_whole end) → ⊥
  priced_not_whole_by cost Answer words end e = cc
  priced_not_whole_by cost CostWord words end e = cc
  priced_not_whole_by cost BoundWord words end e = item_not_whole (amount_said words) (λ bound. touring cost bound []) end e
  priced_not_whole_by cost TourWord words end e = cc
  priced_not_whole_by cost StopWord words end e = cc
  priced_not_whole_by cost End words end e = cc

  priced_not_whole : (cost : ℕ) (words : Line) (end : Draft) → after (priced cost) words ≡ is_whole end → ⊥
  priced_not_whole cost words end e = let inv = after_whole (priced cost) end words e in priced_not_whole_by cost inv.0 words end inv.2

  -- ---- the lines of the tours

  module _ (cost bound : ℕ) where
    abbrev draft : List (List Stop) → Draft
    draft tours = touring cost bound tours

    -- more lines were read, and they say these tours
    abbrev Reads : List Line → Draft → Type 0
    Reads lines next = (tours : List (List Stop)) × (draft tours ≡ next) × SayTours s 0 lines tours

    some_of : (n : ℕ) → not (n == 0) ≡ true → 0 < n
    some_of zero e = absurd cc
    some_of (suc n) e = omega arith

    took_by_word : (word : LineWord) (lines : List Line) (tours : List (List Stop)) (next : Draft) (words : Line) → SayTours s 0 lines tours
        → is_word words 0 (text_of word) ≡ true → judged_word word (draft tours) words ≡ Ok (goes_on next)
        → Reads (lines ++ words ∷ []) next
    took_by_word Answer lines tours next words said is e = absurd cc
    took_by_word CostWord lines tours next words said is e = absurd cc
    took_by_word BoundWord lines tours next words said is e = absurd cc
    took_by_word TourWord lines tours next words said is e =
        let one = item_goes (tour_in (draft tours) words) (λ _. draft (tours ++ [] ∷ [])) next e in
        let car = then-inv (tour_said s words) (λ c. in_order (c == length tours) >>= λ _. Ok c) one.0 one.1 in
        let due = then-inv (in_order (car.0 == length tours)) (λ _. Ok car.0) one.0 car.2 in
        let place : car.0 ≡ length tours = eqb-true car.0 (length tours) (in_order-inv (car.0 == length tours) due.0 due.1) in
        let says : says_tour s words ≡ Ok (0 + length tours) =
        then-ok (named (codes "tour") words) (λ _. tour_said s words) tt (0 + length tours) (named-ok words (text_of TourWord) is)
        (car.1 ∙ ap (λ (n : ℕ). Ok n) (place ∙ omega arith)) in
        (tours ++ [] ∷ [], one.2, tour_begins 0 lines tours words said says)
    took_by_word StopWord lines tours next words said is e =
        let one = item_goes (stop_in (draft tours) words) (λ stop. draft (add_stop tours stop)) next e in
        let order = then-inv (in_order (has_tour (draft tours))) (λ _. stop_said s words) one.0 one.1 in
        let some = some_of (length tours) (in_order-inv (not (length tours == 0)) order.0 order.1) in
        let says : says_stop s words ≡ Ok one.0 =
        then-ok (named (codes "stop") words) (λ _. stop_said s words) tt one.0 (named-ok words (text_of StopWord) is) order.2 in
        (add_stop tours one.0, one.2, stop_added 0 lines tours words one.0 some said says)
    took_by_word End lines tours next words said is e = absurd (end_not_on (end_in (draft tours) words) (draft tours) next e)

    took_line : (lines : List Line) (tours : List (List Stop)) (next : Draft) (words : Line) → SayTours s 0 lines tours
        → after (draft tours) words ≡ goes_on next → Reads (lines ++ words ∷ []) next
    took_line lines tours next words said e = let inv = after_goes (draft tours) next words e in
        took_by_word inv.0 lines tours next words said (any_word_is words inv.0 inv.1) inv.2

    took_lines : (more lines : List Line) (tours : List (List Stop)) (end : Draft) → SayTours s 0 lines tours → Goes after more (draft tours) end
        → Reads (lines ++ more) end
    took_lines [] lines tours end said goes = (tours, goes, subst (λ (ls : List Line). SayTours s 0 ls tours) (sym (append-nil lines)) said)
    took_lines (words ∷ more) lines tours end said goes =
        let one = took_line lines tours goes.0 words said goes.1 in
        let rest = took_lines more (lines ++ words ∷ []) one.0 end one.2 (subst (λ (d : Draft). Goes after more d end) (sym one.1) goes.2) in
        (rest.0, rest.1, subst (λ (ls : List Line). SayTours s 0 ls rest.0) (append_assoc lines (words ∷ []) more) rest.2)

    abbrev Ends : List (List Stop) → Line → Draft → Type 0
    Ends tours words end = (draft tours ≡ end) × (says_end words ≡ Ok tt) × (length tours ≡ car_count s)

    whole_by_word : (word : LineWord) (tours : List (List Stop)) (end : Draft) (words : Line) → is_word words 0 (text_of word) ≡ true
        → judged_word word (draft tours) words ≡ Ok (is_whole end) → Ends tours words end
    whole_by_word Answer tours end words is e = absurd cc
    whole_by_word CostWord tours end words is e = absurd cc
    whole_by_word BoundWord tours end words is e = absurd cc
    whole_by_word TourWord tours end words is e = absurd (item_not_whole (tour_in (draft tours) words) (λ _. draft (tours ++ [] ∷ [])) end e)
    whole_by_word StopWord tours end words is e = absurd (item_not_whole (stop_in (draft tours) words) (λ stop. draft (add_stop tours stop)) end e)
    whole_by_word End tours end words is e =
        let inv = end_whole (end_in (draft tours) words) (draft tours) end e in
        let order = then-inv (in_order (length tours == car_count s)) (λ _. exactly words 1 >>= λ _. Ok Whole) inv.0 inv.1 in
        let one = then-inv (exactly words 1) (λ _. Ok Whole) inv.0 order.2 in (
          inv.2,
          then-ok (named (codes "end") words) (λ _. exactly words 1) tt tt (named-ok words (text_of End) is) one.1,
          eqb-true (length tours) (car_count s) (in_order-inv (length tours == car_count s) order.0 order.1),
        )

    ends : (tours : List (List Stop)) (end : Draft) (words : Line) → after (draft tours) words ≡ is_whole end → Ends tours words end
    ends tours end words e = let inv = after_whole (draft tours) end words e in whole_by_word inv.0 tours end words (any_word_is words inv.0 inv.1) inv.2

  -- ---- the law

  sound_by : (front : List Line) (last : Line) (before end : Draft) → Goes after front (blank s) before → after before last ≡ is_whole end
      → StandsFor s (front ++ last ∷ []) (stated_read end)
  sound_by [] last before end goes whole = absurd (blank_not_whole last end (subst (λ (d : Draft). after d last ≡ is_whole end) (sym goes) whole))
  sound_by (head ∷ []) last before end goes whole =
      let first = head_line head goes.0 goes.1 in
      absurd (begun_not_whole last end (subst (λ (d : Draft). after d last ≡ is_whole end) (sym (first.0 ∙ goes.2)) whole))
  sound_by (head ∷ cost ∷ []) last before end goes whole =
      let first = head_line head goes.0 goes.1 in
      let later = subst (λ (d : Draft). Goes after (cost ∷ []) d before) (sym first.0) goes.2 in
      let second = cost_line cost later.0 later.1 in
      absurd (priced_not_whole second.0 last end (subst (λ (d : Draft). after d last ≡ is_whole end) (sym (second.1 ∙ later.2)) whole))
  sound_by (head ∷ cost ∷ bound ∷ items) last before end goes whole =
      let first = head_line head goes.0 goes.1 in
      let later = subst (λ (d : Draft). Goes after (cost ∷ bound ∷ items) d before) (sym first.0) goes.2 in
      let second = cost_line cost later.0 later.1 in
      let behind = subst (λ (d : Draft). Goes after (bound ∷ items) d before) (sym second.1) later.2 in
      let third = bound_line second.0 bound behind.0 behind.1 in
      let rest = subst (λ (d : Draft). Goes after items d before) (sym third.1) behind.2 in
      let read = took_lines second.0 third.0 items [] [] before refl rest in
      let over = ends second.0 third.0 read.0 end last (subst (λ (d : Draft). after d last ≡ is_whole end) (sym read.1) whole) in
      subst (λ (d : Draft). StandsFor s (head ∷ cost ∷ bound ∷ items ++ last ∷ []) (stated_read d)) over.0
      (record {
        head = head;
        cost = cost;
        bound = bound;
        tours = items;
        end = last;
        lines_are = refl;
        head_is_said = first.1;
        cost_is_said = second.2;
        bound_is_said = third.2;
        tours_are_said = read.2;
        each_car = over.2;
        end_is_said = over.1;
      })

  pub sound : (lines : List Line) (end : Draft) → Makes after lines (blank s) end → StandsFor s lines (stated_read end)
  sound lines end made =
      subst (λ (ls : List Line). StandsFor s ls (stated_read end)) (sym made.lines_are) (sound_by made.front made.last made.before end made.goes made.whole)
