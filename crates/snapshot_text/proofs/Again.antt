-- Lines that stand for a snapshot make a section.
use Rattle.std.proofs.Common.{◌≡◌, ◌≢◌, ℕ, suc, ◌+◌, ◌<◌, ◌&&◌, Bool, true, false, List, [], ◌∷◌, ◌++◌, length, map, take, get_or, set, refl, sym, ap, ◌∙◌}
use Rattle.std.proofs.Common.{subst, arith, Option, None, Some, Result, Ok, Err, append_assoc, append-nil, length-append, IfSome, zero-add, inl, inr}
use Rattle.std.specs.Prelude.{codes, if◌then◌else◌, IsSomeAnd, ◌||◌}
use Rattle.std.specs.Str.{bytes_eq}
use Rattle.std.specs.List.{list_any, list_all}
use Rattle.std.proofs.lemmas.Bool.{ne_eqb, eq-eqb, false≢true, cases_Bool}
use Rattle.std.proofs.lemmas.Slice.Eq.{bytes_eq-Decides}
use Rattle.std.proofs.lemmas.List.{length-map, get_or-map, get_or-set_same, get_or-set_other, ext_get_or, take_at}
use Rattle.std.proofs.Math.ListN.{length-set}
use Rattle.elevator_model.specs.declared.CarSpec.{CarSpec}
use Rattle.elevator_model.specs.declared.CarState.{CarState}
use Rattle.elevator_model.specs.declared.Aboard.{Aboard}
use Rattle.elevator_model.specs.declared.Call.{Call}
use Rattle.elevator_model.specs.declared.Fault.{Fault}
use Rattle.elevator_model.specs.declared.Fault.TheVariants.{IdUsedBefore}
use Rattle.elevator_model.specs.Building.{Building, IsBuilding, no_car}
use Rattle.elevator_model.specs.Snapshot.{Snapshot, no_state, no_group, no_call, state_of}
use Rattle.elevator_model.specs.Faults.{fault_of_state, fault_of_group, fault_of_call}
use Rattle.call_state.proofs.Accepted.{IsClear, IsAccepted-to}
use Rattle.lift_text.specs.Reading.{TextState, Reading, reading}
use Rattle.lift_text.specs.declared.faults.TextFault.{TextFault}
use Rattle.lift_text.specs.declared.faults.TextFault.TheVariants.{Read, TooLong, Bad, NoMemory}
use Rattle.lift_text.specs.declared.codes.TextCode.TheVariants.{NoLineWord, NoState, NotInOpening}
use Rattle.text_sections.specs.declared.sections.AfterLine.{AfterLine}
use Rattle.text_sections.specs.declared.sections.AfterLine.TheVariants.{Whole}
use Rattle.text_sections.specs.Judging.{Judged, ◌>>=◌, in_order}
use Rattle.text_sections.specs.Words.{is_word, word_at, exactly, named, says_end}
use Rattle.text_sections.specs.Sections.{Line, goes_on, is_whole, accepted, refused, too_long, outcome, ReadAs}
use Rattle.text_sections.specs.Canonical.{BeginsWith, Goes, Makes, IsMade}
use Rattle.text_sections.specs.Unfinished.{EndsBehind}
use Rattle.text_sections.proofs.CanonicalLemmas.{goes-append, made, accepted_made}
use Rattle.text_sections.proofs.StepLemmas.{then-inv, then-ok, named-inv}
use Rattle.snapshot_text.specs.declared.kinds.Due.TheVariants.{Version}
use Rattle.snapshot_text.specs.declared.kinds.LineWord.{LineWord}
use Rattle.snapshot_text.specs.declared.kinds.LineWord.TheVariants.{Snapshot as SnapshotWord, Now, Car, Aboard as AboardWord, Call as CallWord, End}
use Rattle.snapshot_text.specs.Words.{version_said, moment_said, form_of, car_said, group_said, call_said}
use Rattle.snapshot_text.specs.Drafts.{Draft, blank, snapshot_read, any_word, line_word, has_car, has_all_cars, cars_in_order, groups_in_order, calls_in_order}
use Rattle.snapshot_text.specs.Drafts.{outside_opening, with_all_cars, version_in, moment_in, car_in, group_in, call_in, end_in, fault_in_car, fault_in_group}
use Rattle.snapshot_text.specs.Drafts.{fault_in_call, with_version, with_moment, with_car, with_group, with_call, after_judged, after, ended}
use Rattle.snapshot_text.specs.Snapshots.{says_version, says_moment, says_car, says_group, says_call, StandsFor, IsAnswered, IsSaid, SnapshotEndsBehind}
use Rattle.snapshot_text.specs.Snapshots.{FailsAs}
use Rattle.snapshot_text.proofs.Steps.{with_item-ok, text_of, car_said-below}
use Rattle.snapshot_text.proofs.Lists.{times_in, times-first, at_each, AreClear}
use Rattle.snapshot_text.proofs.Whole.{draft, nothing, sound}

-- ---- lines of a first word

text_at : (words : Line) (text : List ℕ) → is_word words 0 text ≡ true → word_at words 0 ≡ text
text_at words text is = (bytes_eq-Decides (word_at words 0) text).0 is

-- the line word that this text is
abbrev word_of : List ℕ → Judged LineWord
word_of text =
    if bytes_eq text (codes "snapshot") then Ok SnapshotWord
    else (if bytes_eq text (codes "now") then Ok Now
    else (if bytes_eq text (codes "car") then Ok Car
    else (if bytes_eq text (codes "aboard") then Ok AboardWord
    else (if bytes_eq text (codes "call") then Ok CallWord
    else (if bytes_eq text (codes "end") then Ok End
    else Err NoLineWord)))))

word_is : (word : LineWord) → word_of (text_of word) ≡ Ok word
word_is SnapshotWord = refl
word_is Now = refl
word_is Car = refl
word_is AboardWord = refl
word_is CallWord = refl
word_is End = refl

any_word-ok : (words : Line) (word : LineWord) → is_word words 0 (text_of word) ≡ true → any_word words ≡ Ok word
any_word-ok words word is = ap word_of (text_at words (text_of word) is) ∙ word_is word

mid : {X : Type 0} (front xs : List X) (x d : X) → get_or (front ++ x ∷ xs) (length front) d ≡ x
mid [] xs x d = refl
mid (y ∷ front) xs x d = mid front xs x d

clear_at : {X : Type 0} (fault_of : List X → X → Option Fault) (d : X) (all front xs : List X) (x : X) → AreClear fault_of d all → all ≡ front ++ x ∷ xs
    → fault_of front x ≡ None
clear_at {X} fault_of d all front xs x clear same =
    let inside : length front < length (front ++ x ∷ xs) = omega (arith, length-append front (x ∷ xs)) in
    let here : AreClear fault_of d (front ++ x ∷ xs) = subst (λ (ys : List X). AreClear fault_of d ys) same clear in
    ap (λ (ys : List X). fault_of ys x) (sym (take_at front (x ∷ xs) (length front) refl))
    ∙ ap (λ (y : X). fault_of (take (length front) (front ++ x ∷ xs)) y) (sym (mid front xs x d)) ∙ here (length front) inside

all_of : (stated : List Bool) → ((k : ℕ) → k < length stated → get_or stated k false ≡ true) → list_all (λ is. is) stated ≡ true
all_of [] each = refl
all_of (x ∷ stated) each = ap (λ (is : Bool). is && list_all (λ is. is) stated) (each 0 (omega arith)) ∙ all_of stated (λ k below. each (suc k) (omega arith))

some_of : (stated : List Bool) → 0 < length stated → ((k : ℕ) → k < length stated → get_or stated k false ≡ true) → list_any (λ is. is) stated ≡ true
some_of [] some each = absurd (omega arith)
some_of (x ∷ stated) some each = ap (λ (is : Bool). is || list_any (λ is. is) stated) (each 0 (omega arith))

not_three : (is : Bool) (more : ℕ) → (if is then 1 else 0) + (1 + more) ≡ 1 → (is ≡ false) × (more ≡ 0)
not_three true more e = absurd (omega (arith, e))
not_three false more e = (refl, omega (arith, e))

one_is : (is : Bool) → (if is then 1 else 0) + 0 ≡ 1 → is ≡ true
one_is true e = refl
one_is false e = absurd (omega (arith, e))

module _ (s : Snapshot) (o : Bool) (clear : IsClear s) (good : IsBuilding s.building) (long : length s.states ≡ length s.building.cars) where
  abbrev b : Building
  b = s.building

  abbrev at : List CarState → List Bool → List Aboard → List Call → Draft
  at states stated aboard calls = draft b o s.version s.moment (record { states = states; stated = stated; aboard = aboard; calls = calls })

  -- the lines of the cars were read
  record CarsDone (cars : List Line) (states : List CarState) (stated : List Bool) : Type 0 where
    states' : List CarState
    stated' : List Bool
    goes : Goes after cars (at states stated [] []) (at states' stated' [] [])
    states_long : length states' ≡ length b.cars
    stated_long : length stated' ≡ length b.cars
    all : (c : ℕ) → c < length b.cars → get_or stated' c false ≡ true
    same : (c : ℕ) → c < length b.cars → get_or states' c no_state ≡ state_of s c

  car_goes : (states : List CarState) (stated : List Bool) (words : Line) (one : ℕ × CarState) → says_car b s.version words ≡ Ok one
      → get_or stated one.0 false ≡ false → fault_of_state b s.moment one.0 one.1 ≡ None
      → after (at states stated [] []) words ≡ goes_on (at (set states one.0 one.1) (set stated one.0 true) [] [])
  car_goes states stated words one says fresh none =
      let d = at states stated [] [] in
      let name = then-inv (named (codes "car") words) (λ _. form_of s.version words >>= λ form. car_said b form words) one says in
      let form = then-inv (form_of s.version words) (λ form. car_said b form words) one name.2 in
      let here : car_in d words ≡ Ok one =
      then-ok (form_of s.version words) (λ form. cars_in_order d >>= λ _. car_said b form words) form.0 one form.1 form.2 in
      let no_fault : fault_in_car d one ≡ None = ap (λ (is : Bool). if is then Some IdUsedBefore else fault_of_state b s.moment one.0 one.1) fresh ∙ none in
      ap (λ (j : Judged LineWord). after_judged j d words) (any_word-ok words Car (named-inv _ _ name.1))
      ∙ with_item-ok (car_in d words) (fault_in_car d) (with_car d) one here no_fault

  cars_go : (cars : List Line) (places : List ℕ) (states : List CarState) (stated : List Bool) → length states ≡ length b.cars → length stated ≡ length b.cars
      → map (says_car b s.version) cars ≡ map (λ c. Ok (c, state_of s c)) places
      → ((c : ℕ) → c < length b.cars → (if get_or stated c false then 1 else 0) + times_in c places ≡ 1)
      → ((c : ℕ) → c < length b.cars → get_or stated c false ≡ true → get_or states c no_state ≡ state_of s c)
      → CarsDone cars states stated
  cars_go [] [] states stated states_long stated_long says counts done =
      let all : (c : ℕ) → c < length b.cars → get_or stated c false ≡ true = λ c below. one_is (get_or stated c false) (counts c below) in
      record {
        states' = states;
        stated' = stated;
        goes = refl;
        states_long = states_long;
        stated_long = stated_long;
        all = all;
        same =
            λ c below. done c below (all c below);
      }
  cars_go [] (place ∷ places) states stated states_long stated_long says counts done = absurd cc
  cars_go (words ∷ cars) [] states stated states_long stated_long says counts done = absurd cc
  cars_go (words ∷ cars) (place ∷ places) states stated states_long stated_long says counts done =
      let one : ℕ × CarState = (place, state_of s place) in
      let here : says_car b s.version words ≡ Ok one = cc in
      let later : map (says_car b s.version) cars ≡ map (λ c. Ok (c, state_of s c)) places = cc in
      let name = then-inv (named (codes "car") words) (λ _. form_of s.version words >>= λ form. car_said b form words) one here in
      let form = then-inv (form_of s.version words) (λ form. car_said b form words) one name.2 in
      let below = car_said-below b form.0 words one form.2 in
      let first : times_in place (place ∷ places) ≡ 1 + times_in place places = times-first place place places
      ∙ ap (λ (is : Bool). (if is then 1 else 0) + times_in place places) (eq-eqb place place refl) in
      let fresh = not_three (get_or stated place false) (times_in place places)
      (ap (λ (n : ℕ). (if get_or stated place false then 1 else 0) + n) (sym first) ∙ counts place below) in
      let states' = set states place (state_of s place) in
      let stated' = set stated place true in
      let here_stated = get_or-set_same stated place true false (omega (arith, below, stated_long)) in
      let other_stated : (k : ℕ) → k ≢ place
      → get_or stated' k false ≡ get_or stated k false = λ k differs. get_or-set_other stated place k true false differs in
      let rest = cars_go cars places states' stated' (length-set states place (state_of s place) ∙ states_long)
      (length-set stated place true ∙ stated_long) later
      (at_each place (λ k. k < length b.cars → (if get_or stated' k false then 1 else 0) + times_in k places ≡ 1)
      (λ _. ap (λ (is : Bool). (if is then 1 else 0) + times_in place places) here_stated ∙ ap (λ (n : ℕ). 1 + n) fresh.1)
      (λ k differs inside.
      (let apart : times_in k (place ∷ places) ≡ times_in k places = times-first k place places
      ∙ ap (λ (is : Bool). (if is then 1 else 0) + times_in k places) (ne_eqb place k (λ is. differs (sym is))) ∙ zero-add (times_in k places) in
      ap (λ (is : Bool). (if is then 1 else 0) + times_in k places) (other_stated k differs)
      ∙ ap (λ (n : ℕ). (if get_or stated k false then 1 else 0) + n) (sym apart) ∙ counts k inside)))
      (at_each place (λ k. k < length b.cars → get_or stated' k false ≡ true → get_or states' k no_state ≡ state_of s k)
      (λ _ _. get_or-set_same states place (state_of s place) no_state (omega (arith, below, states_long)))
      (λ k differs inside is. get_or-set_other states place k (state_of s place) no_state differs ∙ done k inside (sym (other_stated k differs) ∙ is))) in
      record {
        states' = rest.states';
        stated' = rest.stated';
        goes = (at states' stated' [] [], car_goes states stated words one here fresh.0 (clear.states place (omega (arith, below, long))), rest.goes);
        states_long = rest.states_long;
        stated_long = rest.stated_long;
        all = rest.all;
        same = rest.same;
      }

  module _ (stated : List Bool) (some : has_car (at s.states stated [] []) ≡ true) (whole : has_all_cars (at s.states stated [] []) ≡ true) where
    abbrev with : List Aboard → List Call → Draft
    with aboard calls = at s.states stated aboard calls

    group_goes : (front : List Aboard) (words : Line) (one : Aboard) → o ≡ false → says_group b words ≡ Ok one
        → fault_of_group b s.moment s.states front one ≡ None → after (with front []) words ≡ goes_on (with (front ++ one ∷ []) [])
    group_goes front words one shut says none =
        let d = with front [] in
        let name = then-inv (named (codes "aboard") words) (λ _. group_said b words) one says in
        let order : groups_in_order d ≡ Ok tt = ap (λ (is : Bool). in_order (is && true)) some in
        let outside : outside_opening d ≡ Ok tt = ap (λ (is : Bool). if is then Err NotInOpening else Ok tt) shut in
        let all : with_all_cars d ≡ Ok tt = ap (λ (is : Bool). if is then Ok tt else Err NoState) whole in
        let here : group_in d words ≡ Ok one =
        then-ok (groups_in_order d) (λ _. outside_opening d >>= λ _. (group_said b words >>= λ group. (with_all_cars d >>= λ _. Ok group))) tt one order
        (then-ok (outside_opening d) (λ _. group_said b words >>= λ group. (with_all_cars d >>= λ _. Ok group)) tt one outside
        (then-ok (group_said b words) (λ group. with_all_cars d >>= λ _. Ok group) one one name.2
        (then-ok (with_all_cars d) (λ _. Ok one) tt one all refl))) in
        ap (λ (j : Judged LineWord). after_judged j d words) (any_word-ok words AboardWord (named-inv _ _ name.1))
        ∙ with_item-ok (group_in d words) (fault_in_group d) (with_group d) one here none

    groups_go : (groups : List Line) (front xs : List Aboard) → s.aboard ≡ front ++ xs → map (says_group b) groups ≡ map Ok xs → (0 < length xs → o ≡ false)
        → Goes after groups (with front []) (with s.aboard [])
    groups_go [] front [] same says shut = ap (λ (ys : List Aboard). with ys []) (sym (same ∙ append-nil front))
    groups_go [] front (x ∷ xs) same says shut = absurd cc
    groups_go (words ∷ groups) front [] same says shut = absurd cc
    groups_go (words ∷ groups) front (x ∷ xs) same says shut =
        let here : says_group b words ≡ Ok x = cc in
        let later : map (says_group b) groups ≡ map Ok xs = cc in
        let closed = shut (omega arith) in
        let none = clear_at (fault_of_group b s.moment s.states) no_group s.aboard front xs x clear.groups same in (
          with (front ++ x ∷ []) [],
          group_goes front words x closed here none,
          groups_go groups (front ++ x ∷ []) xs (same ∙ sym (append_assoc front (x ∷ []) xs)) later (λ _. closed),
        )

    call_goes : (front : List Call) (words : Line) (one : Call) → o ≡ false → says_call b words ≡ Ok one → fault_of_call b s.moment s.aboard front one ≡ None
        → after (with s.aboard front) words ≡ goes_on (with s.aboard (front ++ one ∷ []))
    call_goes front words one shut says none =
        let d = with s.aboard front in
        let name = then-inv (named (codes "call") words) (λ _. call_said b words) one says in
        let order : calls_in_order d ≡ Ok tt = ap in_order some in
        let outside : outside_opening d ≡ Ok tt = ap (λ (is : Bool). if is then Err NotInOpening else Ok tt) shut in
        let all : with_all_cars d ≡ Ok tt = ap (λ (is : Bool). if is then Ok tt else Err NoState) whole in
        let here : call_in d words ≡ Ok one =
        then-ok (calls_in_order d) (λ _. outside_opening d >>= λ _. (call_said b words >>= λ call. (with_all_cars d >>= λ _. Ok call))) tt one order
        (then-ok (outside_opening d) (λ _. call_said b words >>= λ call. (with_all_cars d >>= λ _. Ok call)) tt one outside
        (then-ok (call_said b words) (λ call. with_all_cars d >>= λ _. Ok call) one one name.2
        (then-ok (with_all_cars d) (λ _. Ok one) tt one all refl))) in
        ap (λ (j : Judged LineWord). after_judged j d words) (any_word-ok words CallWord (named-inv _ _ name.1))
        ∙ with_item-ok (call_in d words) (fault_in_call d) (with_call d) one here none

    calls_go : (calls : List Line) (front xs : List Call) → s.calls ≡ front ++ xs → map (says_call b) calls ≡ map Ok xs → (0 < length xs → o ≡ false)
        → Goes after calls (with s.aboard front) (with s.aboard s.calls)
    calls_go [] front [] same says shut = ap (λ (ys : List Call). with s.aboard ys) (sym (same ∙ append-nil front))
    calls_go [] front (x ∷ xs) same says shut = absurd cc
    calls_go (words ∷ calls) front [] same says shut = absurd cc
    calls_go (words ∷ calls) front (x ∷ xs) same says shut =
        let here : says_call b words ≡ Ok x = cc in
        let later : map (says_call b) calls ≡ map Ok xs = cc in
        let closed = shut (omega arith) in
        let none = clear_at (fault_of_call b s.moment s.aboard) no_call s.calls front xs x clear.calls same in (
          with s.aboard (front ++ x ∷ []),
          call_goes front words x closed here none,
          calls_go calls (front ++ x ∷ []) xs (same ∙ sym (append_assoc front (x ∷ []) xs)) later (λ _. closed),
        )

    end_goes : (words : Line) → says_end words ≡ Ok tt → after (with s.aboard s.calls) words ≡ is_whole (with s.aboard s.calls)
    end_goes words says =
        let d = with s.aboard s.calls in
        let name = then-inv (named (codes "end") words) (λ _. exactly words 1) tt says in
        let order : calls_in_order d ≡ Ok tt = ap in_order some in
        let all : with_all_cars d ≡ Ok tt = ap (λ (is : Bool). if is then Ok tt else Err NoState) whole in
        let here : end_in d words ≡ Ok Whole =
        then-ok (calls_in_order d) (λ _. exactly words 1 >>= λ _. (with_all_cars d >>= λ _. Ok Whole)) tt Whole order
        (then-ok (exactly words 1) (λ _. with_all_cars d >>= λ _. Ok Whole) tt Whole name.2
        (then-ok (with_all_cars d) (λ _. Ok Whole) tt Whole all refl)) in
        ap (λ (j : Judged LineWord). after_judged j d words) (any_word-ok words End (named-inv _ _ name.1)) ∙ ap (λ (j : Judged AfterLine). ended j d) here

  head_goes : (words : Line) → says_version words ≡ Ok s.version → after (blank b o) words ≡ goes_on (with_version (blank b o) s.version)
  head_goes words says =
      let d = blank b o in
      let name = then-inv (named (codes "snapshot") words) (λ _. version_said words) s.version says in
      let word : line_word Version words ≡ Ok SnapshotWord = ap (λ (is : Bool). if is then Ok SnapshotWord else Err NoLineWord) (named-inv _ _ name.1) in
      ap (λ (j : Judged LineWord). after_judged j d words) word ∙ with_item-ok (version_in d words) (λ version. None) (with_version d) s.version name.2 refl

  moment_goes : (words : Line) → says_moment words ≡ Ok s.moment
      → after (with_version (blank b o) s.version) words ≡ goes_on (draft b o s.version s.moment (nothing b o s.version s.moment))
  moment_goes words says =
      let d = with_version (blank b o) s.version in
      let name = then-inv (named (codes "now") words) (λ _. moment_said words) s.moment says in
      ap (λ (j : Judged LineWord). after_judged j d words) (any_word-ok words Now (named-inv _ _ name.1))
      ∙ with_item-ok (moment_in d words) (λ moment. None) (with_moment d) s.moment name.2 refl

  -- the lines that stand for the snapshot make a section
  pub stands_made : (lines : List Line) → StandsFor b o lines s → (end : Draft) × (snapshot_read end ≡ s) × Makes after lines (blank b o) end
  stands_made lines says =
      let states = map (λ (x : CarSpec). no_state) b.cars in
      let stated = map (λ (x : CarSpec). false) b.cars in
      let unstated : (c : ℕ) → c < length b.cars → get_or stated c false ≡ false = λ c below. get_or-map (λ (x : CarSpec). false) b.cars c no_car false below in
      let cars = cars_go says.cars says.places states stated (length-map b.cars (λ (x : CarSpec). no_state))
      (length-map b.cars (λ (x : CarSpec). false)) says.states_are_said
      (λ c below. ap (λ (is : Bool). (if is then 1 else 0) + times_in c says.places) (unstated c below) ∙ zero-add (times_in c says.places) ∙ says.once c below)
      (λ c below is. absurd (false≢true (sym (unstated c below) ∙ is))) in
      let stated' = cars.stated' in
      let each : (c : ℕ) → c < length stated' → get_or stated' c false ≡ true = λ c below. cars.all c (omega (arith, below, cars.stated_long)) in
      let whole = all_of stated' each in
      let some = some_of stated' (omega (arith, good.cars_low, cars.stated_long)) each in
      let same : cars.states' ≡ s.states =
      ext_get_or no_state cars.states' s.states (cars.states_long ∙ sym long) (λ c below. cars.same c (omega (arith, below, cars.states_long))) in
      let cars_goes = subst (λ (now : List CarState). Goes after says.cars (at states stated [] []) (at now stated' [] [])) same cars.goes in
      let shut : (n : ℕ) → (o ≡ true → n ≡ 0) → 0 < n → o ≡ false = λ n none some. elim (cases_Bool o) [
        | inl is ↦ absurd (omega (arith, none is, some))
        | inr is ↦ is
      ] in
      let groups_goes =
      groups_go stated' some whole says.groups [] s.aboard refl says.groups_are_said (shut (length s.aboard) (λ opens. ap length (says.opening opens).0)) in
      let calls_goes = calls_go stated' some whole says.calls [] s.calls refl says.calls_are_said
      (shut (length s.calls) (λ opens. ap length (says.opening opens).1)) in
      let start = at states stated [] [] in
      let standing = at s.states stated' [] [] in
      let boarded = at s.states stated' s.aboard [] in
      let final = at s.states stated' s.aboard s.calls in
      let items_go = goes-append after (says.cars ++ says.groups) says.calls start boarded final
      (goes-append after says.cars says.groups start standing boarded cars_goes groups_goes) calls_goes in (
        final,
        refl,
        record {
          front = says.head ∷ says.moment ∷ (says.cars ++ says.groups ++ says.calls);
          last = says.end;
          before = final;
          lines_are = says.lines_are;
          goes = (with_version (blank b o) s.version, head_goes says.head says.version_is_said, (start, moment_goes says.moment says.moment_is_said, items_go));
          whole = end_goes stated' some whole says.end says.end_is_said;
        },
      )

-- ---- what is answered

pub complete : (b : Building) (o : Bool) (lines : List Line) (s : Snapshot) → StandsFor b o lines s → (end : Draft) × (snapshot_read end ≡ s)
    × Makes after lines (blank b o) end
complete b o lines s says =
    let P : Building → Type 0 = λ x. StandsFor x o lines s → (end : Draft) × (snapshot_read end ≡ s) × Makes after lines (blank x o) end in
    subst P says.building (stands_made s o (IsAccepted-to s says.accepted) says.accepted.building says.accepted.states lines) says

module _ (b : Building) (o : Bool) (lines : List Line) (s : Snapshot) (rest : Reading) (says : StandsFor b o lines s) where
  -- what was read of a text that begins with the lines
  outcome_is : (read : Reading) → BeginsWith lines read rest → outcome after read (blank b o) ≡ accepted (complete b o lines s says).0 rest
  outcome_is read begins = let whole = complete b o lines s says in made after lines (blank b o) whole.0 read rest begins whole.2

  pub answer_ok : (before now : Option TextState) (end : Draft) → ReadAs after before (blank b o) (Ok tt) end now
      → IfSome before (λ text. BeginsWith lines (reading text) rest → (snapshot_read end ≡ s) × IsSomeAnd now (λ behind. reading behind ≡ rest))
  answer_ok None now end read = tt
  answer_ok (Some text) None end read = λ begins. absurd read
  answer_ok (Some text) (Some behind) end read = λ begins.
      (let whole = complete b o lines s says in
      let same : accepted end (reading behind) ≡ accepted whole.0 rest = sym read ∙ outcome_is (reading text) begins in
      let ends : end ≡ whole.0 = cc in
      let left : reading behind ≡ rest = cc in
      (ap snapshot_read ends ∙ whole.1, left))

  pub answer_err : (before now : Option TextState) (fault : TextFault) (end : Draft) → ReadAs after before (blank b o) (Err fault) end now
      → IfSome before (λ text. BeginsWith lines (reading text) rest → IsAnswered s rest (Err fault) now)
  answer_err None now fault end read = tt
  answer_err (Some text) now Read end read = λ begins. tt
  answer_err (Some text) now NoMemory end read = λ begins. tt
  answer_err (Some text) now TooLong end read = λ begins. let clash : too_long ≡ accepted (complete b o lines s says).0 rest = sym read
      ∙ outcome_is (reading text) begins in cc
  answer_err (Some text) now (Bad line code) end read = λ begins. let clash : refused line code ≡ accepted (complete b o lines s says).0 rest = sym read
      ∙ outcome_is (reading text) begins in cc

-- nothing is said where memory ran out
pub no_memory_read : (before now : Option TextState) (b : Building) (o : Bool) (end : Draft) → ReadAs after before (blank b o) (Err NoMemory) end now
no_memory_read None now b o end = tt
no_memory_read (Some text) now b o end = tt

pub no_memory_answered : (before now : Option TextState) (lines : List Line) (rest : Reading) (s : Snapshot)
    → IfSome before (λ text. BeginsWith lines (reading text) rest → IsAnswered s rest (Err NoMemory) now)
no_memory_answered None now lines rest s = tt
no_memory_answered (Some text) now lines rest s = λ begins. tt

-- ---- the lines that were read

pub said_by : (before now : Option TextState) (b : Building) (o : Bool) (end : Draft) → IsBuilding b → IsMade after (blank b o) end
    → ReadAs after before (blank b o) (Ok tt) end now → IsSaid before b o (snapshot_read end) now
said_by None now b o end good is_made read = (is_made.0, (sound b o good is_made.0 end is_made.1).said)
said_by (Some text) None b o end good is_made read = absurd read
said_by (Some text) (Some behind) b o end good is_made read =
    let found = accepted_made after (reading text) (blank b o) end (reading behind) read in
    (found.0, found.1, (sound b o good found.0 end found.2).said)

-- ---- where a snapshot ends

pub ends_behind : (before : Option TextState) (b : Building) (o : Bool) (left : Option (List ℕ)) → EndsBehind after before (blank b o) left
    → SnapshotEndsBehind before b o left
ends_behind None b o left ends = tt
ends_behind (Some text) b o left ends = λ lines s behind between says.
    (let whole = complete b o lines s says in
    ends lines whole.0 behind between whole.2)

-- ---- a reader that has failed before

abbrev done : Result Unit TextFault
done = Ok tt

pub never_ok : (failed : Option TextFault) (x : Snapshot) → IfSome failed (λ fault. done ≡ Err fault) → IfSome failed (FailsAs (Ok x))
never_ok None x is = tt
never_ok (Some fault) x is = cc

pub memory_fails : (failed : Option TextFault) → IfSome failed (FailsAs {A = Snapshot} (Err NoMemory))
memory_fails None = tt
memory_fails (Some fault) = tt
