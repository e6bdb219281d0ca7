-- What lines that make a section say.
use Rattle.std.proofs.Common.{◌≡◌, ◌≢◌, ℕ, ◌+◌, ◌<◌, ◌≤◌, ◌==◌, Bool, true, false, List, [], ◌∷◌, ◌++◌, length, map, get_or, set, refl, sym, ap, ◌∙◌, subst}
use Rattle.std.proofs.Common.{arith, Option, None, Some, Ok, Err, append_assoc, append-nil, IfSome, add-zero, inl, inr}
use Rattle.std.specs.Prelude.{codes, if◌then◌else◌}
use Rattle.std.specs.List.{list_all}
use Rattle.std.proofs.lemmas.Bool.{eqb-true, ne_eqb, eq-eqb, false≢true, and_parts, cases_Bool}
use Rattle.std.proofs.lemmas.List.{map_push, length-map, get_or-map, get_or-set_same, get_or-set_other}
use Rattle.std.proofs.lemmas.List.Folds.{list_all_at}
use Rattle.std.proofs.Math.ListN.{length-set}
use Rattle.elevator_model.specs.declared.CarSpec.{CarSpec}
use Rattle.elevator_model.specs.declared.CarState.{CarState}
use Rattle.elevator_model.specs.declared.Aboard.{Aboard}
use Rattle.elevator_model.specs.declared.Call.{Call}
use Rattle.elevator_model.specs.declared.Fault.{Fault}
use Rattle.elevator_model.specs.declared.Fault.TheVariants.{IdUsedBefore}
use Rattle.elevator_model.specs.Building.{Building, IsBuilding, no_car}
use Rattle.elevator_model.specs.Snapshot.{IsAccepted, IsUnmoving, no_state, no_group, no_call}
use Rattle.elevator_model.specs.Faults.{fault_of_state, fault_of_group, fault_of_call}
use Rattle.call_state.specs.SnapshotParts.{AreSnapshotParts}
use Rattle.call_state.proofs.Accepted.{IsClear, IsAccepted-from}
use Rattle.lift_text.specs.declared.codes.TextCode.TheVariants.{NoLineWord}
use Rattle.text_sections.specs.declared.sections.AfterLine.TheVariants.{Whole}
use Rattle.text_sections.specs.Judging.{Judged, ◌>>=◌, in_order}
use Rattle.text_sections.specs.Words.{is_word, exactly, number, named, says_end}
use Rattle.text_sections.specs.Sections.{Line, goes_on, is_whole}
use Rattle.text_sections.specs.Canonical.{Goes, Makes}
use Rattle.text_sections.proofs.StepLemmas.{then-inv, then-ok, in_order-inv, named-ok}
use Rattle.text_sections.proofs.NumberLemmas.{number_in}
use Rattle.snapshot_text.specs.declared.kinds.Due.TheVariants.{Version, Items}
use Rattle.snapshot_text.specs.declared.kinds.LineWord.{LineWord}
use Rattle.snapshot_text.specs.declared.kinds.LineWord.TheVariants.{Snapshot as SnapshotWord, Now, Car, Aboard as AboardWord, Call as CallWord, End}
use Rattle.snapshot_text.specs.Words.{version_said, moment_said, form_of, car_said, group_said, call_said}
use Rattle.snapshot_text.specs.Drafts.{Draft, blank, snapshot_read, any_word, line_word, has_car, has_all_cars, cars_in_order, groups_in_order, calls_in_order}
use Rattle.snapshot_text.specs.Drafts.{outside_opening, with_all_cars, version_in, moment_in, car_in, group_in, call_in, end_in, fault_in_car, fault_in_group}
use Rattle.snapshot_text.specs.Drafts.{fault_in_call, with_version, with_moment, with_car, with_group, with_call, after_word, after}
use Rattle.snapshot_text.specs.Snapshots.{says_version, says_moment, says_car, says_group, says_call, StandsFor}
use Rattle.snapshot_text.proofs.Steps.{outside-inv, all_cars-inv, with_item-inv, with_item-whole, ended-inv, ended-more, after_judged-inv, after_judged-whole}
use Rattle.snapshot_text.proofs.Steps.{text_of, any_word-inv, car_said-below, group_said-below, call_said-below, unmoving_in}
use Rattle.snapshot_text.proofs.Lists.{times_in, times-push, map-without, at_each, nil_of, said_long, AreClear, clear-push, each-push, line_of_car}
use Rattle.snapshot_text.proofs.Lists.{line_of_group, line_of_call}

-- the states, groups and calls that were read
pub record Held : Type 0 where
  pub states : List CarState
  pub stated : List Bool
  pub aboard : List Aboard
  pub calls : List Call

fresh-clear : (stated : Bool) (fault : Option Fault) → (if stated then Some IdUsedBefore else fault) ≡ None → (stated ≡ false) × (fault ≡ None)
fresh-clear true fault e = absurd cc
fresh-clear false fault e = (refl, e)

module _ (b : Building) (o : Bool) (v t : ℕ) where
  abbrev pub draft : Held → Draft
  draft i = record {
    is_opening = o;
    building = b;
    due = Items;
    version = v;
    moment = t;
    states = i.states;
    stated = i.stated;
    aboard = i.aboard;
    calls =
        i.calls;
  }

  -- what the lines of cars have said
  pub record CarsRead (cars : List Line) (states : List CarState) (stated : List Bool) : Type 0 where
    pub places : List ℕ
    pub states_long : length states ≡ length b.cars
    pub stated_long : length stated ≡ length b.cars
    pub said : map (says_car b v) cars ≡ map (λ c. Ok (c, get_or states c no_state)) places
    pub counted : (c : ℕ) → c < length b.cars → times_in c places ≡ (if get_or stated c false then 1 else 0)
    pub clear : (c : ℕ) → c < length b.cars → get_or stated c false ≡ true → fault_of_state b t c (get_or states c no_state) ≡ None
    pub unmoving : v ≡ 1 → (c : ℕ) → c < length b.cars → IsUnmoving (get_or states c no_state)

  pub record GroupsRead (groups : List Line) (states : List CarState) (aboard : List Aboard) : Type 0 where
    pub said : map (says_group b) groups ≡ map Ok aboard
    pub clear : AreClear (fault_of_group b t states) no_group aboard
    pub cars : (k : ℕ) → k < length aboard → (get_or aboard k no_group).car < length b.cars

  pub record CallsRead (calls : List Line) (aboard : List Aboard) (items : List Call) : Type 0 where
    pub said : map (says_call b) calls ≡ map Ok items
    pub clear : AreClear (fault_of_call b t aboard) no_call items
    pub pins : (j : ℕ) → j < length items → IfSome (get_or items j no_call).pin (λ c. c < length b.cars)

  pub record ItemsRead (lines : List Line) (i : Held) : Type 0 where
    pub car_lines : List Line
    pub group_lines : List Line
    pub call_lines : List Line
    pub lines_are : lines ≡ car_lines ++ group_lines ++ call_lines
    pub cars : CarsRead car_lines i.states i.stated
    pub groups : GroupsRead group_lines i.states i.aboard
    pub calls : CallsRead call_lines i.aboard i.calls
    pub opening : o ≡ true → (length i.aboard ≡ 0) × (length i.calls ≡ 0)

  cars-more : (cars : List Line) (states : List CarState) (stated : List Bool) (words : Line) (one : ℕ × CarState) → CarsRead cars states stated
      → says_car b v words ≡ Ok one → one.0 < length b.cars → get_or stated one.0 false ≡ false
      → fault_of_state b t one.0 one.1 ≡ None → (v ≡ 1 → IsUnmoving one.1) → CarsRead (cars ++ words ∷ []) (set states one.0 one.1) (set stated one.0 true)
  cars-more cars states stated words one read says below fresh clear still =
      let c = one.0 in
      let states' = set states c one.1 in
      let stated' = set stated c true in
      let in_states : c < length states = omega (arith, read.states_long) in
      let in_stated : c < length stated = omega (arith, read.stated_long) in
      let here = get_or-set_same states c one.1 no_state in_states in
      let here_stated = get_or-set_same stated c true false in_stated in
      let f : ℕ → Judged (ℕ × CarState) = λ k. Ok (k, get_or states k no_state) in
      let g : ℕ → Judged (ℕ × CarState) = λ k. Ok (k, get_or states' k no_state) in
      let other : (k : ℕ) → k ≢ c → get_or states' k no_state ≡ get_or states k no_state = λ k differs. get_or-set_other states c k one.1 no_state differs in
      let other_stated : (k : ℕ) → k ≢ c → get_or stated' k false ≡ get_or stated k false = λ k differs. get_or-set_other stated c k true false differs in
      let none : times_in c read.places ≡ 0 = read.counted c below ∙ ap (λ (is : Bool). if is then 1 else 0) fresh in
      record {
        places = read.places ++ c ∷ [];
        states_long = length-set states c one.1 ∙ read.states_long;
        stated_long = length-set stated c true ∙ read.stated_long;
        said = map_push (says_car b v) cars words ∙ ap (λ (xs : List (Judged (ℕ × CarState))). xs ++ says_car b v words ∷ []) read.said
            ∙ ap (λ (xs : List (Judged (ℕ × CarState))). xs ++ says_car b v words ∷ [])
            (map-without f g c read.places none (λ k differs. ap (λ (s : CarState). Ok (k, s)) (sym (other k differs))))
            ∙ ap (λ (x : Judged (ℕ × CarState)). map g read.places ++ x ∷ []) (says ∙ ap (λ (s : CarState). Ok (c, s)) (sym here))
            ∙ sym (map_push g read.places c);
        counted = λ k inside. times-push k read.places c
            ∙ at_each c (λ k. k < length b.cars → times_in k read.places + (if c == k then 1 else 0) ≡ (if get_or stated' k false then 1 else 0))
            (λ _. ap (λ (n : ℕ). n + (if c == c then 1 else 0)) none ∙ ap (λ (is : Bool). 0 + (if is then 1 else 0)) (eq-eqb c c refl)
            ∙ ap (λ (is : Bool). if is then 1 else 0) (sym here_stated))
            (λ k differs inside. ap (λ (is : Bool). times_in k read.places + (if is then 1 else 0)) (ne_eqb c k (λ same. differs (sym same)))
            ∙ add-zero (times_in k read.places) ∙ read.counted k inside ∙ ap (λ (is : Bool). if is then 1 else 0) (sym (other_stated k differs)))
            k inside;
        clear = at_each c (λ k. k < length b.cars → get_or stated' k false ≡ true → fault_of_state b t k (get_or states' k no_state) ≡ None)
            (λ _ _. ap (λ (s : CarState). fault_of_state b t c s) here ∙ clear)
            (λ k differs inside is. ap (λ (s : CarState). fault_of_state b t k s) (other k differs) ∙ read.clear k inside (sym (other_stated k differs) ∙ is));
        unmoving = λ first. at_each c (λ k. k < length b.cars → IsUnmoving (get_or states' k no_state))
            (λ _. subst IsUnmoving (sym here) (still first))
            (λ k differs inside. subst IsUnmoving (sym (other k differs)) (read.unmoving first k inside));
      }

  -- a draft with more, of which more lines are read
  abbrev pub Reads : List Line → Draft → Type 0
  Reads lines next = (i : Held) × (draft i ≡ next) × ItemsRead lines i

  empty_of : (n : ℕ) → (n == 0) ≡ true → n ≡ 0
  empty_of n e = eqb-true n 0 e

  took_car : (lines : List Line) (i : Held) (next : Draft) (words : Line) → ItemsRead lines i → is_word words 0 (codes "car") ≡ true
      → after_word Car (draft i) words ≡ goes_on next → Reads (lines ++ words ∷ []) next
  took_car lines i next words read is e =
      let inv = with_item-inv (car_in (draft i) words) (fault_in_car (draft i)) (with_car (draft i)) next e in
      let one = inv.0 in
      let form = then-inv (form_of v words) (λ form. cars_in_order (draft i) >>= λ _. car_said b form words) one inv.1 in
      let order = then-inv (cars_in_order (draft i)) (λ _. car_said b form.0 words) one form.2 in
      let free = and_parts (length i.aboard == 0) (length i.calls == 0) (in_order-inv _ order.0 order.1) in
      let alone = empty_of (length i.aboard) free.0 in
      let uncalled = empty_of (length i.calls) free.1 in
      let says : says_car b v words ≡ Ok one =
      then-ok (named (codes "car") words) (λ _. form_of v words >>= λ form. car_said b form words) tt one (named-ok words (text_of Car) is)
      (then-ok (form_of v words) (λ form. car_said b form words) form.0 one form.1 order.2) in
      let fresh = fresh-clear (get_or i.stated one.0 false) (fault_of_state b t one.0 one.1) inv.2 in
      let below = car_said-below b form.0 words one order.2 in
      let old = read.groups in (
        record { states = set i.states one.0 one.1; stated = set i.stated one.0 true; aboard = i.aboard; calls = i.calls },
        inv.3,
        record {
          car_lines = read.car_lines ++ words ∷ [];
          group_lines = read.group_lines;
          call_lines = read.call_lines;
          lines_are = line_of_car read.car_lines read.group_lines read.call_lines lines words read.lines_are
              (said_long (says_group b) Ok read.group_lines i.aboard old.said ∙ alone)
              (said_long (says_call b) Ok read.call_lines i.calls read.calls.said ∙ uncalled);
          cars = cars-more read.car_lines i.states i.stated words one read.cars says below fresh.0 fresh.1
              (λ first. unmoving_in b v form.0 words one first form.1 order.2);
          groups = record { said = old.said; clear = λ k inside. absurd (omega (arith, alone, inside)); cars = old.cars };
          calls = read.calls;
          opening = read.opening;
        },
      )

  took_group : (lines : List Line) (i : Held) (next : Draft) (words : Line) → ItemsRead lines i → is_word words 0 (codes "aboard") ≡ true
      → after_word AboardWord (draft i) words ≡ goes_on next → Reads (lines ++ words ∷ []) next
  took_group lines i next words read is e =
      let inv = with_item-inv (group_in (draft i) words) (fault_in_group (draft i)) (with_group (draft i)) next e in
      let one = inv.0 in
      let order = then-inv (groups_in_order (draft i))
      (λ _. outside_opening (draft i) >>= λ _. (group_said b words >>= λ group. (with_all_cars (draft i) >>= λ _. Ok group))) one inv.1 in
      let outside = then-inv (outside_opening (draft i)) (λ _. group_said b words >>= λ group. (with_all_cars (draft i) >>= λ _. Ok group)) one order.2 in
      let group = then-inv (group_said b words) (λ group. with_all_cars (draft i) >>= λ _. Ok group) one outside.2 in
      let all = then-inv (with_all_cars (draft i)) (λ _. Ok group.0) one group.2 in
      let same : group.0 ≡ one = cc in
      let said : group_said b words ≡ Ok one = group.1 ∙ ap Ok same in
      let shut = outside-inv o outside.0 outside.1 in
      let free = and_parts (has_car (draft i)) (length i.calls == 0) (in_order-inv _ order.0 order.1) in
      let uncalled = empty_of (length i.calls) free.1 in
      let says : says_group b words ≡ Ok one =
      then-ok (named (codes "aboard") words) (λ _. group_said b words) tt one (named-ok words (text_of AboardWord) is) said in
      let below = group_said-below b words one said in
      let old = read.groups in (
        record { states = i.states; stated = i.stated; aboard = i.aboard ++ one ∷ []; calls = i.calls },
        inv.3,
        record {
          car_lines = read.car_lines;
          group_lines = read.group_lines ++ words ∷ [];
          call_lines = read.call_lines;
          lines_are = line_of_group read.car_lines read.group_lines read.call_lines lines words read.lines_are
              (said_long (says_call b) Ok read.call_lines i.calls read.calls.said ∙ uncalled);
          cars = read.cars;
          groups = record {
            said = map_push (says_group b) read.group_lines words ∙ ap (λ (xs : List (Judged Aboard)). xs ++ says_group b words ∷ []) old.said
                ∙ ap (λ (x : Judged Aboard). map Ok i.aboard ++ x ∷ []) says ∙ sym (map_push Ok i.aboard one);
            clear = clear-push (fault_of_group b t i.states) no_group i.aboard one old.clear inv.2;
            cars = each-push (λ (g : Aboard). g.car < length b.cars) no_group i.aboard one old.cars below;
          };
          calls = record { said = read.calls.said; clear = λ k inside. absurd (omega (arith, uncalled, inside)); pins = read.calls.pins };
          opening = λ opens. absurd (false≢true (sym shut ∙ opens));
        },
      )

  took_call : (lines : List Line) (i : Held) (next : Draft) (words : Line) → ItemsRead lines i → is_word words 0 (codes "call") ≡ true
      → after_word CallWord (draft i) words ≡ goes_on next → Reads (lines ++ words ∷ []) next
  took_call lines i next words read is e =
      let inv = with_item-inv (call_in (draft i) words) (fault_in_call (draft i)) (with_call (draft i)) next e in
      let one = inv.0 in
      let order = then-inv (calls_in_order (draft i))
      (λ _. outside_opening (draft i) >>= λ _. (call_said b words >>= λ call. (with_all_cars (draft i) >>= λ _. Ok call))) one inv.1 in
      let outside = then-inv (outside_opening (draft i)) (λ _. call_said b words >>= λ call. (with_all_cars (draft i) >>= λ _. Ok call)) one order.2 in
      let call = then-inv (call_said b words) (λ call. with_all_cars (draft i) >>= λ _. Ok call) one outside.2 in
      let all = then-inv (with_all_cars (draft i)) (λ _. Ok call.0) one call.2 in
      let same : call.0 ≡ one = cc in
      let said : call_said b words ≡ Ok one = call.1 ∙ ap Ok same in
      let shut = outside-inv o outside.0 outside.1 in
      let says : says_call b words ≡ Ok one =
      then-ok (named (codes "call") words) (λ _. call_said b words) tt one (named-ok words (text_of CallWord) is) said in
      let below = call_said-below b words one said in
      let old = read.calls in (
        record { states = i.states; stated = i.stated; aboard = i.aboard; calls = i.calls ++ one ∷ [] },
        inv.3,
        record {
          car_lines = read.car_lines;
          group_lines = read.group_lines;
          call_lines = read.call_lines ++ words ∷ [];
          lines_are = line_of_call read.car_lines read.group_lines read.call_lines lines words read.lines_are;
          cars = read.cars;
          groups = read.groups;
          calls = record {
            said = map_push (says_call b) read.call_lines words ∙ ap (λ (xs : List (Judged Call)). xs ++ says_call b words ∷ []) old.said
                ∙ ap (λ (x : Judged Call). map Ok i.calls ++ x ∷ []) says ∙ sym (map_push Ok i.calls one);
            clear = clear-push (fault_of_call b t i.aboard) no_call i.calls one old.clear inv.2;
            pins = each-push (λ (c : Call). IfSome c.pin (λ p. p < length b.cars)) no_call i.calls one old.pins below;
          };
          opening = λ opens. absurd (false≢true (sym shut ∙ opens));
        },
      )

  by_word : (word : LineWord) (lines : List Line) (i : Held) (next : Draft) (words : Line) → ItemsRead lines i → is_word words 0 (text_of word) ≡ true
      → after_word word (draft i) words ≡ goes_on next → Reads (lines ++ words ∷ []) next
  by_word SnapshotWord lines i next words read is e =
      let inv = with_item-inv (version_in (draft i) words) (λ version. None) (with_version (draft i)) next e in
      absurd (false≢true (in_order-inv false tt (then-inv (in_order false) (λ _. version_said words) inv.0 inv.1).1))
  by_word Now lines i next words read is e =
      let inv = with_item-inv (moment_in (draft i) words) (λ moment. None) (with_moment (draft i)) next e in
      absurd (false≢true (in_order-inv false tt (then-inv (in_order false) (λ _. moment_said words) inv.0 inv.1).1))
  by_word Car lines i next words read is e = took_car lines i next words read is e
  by_word AboardWord lines i next words read is e = took_group lines i next words read is e
  by_word CallWord lines i next words read is e = took_call lines i next words read is e
  by_word End lines i next words read is e = absurd (ended-more (end_in (draft i) words) (draft i) next e)

  took_line : (lines : List Line) (i : Held) (next : Draft) (words : Line) → ItemsRead lines i → after (draft i) words ≡ goes_on next
      → Reads (lines ++ words ∷ []) next
  took_line lines i next words read e =
      let inv = after_judged-inv (any_word words) (draft i) next words e in
      by_word inv.0 lines i next words read (any_word-inv words inv.0 inv.1) inv.2

  took_lines : (more lines : List Line) (i : Held) (end : Draft) → ItemsRead lines i → Goes after more (draft i) end → Reads (lines ++ more) end
  took_lines [] lines i end read goes = (i, goes, subst (λ (ls : List Line). ItemsRead ls i) (sym (append-nil lines)) read)
  took_lines (words ∷ more) lines i end read goes =
      let one = took_line lines i goes.0 words read goes.1 in
      let rest = took_lines more (lines ++ words ∷ []) one.0 end one.2 (subst (λ (d : Draft). Goes after more d end) (sym one.1) goes.2) in
      (rest.0, rest.1, subst (λ (ls : List Line). ItemsRead ls rest.0) (append_assoc lines (words ∷ []) more) rest.2)

  whole_by_word : (word : LineWord) (i : Held) (end : Draft) (words : Line) → is_word words 0 (text_of word) ≡ true
      → after_word word (draft i) words ≡ is_whole end → (draft i ≡ end) × (says_end words ≡ Ok tt) × (has_all_cars (draft i) ≡ true)
  whole_by_word SnapshotWord i end words is e = absurd (with_item-whole (version_in (draft i) words) (λ version. None) (with_version (draft i)) end e)
  whole_by_word Now i end words is e = absurd (with_item-whole (moment_in (draft i) words) (λ moment. None) (with_moment (draft i)) end e)
  whole_by_word Car i end words is e = absurd (with_item-whole (car_in (draft i) words) (fault_in_car (draft i)) (with_car (draft i)) end e)
  whole_by_word AboardWord i end words is e = absurd (with_item-whole (group_in (draft i) words) (fault_in_group (draft i)) (with_group (draft i)) end e)
  whole_by_word CallWord i end words is e = absurd (with_item-whole (call_in (draft i) words) (fault_in_call (draft i)) (with_call (draft i)) end e)
  whole_by_word End i end words is e =
      let inv = ended-inv (end_in (draft i) words) (draft i) end e in
      let order = then-inv (calls_in_order (draft i)) (λ _. exactly words 1 >>= λ _. (with_all_cars (draft i) >>= λ _. Ok Whole)) inv.0 inv.1 in
      let one = then-inv (exactly words 1) (λ _. with_all_cars (draft i) >>= λ _. Ok Whole) inv.0 order.2 in
      let all = then-inv (with_all_cars (draft i)) (λ _. Ok Whole) inv.0 one.2 in (
        inv.2,
        then-ok (named (codes "end") words) (λ _. exactly words 1) tt tt (named-ok words (text_of End) is) one.1,
        all_cars-inv (has_all_cars (draft i)) all.0 all.1,
      )

  made_whole : (i : Held) (end : Draft) (words : Line) → after (draft i) words ≡ is_whole end → (draft i ≡ end) × (says_end words ≡ Ok tt)
      × (has_all_cars (draft i) ≡ true)
  made_whole i end words e =
      let inv = after_judged-whole (any_word words) (draft i) end words e in
      whole_by_word inv.0 i end words (any_word-inv words inv.0 inv.1) inv.2

  all_at : (stated : List Bool) (c : ℕ) → list_all (λ is. is) stated ≡ true → c < length stated → get_or stated c false ≡ true
  all_at stated c all below =
      elim (cases_Bool (get_or stated c false)) [
        | inl is ↦ is
        | inr is ↦ absurd (false≢true (sym (list_all_at (λ (x : Bool). x) stated c false below is) ∙ all))
      ]

  -- ---- the first two lines

  abbrev pub nothing : Held
  nothing = record { states = map (λ (x : CarSpec). no_state) b.cars; stated = map (λ (x : CarSpec). false) b.cars; aboard = []; calls = [] }

  nothing_read : ItemsRead [] nothing
  nothing_read =
      let states = map (λ (x : CarSpec). no_state) b.cars in
      let stated = map (λ (x : CarSpec). false) b.cars in
      let unstated : (c : ℕ) → c < length b.cars → get_or stated c false ≡ false = λ c below. get_or-map (λ (x : CarSpec). false) b.cars c no_car false below in
      let unknown : (c : ℕ) → c < length b.cars
      → get_or states c no_state ≡ no_state = λ c below. get_or-map (λ (x : CarSpec). no_state) b.cars c no_car no_state below in
      record {
        car_lines = [];
        group_lines = [];
        call_lines = [];
        lines_are = refl;
        cars = record {
          places = [];
          states_long = length-map b.cars (λ (x : CarSpec). no_state);
          stated_long = length-map b.cars (λ (x : CarSpec). false);
          said = refl;
          counted = λ c below. ap (λ (is : Bool). if is then 1 else 0) (sym (unstated c below));
          clear = λ c below is. absurd (false≢true (sym (unstated c below) ∙ is));
          unmoving = λ first c below. subst IsUnmoving (sym (unknown c below)) tt;
        };
        groups = record { said = refl; clear = λ k below. absurd (omega arith); cars = λ k below. absurd (omega arith) };
        calls = record { said = refl; clear = λ k below. absurd (omega arith); pins = λ k below. absurd (omega arith) };
        opening = λ opens. (refl, refl);
      }

only_word : (is : Bool) (word : LineWord) → (if is then Ok SnapshotWord else Err NoLineWord) ≡ Ok word → (is ≡ true) × (SnapshotWord ≡ word)
only_word true word e = (refl, cc)
only_word false word e = absurd cc

module _ (b : Building) (o : Bool) where
  first_line : (words : Line) (next : Draft) → after (blank b o) words ≡ goes_on next → (v : ℕ) × (with_version (blank b o) v ≡ next)
      × (says_version words ≡ Ok v)
  first_line words next e =
      let d = blank b o in
      let inv = after_judged-inv (line_word Version words) d next words e in
      let word = only_word (is_word words 0 (codes "snapshot")) inv.0 inv.1 in
      let here : after_word SnapshotWord d words ≡ goes_on next = subst (λ (w : LineWord). after_word w d words ≡ goes_on next) (sym word.1) inv.2 in
      let one = with_item-inv (version_in d words) (λ version. None) (with_version d) next here in
      let order = then-inv (in_order true) (λ _. version_said words) one.0 one.1 in
      (one.0, one.3, then-ok (named (codes "snapshot") words) (λ _. version_said words) tt one.0 (named-ok words (text_of SnapshotWord) word.0) order.2)

  not_whole : (words : Line) (end : Draft) → after (blank b o) words ≡ is_whole end → ⊥
  not_whole words end e =
      let d = blank b o in
      let inv = after_judged-whole (line_word Version words) d end words e in
      let word = only_word (is_word words 0 (codes "snapshot")) inv.0 inv.1 in
      let here : after_word SnapshotWord d words ≡ is_whole end = subst (λ (w : LineWord). after_word w d words ≡ is_whole end) (sym word.1) inv.2 in
      with_item-whole (version_in d words) (λ version. None) (with_version d) end here

  module _ (v : ℕ) where
    abbrev started : Draft
    started = with_version (blank b o) v

    out_of_order : {A : Type 0} (f : Unit {0} → Judged A) (x : A) → (in_order false >>= f) ≡ Ok x → ⊥
    out_of_order f x e = false≢true (in_order-inv false tt (then-inv (in_order false) f x e).1)

    second_by_word : (word : LineWord) (words : Line) (next : Draft) → is_word words 0 (text_of word) ≡ true → after_word word started words ≡ goes_on next
        → (t : ℕ) × (draft b o v t (nothing b o v t) ≡ next) × (says_moment words ≡ Ok t)
    second_by_word SnapshotWord words next is e =
        let inv = with_item-inv (version_in started words) (λ version. None) (with_version started) next e in
        absurd (out_of_order (λ _. version_said words) inv.0 inv.1)
    second_by_word Now words next is e =
        let inv = with_item-inv (moment_in started words) (λ moment. None) (with_moment started) next e in
        let order = then-inv (in_order true) (λ _. moment_said words) inv.0 inv.1 in
        (inv.0, inv.3, then-ok (named (codes "now") words) (λ _. moment_said words) tt inv.0 (named-ok words (text_of Now) is) order.2)
    second_by_word Car words next is e =
        let inv = with_item-inv (car_in started words) (fault_in_car started) (with_car started) next e in
        let form = then-inv (form_of v words) (λ form. in_order false >>= λ _. car_said b form words) inv.0 inv.1 in
        absurd (out_of_order (λ _. car_said b form.0 words) inv.0 form.2)
    second_by_word AboardWord words next is e =
        let inv = with_item-inv (group_in started words) (fault_in_group started) (with_group started) next e in
        absurd (out_of_order (λ _. outside_opening started >>= λ _. (group_said b words >>= λ group. (with_all_cars started >>= λ _. Ok group))) inv.0 inv.1)
    second_by_word CallWord words next is e =
        let inv = with_item-inv (call_in started words) (fault_in_call started) (with_call started) next e in
        absurd (out_of_order (λ _. outside_opening started >>= λ _. (call_said b words >>= λ call. (with_all_cars started >>= λ _. Ok call))) inv.0 inv.1)
    second_by_word End words next is e = absurd (ended-more (end_in started words) started next e)

    second_line : (words : Line) (next : Draft) → after started words ≡ goes_on next → (t : ℕ) × (draft b o v t (nothing b o v t) ≡ next)
        × (says_moment words ≡ Ok t)
    second_line words next e =
        let inv = after_judged-inv (any_word words) started next words e in
        second_by_word inv.0 words next (any_word-inv words inv.0 inv.1) inv.2

    not_whole_by_word : (word : LineWord) (words : Line) (end : Draft) → after_word word started words ≡ is_whole end → ⊥
    not_whole_by_word SnapshotWord words end e = with_item-whole (version_in started words) (λ version. None) (with_version started) end e
    not_whole_by_word Now words end e = with_item-whole (moment_in started words) (λ moment. None) (with_moment started) end e
    not_whole_by_word Car words end e = with_item-whole (car_in started words) (fault_in_car started) (with_car started) end e
    not_whole_by_word AboardWord words end e = with_item-whole (group_in started words) (fault_in_group started) (with_group started) end e
    not_whole_by_word CallWord words end e = with_item-whole (call_in started words) (fault_in_call started) (with_call started) end e
    not_whole_by_word End words end e =
        let inv = ended-inv (end_in started words) started end e in
        out_of_order (λ _. exactly words 1 >>= λ _. (with_all_cars started >>= λ _. Ok Whole)) inv.0 inv.1

    not_whole_second : (words : Line) (end : Draft) → after started words ≡ is_whole end → ⊥
    not_whole_second words end e =
        let inv = after_judged-whole (any_word words) started end words e in
        not_whole_by_word inv.0 words end inv.2

  -- ---- the law

  version_within : (words : Line) (v : ℕ) → says_version words ≡ Ok v → (1 ≤ v) × (v ≤ 2)
  version_within words v e =
      let named_so = then-inv (named (codes "snapshot") words) (λ _. version_said words) v e in
      let two = then-inv (exactly words 2) (λ _. number words 1 1 2) v named_so.2 in
      number_in words 1 1 2 v two.2

  moment_within : (words : Line) (t : ℕ) → says_moment words ≡ Ok t → t ≤ 1000000000
  moment_within words t e =
      let named_so = then-inv (named (codes "now") words) (λ _. moment_said words) t e in
      let two = then-inv (exactly words 2) (λ _. number words 1 0 1000000000) t named_so.2 in
      (number_in words 1 0 1000000000 t two.2).1

  -- what a section that was made gives: parts that may be tested, without a fault, and lines that stand for them
  pub record IsSound (lines : List Line) (end : Draft) : Type 0 where
    pub parts : AreSnapshotParts (snapshot_read end)
    pub accepted : IsAccepted (snapshot_read end)
    pub said : StandsFor b o lines (snapshot_read end)

  held_sound : IsBuilding b → (v t : ℕ) (head moment last : Line) (items : List Line) (i : Held) → says_version head ≡ Ok v → says_moment moment ≡ Ok t
      → ItemsRead b o v t items i → says_end last ≡ Ok tt → has_all_cars (draft b o v t i) ≡ true
      → IsSound (head ∷ moment ∷ items ++ last ∷ []) (draft b o v t i)
  held_sound good v t head moment last items i version_says moment_says read end_says all =
      let s = snapshot_read (draft b o v t i) in
      let version = version_within head v version_says in
      let cars = read.cars in
      let stated : (c : ℕ) → c < length b.cars
      → get_or i.stated c false ≡ true = λ c below. all_at b o v t i.stated c all (omega (arith, below, cars.stated_long)) in
      let parts : AreSnapshotParts s = record {
        version_low = version.0;
        version_high = version.1;
        moment = moment_within moment t moment_says;
        states = cars.states_long;
        unmoving = cars.unmoving;
        group_cars = read.groups.cars;
        pins = read.calls.pins;
      } in
      let clear : IsClear s = record {
        states = λ c below. (let inside : c < length b.cars = omega (arith, below, cars.states_long) in cars.clear c inside (stated c inside));
        groups = read.groups.clear;
        calls = read.calls.clear;
      } in
      let accepted = IsAccepted-from s good parts clear in
      record {
        parts = parts;
        accepted = accepted;
        said = record {
          head = head;
          moment = moment;
          cars = read.car_lines;
          groups = read.group_lines;
          calls = read.call_lines;
          end = last;
          lines_are = ap (λ (ls : List Line). head ∷ moment ∷ ls ++ last ∷ []) read.lines_are;
          building = refl;
          version_is_said = version_says;
          moment_is_said = moment_says;
          places = cars.places;
          states_are_said = cars.said;
          once = λ c below. cars.counted c below ∙ ap (λ (is : Bool). if is then 1 else 0) (stated c below);
          groups_are_said = read.groups.said;
          calls_are_said = read.calls.said;
          end_is_said = end_says;
          opening = λ opens. (nil_of i.aboard (read.opening opens).0, nil_of i.calls (read.opening opens).1);
          accepted = accepted;
        };
      }

  sound_by : IsBuilding b → (front : List Line) (last : Line) (before end : Draft) → Goes after front (blank b o) before → after before last ≡ is_whole end
      → IsSound (front ++ last ∷ []) end
  sound_by good [] last before end goes whole = absurd (not_whole last end (subst (λ (d : Draft). after d last ≡ is_whole end) (sym goes) whole))
  sound_by good (head ∷ []) last before end goes whole =
      let first = first_line head goes.0 goes.1 in
      absurd (not_whole_second first.0 last end (subst (λ (d : Draft). after d last ≡ is_whole end) (sym (first.1 ∙ goes.2)) whole))
  sound_by good (head ∷ moment ∷ items) last before end goes whole =
      let first = first_line head goes.0 goes.1 in
      let v = first.0 in
      let later = subst (λ (d : Draft). Goes after (moment ∷ items) d before) (sym first.1) goes.2 in
      let second = second_line v moment later.0 later.1 in
      let t = second.0 in
      let rest = subst (λ (d : Draft). Goes after items d before) (sym second.1) later.2 in
      let read = took_lines b o v t items [] (nothing b o v t) before (nothing_read b o v t) rest in
      let ends = made_whole b o v t read.0 end last (subst (λ (d : Draft). after d last ≡ is_whole end) (sym read.1) whole) in
      subst (IsSound (head ∷ moment ∷ items ++ last ∷ [])) ends.0 (held_sound good v t head moment last items read.0 first.2 second.2 read.2 ends.1 ends.2)

  pub sound : IsBuilding b → (lines : List Line) (end : Draft) → Makes after lines (blank b o) end → IsSound lines end
  sound good lines end made =
      subst (λ (ls : List Line). IsSound ls end) (sym made.lines_are) (sound_by good made.front made.last made.before end made.goes made.whole)
