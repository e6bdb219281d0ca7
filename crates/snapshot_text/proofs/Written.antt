-- The lines of a snapshot's text stand for it.
use Rattle.std.proofs.Common.{◌≡◌, ℕ, zero, suc, ◌+◌, ◌*◌, ◌^◌, ◌<◌, ◌≤◌, ◌&&◌, Bool, true, false, List, [], ◌∷◌, ◌++◌, length, map, get_or, refl, sym, ap, ◌∙◌}
use Rattle.std.proofs.Common.{subst, arith, Option, None, Some, Result, Ok, Err, length-append, add-one, IfSome, lit<, inl, inr}
use Rattle.std.specs.Prelude.{codes, decimal, if◌then◌else◌, nat_le, nat_lt, IsTrue}
use Rattle.std.specs.Str.{bytes_eq}
use Rattle.std.specs.List.{flat_map, range_with_len, list_all, AllByRecursion}
use Rattle.std.proofs.lemmas.Bool.{ne_eqb, eq-eqb, false≢true, and_parts, cases_Bool, cases_eq, leb-true, ltb-true}
use Rattle.std.proofs.lemmas.List.{map_push}
use Rattle.std.proofs.lemmas.Fmt.{length-decimal-le}
use Rattle.std.proofs.lemmas.Slice.Eq.{bytes_eq-Decides}
use Rattle.call_sets.specs.Counting.{has}
use Rattle.elevator_model.specs.declared.CarState.{CarState}
use Rattle.elevator_model.specs.declared.CarState.TheVariants.{Idle, Coming, Moving}
use Rattle.elevator_model.specs.declared.Aboard.{Aboard}
use Rattle.elevator_model.specs.declared.Call.{Call}
use Rattle.elevator_model.specs.Building.{Building, car_of, floor_count}
use Rattle.elevator_model.specs.Snapshot.{Snapshot, IsUnmoving, IsTimely, car_count, spec_of, state_of, group_of, call_of, floor_of, no_group, no_call, serves}
use Rattle.lift_text.specs.Numbers.{digits_number}
use Rattle.lift_text.specs.Reading.{TextState, reading}
use Rattle.lift_text.specs.declared.faults.TextFault.{TextFault}
use Rattle.lift_text.specs.declared.codes.TextCode.TheVariants.{NoLineWord, Missing, TooMany, NoNumber}
use Rattle.text_sections.specs.Judging.{◌>>=◌}
use Rattle.text_sections.specs.Words.{is_word, exactly, number, within, word_at, short}
use Rattle.text_sections.specs.Sections.{Line}
use Rattle.text_sections.specs.Canonical.{IsWord, IsLineOfWords, BeginsWith}
use Rattle.text_sections.proofs.NumberLemmas.{number_again, written_number}
use Rattle.text_sections.proofs.CanonicalLemmas.{decimal_word, lines_again, bytes_from, is_byte}
use Rattle.text_sections.proofs.StepLemmas.{then-ok}
use Rattle.text_sections.proofs.EachLemmas.{each-append}
use Rattle.snapshot_text.specs.declared.kinds.Form.{Form}
use Rattle.snapshot_text.specs.declared.kinds.Form.TheVariants.{SaidIdle, SaidComing, SaidMoving}
use Rattle.snapshot_text.specs.declared.said.CallWords.{CallWords}
use Rattle.snapshot_text.specs.declared.said.GroupWords.{GroupWords}
use Rattle.snapshot_text.specs.Words.{form_of, car_named, state_said, car_said, call_at, group_in, group_of_words, pin_said, pin_named, call_of_words}
use Rattle.snapshot_text.specs.Words.{moving_said}
use Rattle.snapshot_text.specs.Snapshots.{says_car, says_group, says_call, StandsFor, ReadsLines}
use Rattle.snapshot_text.specs.Texts.{head_words, moment_words, state_words, car_words, group_words, pin_word, call_words, end_words, car_lines, group_lines}
use Rattle.snapshot_text.specs.Texts.{call_lines, snapshot_lines, snapshot_text, HasText, behind, ReadsText}
use Rattle.snapshot_text.proofs.CarLemmas.{named_car}
use Rattle.snapshot_text.proofs.Lists.{times_in, times-push}
use Rattle.snapshot_text.proofs.Texts.{range_more, pin_is_car}

-- ---- words

-- a word of a few bytes
pub record IsGood (word : List ℕ) : Type 0 where
  is : IsWord word
  few : length word ≤ 20

text_good : (text : List ℕ) → list_all is_byte text ≡ true → nat_lt 0 (length text) ≡ true → nat_le (length text) 20 ≡ true → IsGood text
text_good text all some few = record { is = record { some = ltb-true 0 (length text) some; bytes = bytes_from text all }; few = leb-true (length text) 20 few }

number_good : (n : ℕ) → n < 2 ^ 64 → IsGood (decimal n)
number_good n small = record { is = decimal_word n small; few = length-decimal-le 20 n (lit< tt) (omega arith) small }

later_few : (words : Line) → AllByRecursion IsGood words → length (flat_map (λ later. 32 ∷ later) words) ≤ 21 * length words
later_few [] all = omega arith
later_few (word ∷ words) all =
    let rest = later_few words all.1 in
    let here = all.0.few in
    let long = length-append (32 ∷ word) (flat_map (λ later. 32 ∷ later) words) in
    omega arith

each_word : (words : Line) → AllByRecursion IsGood words → AllByRecursion IsWord words
each_word [] all = tt
each_word (word ∷ words) all = (all.0.is, each_word words all.1)

-- few good words make a line
pub line_good : (words : Line) → 0 < length words → length words ≤ 100 → AllByRecursion IsGood words → IsLineOfWords words
line_good [] some few all = absurd (omega arith)
line_good (word ∷ words) some few all =
    let rest = later_few words all.1 in
    let here = all.0.few in
    let long = length-append word (flat_map (λ later. 32 ∷ later) words) in
    record { some = some; each = each_word (word ∷ words) all; short = omega arith }

-- ---- a line of a car

-- the greatest moment of a state in a text
abbrev IsEarly : CarState → Type 0
IsEarly (Idle floor free) = free ≤ 2000000000
IsEarly (Coming floor arrives) = arrives ≤ 2000000000
IsEarly (Moving from up left) = left ≤ 1000000000

abbrev IsTold : ℕ → CarState → Type 0
IsTold v (Idle floor free) = Unit {0}
IsTold v (Coming floor arrives) = Unit {0}
IsTold v (Moving from up left) = v ≡ 2

module _ (b : Building) (v id c : ℕ) (small : id < 2 ^ 32) (is : car_named b id ≡ Ok c) where
  number_said : (words : Line) (k n high : ℕ) → word_at words k ≡ decimal n → n ≤ high → high < 2 ^ 64 → number words k 0 high ≡ Ok n
  number_said words k n high at low fits = written_number words k n 0 high (omega arith) at (omega arith) low

  car_at : (form : Form) (words : Line) (st : CarState) → state_said form words ≡ Ok (id, st) → car_said b form words ≡ Ok (c, st)
  car_at form words st said =
      then-ok (state_said form words) (λ s. car_named b s.0 >>= λ k. Ok (k, s.1)) (id, st) (c, st) said
      (then-ok (car_named b id) (λ k. Ok (k, st)) c (c, st) is refl)

  moving_at : (words : Line) (from left : ℕ) (up : Bool) → from < 64 → left ≤ 1000000000 → word_at words 1 ≡ decimal id → word_at words 3 ≡ decimal from
      → word_at words 5 ≡ decimal left → length words ≡ 6 → is_word words 4 (codes "up") ≡ up
      → moving_said words ≡ Ok (id, Moving from up left)
  moving_at words from left up low early first third fifth long turns =
      let six : exactly words 6 ≡ Ok tt = ap (λ n. (if nat_lt n 6 then Err Missing else Ok tt) >>= λ _. (if nat_lt 6 n then Err TooMany else Ok tt)) long in
      then-ok (exactly words 6)
      (λ _. short words 1 >>= λ i. (short words 3 >>= λ f. (number words 5 0 1000000000 >>= λ l. Ok (i, Moving f (is_word words 4 (codes "up")) l)))) tt
      (id, Moving from up left) six
      (then-ok (short words 1) (λ i. short words 3 >>= λ f. (number words 5 0 1000000000 >>= λ l. Ok (i, Moving f (is_word words 4 (codes "up")) l))) id
      (id, Moving from up left) (number_said words 1 id 4294967295 first (omega arith) (lit< tt))
      (then-ok (short words 3) (λ f. number words 5 0 1000000000 >>= λ l. Ok (id, Moving f (is_word words 4 (codes "up")) l)) from (id, Moving from up left)
      (number_said words 3 from 4294967295 third (omega arith) (lit< tt))
      (then-ok (number words 5 0 1000000000) (λ l. Ok (id, Moving from (is_word words 4 (codes "up")) l)) left (id, Moving from up left)
      (number_said words 5 left 1000000000 fifth early (lit< tt))
      (ap (λ (u : Bool). Ok (id, Moving from u left)) turns))))

  car_says : (st : CarState) → floor_of st < 64 → IsEarly st → IsTold v st → says_car b v (state_words id st) ≡ Ok (c, st)
  car_says (Idle floor free) low early told =
      let words = state_words id (Idle floor free) in
      car_at SaidIdle words (Idle floor free)
      (then-ok (short words 1) (λ i. short words 3 >>= λ f. (number words 4 0 2000000000 >>= λ m. Ok (i, Idle f m))) id (id, Idle floor free)
      (number_said words 1 id 4294967295 refl (omega arith) (lit< tt))
      (then-ok (short words 3) (λ f. number words 4 0 2000000000 >>= λ m. Ok (id, Idle f m)) floor (id, Idle floor free)
      (number_said words 3 floor 4294967295 refl (omega arith) (lit< tt))
      (then-ok (number words 4 0 2000000000) (λ m. Ok (id, Idle floor m)) free (id, Idle floor free)
      (number_said words 4 free 2000000000 refl early (lit< tt)) refl)))
  car_says (Coming floor arrives) low early told =
      let words = state_words id (Coming floor arrives) in
      car_at SaidComing words (Coming floor arrives)
      (then-ok (short words 1) (λ i. short words 3 >>= λ f. (number words 4 0 2000000000 >>= λ m. Ok (i, Coming f m))) id (id, Coming floor arrives)
      (number_said words 1 id 4294967295 refl (omega arith) (lit< tt))
      (then-ok (short words 3) (λ f. number words 4 0 2000000000 >>= λ m. Ok (id, Coming f m)) floor (id, Coming floor arrives)
      (number_said words 3 floor 4294967295 refl (omega arith) (lit< tt))
      (then-ok (number words 4 0 2000000000) (λ m. Ok (id, Coming floor m)) arrives (id, Coming floor arrives)
      (number_said words 4 arrives 2000000000 refl early (lit< tt)) refl)))
  car_says (Moving from true left) low early told =
      let words = state_words id (Moving from true left) in
      let form : form_of v words ≡ Ok SaidMoving = ap (λ (two : Bool). if two && true then Ok SaidMoving else Err NoLineWord) (eq-eqb v 2 told) in
      then-ok (form_of v words) (λ f. car_said b f words) SaidMoving (c, Moving from true left) form
      (car_at SaidMoving words (Moving from true left) (moving_at words from left true low early refl refl refl refl refl))
  car_says (Moving from false left) low early told =
      let words = state_words id (Moving from false left) in
      let form : form_of v words ≡ Ok SaidMoving = ap (λ (two : Bool). if two && true then Ok SaidMoving else Err NoLineWord) (eq-eqb v 2 told) in
      then-ok (form_of v words) (λ f. car_said b f words) SaidMoving (c, Moving from false left) form
      (car_at SaidMoving words (Moving from false left) (moving_at words from left false low early refl refl refl refl refl))

  car_good : (st : CarState) → floor_of st < 64 → IsEarly st → IsLineOfWords (state_words id st)
  car_good (Idle floor free) low early =
      line_good (state_words id (Idle floor free)) (omega arith) (omega arith) (
        text_good (codes "car") refl refl refl,
        (number_good id (omega arith), (text_good (codes "idle") refl refl refl, (number_good floor (omega arith), (number_good free (omega arith), tt)))),
      )
  car_good (Coming floor arrives) low early =
      line_good (state_words id (Coming floor arrives)) (omega arith) (omega arith) (
        text_good (codes "car") refl refl refl,
        (
          number_good id (omega arith),
          (text_good (codes "coming") refl refl refl, (number_good floor (omega arith), (number_good arrives (omega arith), tt))),
        ),
      )
  car_good (Moving from true left) low early =
      line_good (state_words id (Moving from true left)) (omega arith) (omega arith) (
        text_good (codes "car") refl refl refl,
        (
          number_good id (omega arith),
          (
            text_good (codes "moving") refl refl refl,
            (number_good from (omega arith), (text_good (codes "up") refl refl refl, (number_good left (omega arith), tt))),
          ),
        ),
      )
  car_good (Moving from false left) low early =
      line_good (state_words id (Moving from false left)) (omega arith) (omega arith) (
        text_good (codes "car") refl refl refl,
        (
          number_good id (omega arith),
          (
            text_good (codes "moving") refl refl refl,
            (number_good from (omega arith), (text_good (codes "down") refl refl refl, (number_good left (omega arith), tt))),
          ),
        ),
      )

-- ---- a line of a group

group_says : (b : Building) (group : Aboard) (id : ℕ) → id ≡ (car_of b group.car).id → id < 2 ^ 32 → car_named b id ≡ Ok group.car → group.id < 2 ^ 32
    → group.destination < 64 → group.persons ≤ 8 → group.boarded ≤ 2000000000
    → says_group b (codes "aboard" ∷ decimal id ∷ decimal group.id ∷ decimal group.destination ∷ decimal group.persons ∷ decimal group.boarded ∷ []) ≡ Ok group
group_says b group id same small is own low few early =
    let words : Line = codes "aboard" ∷ decimal id ∷ decimal group.id ∷ decimal group.destination ∷ decimal group.persons ∷ decimal group.boarded ∷ [] in
    let group' : GroupWords = record { car_id = id; id = group.id; destination = group.destination; persons = group.persons; boarded = group.boarded } in
    let said : group_of_words words ≡ Ok group' =
    then-ok (short words 1)
    (λ car. short words 2 >>= λ i.
    (short words 3 >>= λ destination.
    (short words 4 >>= λ persons.
    (number words 5 0 2000000000 >>= λ boarded. Ok (record { car_id = car; id = i; destination = destination; persons = persons; boarded = boarded })))))
    id group' (written_number words 1 id 0 4294967295 (omega arith) refl (omega arith) (omega arith))
    (then-ok (short words 2)
    (λ i. short words 3 >>= λ destination.
    (short words 4 >>= λ persons.
    (number words 5 0 2000000000 >>= λ boarded. Ok (record { car_id = id; id = i; destination = destination; persons = persons; boarded = boarded }))))
    group.id group' (written_number words 2 group.id 0 4294967295 (omega arith) refl (omega arith) (omega arith))
    (then-ok (short words 3)
    (λ destination. short words 4
    >>= λ persons. (number words 5 0 2000000000
    >>= λ boarded. Ok (record { car_id = id; id = group.id; destination = destination; persons = persons; boarded = boarded })))
    group.destination group' (written_number words 3 group.destination 0 4294967295 (omega arith) refl (omega arith) (omega arith))
    (then-ok (short words 4)
    (λ persons. number words 5 0 2000000000
    >>= λ boarded. Ok (record { car_id = id; id = group.id; destination = group.destination; persons = persons; boarded = boarded }))
    group.persons group' (written_number words 4 group.persons 0 4294967295 (omega arith) refl (omega arith) (omega arith))
    (then-ok (number words 5 0 2000000000)
    (λ boarded. Ok (record { car_id = id; id = group.id; destination = group.destination; persons = group.persons; boarded = boarded }))
    group.boarded group' (written_number words 5 group.boarded 0 2000000000 (omega arith) refl (omega arith) early) refl)))) in
    then-ok (group_of_words words) (λ s. car_named b s.car_id >>= λ c. Ok (group_in s c)) group' group said
    (then-ok (car_named b id) (λ c. Ok (group_in group' c)) group.car group is refl)

group_good : (group : Aboard) (id : ℕ) → id < 2 ^ 32 → group.id < 2 ^ 32 → group.destination < 64 → group.persons ≤ 8 → group.boarded ≤ 2000000000
    → IsLineOfWords (codes "aboard" ∷ decimal id ∷ decimal group.id ∷ decimal group.destination ∷ decimal group.persons ∷ decimal group.boarded ∷ [])
group_good group id small own low few early =
    line_good (codes "aboard" ∷ decimal id ∷ decimal group.id ∷ decimal group.destination ∷ decimal group.persons ∷ decimal group.boarded ∷ []) (omega arith)
    (omega arith) (
      text_good (codes "aboard") refl refl refl,
      (
        number_good id (omega arith),
        (
          number_good group.id (omega arith),
          (number_good group.destination (omega arith), (number_good group.persons (omega arith), (number_good group.boarded (omega arith), tt))),
        ),
      ),
    )

-- ---- a line of a call

-- no number is the word `any`
not_any : (n : ℕ) → n < 2 ^ 64 → bytes_eq (decimal n) (codes "any") ≡ false
not_any n small =
    elim (cases_Bool (bytes_eq (decimal n) (codes "any"))) [
      | inl is ↦
          let text : decimal n ≡ codes "any" = (bytes_eq-Decides (decimal n) (codes "any")).0 is in
          let none : Err NoNumber ≡ Ok n = ap (λ (word : List ℕ). within 0 n (digits_number word)) (sym text)
          ∙ number_again n 0 n small (omega arith) (omega arith) in
          absurd cc
      | inr is ↦ is
    ]

-- what is told of a pin
abbrev HasPin : Building → Option ℕ → Type 0
HasPin b None = Unit {0}
HasPin b (Some c) = ((car_of b c).id < 2 ^ 32) × (car_named b (car_of b c).id ≡ Ok c)

-- the id of a pin
abbrev pin_id : Building → Option ℕ → Option ℕ
pin_id b None = None
pin_id b (Some c) = Some (car_of b c).id

pin_reads : (b : Building) (pin : Option ℕ) (words : Line) → HasPin b pin → word_at words 6 ≡ pin_word b pin → pin_said words ≡ Ok (pin_id b pin)
pin_reads b None words told at = ap (λ (word : List ℕ). if bytes_eq word (codes "any") then Ok None else (short words 6 >>= λ id. Ok (Some id))) at
pin_reads b (Some c) words told at =
    let id = (car_of b c).id in
    let small : id < 2 ^ 64 = omega (arith, told.0) in
    let other : is_word words 6 (codes "any") ≡ false = ap (λ (word : List ℕ). bytes_eq word (codes "any")) at ∙ not_any id small in
    ap (λ (is : Bool). if is then Ok None else (short words 6 >>= λ i. Ok (Some i))) other
    ∙ then-ok (short words 6) (λ i. Ok (Some i)) id (Some id) (written_number words 6 id 0 4294967295 small at (omega arith) (omega (arith, told.0))) refl

pin_known : (b : Building) (pin : Option ℕ) → HasPin b pin → pin_named b (pin_id b pin) ≡ Ok pin
pin_known b None told = refl
pin_known b (Some c) told = then-ok (car_named b (car_of b c).id) (λ k. Ok (Some k)) c (Some c) told.1 refl

pin_good : (b : Building) (pin : Option ℕ) → HasPin b pin → IsGood (pin_word b pin)
pin_good b None told = text_good (codes "any") refl refl refl
pin_good b (Some c) told = number_good (car_of b c).id (omega (arith, told.0))

call_says : (b : Building) (call : Call) → HasPin b call.pin → call.id < 2 ^ 32 → call.origin < 64 → call.destination < 64 → call.persons ≤ 8
    → call.released ≤ 1000000000 → says_call b (call_words b call) ≡ Ok call
call_says b call told own low far few early =
    let words = call_words b call in
    let call' : CallWords =
    record {
      id = call.id;
      origin = call.origin;
      destination = call.destination;
      persons = call.persons;
      released = call.released;
      pin_id =
          pin_id b call.pin;
    } in
    let said : call_of_words words ≡ Ok call' =
    then-ok (short words 1)
    (λ i. short words 2 >>= λ origin.
    (short words 3 >>= λ destination.
    (short words 4 >>= λ persons.
    (number words 5 0 1000000000
    >>= λ released. (pin_said words
    >>= λ pin. Ok (record { id = i; origin = origin; destination = destination; persons = persons; released = released; pin_id = pin }))))))
    call.id call' (written_number words 1 call.id 0 4294967295 (omega arith) refl (omega arith) (omega arith))
    (then-ok (short words 2)
    (λ origin. short words 3
    >>= λ destination. (short words 4
    >>= λ persons. (number words 5 0 1000000000
    >>= λ released. (pin_said words
    >>= λ pin. Ok (record { id = call.id; origin = origin; destination = destination; persons = persons; released = released; pin_id = pin })))))
    call.origin call' (written_number words 2 call.origin 0 4294967295 (omega arith) refl (omega arith) (omega arith))
    (then-ok (short words 3)
    (λ destination. short words 4
    >>= λ persons. (number words 5 0 1000000000
    >>= λ released. (pin_said words
    >>= λ pin. Ok (record { id = call.id; origin = call.origin; destination = destination; persons = persons; released = released; pin_id = pin }))))
    call.destination call' (written_number words 3 call.destination 0 4294967295 (omega arith) refl (omega arith) (omega arith))
    (then-ok (short words 4)
    (λ persons. number words 5 0 1000000000
    >>= λ released. (pin_said words
    >>= λ pin. Ok (record { id = call.id; origin = call.origin; destination = call.destination; persons = persons; released = released; pin_id = pin })))
    call.persons call' (written_number words 4 call.persons 0 4294967295 (omega arith) refl (omega arith) (omega arith))
    (then-ok (number words 5 0 1000000000)
    (λ released. pin_said words
    >>= λ pin. Ok (record {
      id = call.id;
      origin = call.origin;
      destination = call.destination;
      persons = call.persons;
      released = released;
      pin_id = pin;
    }))
    call.released call' (written_number words 5 call.released 0 1000000000 (omega arith) refl (omega arith) early)
    (then-ok (pin_said words)
    (λ pin. Ok (record {
      id = call.id;
      origin = call.origin;
      destination = call.destination;
      persons = call.persons;
      released = call.released;
      pin_id = pin;
    }))
    (pin_id b call.pin) call' (pin_reads b call.pin words told refl) refl))))) in
    then-ok (call_of_words words) (λ s. pin_named b s.pin_id >>= λ pin. Ok (call_at s pin)) call' call said
    (then-ok (pin_named b (pin_id b call.pin)) (λ pin. Ok (call_at call' pin)) call.pin call (pin_known b call.pin told) refl)

call_good : (b : Building) (call : Call) → HasPin b call.pin → call.id < 2 ^ 32 → call.origin < 64 → call.destination < 64 → call.persons ≤ 8
    → call.released ≤ 1000000000 → IsLineOfWords (call_words b call)
call_good b call told own low far few early =
    line_good (call_words b call) (omega arith) (omega arith) (
      text_good (codes "call") refl refl refl,
      (
        number_good call.id (omega arith),
        (
          number_good call.origin (omega arith),
          (
            number_good call.destination (omega arith),
            (number_good call.persons (omega arith), (number_good call.released (omega arith), (pin_good b call.pin told, tt))),
          ),
        ),
      ),
    )

-- ---- lines of many items

times_past : (n c : ℕ) → n ≤ c → times_in c (range_with_len 0 n) ≡ 0
times_past zero c past = refl
times_past (suc n) c past =
    ap (λ (m : ℕ). times_in c (range_with_len 0 m)) (sym (add-one n)) ∙ ap (times_in c) (range_more n) ∙ times-push c (range_with_len 0 n) n
    ∙ ap (λ (is : Bool). times_in c (range_with_len 0 n) + (if is then 1 else 0)) (ne_eqb n c (λ same. omega arith))
    ∙ ap (λ (m : ℕ). m + 0) (times_past n c (omega arith))

times_once : (n c : ℕ) → c < n → times_in c (range_with_len 0 n) ≡ 1
times_once zero c below = absurd (omega arith)
times_once (suc n) c below =
    ap (λ (m : ℕ). times_in c (range_with_len 0 m)) (sym (add-one n)) ∙ ap (times_in c) (range_more n) ∙ times-push c (range_with_len 0 n) n
    ∙ elim (cases_eq n c) [
      | inl same ↦ ap (λ (is : Bool). times_in c (range_with_len 0 n) + (if is then 1 else 0)) (eq-eqb n c same)
          ∙ ap (λ (m : ℕ). m + 1) (times_past n c (omega (arith, same)))
      | inr differs ↦ ap (λ (is : Bool). times_in c (range_with_len 0 n) + (if is then 1 else 0)) (ne_eqb n c differs)
          ∙ ap (λ (m : ℕ). m + 0) (times_once n c (omega (arith, differs)))
    ]

range_map : {X : Type 0} (n : ℕ) (f g : ℕ → X) → ((c : ℕ) → c < n → f c ≡ g c) → map f (range_with_len 0 n) ≡ map g (range_with_len 0 n)
range_map zero f g same = refl
range_map {X} (suc n) f g same =
    let more : range_with_len 0 (suc n) ≡ range_with_len 0 n ++ n ∷ [] = ap (range_with_len 0) (sym (add-one n)) ∙ range_more n in
    ap (map f) more ∙ map_push f (range_with_len 0 n) n ∙ ap (λ (xs : List X). xs ++ f n ∷ []) (range_map n f g (λ c below. same c (omega arith)))
    ∙ ap (λ (x : X). map g (range_with_len 0 n) ++ x ∷ []) (same n (omega arith)) ∙ sym (ap (map g) more ∙ map_push g (range_with_len 0 n) n)

map_map : {X Y Z : Type 0} (f : Y → Z) (g : X → Y) (xs : List X) → map f (map g xs) ≡ map (λ x. f (g x)) xs
map_map f g [] = refl
map_map {X} {Y} {Z} f g (x ∷ xs) = ap (λ (zs : List Z). f (g x) ∷ zs) (map_map f g xs)

map_each : {X Z : Type 0} (f g : X → Z) (d : X) (xs : List X) → ((k : ℕ) → k < length xs → f (get_or xs k d) ≡ g (get_or xs k d)) → map f xs ≡ map g xs
map_each f g d [] same = refl
map_each {X} {Z} f g d (x ∷ xs) same = ap (λ (z : Z). z ∷ map f xs) (same 0 (omega arith))
    ∙ ap (λ (zs : List Z). g x ∷ zs) (map_each f g d xs (λ k below. same (suc k) (omega arith)))

each_map : {X Y : Type 0} (P : Y → Type 0) (f : X → Y) (d : X) (xs : List X) → ((k : ℕ) → k < length xs → P (f (get_or xs k d))) → AllByRecursion P (map f xs)
each_map P f d [] each = tt
each_map P f d (x ∷ xs) each = (each 0 (omega arith), each_map P f d xs (λ k below. each (suc k) (omega arith)))

each_range : {Y : Type 0} (P : Y → Type 0) (f : ℕ → Y) (n : ℕ) → ((c : ℕ) → c < n → P (f c)) → AllByRecursion P (map f (range_with_len 0 n))
each_range P f zero each = tt
each_range {Y} P f (suc n) each =
    let more : map f (range_with_len 0 n) ++ f n ∷ [] ≡ map f (range_with_len 0 (suc n)) =
    sym (ap (map f) (ap (range_with_len 0) (sym (add-one n)) ∙ range_more n) ∙ map_push f (range_with_len 0 n) n) in
    subst (λ (ys : List Y). AllByRecursion P ys) more
    (each-append P (map f (range_with_len 0 n)) (f n ∷ []) (each_range P f n (λ c below. each c (omega arith))) (each n (omega arith), tt))

-- ---- the lines of a snapshot

early_in : (s : Snapshot) (c : ℕ) (st : CarState) → s.moment ≤ 1000000000 → IsTimely s c st → IsEarly st
early_in s c (Idle floor free) low timely = omega (arith, timely.1)
early_in s c (Coming floor arrives) low timely = omega (arith, timely.1)
early_in s c (Moving from up left) low timely = omega (arith, timely.0)

told_in : (v : ℕ) (st : CarState) → 1 ≤ v → v ≤ 2 → (v ≡ 1 → IsUnmoving st) → IsTold v st
told_in v (Idle floor free) low high still = tt
told_in v (Coming floor arrives) low high still = tt
told_in v (Moving from up left) low high still = elim (cases_eq v 1) [ inl one ↦ absurd (still one) | inr other ↦ omega (arith, low, high, other) ]

module _ (s : Snapshot) (text : HasText s) where
  abbrev b : Building
  b = s.building

  car_is : (c : ℕ) → c < car_count s → car_named b (car_of b c).id ≡ Ok c
  car_is c below = sym (named_car b (car_of b c).id c text.accepted.building below refl)

  floor_low : (c floor : ℕ) → IsTrue (serves b c floor) → floor < 64
  floor_low c floor served =
      let inside = ltb-true floor (floor_count b) (and_parts (nat_lt floor (floor_count b)) (has (car_of b c).serves floor) served).0 in
      let few = text.accepted.building.floors_high in
      omega (arith, inside, few)

  pin_told : (pin : Option ℕ) → IfSome pin (λ c. c < car_count s) → HasPin b pin
  pin_told None within = tt
  pin_told (Some c) within = (text.car_ids c within, car_is c within)

  module _ (c : ℕ) (below : c < car_count s) where
    abbrev st : CarState
    st = state_of s c

    low : floor_of st < 64
    low = floor_low c (floor_of st) (text.accepted.placed c below).served

    early : IsEarly st
    early = early_in s c st text.accepted.moment (text.accepted.placed c below).timely

    car_line_says : says_car b s.version (car_words s c) ≡ Ok (c, st)
    car_line_says = car_says b s.version (spec_of s c).id c (text.car_ids c below) (car_is c below) st low early
        (told_in s.version st text.accepted.version_low text.accepted.version_high (λ one. text.accepted.unmoving one c below))

    car_line_good : IsLineOfWords (car_words s c)
    car_line_good = car_good b s.version (spec_of s c).id c (text.car_ids c below) (car_is c below) st low early

  module _ (k : ℕ) (below : k < length s.aboard) where
    abbrev group : Aboard
    group = group_of s k

    group_low : group.destination < 64
    group_low = floor_low group.car group.destination (text.accepted.groups k below).served

    group_early : group.boarded ≤ 2000000000
    group_early =
        let own = text.accepted.groups k below in
        let opening = (text.accepted.building.cars group.car own.car).opening in
        omega (arith, own.boarded, opening, text.accepted.moment)

    group_line_says : says_group b (group_words b group) ≡ Ok group
    group_line_says =
        let own = text.accepted.groups k below in
        group_says b group (car_of b group.car).id refl (text.car_ids group.car own.car) (car_is group.car own.car)
        (text.group_ids k below) group_low own.persons_high group_early

    group_line_good : IsLineOfWords (group_words b group)
    group_line_good =
        let own = text.accepted.groups k below in
        group_good group (car_of b group.car).id (text.car_ids group.car own.car) (text.group_ids k below) group_low own.persons_high group_early

  module _ (j : ℕ) (below : j < length s.calls) where
    abbrev call : Call
    call = call_of s j

    pin : HasPin b call.pin
    pin = pin_told call.pin (pin_is_car s j text.accepted below)

    origin_low : call.origin < 64
    origin_low = omega (arith, (text.accepted.calls j below).origin, text.accepted.building.floors_high)

    destination_low : call.destination < 64
    destination_low = omega (arith, (text.accepted.calls j below).destination, text.accepted.building.floors_high)

    call_early : call.released ≤ 1000000000
    call_early = omega (arith, (text.accepted.calls j below).released, text.accepted.moment)

    call_line_says : says_call b (call_words b call) ≡ Ok call
    call_line_says = call_says b call pin (text.call_ids j below) origin_low destination_low (text.accepted.calls j below).persons_high call_early

    call_line_good : IsLineOfWords (call_words b call)
    call_line_good = call_good b call pin (text.call_ids j below) origin_low destination_low (text.accepted.calls j below).persons_high call_early

  -- the lines of the text stand for the snapshot
  pub text_stands : StandsFor b false (snapshot_lines s) s
  unfolding snapshot_lines
  text_stands = record {
    head = head_words s.version;
    moment = moment_words s.moment;
    cars = car_lines s;
    groups = group_lines s;
    calls = call_lines s;
    end = end_words;
    lines_are = refl;
    building = refl;
    version_is_said = written_number (head_words s.version) 1 s.version 1 2
        (omega (arith, text.accepted.version_high)) refl text.accepted.version_low text.accepted.version_high;
    moment_is_said = written_number (moment_words s.moment) 1 s.moment 0 1000000000 (omega (arith, text.accepted.moment)) refl
        (omega arith) text.accepted.moment;
    places = range_with_len 0 (car_count s);
    states_are_said = map_map (says_car b s.version) (car_words s) (range_with_len 0 (car_count s))
        ∙ range_map (car_count s) (λ c. says_car b s.version (car_words s c)) (λ c. Ok (c, state_of s c)) car_line_says;
    once = λ c below. times_once (car_count s) c below;
    groups_are_said = map_map (says_group b) (group_words b) s.aboard ∙ map_each (λ x. says_group b (group_words b x)) Ok no_group s.aboard group_line_says;
    calls_are_said = map_map (says_call b) (call_words b) s.calls ∙ map_each (λ x. says_call b (call_words b x)) Ok no_call s.calls call_line_says;
    end_is_said = refl;
    opening = λ opens. absurd (false≢true opens);
    accepted = text.accepted;
  }

  pub text_good_lines : AllByRecursion IsLineOfWords (snapshot_lines s)
  unfolding snapshot_lines
  text_good_lines =
      let head = line_good (head_words s.version) (omega arith) (omega arith)
      (text_good (codes "snapshot") refl refl refl, (number_good s.version (omega (arith, text.accepted.version_high)), tt)) in
      let moment = line_good (moment_words s.moment) (omega arith) (omega arith)
      (text_good (codes "now") refl refl refl, (number_good s.moment (omega (arith, text.accepted.moment)), tt)) in
      let end = line_good end_words (omega arith) (omega arith) (text_good (codes "end") refl refl refl, tt) in
      let cars = each_range IsLineOfWords (car_words s) (car_count s) car_line_good in
      let groups = each_map IsLineOfWords (group_words b) no_group s.aboard group_line_good in
      let calls = each_map IsLineOfWords (call_words b) no_call s.calls call_line_good in (
        head,
        (
          moment,
          each-append IsLineOfWords (car_lines s ++ group_lines s ++ call_lines s) (end_words ∷ [])
              (each-append IsLineOfWords (car_lines s ++ group_lines s) (call_lines s)
              (each-append IsLineOfWords (car_lines s) (group_lines s) cars groups) calls)
              (end, tt),
        ),
      )

  pub text_begins : (before : TextState) (tail : List ℕ) → before.bytes ≡ snapshot_text s ++ tail → length (snapshot_text s) ≤ before.limit
      → BeginsWith (snapshot_lines s) (reading before) (reading (behind before s tail))
  unfolding snapshot_text
  text_begins before tail same room =
      subst (λ (bytes : List ℕ).
      BeginsWith (snapshot_lines s) (reading (record { line = before.line; limit = before.limit; bytes = bytes })) (reading (behind before s tail)))
      (sym same)
      (lines_again (snapshot_lines s) before.line before.limit tail text_good_lines room)

-- the text of a snapshot is read as that snapshot, where the lines that stand for one are
pub reads_text : (before now : Option TextState) (b : Building) (answer : Result Snapshot TextFault) → ReadsLines before b false answer now
    → ReadsText before b answer now
reads_text None now b answer reads s tail text same = tt
reads_text (Some before) now b answer reads s tail text same = λ begins room.
    reads (snapshot_lines s) s (reading (behind before s tail)) (subst (λ (x : Building). StandsFor x false (snapshot_lines s) s) same (text_stands s text))
    (text_begins s text before tail begins room)
