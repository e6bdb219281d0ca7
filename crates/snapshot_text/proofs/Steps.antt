-- What is known of a line where a step is known.
use Rattle.std.proofs.Common.{◌≡◌, ℕ, ◌<◌, ◌==◌, ◌&&◌, Bool, true, false, List, length, Option, None, Some, Ok, Err, refl, ap, ◌∙◌, subst, arith, IfSome}
use Rattle.std.specs.Prelude.{codes, nat_lt, if◌then◌else◌}
use Rattle.std.proofs.lemmas.Bool.{and_parts, eqb-true}
use Rattle.elevator_model.specs.declared.CarSpec.{CarSpec}
use Rattle.elevator_model.specs.declared.CarState.{CarState}
use Rattle.elevator_model.specs.declared.CarState.TheVariants.{Idle, Coming}
use Rattle.elevator_model.specs.declared.Aboard.{Aboard}
use Rattle.elevator_model.specs.declared.Call.{Call}
use Rattle.elevator_model.specs.declared.Fault.{Fault}
use Rattle.elevator_model.specs.Building.{Building}
use Rattle.elevator_model.specs.Snapshot.{IsUnmoving}
use Rattle.lift_text.specs.declared.codes.TextCode.TheVariants.{NoLineWord, NoState, NotInOpening}
use Rattle.text_sections.specs.declared.sections.AfterLine.{AfterLine}
use Rattle.text_sections.specs.Judging.{Judged, ◌>>=◌}
use Rattle.text_sections.specs.Words.{is_word, exactly, number, short}
use Rattle.text_sections.specs.Sections.{Line, goes_on, is_whole}
use Rattle.text_sections.proofs.StepLemmas.{then-inv, picked, known-below}
use Rattle.snapshot_text.specs.declared.kinds.Form.{Form}
use Rattle.snapshot_text.specs.declared.kinds.Form.TheVariants.{Unsaid, SaidIdle, SaidComing, SaidMoving}
use Rattle.snapshot_text.specs.declared.kinds.LineWord.{LineWord}
use Rattle.snapshot_text.specs.declared.kinds.LineWord.TheVariants.{Snapshot as SnapshotWord, Now, Car, Aboard as AboardWord, Call as CallWord, End}
use Rattle.snapshot_text.specs.Words.{has_direction, form_of, car_named, state_said, car_said, call_at, group_in, group_of_words, group_said, pin_named}
use Rattle.snapshot_text.specs.Words.{call_of_words, call_said}
use Rattle.snapshot_text.specs.Drafts.{Draft, any_word, with_item, unless_faulty, ended, after_word, after_judged}

-- ---- steps of a chain

pub outside-inv : (b : Bool) (u : Unit {0}) → (if b then Err NotInOpening else Ok tt) ≡ Ok u → b ≡ false
outside-inv true u e = absurd cc
outside-inv false u e = refl

pub all_cars-inv : (b : Bool) (u : Unit {0}) → (if b then Ok tt else Err NoState) ≡ Ok u → b ≡ true
all_cars-inv true u e = refl
all_cars-inv false u e = absurd cc

-- ---- steps of a section

unless_faulty-inv : (fault : Option Fault) (d next : Draft) → unless_faulty fault d ≡ goes_on next → (fault ≡ None) × (d ≡ next)
unless_faulty-inv None d next e = (refl, cc)
unless_faulty-inv (Some fault) d next e = absurd cc

unless_faulty-whole : (fault : Option Fault) (d next : Draft) → unless_faulty fault d ≡ is_whole next → ⊥
unless_faulty-whole None d next e = cc
unless_faulty-whole (Some fault) d next e = cc

pub with_item-inv : {X : Type 0} (j : Judged X) (fault_of : X → Option Fault) (with_one : X → Draft) (next : Draft)
    → with_item j fault_of with_one ≡ goes_on next → (x : X) × (j ≡ Ok x) × (fault_of x ≡ None) × (with_one x ≡ next)
with_item-inv (Ok x) fault_of with_one next e = let parts = unless_faulty-inv (fault_of x) (with_one x) next e in (x, refl, parts.0, parts.1)
with_item-inv (Err code) fault_of with_one next e = absurd cc

pub with_item-whole : {X : Type 0} (j : Judged X) (fault_of : X → Option Fault) (with_one : X → Draft) (next : Draft)
    → with_item j fault_of with_one ≡ is_whole next → ⊥
with_item-whole (Ok x) fault_of with_one next e = unless_faulty-whole (fault_of x) (with_one x) next e
with_item-whole (Err code) fault_of with_one next e = cc

pub with_item-ok : {X : Type 0} (j : Judged X) (fault_of : X → Option Fault) (with_one : X → Draft) (x : X) → j ≡ Ok x → fault_of x ≡ None
    → with_item j fault_of with_one ≡ goes_on (with_one x)
with_item-ok j fault_of with_one x e clear = ap (λ judged. with_item judged fault_of with_one) e ∙ ap (λ fault. unless_faulty fault (with_one x)) clear

pub ended-inv : (j : Judged AfterLine) (d next : Draft) → ended j d ≡ is_whole next → (turn : AfterLine) × (j ≡ Ok turn) × (d ≡ next)
ended-inv (Ok turn) d next e = (turn, refl, cc)
ended-inv (Err code) d next e = absurd cc

pub ended-more : (j : Judged AfterLine) (d next : Draft) → ended j d ≡ goes_on next → ⊥
ended-more (Ok turn) d next e = cc
ended-more (Err code) d next e = cc

pub after_judged-inv : (j : Judged LineWord) (d next : Draft) (words : Line) → after_judged j d words ≡ goes_on next → (word : LineWord) × (j ≡ Ok word)
    × (after_word word d words ≡ goes_on next)
after_judged-inv (Ok word) d next words e = (word, refl, e)
after_judged-inv (Err code) d next words e = absurd cc

pub after_judged-whole : (j : Judged LineWord) (d next : Draft) (words : Line) → after_judged j d words ≡ is_whole next → (word : LineWord) × (j ≡ Ok word)
    × (after_word word d words ≡ is_whole next)
after_judged-whole (Ok word) d next words e = (word, refl, e)
after_judged-whole (Err code) d next words e = absurd cc

-- ---- line words

abbrev pub text_of : LineWord → List ℕ
text_of SnapshotWord = codes "snapshot"
text_of Now = codes "now"
text_of Car = codes "car"
text_of AboardWord = codes "aboard"
text_of CallWord = codes "call"
text_of End = codes "end"

pub any_word-inv : (words : Line) (word : LineWord) → any_word words ≡ Ok word → is_word words 0 (text_of word) ≡ true
any_word-inv words word e =
    picked text_of words _ SnapshotWord word _ (λ is. is)
    (picked text_of words _ Now word _ (λ is. is)
    (picked text_of words _ Car word _ (λ is. is)
    (picked text_of words _ AboardWord word _ (λ is. is)
    (picked text_of words _ CallWord word _ (λ is. is)
    (picked text_of words _ End word _ (λ is. is) (λ none. absurd cc)))))) e

-- ---- cars

pub car_named-below : (b : Building) (id c : ℕ) → car_named b id ≡ Ok c → c < length b.cars
car_named-below b id c e = known-below (λ (x : CarSpec). x.id == id) b.cars c e

pub car_said-below : (b : Building) (form : Form) (words : Line) (said : ℕ × CarState) → car_said b form words ≡ Ok said → said.0 < length b.cars
car_said-below b form words said e =
    let first = then-inv (state_said form words) (λ s. car_named b s.0 >>= λ c. Ok (c, s.1)) said e in
    let second = then-inv (car_named b first.0.0) (λ c. Ok (c, first.0.1)) said first.2 in
    let same : (second.0, first.0.1) ≡ said = cc in
    subst (λ (s : ℕ × CarState). s.0 < length b.cars) same (car_named-below b first.0.0 second.0 second.1)

pub group_said-below : (b : Building) (words : Line) (group : Aboard) → group_said b words ≡ Ok group → group.car < length b.cars
group_said-below b words group e =
    let first = then-inv (group_of_words words) (λ s. car_named b s.car_id >>= λ c. Ok (group_in s c)) group e in
    let second = then-inv (car_named b first.0.car_id) (λ c. Ok (group_in first.0 c)) group first.2 in
    let same : group_in first.0 second.0 ≡ group = cc in
    subst (λ (g : Aboard). g.car < length b.cars) same (car_named-below b first.0.car_id second.0 second.1)

pin_named-below : (b : Building) (ids pin : Option ℕ) → pin_named b ids ≡ Ok pin → IfSome pin (λ c. c < length b.cars)
pin_named-below b None pin e = let same : None ≡ pin = cc in subst (λ (p : Option ℕ). IfSome p (λ c. c < length b.cars)) same tt
pin_named-below b (Some id) pin e =
    let first = then-inv (car_named b id) (λ c. Ok (Some c)) pin e in
    let same : Some first.0 ≡ pin = cc in
    subst (λ (p : Option ℕ). IfSome p (λ c. c < length b.cars)) same (car_named-below b id first.0 first.1)

pub call_said-below : (b : Building) (words : Line) (call : Call) → call_said b words ≡ Ok call → IfSome call.pin (λ c. c < length b.cars)
call_said-below b words call e =
    let first = then-inv (call_of_words words) (λ s. pin_named b s.pin_id >>= λ pin. Ok (call_at s pin)) call e in
    let second = then-inv (pin_named b first.0.pin_id) (λ pin. Ok (call_at first.0 pin)) call first.2 in
    let same : call_at first.0 second.0 ≡ call = cc in
    subst (λ (s : Call). IfSome s.pin (λ c. c < length b.cars)) same (pin_named-below b first.0.pin_id second.0 second.1)

-- ---- moving cars

abbrev MovesIn : ℕ → Form → Type 0
MovesIn version Unsaid = Unit {0}
MovesIn version SaidIdle = Unit {0}
MovesIn version SaidComing = Unit {0}
MovesIn version SaidMoving = version ≡ 2

form_cases : (few idle coming moving : Bool) (version : ℕ) (form : Form) → (moving ≡ true → version ≡ 2)
    → (if few then Ok Unsaid else (if idle then Ok SaidIdle else (if coming then Ok SaidComing else (if moving then Ok SaidMoving else Err NoLineWord))))
    ≡ Ok form → MovesIn version form
form_cases true idle coming moving version form two e = let same : Unsaid ≡ form = cc in subst (MovesIn version) same tt
form_cases false true coming moving version form two e = let same : SaidIdle ≡ form = cc in subst (MovesIn version) same tt
form_cases false false true moving version form two e = let same : SaidComing ≡ form = cc in subst (MovesIn version) same tt
form_cases false false false true version form two e = let same : SaidMoving ≡ form = cc in subst (MovesIn version) same (two refl)
form_cases false false false false version form two e = absurd cc

-- only version 2 says that a car moves
form_of-moving : (version : ℕ) (words : Line) (form : Form) → form_of version words ≡ Ok form → MovesIn version form
form_of-moving version words form e =
    form_cases (nat_lt (length words) 3) (is_word words 2 (codes "idle")) (is_word words 2 (codes "coming"))
    ((version == 2) && (is_word words 2 (codes "moving") && has_direction words)) version form
    (λ is. eqb-true version 2 (and_parts (version == 2) (is_word words 2 (codes "moving") && has_direction words) is).0) e

unmoving_said : (form : Form) (words : Line) (said : ℕ × CarState) → (form ≡ SaidMoving → ⊥) → state_said form words ≡ Ok said → IsUnmoving said.1
unmoving_said Unsaid words said still e = absurd cc
unmoving_said SaidIdle words said still e =
    let a = then-inv (exactly words 5)
    (λ _. short words 1 >>= λ id. (short words 3 >>= λ floor. (number words 4 0 2000000000 >>= λ free. Ok (id, Idle floor free)))) said e in
    let b = then-inv (short words 1) (λ id. short words 3 >>= λ floor. (number words 4 0 2000000000 >>= λ free. Ok (id, Idle floor free))) said a.2 in
    let c = then-inv (short words 3) (λ floor. number words 4 0 2000000000 >>= λ free. Ok (b.0, Idle floor free)) said b.2 in
    let d = then-inv (number words 4 0 2000000000) (λ free. Ok (b.0, Idle c.0 free)) said c.2 in
    let state : ℕ × CarState = (b.0, Idle c.0 d.0) in
    let same : state ≡ said = cc in
    subst (λ (s : ℕ × CarState). IsUnmoving s.1) {x = state} same tt
unmoving_said SaidComing words said still e =
    let a = then-inv (exactly words 5)
    (λ _. short words 1 >>= λ id. (short words 3 >>= λ floor. (number words 4 0 2000000000 >>= λ free. Ok (id, Coming floor free)))) said e in
    let b = then-inv (short words 1) (λ id. short words 3 >>= λ floor. (number words 4 0 2000000000 >>= λ free. Ok (id, Coming floor free))) said a.2 in
    let c = then-inv (short words 3) (λ floor. number words 4 0 2000000000 >>= λ free. Ok (b.0, Coming floor free)) said b.2 in
    let d = then-inv (number words 4 0 2000000000) (λ free. Ok (b.0, Coming c.0 free)) said c.2 in
    let state : ℕ × CarState = (b.0, Coming c.0 d.0) in
    let same : state ≡ said = cc in
    subst (λ (s : ℕ × CarState). IsUnmoving s.1) {x = state} same tt
unmoving_said SaidMoving words said still e = absurd (still refl)

not_two : (version : ℕ) (form : Form) → version ≡ 1 → MovesIn version form → form ≡ SaidMoving → ⊥
not_two version Unsaid one moves is = cc
not_two version SaidIdle one moves is = cc
not_two version SaidComing one moves is = cc
not_two version SaidMoving one moves is = omega (arith, one, moves)

-- version 1 says no moving car
pub unmoving_in : (b : Building) (version : ℕ) (form : Form) (words : Line) (said : ℕ × CarState) → version ≡ 1 → form_of version words ≡ Ok form
    → car_said b form words ≡ Ok said → IsUnmoving said.1
unmoving_in b version form words said one is e =
    let first = then-inv (state_said form words) (λ s. car_named b s.0 >>= λ c. Ok (c, s.1)) said e in
    let second = then-inv (car_named b first.0.0) (λ c. Ok (c, first.0.1)) said first.2 in
    let same : (second.0, first.0.1) ≡ said = cc in
    subst (λ (s : ℕ × CarState). IsUnmoving s.1) same
    (unmoving_said form words first.0 (not_two version form one (form_of-moving version words form is)) first.1)
