-- Lines that are taken one after another.
use Rattle.std.proofs.Common.{◌≡◌, ◌↔◌, ℕ, ◌+◌, ◌<◌, ◌≤◌, inl, inr, Bool, true, false, List, [], ◌∷◌, ◌++◌, length, take, drop, get_or, Option, None, Some}
use Rattle.std.proofs.Common.{Result, Ok, Err, IfOk, refl, sym, ap, ◌∙◌, subst}
use Rattle.std.specs.Prelude.{IsTrue}
use Rattle.std.proofs.lemmas.Bool.{false≢true}
use Rattle.std.proofs.lemmas.List.{map-append, map_more, take-append-drop, take_all}
use Rattle.elevator_model.specs.Snapshot.{Snapshot, IsAccepted}
use Rattle.search_model.specs.declared.Event.{Event}
use Rattle.search_model.specs.declared.Reason.{Reason}
use Rattle.search_model.specs.declared.Stated.{Stated}
use Rattle.search_model.specs.declared.Twig.{Twig}
use Rattle.search_model.specs.declared.Verdict.{Verdict}
use Rattle.search_model.specs.declared.Verdict.TheVariants.{No}
use Rattle.search_model.specs.Verdicts.{verdict_of}
use Rattle.lift_text.specs.Reading.{TextState, Reading, reading, line_with, finished, bad_line, past_limit, NextLine}
use Rattle.lift_text.specs.declared.faults.TextFault.{TextFault}
use Rattle.lift_text.specs.declared.faults.TextFault.TheVariants.{Bad, Read, TooLong, NoMemory}
use Rattle.text_sections.specs.Sections.{Line}
use Rattle.text_sections.specs.Canonical.{BeginsWith}
use Rattle.case_text.specs.CaseTexts.{Tells}
use Rattle.day_text.specs.LogTexts.{event_words}
use Rattle.cert_checker.proofs.VerdictLaws.{yes_holds}
use Rattle.check_text.specs.Pairs.{IsCertified, IsRefusedPair, PairInFront}
use Rattle.day_audit.specs.declared.findings.Finding.{Finding}
use Rattle.day_audit.specs.declared.findings.Finding.TheVariants.{Differs, Row, Text}
use Rattle.day_audit.specs.Audits.{AcceptedFinds, EndFinds, FindsBehind, Found, Lacks, ProofFinds, ProofInFront, accepted_lines, event_lines, bad_section}
use Rattle.day_audit.specs.Audits.{bad_row, bad_text, differs, found_for, no_proof}
use Rattle.day_audit.specs.Taking.{IsJudgedBy, IsNotProved, IsProvedPlan, TakesAccepted, TakesEnd, TakesLines, TakesProof, TellsFound, TellsOf, found_by}
use Rattle.day_audit.specs.Taking.{is_unread, said_at}

pub tells : {P Q : Type 0} (fault : TextFault) → (P → Q) → Tells fault P → Tells fault Q
tells Read f told = tt
tells TooLong f told = f told
tells (Bad line code) f told = f told
tells NoMemory f told = tt

-- what is told of one thing is told of another that follows
tells_of : {P Q : Type 0} (found : Found) → (P → Q) → TellsOf found P → TellsOf found Q
tells_of (differs line) f told = f told
tells_of (bad_row row reason) f told = f told
tells_of (bad_text fault) f told = tells fault f told

pub tells_found : (finding : Finding) (P Q : Found → Type 0) → ((found : Found) → P found → Q found) → TellsFound finding P → TellsFound finding Q
tells_found finding P Q f told = tells_of (found_by finding) (f (found_by finding)) told

-- a read failed where this is found
pub unread_is : (fault : TextFault) (finding : Finding) → finding ≡ Text fault → IsTrue (is_unread finding) → fault ≡ Read
unread_is fault finding is unread = at fault (subst (λ (f : Finding). IsTrue (is_unread f)) is unread)
  where
    at : (f : TextFault) → IsTrue (is_unread (Text f)) → f ≡ Read
    at (Bad line code) none = absurd cc
    at TooLong none = absurd cc
    at Read some = refl
    at NoMemory none = absurd cc

-- ---- lists of lines

begins_behind : (front later : List Line) (read mid rest : Reading) → BeginsWith front read mid → BeginsWith later mid rest
    → BeginsWith (front ++ later) read rest
begins_behind [] later read mid rest begins more = subst (λ (r : Reading). BeginsWith later r rest) (sym begins) more
begins_behind (words ∷ front) later read mid rest begins more = (begins.0, begins.1, begins.2, begins_behind front later begins.1 mid rest begins.3 more)

lacks_more : (front later : List Line) (read : Reading) (found : Found) → Lacks front read found → Lacks (front ++ later) read found
lacks_more [] later read found lacks = absurd lacks
lacks_more (due ∷ front) later (line_with number words rest) found (inl other) = inl other
lacks_more (due ∷ front) later (line_with number words rest) found (inr (same, lacks)) = inr (same, lacks_more front later rest found lacks)
lacks_more (due ∷ front) later (finished lines) found lacks = lacks
lacks_more (due ∷ front) later (bad_line number code) found lacks = lacks
lacks_more (due ∷ front) later past_limit found lacks = lacks

lacks_behind : (front later : List Line) (read mid : Reading) (found : Found) → BeginsWith front read mid → Lacks later mid found
    → Lacks (front ++ later) read found
lacks_behind [] later read mid found begins lacks = subst (λ (r : Reading). Lacks later r found) (sym begins) lacks
lacks_behind (words ∷ front) later read mid found begins lacks =
    subst (λ (r : Reading). Lacks (words ∷ (front ++ later)) r found) (sym begins.2) (inr (refl, lacks_behind front later begins.1 mid found begins.3 lacks))

-- ---- one line

pub line_said : (before now : Option TextState) (words due : Line) (number : ℕ) (said : Bool) → NextLine before (Ok true) words number now → (said ≡ true)
    ↔ (words ≡ due) → TakesLines (due ∷ []) before (said_at said number) now
line_said None now words due number said next same = tt
line_said (Some text) None words due number said next same = absurd next
line_said (Some text) (Some behind) words due number true next same =
    (number, reading behind, next.0 ∙ ap (λ (w : Line). line_with number w (reading behind)) (same.0 refl), refl)
line_said (Some text) (Some behind) words due number false next same =
    subst (λ (r : Reading). Lacks (due ∷ []) r (differs number)) (sym next.0) (inl ((λ e. false≢true (same.1 e)), refl))

pub line_none : (before now : Option TextState) (words due : Line) (number : ℕ) → NextLine before (Ok false) words number now
    → TakesLines (due ∷ []) before (Err (Differs (number + 1))) now
line_none None now words due number next = tt
line_none (Some text) now words due number next = subst (λ (r : Reading). Lacks (due ∷ []) r (differs (number + 1))) (sym next.0) refl

-- where the line that is due could not be read
unread_line : (before : TextState) (words due : Line) (number : ℕ) (fault : TextFault) (now : Option TextState)
    → NextLine (Some before) (Err fault) words number now → TellsOf (found_for fault) (Lacks (due ∷ []) (reading before) (found_for fault))
unread_line before words due number (Bad line code) now next = subst (λ (r : Reading). Lacks (due ∷ []) r (differs line)) (sym next.0) refl
unread_line before words due number TooLong now next = subst (λ (r : Reading). Lacks (due ∷ []) r (bad_text TooLong)) (sym next) refl
unread_line before words due number Read now next = tt
unread_line before words due number NoMemory now next = tt

pub line_unread : (before now : Option TextState) (words due : Line) (number : ℕ) (fault : TextFault) (finding : Finding)
    → NextLine before (Err fault) words number now → found_by finding ≡ found_for fault → TakesLines (due ∷ []) before (Err finding) now
line_unread None now words due number fault finding next is = tt
line_unread (Some text) now words due number fault finding next is =
    subst (λ (found : Found). TellsOf found (Lacks (due ∷ []) (reading text) found)) (sym is) (unread_line text words due number fault now next)

-- ---- lines one after another

pub takes_none : (before : Option TextState) → TakesLines [] before (Ok tt) before
takes_none None = tt
takes_none (Some text) = refl

pub takes_further : (front later : List Line) (before mid now : Option TextState) (answer : Result Unit Finding) → TakesLines front before (Ok tt) mid
    → TakesLines later mid answer now → TakesLines (front ++ later) before answer now
takes_further front later None mid now answer first second = tt
takes_further front later (Some text) None now answer first second = absurd first
takes_further front later (Some text) (Some between) None (Ok done) first second = absurd second
takes_further front later (Some text) (Some between) (Some behind) (Ok done) first second =
    begins_behind front later (reading text) (reading between) (reading behind) first second
takes_further front later (Some text) (Some between) now (Err finding) first second =
    tells_found finding (Lacks later (reading between)) (Lacks (front ++ later) (reading text))
    (λ found. lacks_behind front later (reading text) (reading between) found first) second

pub takes_short : (front later : List Line) (before now : Option TextState) (finding : Finding) → TakesLines front before (Err finding) now
    → TakesLines (front ++ later) before (Err finding) now
takes_short front later None now finding first = tt
takes_short front later (Some text) now finding first =
    tells_found finding (Lacks front (reading text)) (Lacks (front ++ later) (reading text)) (λ found. lacks_more front later (reading text) found) first

-- ---- events

pub events_more : (events : List Event) (i : ℕ) (d : Event) (before mid now : Option TextState) (answer : Result Unit Finding) → i < length events
    → TakesLines (event_lines (take i events)) before (Ok tt) mid → TakesLines (event_words (get_or events i d) ∷ []) mid answer now
    → TakesLines (event_lines (take (i + 1) events)) before answer now
events_more events i d before mid now answer below so_far next =
    subst (λ (due : List Line). TakesLines due before answer now) (sym (map_more event_words events i d below))
    (takes_further (event_lines (take i events)) (event_words (get_or events i d) ∷ []) before mid now answer so_far next)

pub events_short : (events : List Event) (n : ℕ) (before now : Option TextState) (finding : Finding)
    → TakesLines (event_lines (take n events)) before (Err finding) now → TakesLines (event_lines events) before (Err finding) now
events_short events n before now finding first =
    subst (λ (due : List Line). TakesLines due before (Err finding) now)
    (sym (map-append event_words (take n events) (drop n events)) ∙ ap event_lines (take-append-drop n events))
    (takes_short (event_lines (take n events)) (event_lines (drop n events)) before now finding first)

pub events_all : (events : List Event) (n : ℕ) (before now : Option TextState) → length events ≤ n
    → TakesLines (event_lines (take n events)) before (Ok tt) now → TakesLines (event_lines events) before (Ok tt) now
events_all events n before now all taken = subst (λ (es : List Event). TakesLines (event_lines es) before (Ok tt) now) (take_all n events all) taken

-- ---- the end

pub nothing_left : (before now : Option TextState) (words : Line) (number : ℕ) → NextLine before (Ok false) words number now → TakesEnd [] before (Ok tt)
nothing_left None now words number next = tt
nothing_left (Some text) now words number next = (number, next.0)

pub line_left : (before now : Option TextState) (words : Line) (number : ℕ) → NextLine before (Ok true) words number now
    → TakesEnd [] before (Err (Differs number))
line_left None now words number next = tt
line_left (Some text) None words number next = absurd next
line_left (Some text) (Some behind) words number next = inr (reading text, refl, subst (λ (r : Reading). FindsBehind r (differs number)) (sym next.0) refl)

left_unread : (before : TextState) (words : Line) (number : ℕ) (fault : TextFault) (now : Option TextState)
    → NextLine (Some before) (Err fault) words number now → TellsOf (found_for fault) (EndFinds [] (reading before) (found_for fault))
left_unread before words number (Bad line code) now next = inr (reading before, refl, subst (λ (r : Reading). FindsBehind r (differs line)) (sym next.0) refl)
left_unread before words number TooLong now next = inr (reading before, refl, subst (λ (r : Reading). FindsBehind r (bad_text TooLong)) (sym next) refl)
left_unread before words number Read now next = tt
left_unread before words number NoMemory now next = tt

pub unread_left : (before now : Option TextState) (words : Line) (number : ℕ) (fault : TextFault) (finding : Finding)
    → NextLine before (Err fault) words number now → found_by finding ≡ found_for fault → TakesEnd [] before (Err finding)
unread_left None now words number fault finding next is = tt
unread_left (Some text) now words number fault finding next is =
    subst (λ (found : Found). TellsOf found (EndFinds [] (reading text) found)) (sym is) (left_unread text words number fault now next)

end_behind : (due : List Line) (read between : Reading) (found : Found) → BeginsWith due read between → EndFinds [] between found → EndFinds due read found
end_behind due read between found begins (inl lacks) = absurd lacks
end_behind due read between found begins (inr (rest, same, finds)) = inr (between, begins, subst (λ (r : Reading). FindsBehind r found) (sym same) finds)

pub end_further : (due : List Line) (before mid : Option TextState) (answer : Result Unit Finding) → TakesLines due before (Ok tt) mid → TakesEnd [] mid answer
    → TakesEnd due before answer
end_further due None mid (Ok done) first second = tt
end_further due None mid (Err finding) first second = tt
end_further due (Some text) None answer first second = absurd first
end_further due (Some text) (Some between) (Ok done) first second = (second.0, subst (λ (r : Reading). BeginsWith due (reading text) r) second.1 first)
end_further due (Some text) (Some between) (Err finding) first second =
    tells_found finding (EndFinds [] (reading between)) (EndFinds due (reading text))
    (λ found. end_behind due (reading text) (reading between) found first) second

pub end_short : (due : List Line) (before now : Option TextState) (finding : Finding) → TakesLines due before (Err finding) now
    → TakesEnd due before (Err finding)
end_short due None now finding first = tt
end_short due (Some text) now finding first = tells_found finding (Lacks due (reading text)) (EndFinds due (reading text)) (λ found. inl) first

-- ---- an answer and its certificate

not_proved : (s : Snapshot) (number : ℕ) (text : TextState) (behind : Reading) (printed : Stated) (tree : List Twig) (reason : Reason) (finding : Finding)
    → PairInFront (reading text) s printed tree behind → verdict_of s printed.plan printed.cost printed.bound tree ≡ No reason
    → IsNotProved s number reason finding → TellsFound finding (ProofFinds s number (reading text))
not_proved s number text behind printed tree reason (Differs line) pair finds_not told = absurd told
not_proved s number text behind printed tree reason (Row row lines) pair finds_not told =
    no_proof printed tree behind reason pair finds_not (ap (λ (n : ℕ). bad_row n lines.items) told.0 ∙ ap (bad_row number) told.1)
not_proved s number text behind printed tree reason (Text fault) pair finds_not told =
    subst (λ (f : TextFault). Tells f (ProofFinds s number (reading text) (bad_text f))) (sym told) tt

pub proof_taken : (s : Snapshot) (number : ℕ) (before now : Option TextState) (printed : Stated) (verdict : Verdict) (answer : Result Stated Finding)
    → IsCertified before s printed verdict now → IsJudgedBy s number printed verdict answer → TakesProof s number before answer now
proof_taken s number None now printed verdict answer is judged = tt
proof_taken s number (Some text) None printed verdict answer is judged = absurd is.read
proof_taken s number (Some text) (Some behind) printed verdict (Ok stated) is judged =
    subst (λ (x : Stated). ProofInFront (reading text) s x (reading behind)) (sym judged.0)
    (record { tree = is.tree; pair = is.read; cars = is.cars; whole = is.whole; verdict = sym is.verdict_is ∙ judged.1 })
proof_taken s number (Some text) (Some behind) printed verdict (Err finding) is judged =
    not_proved s number text (reading behind) printed is.tree judged.0 finding is.read (sym is.verdict_is ∙ judged.1) judged.2

pub proof_unread : (s : Snapshot) (number : ℕ) (before now : Option TextState) (fault : TextFault) → IsRefusedPair before s fault
    → TakesProof s number before (Err (Text fault)) now
proof_unread s number None now fault refused = tt
proof_unread s number (Some text) now fault refused = tells fault (λ is. bad_section fault is refl) refused

pub proof_right : (s : Snapshot) (number : ℕ) (before now : Option TextState) (printed : Stated) (verdict : Verdict) (answer : Result Stated Finding)
    → IsAccepted s → IsCertified before s printed verdict now → IsJudgedBy s number printed verdict answer → IfOk answer (IsProvedPlan s)
proof_right s number before now printed verdict (Ok stated) accepted is judged =
    subst (IsProvedPlan s) (sym judged.0) (yes_holds s printed.plan printed.cost printed.bound is.tree accepted is.cars is.whole (sym is.verdict_is ∙ judged.1))
proof_right s number before now printed verdict (Err finding) accepted is judged = tt

-- ---- an accepted row

pub accepted_taken : (number : ℕ) (events : List Event) (s : Snapshot) (before mid now : Option TextState) (answer : Result Stated Finding)
    → TakesLines (accepted_lines number events) before (Ok tt) mid → TakesProof s number mid answer now → TakesAccepted number events s before answer now
accepted_taken number events s None mid now answer first second = tt
accepted_taken number events s (Some text) None now answer first second = absurd first
accepted_taken number events s (Some text) (Some between) None (Ok printed) first second = absurd second
accepted_taken number events s (Some text) (Some between) (Some behind) (Ok printed) first second = (reading between, first, second)
accepted_taken number events s (Some text) (Some between) now (Err finding) first second =
    tells_found finding (ProofFinds s number (reading between)) (AcceptedFinds number events s (reading text))
    (λ found is. inr (reading between, first, is)) second

pub accepted_short : (number : ℕ) (events : List Event) (s : Snapshot) (before now : Option TextState) (finding : Finding)
    → TakesLines (accepted_lines number events) before (Err finding) now → TakesAccepted number events s before (Err finding) now
accepted_short number events s None now finding first = tt
accepted_short number events s (Some text) now finding first =
    tells_found finding (Lacks (accepted_lines number events) (reading text)) (AcceptedFinds number events s (reading text)) (λ found. inl) first
