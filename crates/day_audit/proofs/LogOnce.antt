-- A log holds or has a first finding, one of the two, and it has one end or one finding.
use Rattle.std.proofs.Common.{◌≡◌, ℕ, ◌+◌, inl, inr, List, [], ◌∷◌, Option, None, Some, refl, sym, ap, ◌∙◌, subst}
use Rattle.elevator_model.specs.Snapshot.{Snapshot}
use Rattle.search_model.specs.declared.Event.{Event}
use Rattle.search_model.specs.declared.Reason.{Reason}
use Rattle.search_model.specs.declared.RowFault.{RowFault}
use Rattle.search_model.specs.declared.RowFault.TheVariants.{NoRow}
use Rattle.search_model.specs.declared.Stated.{Stated}
use Rattle.search_model.specs.declared.Twig.{Twig}
use Rattle.search_model.specs.declared.Verdict.{Verdict}
use Rattle.search_model.specs.declared.Verdict.TheVariants.{Yes, No}
use Rattle.search_model.specs.Verdicts.{verdict_of}
use Rattle.search_model.specs.Advancing.{events_by}
use Rattle.search_model.specs.Days.{Day, Row, Run, Step, day_step, fault_of_row, opening_day, run_from, step_by}
use Rattle.lift_text.specs.Reading.{Reading, line_with, finished, bad_line, past_limit}
use Rattle.lift_text.specs.declared.faults.TextFault.{TextFault}
use Rattle.text_sections.specs.Sections.{Line, accepted, outcome}
use Rattle.text_sections.specs.Canonical.{BeginsWith}
use Rattle.text_sections.proofs.CanonicalLemmas.{made}
use Rattle.answer_text.specs.Drafts.{stated_read, blank as no_answer, after as after_answer_line}
use Rattle.answer_text.proofs.AgainLemmas.{stands_made}
use Rattle.answer_text.proofs.WholeLemmas.{touring}
use Rattle.cert_text.specs.Drafts.{Draft as TreeDraft, blank as no_tree, after as after_tree_line}
use Rattle.cert_text.proofs.AgainLemmas.{final, outcome_is}
use Rattle.case_text.specs.CaseTexts.{IsRefusedWith}
use Rattle.check_text.specs.CheckTexts.{AnswerInFront, TreeInFront}
use Rattle.check_text.specs.Pairs.{IsPairFault, PairInFront}
use Rattle.check_text.specs.VerdictTexts.{reason_text}
use Rattle.day_text.specs.LogTexts.{refused_words}
use Rattle.day_laws.specs.Standing.{row_number}
use Rattle.day_audit.specs.Audits.{AcceptedFinds, AcceptedInFront, EndFinds, EndInFront, FindsBehind as FindsMore, Found, Lacks, LogFinds, LogHolds, ProofFinds}
use Rattle.day_audit.specs.Audits.{ProofInFront, RowFinds, RowInFront, RowsFind, RowsInFront, accepted_lines, bad_row, bad_section, bad_text, day_after}
use Rattle.day_audit.specs.Audits.{end_lines_of, next_fault, no_proof, snapshot_of_row}
use Rattle.day_audit.specs.OneAnswer.{IsFoundInText, IsOfText}
use Rattle.day_audit.specs.ProvedDays.{AreLoggedFrom, IsLoggedAs, OneRunLaw}
use Rattle.day_audit.proofs.OpeningOnce.{no_refusal, one_refusal, same_end}

-- ---- lines

-- behind given lines one reading comes
begins_once : (lines : List Line) (read rest others : Reading) → BeginsWith lines read rest → BeginsWith lines read others → rest ≡ others
begins_once [] read rest others begins also = sym begins ∙ also
begins_once (words ∷ lines) read rest others begins also =
    let both : line_with begins.0 words begins.1 ≡ line_with also.0 words also.1 = sym begins.2 ∙ also.2 in
    let same : begins.1 ≡ also.1 = cc in
    begins_once lines begins.1 rest others begins.3 (subst (λ (r : Reading). BeginsWith lines r others) (sym same) also.3)

no_lack : (due : List Line) (read rest : Reading) (found : Found) → BeginsWith due read rest → Lacks due read found → ⊥
no_lack [] read rest found begins lacks = lacks
no_lack (words ∷ due) read rest found begins lacks =
    either (no_lack due begins.1 rest found begins.3) (subst (λ (r : Reading). Lacks (words ∷ due) r found) begins.2 lacks)
  where
    either : (Lacks due begins.1 found → ⊥) → Lacks (words ∷ due) (line_with begins.0 words begins.1) found → ⊥
    either later (inl other) = other.0 refl
    either later (inr same) = later same.1

one_lack : (due : List Line) (read : Reading) (found other : Found) → Lacks due read found → Lacks due read other → found ≡ other
one_lack [] read found other lacks also = absurd lacks
one_lack (due ∷ later) (line_with number words rest) found other (inl lacks) (inl also) = lacks.1 ∙ sym also.1
one_lack (due ∷ later) (line_with number words rest) found other (inl lacks) (inr same) = absurd (lacks.0 same.0)
one_lack (due ∷ later) (line_with number words rest) found other (inr same) (inl lacks) = absurd (lacks.0 same.0)
one_lack (due ∷ later) (line_with number words rest) found other (inr same) (inr also) = one_lack later rest found other same.1 also.1
one_lack (due ∷ later) (finished lines) found other lacks also = lacks ∙ sym also
one_lack (due ∷ later) (bad_line number code) found other lacks also = lacks ∙ sym also
one_lack (due ∷ later) past_limit found other lacks also = lacks ∙ sym also

-- ---- the end

one_more : (read : Reading) (found other : Found) → FindsMore read found → FindsMore read other → found ≡ other
one_more (line_with number words rest) found other finds also = finds ∙ sym also
one_more (finished lines) found other finds also = absurd finds
one_more (bad_line number code) found other finds also = finds ∙ sym also
one_more past_limit found other finds also = finds ∙ sym also

end_or_finds : (due : List Line) (read : Reading) (found : Found) → EndInFront due read → EndFinds due read found → ⊥
end_or_finds due read found front (inl lacks) = no_lack due read (finished front.0) found front.1 lacks
end_or_finds due read found front (inr more) = subst (λ (r : Reading). FindsMore r found) (begins_once due read more.0 (finished front.0) more.1 front.1) more.2

end_finds_once : (due : List Line) (read : Reading) (found other : Found) → EndFinds due read found → EndFinds due read other → found ≡ other
end_finds_once due read found other (inl lacks) (inl also) = one_lack due read found other lacks also
end_finds_once due read found other (inl lacks) (inr more) = absurd (no_lack due read more.0 found more.1 lacks)
end_finds_once due read found other (inr more) (inl lacks) = absurd (no_lack due read more.0 other more.1 lacks)
end_finds_once due read found other (inr more) (inr also) =
    one_more more.0 found other more.2 (subst (λ (r : Reading). FindsMore r other) (begins_once due read also.0 more.0 also.1 more.1) also.2)

-- ---- an answer and its certificate

module _ (s : Snapshot) where
  answer_read : (read rest : Reading) (stated : Stated) → AnswerInFront read s stated rest
      → outcome after_answer_line read (no_answer s) ≡ accepted (touring s stated.cost stated.bound stated.plan) rest
  answer_read read rest stated front =
      made after_answer_line front.0 (no_answer s) (touring s stated.cost stated.bound stated.plan) read rest front.1 (stands_made s front.0 stated front.2)

  answer_once : (read rest others : Reading) (stated also : Stated) → AnswerInFront read s stated rest → AnswerInFront read s also others → (stated ≡ also)
      × (rest ≡ others)
  answer_once read rest others stated also first second =
      let ends = same_end (outcome after_answer_line read (no_answer s)) _ _ rest others (answer_read read rest stated first)
      (answer_read read others also second) in
      (ap stated_read ends.0, ends.1)

  tree_read : (read rest : Reading) (tree : List Twig) → TreeInFront read s tree rest → outcome after_tree_line read (no_tree s) ≡ accepted (final s tree) rest
  tree_read read rest tree front = outcome_is s front.0 tree rest front.2 read front.1

  tree_once : (read rest others : Reading) (tree also : List Twig) → TreeInFront read s tree rest → TreeInFront read s also others → (tree ≡ also)
      × (rest ≡ others)
  tree_once read rest others tree also first second =
      let ends = same_end (outcome after_tree_line read (no_tree s)) (final s tree) (final s also) rest others (tree_read read rest tree first)
      (tree_read read others also second) in
      (ap (λ (d : TreeDraft). d.twigs) ends.0, ends.1)

  -- the pair in front is one, and so is what comes after it
  record IsOnePair (stated also : Stated) (tree others : List Twig) (rest later : Reading) : Type 0 where
    stated_is : stated ≡ also
    tree_is : tree ≡ others
    rest_is : rest ≡ later

  pair_once : (read rest later : Reading) (stated also : Stated) (tree others : List Twig) → PairInFront read s stated tree rest
      → PairInFront read s also others later → IsOnePair stated also tree others rest later
  pair_once read rest later stated also tree others first second =
      let answer = answer_once read first.0 second.0 stated also first.1 second.1 in
      let certificate = tree_once first.0 rest later tree others first.2 (subst (λ (r : Reading). TreeInFront r s others later) (sym answer.1) second.2) in
      record { stated_is = answer.0; tree_is = certificate.0; rest_is = certificate.1 }

  pair_or_fault : (read rest : Reading) (stated : Stated) (tree : List Twig) (fault : TextFault) → IsOfText fault → PairInFront read s stated tree rest
      → IsPairFault s read fault → ⊥
  pair_or_fault read rest stated tree fault told pair (inl bad) =
      no_refusal (outcome after_answer_line read (no_answer s)) _ pair.0 fault told (answer_read read pair.0 stated pair.1) bad
  pair_or_fault read rest stated tree fault told pair (inr (also, between, answer, bad)) =
      let same = answer_once read between pair.0 also stated answer pair.1 in
      no_refusal (outcome after_tree_line between (no_tree s)) (final s tree) rest fault told
      (tree_read between rest tree (subst (λ (r : Reading). TreeInFront r s tree rest) (sym same.1) pair.2)) bad

  one_pair_fault : (read : Reading) (fault other : TextFault) → IsOfText fault → IsOfText other → IsPairFault s read fault → IsPairFault s read other
      → fault ≡ other
  one_pair_fault read fault other told also (inl bad) (inl worse) = one_refusal (outcome after_answer_line read (no_answer s)) fault other told also bad worse
  one_pair_fault read fault other told also (inl bad) (inr (stated, between, answer, worse)) =
      absurd (no_refusal (outcome after_answer_line read (no_answer s)) _ between fault told (answer_read read between stated answer) bad)
  one_pair_fault read fault other told also (inr (stated, between, answer, bad)) (inl worse) =
      absurd (no_refusal (outcome after_answer_line read (no_answer s)) _ between other also (answer_read read between stated answer) worse)
  one_pair_fault read fault other told also (inr (stated, between, answer, bad)) (inr (stated', between', answer', worse)) =
      let same = answer_once read between' between stated' stated answer' answer in
      one_refusal (outcome after_tree_line between (no_tree s)) fault other told also bad
      (subst (λ (r : Reading). IsRefusedWith (outcome after_tree_line r (no_tree s)) other) same.1 worse)

  -- ---- what is printed of an accepted row

  proof_once : (read rest others : Reading) (printed also : Stated) → ProofInFront read s printed rest → ProofInFront read s also others → (printed ≡ also)
      × (rest ≡ others)
  proof_once read rest others printed also first second =
      let same = pair_once read rest others printed also first.tree second.tree first.pair second.pair in
      (same.stated_is, same.rest_is)

  -- the same answer and tree have one verdict
  one_verdict : (printed also : Stated) (tree others : List Twig) (verdict other : Verdict) → printed ≡ also → tree ≡ others
      → verdict_of s printed.plan printed.cost printed.bound tree ≡ verdict
      → verdict_of s also.plan also.cost also.bound others ≡ other → verdict ≡ other
  one_verdict printed also tree others verdict other same twigs is also_is =
      sym is ∙ ap (λ (p : Stated). verdict_of s p.plan p.cost p.bound tree) same ∙ ap (verdict_of s also.plan also.cost also.bound) twigs ∙ also_is

  proof_or_finds : (read rest : Reading) (number : ℕ) (printed : Stated) (found : Found) → IsFoundInText found → ProofInFront read s printed rest
      → ProofFinds s number read found → ⊥
  proof_or_finds read rest number printed found told proof (bad_section fault bad is) =
      pair_or_fault read rest printed proof.tree fault (subst IsFoundInText is told) proof.pair bad
  proof_or_finds read rest number printed found told proof (no_proof also tree others reason pair verdict is) =
      let same = pair_once read rest others printed also proof.tree tree proof.pair pair in
      let clash : Yes ≡ No reason = one_verdict printed also proof.tree tree Yes (No reason) same.stated_is same.tree_is proof.verdict verdict in
      absurd cc

  proof_finds_once : (read : Reading) (number : ℕ) (found other : Found) → IsFoundInText found → IsFoundInText other → ProofFinds s number read found
      → ProofFinds s number read other → found ≡ other
  proof_finds_once read number found other told also (bad_section fault bad is) (bad_section worse worst is') =
      is ∙ ap bad_text (one_pair_fault read fault worse (subst IsFoundInText is told) (subst IsFoundInText is' also) bad worst) ∙ sym is'
  proof_finds_once read number found other told also (bad_section fault bad is) (no_proof printed tree rest reason pair verdict is') =
      absurd (pair_or_fault read rest printed tree fault (subst IsFoundInText is told) pair bad)
  proof_finds_once read number found other told also (no_proof printed tree rest reason pair verdict is) (bad_section fault bad is') =
      absurd (pair_or_fault read rest printed tree fault (subst IsFoundInText is' also) pair bad)
  proof_finds_once read number found other told also (no_proof printed tree rest reason pair verdict is)
      (no_proof printed' tree' rest' reason' pair' verdict' is') =
      let same = pair_once read rest rest' printed printed' tree tree' pair pair' in
      let verdicts : No reason ≡ No reason' = one_verdict printed printed' tree tree' (No reason) (No reason') same.stated_is same.tree_is verdict verdict' in
      let reasons : reason ≡ reason' = cc in
      is ∙ ap (λ (r : Reason). bad_row number (reason_text s r)) reasons ∙ sym is'

  -- ---- an accepted row

  accepted_once : (read rest others : Reading) (number : ℕ) (events : List Event) (printed also : Stated) → AcceptedInFront read number events s printed rest
      → AcceptedInFront read number events s also others → (printed ≡ also) × (rest ≡ others)
  accepted_once read rest others number events printed also first second =
      let same = begins_once (accepted_lines number events) read second.0 first.0 second.1 first.1 in
      proof_once first.0 rest others printed also first.2 (subst (λ (r : Reading). ProofInFront r s also others) same second.2)

  accepted_or_finds : (read rest : Reading) (number : ℕ) (events : List Event) (printed : Stated) (found : Found) → IsFoundInText found
      → AcceptedInFront read number events s printed rest → AcceptedFinds number events s read found → ⊥
  accepted_or_finds read rest number events printed found told front (inl lacks) = no_lack (accepted_lines number events) read front.0 found front.1 lacks
  accepted_or_finds read rest number events printed found told front (inr proof) =
      let same = begins_once (accepted_lines number events) read proof.0 front.0 proof.1 front.1 in
      proof_or_finds front.0 rest number printed found told front.2 (subst (λ (r : Reading). ProofFinds s number r found) same proof.2)

  accepted_finds_once : (read : Reading) (number : ℕ) (events : List Event) (found other : Found) → IsFoundInText found → IsFoundInText other
      → AcceptedFinds number events s read found → AcceptedFinds number events s read other → found ≡ other
  accepted_finds_once read number events found other told also (inl lacks) (inl lacks') = one_lack (accepted_lines number events) read found other lacks lacks'
  accepted_finds_once read number events found other told also (inl lacks) (inr proof) =
      absurd (no_lack (accepted_lines number events) read proof.0 found proof.1 lacks)
  accepted_finds_once read number events found other told also (inr proof) (inl lacks) =
      absurd (no_lack (accepted_lines number events) read proof.0 other proof.1 lacks)
  accepted_finds_once read number events found other told also (inr proof) (inr proof') =
      let same = begins_once (accepted_lines number events) read proof'.0 proof.0 proof'.1 proof.1 in
      proof_finds_once proof.0 number found other told also proof.2 (subst (λ (r : Reading). ProofFinds s number r other) same proof'.2)

-- ---- a row

-- it leads to one day
row_once : (fault : Option RowFault) (day : Day) (said : Option Row) (printed also : Stated) (read rest others : Reading)
    → RowInFront fault day said printed read rest → RowInFront fault day said also read others
    → ((step_by day (row_number day) said printed fault).day ≡ (step_by day (row_number day) said also fault).day) × (rest ≡ others)
row_once (Some fault) day said printed also read rest others first second =
    (refl, begins_once (refused_words (row_number day) fault ∷ []) read rest others first second)
row_once None day None printed also read rest others first second = absurd first
row_once None day (Some row) printed also read rest others first second =
    let same = accepted_once (snapshot_of_row day row) read rest others (row_number day) (events_by day.world row.time) printed also first second in
    (ap (λ (p : Stated). (step_by day (row_number day) (Some row) p None).day) same.0, same.1)

row_or_finds : (fault : Option RowFault) (day : Day) (said : Option Row) (printed : Stated) (read rest : Reading) (found : Found) → IsFoundInText found
    → RowInFront fault day said printed read rest → RowFinds fault day said read found → ⊥
row_or_finds (Some fault) day said printed read rest found told front finds = no_lack (refused_words (row_number day) fault ∷ []) read rest found front finds
row_or_finds None day None printed read rest found told front finds = absurd front
row_or_finds None day (Some row) printed read rest found told front finds =
    accepted_or_finds (snapshot_of_row day row) read rest (row_number day) (events_by day.world row.time) printed found told front finds

row_finds_once : (fault : Option RowFault) (day : Day) (said : Option Row) (read : Reading) (found other : Found) → IsFoundInText found → IsFoundInText other
    → RowFinds fault day said read found → RowFinds fault day said read other → found ≡ other
row_finds_once (Some fault) day said read found other told also finds more = one_lack (refused_words (row_number day) fault ∷ []) read found other finds more
row_finds_once None day None read found other told also finds more = absurd finds
row_finds_once None day (Some row) read found other told also finds more =
    accepted_finds_once (snapshot_of_row day row) read (row_number day) (events_by day.world row.time) found other told also finds more

-- ---- rows one after another

-- what is in front of the rows left, told of another day and reading that are the same
rows_moved : (rows : List (Option Row)) (day other : Day) (read between : Reading) (end : Day) (rest : Reading) → day ≡ other → read ≡ between
    → RowsInFront other rows between end rest → RowsInFront day rows read end rest
rows_moved rows day other read between end rest days reads front =
    subst (λ (d : Day). RowsInFront d rows read end rest) (sym days) (subst (λ (r : Reading). RowsInFront other rows r end rest) (sym reads) front)

finds_moved : (rows : List (Option Row)) (day other : Day) (read between : Reading) (found : Found) → day ≡ other → read ≡ between
    → RowsFind other rows between found → RowsFind day rows read found
finds_moved rows day other read between found days reads finds =
    subst (λ (d : Day). RowsFind d rows read found) (sym days) (subst (λ (r : Reading). RowsFind other rows r found) (sym reads) finds)

rows_once : (rows : List (Option Row)) (day : Day) (read : Reading) (end last : Day) (rest others : Reading) → RowsInFront day rows read end rest
    → RowsInFront day rows read last others → (end ≡ last) × (rest ≡ others)
rows_once [] day read end last rest others first second = (first.0 ∙ sym second.0, sym first.1 ∙ second.1)
rows_once (said ∷ rows) day read end last rest others first second =
    let here = row_once (next_fault day said) day said first.0 second.0 read first.1 second.1 first.2 second.2 in
    rows_once rows (day_after day said first.0) first.1 end last rest others first.3
    (rows_moved rows (day_after day said first.0) (day_after day said second.0) first.1 second.1 last others here.0 here.1 second.3)

rows_or_find : (rows : List (Option Row)) (day : Day) (read : Reading) (end : Day) (rest : Reading) (found : Found) → IsFoundInText found
    → RowsInFront day rows read end rest → RowsFind day rows read found → ⊥
rows_or_find [] day read end rest found told front finds = absurd finds
rows_or_find (said ∷ rows) day read end rest found told front (inl here) =
    row_or_finds (next_fault day said) day said front.0 read front.1 found told front.2 here
rows_or_find (said ∷ rows) day read end rest found told front (inr later) =
    let here = row_once (next_fault day said) day said front.0 later.0 read front.1 later.1 front.2 later.2 in
    rows_or_find rows (day_after day said front.0) front.1 end rest found told front.3
    (finds_moved rows (day_after day said front.0) (day_after day said later.0) front.1 later.1 found here.0 here.1 later.3)

rows_find_once : (rows : List (Option Row)) (day : Day) (read : Reading) (found other : Found) → IsFoundInText found → IsFoundInText other
    → RowsFind day rows read found → RowsFind day rows read other → found ≡ other
rows_find_once [] day read found other told also finds more = absurd finds
rows_find_once (said ∷ rows) day read found other told also (inl here) (inl there) =
    row_finds_once (next_fault day said) day said read found other told also here there
rows_find_once (said ∷ rows) day read found other told also (inl here) (inr later) =
    absurd (row_or_finds (next_fault day said) day said later.0 read later.1 found told later.2 here)
rows_find_once (said ∷ rows) day read found other told also (inr later) (inl here) =
    absurd (row_or_finds (next_fault day said) day said later.0 read later.1 other also later.2 here)
rows_find_once (said ∷ rows) day read found other told also (inr later) (inr more) =
    let here = row_once (next_fault day said) day said later.0 more.0 read later.1 more.1 later.2 more.2 in
    rows_find_once rows (day_after day said later.0) later.1 found other told also later.3
    (finds_moved rows (day_after day said later.0) (day_after day said more.0) later.1 more.1 other here.0 here.1 more.3)

-- ---- a whole log

pub log_once : (day : Day) (rows : List (Option Row)) (read : Reading) (end last : Day) → LogHolds day rows read end → LogHolds day rows read last → end ≡ last
log_once day rows read end last first second = (rows_once rows day read end last first.0 second.0 first.1 second.1).0

pub log_or_finds : (day : Day) (rows : List (Option Row)) (read : Reading) (end : Day) (found : Found) → IsFoundInText found → LogHolds day rows read end
    → LogFinds day rows read found → ⊥
log_or_finds day rows read end found told holds (inl finds) = rows_or_find rows day read end holds.0 found told holds.1 finds
log_or_finds day rows read end found told holds (inr (last, rest, front, finds)) =
    let same = rows_once rows day read last end rest holds.0 front holds.1 in
    end_or_finds (end_lines_of end) holds.0 found holds.2
    (subst (λ (d : Day). EndFinds (end_lines_of d) holds.0 found) same.0 (subst (λ (r : Reading). EndFinds (end_lines_of last) r found) same.1 finds))

pub log_finds_once : (day : Day) (rows : List (Option Row)) (read : Reading) (found other : Found) → IsFoundInText found → IsFoundInText other
    → LogFinds day rows read found → LogFinds day rows read other → found ≡ other
log_finds_once day rows read found other told also (inl finds) (inl more) = rows_find_once rows day read found other told also finds more
log_finds_once day rows read found other told also (inl finds) (inr (last, rest, front, more)) =
    absurd (rows_or_find rows day read last rest found told front finds)
log_finds_once day rows read found other told also (inr (last, rest, front, finds)) (inl more) =
    absurd (rows_or_find rows day read last rest other also front more)
log_finds_once day rows read found other told also (inr (end, rest, front, finds)) (inr (last, others, also_front, more)) =
    let same = rows_once rows day read last end others rest also_front front in
    end_finds_once (end_lines_of end) rest found other finds
    (subst (λ (d : Day). EndFinds (end_lines_of d) rest other) same.0 (subst (λ (r : Reading). EndFinds (end_lines_of last) r other) same.1 more))

-- ---- the run of a log

-- what is logged of a row is one step
step_once : (fault : Option RowFault) (day : Day) (n : ℕ) (said : Option Row) (printed also : Stated) (read rest others : Reading)
    → IsLoggedAs (step_by day n said printed fault).log (step_by day n said printed fault).day.world.snapshot read rest
    → IsLoggedAs (step_by day n said also fault).log (step_by day n said also fault).day.world.snapshot read others
    → (step_by day n said printed fault ≡ step_by day n said also fault) × (rest ≡ others)
step_once (Some fault) day n said printed also read rest others first second =
    (refl, begins_once (refused_words n fault ∷ []) read rest others first second)
step_once None day n None printed also read rest others first second = (refl, begins_once (refused_words n NoRow ∷ []) read rest others first second)
step_once None day n (Some row) printed also read rest others first second =
    let s = (step_by day n (Some row) printed None).day.world.snapshot in
    let same = accepted_once s read rest others n (events_by day.world row.time) printed also first second in
    (ap (λ (p : Stated). step_by day n (Some row) p None) same.0, same.1)

run_once : (one other : ℕ → Stated) (rows : List (Option Row)) (day : Day) (n : ℕ) (read rest others : Reading) → AreLoggedFrom one day n rows read rest
    → AreLoggedFrom other day n rows read others → run_from one day n rows ≡ run_from other day n rows
run_once one other [] day n read rest others first second = refl
run_once one other (said ∷ rows) day n read rest others first second =
    let step = day_step day n said (one n) in
    let here = step_once (fault_of_row day.world n said) day n said (one n) (other n) read first.0 second.0 first.1 second.1 in
    let moved = subst (λ (d : Day). AreLoggedFrom other d (n + 1) rows first.0 others) (sym (ap (λ (s : Step). s.day) here.0))
    (subst (λ (r : Reading). AreLoggedFrom other (day_step day n said (other n)).day (n + 1) rows r others) (sym here.1) second.2) in
    ap {B = Run} (λ (r : Run). record { day = r.day; log = step.log ∷ r.log }) (run_once one other rows step.day (n + 1) first.0 rest others first.2 moved)
    ∙ ap {B = Run} (λ (s : Step).
    record {
      day = (run_from other s.day (n + 1) rows).day;
      log = s.log ∷ (run_from other s.day (n + 1) rows).log;
    }) here.0

pub one_run : OneRunLaw
one_run opening rows log one other first second = run_once one other rows (opening_day opening) 1 log first.rest second.rest first.logged second.logged
