-- A text read layer by layer: a case, behind it an answer, and behind that a certificate and the end.
use Rattle.std.proofs.Common.{◌≡◌, ℕ, List, Option, None, Some, Ok, Err, inl, inr, sym, ap, ◌∙◌, subst, IfSome}
use Rattle.std.specs.Prelude.{IsSomeAnd}
use Rattle.elevator_model.specs.Snapshot.{Snapshot, IsAccepted}
use Rattle.search_model.specs.declared.Twig.{Twig}
use Rattle.search_model.specs.declared.Verdict.{Verdict}
use Rattle.search_model.specs.Verdicts.{verdict_of}
use Rattle.lift_text.specs.Reading.{TextState, Reading, reading, finished}
use Rattle.lift_text.specs.declared.faults.TextFault.{TextFault}
use Rattle.lift_text.specs.declared.faults.TextFault.TheVariants.{Read, TooLong, Bad, NoMemory}
use Rattle.text_sections.specs.Canonical.{BeginsWith}
use Rattle.case_text.specs.CaseTexts.{CaseInFront, IsReadCase, IsRefusedCase, TakesCases, IsFaultBehind, Tells, IsEnd, IsNoEnd}
use Rattle.search_model.specs.declared.Stated.{Stated}
use Rattle.answer_text.specs.Answers.{IsSaid as IsSaidAnswer, IsRefusedAnswer, ReadsLines as ReadsAnswers}
use Rattle.cert_text.specs.Certs.{IsSaid, IsAnswered}
use Rattle.cert_text.specs.Readers.{IsRefused}
use Rattle.cert_text.proofs.LoopLemmas.{lines_of}
use Rattle.check_text.specs.declared.checked.Checked.{Checked}
use Rattle.check_text.specs.declared.reading.Judged.{Judged}
use Rattle.check_text.specs.CheckTexts.{IsCheckAlone, IsCheckFault, IsChecked, IsRefusedCheck, IsCheckOf, TakesChecks}
use Rattle.check_text.specs.Layers.{TreeAlone, IsRefusedTree, TakesTrees, CertifiedAlone, IsCertifiedFault, IsJudged, IsRefusedCertified, IsJudgedAs}
use Rattle.check_text.specs.Layers.{TakesCertified}

-- no fault comes where nothing is left
nothing_behind : (lines : ℕ) (read : Reading) (fault : TextFault) → read ≡ finished lines → Tells fault (IsFaultBehind read fault) → Tells fault ⊥
nothing_behind lines read Read end late = tt
nothing_behind lines read NoMemory end late = tt
nothing_behind lines read TooLong end late = subst (λ (r : Reading). IsFaultBehind r TooLong) end late
nothing_behind lines read (Bad line code) end late = subst (λ (r : Reading). IsFaultBehind r (Bad line code)) end late

-- what is told where a fault tells one thing is told where it tells another that follows
tells : {P Q : Type 0} (fault : TextFault) → (P → Q) → Tells fault P → Tells fault Q
tells Read f told = tt
tells TooLong f told = f told
tells (Bad line code) f told = f told
tells NoMemory f told = tt

module _ (s : Snapshot) where
  -- ---- a certificate

  pub tree_alone : (before mid : Option TextState) (tree : List Twig) → IsSaid before s tree mid → IsEnd mid
      → IfSome before (λ text. TreeAlone (reading text) s tree)
  tree_alone None mid tree said end = tt
  tree_alone (Some text) None tree said end = absurd said
  tree_alone (Some text) (Some behind) tree said end = (end.0, (said.0, subst (λ (r : Reading). BeginsWith said.0 (reading text) r) end.1 said.1, said.2))

  pub tree_refused : (before : Option TextState) (fault : TextFault) → IsRefused s before fault → IsRefusedTree before s fault
  tree_refused None fault refused = tt
  tree_refused (Some text) Read refused = tt
  tree_refused (Some text) TooLong refused = inl refused
  tree_refused (Some text) (Bad line code) refused = inl refused
  tree_refused (Some text) NoMemory refused = tt

  pub tree_late : (before mid : Option TextState) (tree : List Twig) (fault : TextFault) → IsSaid before s tree mid → IsNoEnd mid fault
      → IsRefusedTree before s fault
  tree_late None mid tree fault said late = tt
  tree_late (Some text) None tree fault said late = absurd said
  tree_late (Some text) (Some behind) tree fault said late = tells fault (λ is. inr (tree, reading behind, (said.0, said.1, said.2), is)) late

  module _ (claims : Stated) where
    pub tree_taken : (before mid : Option TextState) (tree : List Twig) (verdict : Verdict) → IsSaid before s tree mid
        → verdict ≡ verdict_of s claims.plan claims.cost claims.bound tree → TakesTrees before s claims (Ok verdict)
    tree_taken None mid tree verdict said is other = tt
    tree_taken (Some text) mid tree verdict said is other = λ alone.
        (let same = lines_of s (Some text) mid (Ok tree) said tt alone.1.0 other (finished alone.0) alone.1.2 alone.1.1 in
        is ∙ ap (verdict_of s claims.plan claims.cost claims.bound) same.0)

    told_none : (tree : List Twig) (rest : Reading) (fault : TextFault) (now : Option TextState) → IsAnswered tree rest (Err fault) now → Tells fault ⊥
    told_none tree rest Read now is = tt
    told_none tree rest TooLong now is = is
    told_none tree rest (Bad line code) now is = is
    told_none tree rest NoMemory now is = tt

    pub tree_not_refused : (before : Option TextState) (fault : TextFault) → IsRefused s before fault → TakesTrees before s claims (Err fault)
    tree_not_refused None fault refused other = tt
    tree_not_refused (Some text) fault refused other = λ alone.
        told_none other (finished alone.0) fault None
        (lines_of s (Some text) None (Err fault) tt refused alone.1.0 other (finished alone.0) alone.1.2 alone.1.1)

    at_end : (lines : ℕ) (mid : Option TextState) (fault : TextFault) → IsSomeAnd mid (λ behind. reading behind ≡ finished lines) → IsNoEnd mid fault
        → Tells fault ⊥
    at_end lines None fault end late = absurd end
    at_end lines (Some behind) fault end late = nothing_behind lines (reading behind) fault end late

    pub tree_not_late : (before mid : Option TextState) (tree : List Twig) (fault : TextFault) → IsSaid before s tree mid → IsNoEnd mid fault
        → TakesTrees before s claims (Err fault)
    tree_not_late None mid tree fault said late other = tt
    tree_not_late (Some text) mid tree fault said late other = λ alone.
        (let same = lines_of s (Some text) mid (Ok tree) said tt alone.1.0 other (finished alone.0) alone.1.2 alone.1.1 in
        at_end alone.0 mid fault same.1 late)

    pub tree_memory : (before : Option TextState) → TakesTrees before s claims (Err NoMemory)
    tree_memory None other = tt
    tree_memory (Some text) other = λ alone. tt

  -- ---- an answer

  pub certified_alone : (before mid : Option TextState) (stated : Stated) (tree : List Twig) → IsSaidAnswer before s stated mid
      → IfSome mid (λ text. TreeAlone (reading text) s tree) → IfSome before (λ text. CertifiedAlone (reading text) s stated tree)
  certified_alone None mid stated tree said alone = tt
  certified_alone (Some text) None stated tree said alone = absurd said
  certified_alone (Some text) (Some behind) stated tree said alone = (reading behind, (said.0, said.1, said.2), alone)

  pub answer_refused : (before now : Option TextState) (fault : TextFault) → IsRefusedAnswer before s fault now → IsRefusedCertified before s fault
  answer_refused None now fault refused = tt
  answer_refused (Some text) now Read refused = tt
  answer_refused (Some text) now TooLong refused = inl refused.1
  answer_refused (Some text) now (Bad line code) refused = inl refused.1
  answer_refused (Some text) now NoMemory refused = tt

  pub behind_answer : (before mid : Option TextState) (stated : Stated) (fault : TextFault) → IsSaidAnswer before s stated mid → IsRefusedTree mid s fault
      → IsRefusedCertified before s fault
  behind_answer None mid stated fault said refused = tt
  behind_answer (Some text) None stated fault said refused = absurd said
  behind_answer (Some text) (Some behind) stated fault said refused = tells fault (λ is. inr (stated, reading behind, (said.0, said.1, said.2), is)) refused

  judged_so : (stated found : Stated) (judged : Judged) (tree : List Twig) → found ≡ stated → judged.cost ≡ found.cost → judged.bound ≡ found.bound
      → judged.verdict ≡ verdict_of s found.plan found.cost found.bound tree → IsJudgedAs s stated tree judged
  judged_so stated found judged tree same cost bound verdict = record {
    cost = cost ∙ ap (λ (x : Stated). x.cost) same;
    bound = bound ∙ ap (λ (x : Stated). x.bound) same;
    verdict_is = verdict ∙ ap (λ (x : Stated). verdict_of s x.plan x.cost x.bound tree) same;
  }

  module _ (found : Stated) where
    pub certified_taken : (before mid : Option TextState) (judged : Judged) → ReadsAnswers before s (Ok found) mid → judged.cost ≡ found.cost
        → judged.bound ≡ found.bound → TakesTrees mid s found (Ok judged.verdict) → TakesCertified before s (Ok judged)
    certified_taken None mid judged reads cost bound takes stated tree = tt
    certified_taken (Some text) mid judged reads cost bound takes stated tree = λ alone.
        (let same = reads alone.1.0 stated alone.0 alone.1.2 alone.1.1 in
        judged_so stated found judged tree same.0 cost bound (told mid alone.0 same.1 takes alone.2))
      where
        told : (now : Option TextState) (between : Reading) → IsSomeAnd now (λ behind. reading behind ≡ between) → TakesTrees now s found (Ok judged.verdict)
            → TreeAlone between s tree → judged.verdict ≡ verdict_of s found.plan found.cost found.bound tree
        told None between end more alone = absurd end
        told (Some behind) between end more alone = more tree (subst (λ (r : Reading). TreeAlone r s tree) (sym end) alone)

    pub behind_taken : (before mid : Option TextState) (fault : TextFault) → ReadsAnswers before s (Ok found) mid → TakesTrees mid s found (Err fault)
        → TakesCertified before s (Err fault)
    behind_taken None mid fault reads takes stated tree = tt
    behind_taken (Some text) mid fault reads takes stated tree = λ alone.
        (let same = reads alone.1.0 stated alone.0 alone.1.2 alone.1.1 in
        told mid alone.0 same.1 takes alone.2)
      where
        told : (now : Option TextState) (between : Reading) → IsSomeAnd now (λ behind. reading behind ≡ between) → TakesTrees now s found (Err fault)
            → TreeAlone between s tree → Tells fault ⊥
        told None between end more alone = absurd end
        told (Some behind) between end more alone = more tree (subst (λ (r : Reading). TreeAlone r s tree) (sym end) alone)

  pub answer_taken : (before mid : Option TextState) (fault : TextFault) → ReadsAnswers before s (Err fault) mid → TakesCertified before s (Err fault)
  answer_taken None mid fault reads stated tree = tt
  answer_taken (Some text) mid Read reads stated tree = λ alone. tt
  answer_taken (Some text) mid TooLong reads stated tree = λ alone. reads alone.1.0 stated alone.0 alone.1.2 alone.1.1
  answer_taken (Some text) mid (Bad line code) reads stated tree = λ alone. reads alone.1.0 stated alone.0 alone.1.2 alone.1.1
  answer_taken (Some text) mid NoMemory reads stated tree = λ alone. tt

-- ---- a case

pub check_alone : (before mid : Option TextState) (s : Snapshot) (stated : Stated) (tree : List Twig) → IsReadCase before s mid
    → IfSome mid (λ text. CertifiedAlone (reading text) s stated tree) → IfSome before (λ text. IsCheckAlone (reading text) s stated tree)
check_alone None mid s stated tree case alone = tt
check_alone (Some text) None s stated tree case alone = absurd case
check_alone (Some text) (Some behind) s stated tree case alone = (
  alone.2.0,
  record { behind_case = reading behind; behind_answer = alone.0; case = case; answer = alone.1; certificate = alone.2.1 },
)

pub case_refused : (before : Option TextState) (fault : TextFault) → IsRefusedCase before fault → IsRefusedCheck before fault
case_refused None fault refused = tt
case_refused (Some text) fault refused = tells fault inl refused

certified_fault : (read between : Reading) (s : Snapshot) (fault : TextFault) → CaseInFront read s between → IsCertifiedFault s between fault
    → IsCheckFault read fault
certified_fault read between s fault case (inl answer) = inr (inl (record { snapshot = s; between = between; right = case; fault_is = answer }))
certified_fault read between s fault case (inr (stated, behind, answer, inl tree)) =
    inr (inr (inl (record
    { snapshot = s; stated = stated; behind_case = between; between = behind; right_case = case; right_answer = answer; fault_is = tree })))
certified_fault read between s fault case (inr (stated, behind, answer, inr (tree, rest, certificate, late))) =
    inr (inr (inr (record {
      snapshot = s;
      stated = stated;
      tree = tree;
      behind = rest;
      right = record { behind_case = between; behind_answer = behind; case = case; answer = answer; certificate = certificate };
      fault_is = late;
    })))

pub behind_case : (before mid : Option TextState) (s : Snapshot) (fault : TextFault) → IsReadCase before s mid → IsRefusedCertified mid s fault
    → IsRefusedCheck before fault
behind_case None mid s fault case refused = tt
behind_case (Some text) None s fault case refused = absurd case
behind_case (Some text) (Some behind) s fault case refused = tells fault (certified_fault (reading text) (reading behind) s fault case) refused

-- what was judged of the snapshot that was read
module _ (found : Snapshot) where
  abbrev pub checked_of : Judged → Checked
  checked_of judged = record { snapshot = found; cost = judged.cost; bound = judged.bound; verdict = judged.verdict }

  check_so : (s : Snapshot) (stated : Stated) (tree : List Twig) (judged : Judged) → found ≡ s → IsJudgedAs found stated tree judged
      → IsCheckOf s stated tree (checked_of judged)
  check_so s stated tree judged same is = record {
    snapshot = same;
    cost = is.cost;
    bound = is.bound;
    verdict = is.verdict_is ∙ ap (λ (x : Snapshot). verdict_of x stated.plan stated.cost stated.bound tree) same;
  }

  pub check_taken : (before mid : Option TextState) (judged : Judged) → TakesCases before (Ok found) mid → TakesCertified mid found (Ok judged)
      → TakesChecks before (Ok (checked_of judged))
  check_taken None mid judged cases takes s stated tree = tt
  check_taken (Some text) mid judged cases takes s stated tree = λ alone.
      (let same = cases s alone.1.behind_case alone.1.case in
      check_so s stated tree judged same.0
      (told mid same.1 takes (subst (λ (x : Snapshot). CertifiedAlone alone.1.behind_case x stated tree) (sym same.0)
      (alone.1.behind_answer, alone.1.answer, (alone.0, alone.1.certificate)))))
    where
      told : (now : Option TextState) {between : Reading} → IsSomeAnd now (λ behind. reading behind ≡ between) → TakesCertified now found (Ok judged)
          → CertifiedAlone between found stated tree → IsJudgedAs found stated tree judged
      told None end more alone = absurd end
      told (Some behind) end more alone = more stated tree (subst (λ (r : Reading). CertifiedAlone r found stated tree) (sym end) alone)

  pub behind_case_taken : (before mid : Option TextState) (fault : TextFault) → TakesCases before (Ok found) mid → TakesCertified mid found (Err fault)
      → TakesChecks before (Err fault)
  behind_case_taken None mid fault cases takes s stated tree = tt
  behind_case_taken (Some text) mid fault cases takes s stated tree = λ alone.
      (let same = cases s alone.1.behind_case alone.1.case in
      told mid same.1 takes
      (subst (λ (x : Snapshot). CertifiedAlone alone.1.behind_case x stated tree) (sym same.0)
      (alone.1.behind_answer, alone.1.answer, (alone.0, alone.1.certificate))))
    where
      told : (now : Option TextState) {between : Reading} → IsSomeAnd now (λ behind. reading behind ≡ between) → TakesCertified now found (Err fault)
          → CertifiedAlone between found stated tree → Tells fault ⊥
      told None end more alone = absurd end
      told (Some behind) end more alone = more stated tree (subst (λ (r : Reading). CertifiedAlone r found stated tree) (sym end) alone)

  pub checked_by : (before mid : Option TextState) (judged : Judged) → IsAccepted found → IsReadCase before found mid → IsJudged mid found judged
      → IsChecked before (checked_of judged)
  checked_by before mid judged accepted case is = record {
    stated = is.stated;
    tree = is.tree;
    accepted = accepted;
    cars = is.cars;
    cost = is.cost;
    bound = is.bound;
    whole = is.whole;
    verdict = is.verdict_is;
    read = check_alone before mid found is.stated is.tree case is.read;
  }

pub case_taken : (before mid : Option TextState) (fault : TextFault) → TakesCases before (Err fault) mid → TakesChecks before (Err fault)
case_taken None mid fault cases s stated tree = tt
case_taken (Some text) mid fault cases s stated tree = λ alone. cases s alone.1.behind_case alone.1.case
