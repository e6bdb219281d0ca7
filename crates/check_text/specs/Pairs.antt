-- An answer to a snapshot and a certificate of it, one after the other, whatever follows.
use Rattle.std.specs.Prelude.{◌≡◌, ◌⊎◌, List, length, Option, IfSome, IsSomeAnd, IsTrue}
use Rattle.elevator_model.specs.Snapshot.{Snapshot, car_count}
use Rattle.search_model.specs.declared.Stated.{Stated}
use Rattle.search_model.specs.declared.Twig.{Twig}
use Rattle.search_model.specs.declared.Verdict.{Verdict}
use Rattle.search_model.specs.Certificates.{is_whole}
use Rattle.search_model.specs.Verdicts.{verdict_of}
use Rattle.lift_text.specs.Reading.{TextState, Reading, reading}
use Rattle.lift_text.specs.declared.faults.TextFault.{TextFault}
use Rattle.text_sections.specs.Sections.{outcome}
use Rattle.case_text.specs.CaseTexts.{IsRefusedWith, Tells}
use Rattle.answer_text.specs.Drafts.{blank as no_answer, after as after_answer_line}
use Rattle.cert_text.specs.Certs.{IsSaid}
use Rattle.cert_text.specs.Drafts.{blank as no_tree, after as after_tree_line}
use Rattle.check_text.specs.CheckTexts.{AnswerInFront, TreeInFront}

-- the lines in front stand for this answer and then for this tree, and this comes after them
abbrev pub PairInFront : Reading → Snapshot → Stated → List Twig → Reading → Type 0
PairInFront read s stated tree rest = (between : Reading) × AnswerInFront read s stated between × TreeInFront between s tree rest

-- a fault in the answer, or in the certificate behind an answer that is right
abbrev pub IsPairFault : Snapshot → Reading → TextFault → Type 0
IsPairFault s read fault =
    IsRefusedWith (outcome after_answer_line read (no_answer s)) fault
    ⊎ ((stated : Stated) × (between : Reading) × AnswerInFront read s stated between × IsRefusedWith (outcome after_tree_line between (no_tree s)) fault)

-- ---- what the readers answer

-- a whole tree was read, this is left, and this is the verdict
pub record IsVerdictRead (before : Option TextState) (s : Snapshot) (claims : Stated) (now : Option TextState) (verdict : Verdict) : Type 0 where
  pub tree : List Twig
  pub whole : IsTrue (is_whole s tree)
  pub verdict_is : verdict ≡ verdict_of s claims.plan claims.cost claims.bound tree
  pub said : IsSaid before s tree now

-- This answer and a whole tree were read, this is left, and this is the verdict on them.
pub record IsCertified (before : Option TextState) (s : Snapshot) (stated : Stated) (verdict : Verdict) (now : Option TextState) : Type 0 where
  pub tree : List Twig
  pub cars : length stated.plan ≡ car_count s
  pub whole : IsTrue (is_whole s tree)
  pub verdict_is : verdict ≡ verdict_of s stated.plan stated.cost stated.bound tree
  pub read : IfSome before (λ text. IsSomeAnd now (λ behind. PairInFront (reading text) s stated tree (reading behind)))

abbrev pub IsRefusedPair : Option TextState → Snapshot → TextFault → Type 0
IsRefusedPair before s fault = IfSome before (λ text. Tells fault (IsPairFault s (reading text) fault))
