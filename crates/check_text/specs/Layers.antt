-- What is read behind a case: an answer and a certificate, and how the certificate is checked piece by piece.
use Rattle.std.specs.Prelude.{◌≡◌, ℕ, ◌+◌, ◌≤◌, ◌<◌, ◌^◌, ◌⊎◌, List, [], ◌++◌, length, All, Bool, true, false, Option, IfSome, IsTrue, Result, Ok, Err}
use Rattle.elevator_model.specs.Snapshot.{Snapshot, car_count}
use Rattle.search_model.specs.declared.Twig.{Twig}
use Rattle.search_model.specs.declared.Verdict.{Verdict}
use Rattle.search_model.specs.Certificates.{is_whole}
use Rattle.search_model.specs.Verdicts.{verdict_of}
use Rattle.lift_text.specs.Reading.{TextState, Reading, reading, finished}
use Rattle.lift_text.specs.declared.faults.TextFault.{TextFault}
use Rattle.text_sections.specs.Sections.{outcome}
use Rattle.case_text.specs.CaseTexts.{IsRefusedWith, IsFaultBehind, Tells}
use Rattle.search_model.specs.declared.Stated.{Stated}
use Rattle.answer_text.specs.Drafts.{blank as no_answer, after as after_answer_line}
use Rattle.cert_text.specs.Certs.{IsSaid}
use Rattle.cert_text.specs.Drafts.{blank as no_tree, after as after_tree_line}
use Rattle.cert_text.specs.Pieces.{Reader}
use Rattle.cert_text.specs.Readers.{HasRead, IsRefused, Adds}
use Rattle.cert_text.specs.Trees.{IsWithin}
use Rattle.cert_checker.specs.declared.checker.Checker.{Checker}
use Rattle.cert_checker.specs.Judging.{HasSeen, HasWorthSizes}
use Rattle.check_text.specs.CheckTexts.{AnswerInFront, TreeInFront}
use Rattle.check_text.specs.declared.reading.Judged.{Judged}

-- ---- pieces of a tree

-- What reading a piece answers, true at the end of the tree: these twigs had been handed out before it. The worths of
-- what was read can be added up.
abbrev pub ReadsPiece : Snapshot → (first : Option TextState) → (fed : List Twig) → Result Bool TextFault → Reader → (piece : List Twig)
    → (now : Option TextState) → Type 0
ReadsPiece s first fed (Ok is_whole) reader piece now = Adds s first (Ok is_whole) reader (fed ++ piece) now × All HasWorthSizes piece
ReadsPiece s first fed (Err fault) reader piece now = IsRefused s first fault

-- whatever had been handed out before the twigs that the piece has already
abbrev pub ReadsPieceFor : Snapshot → Reader → List Twig → Option TextState → Result Bool TextFault → Reader → List Twig → Option TextState → Type 0
ReadsPieceFor s reader piece before answer reader' piece' now =
    (first : Option TextState) (fed : List Twig) → HasRead s first reader (fed ++ piece) before → All HasWorthSizes piece
    → ReadsPiece s first fed answer reader' piece' now

-- some twigs were handed out
abbrev pub HasHandedOut : Snapshot → Reader → Option TextState → Type 0
HasHandedOut s reader now = (first : Option TextState) × (fed : List Twig) × HasRead s first reader fed now

-- ---- a checker that is fed

-- the checker of what is stated, whatever that is, has seen no twig
abbrev pub HasSeenNone : Snapshot → Checker → Type 0
HasSeenNone s checker = (claims : Stated) × HasSeen s claims [] checker

-- where a reader and a checker stand together: these twigs were handed out, and the checker has seen them
pub record StandsAt (s : Snapshot) (claims : Stated) (first : Option TextState) (reader : Reader) (checker : Checker) (now : Option TextState)
    (most : ℕ) : Type 0 where
  pub fed : List Twig
  pub read : HasRead s first reader fed now
  pub seen : HasSeen s claims fed checker
  pub few : length fed ≤ most

-- a whole tree was read, and the checker has seen it
pub record HasSeenTree (s : Snapshot) (claims : Stated) (first : Option TextState) (checker : Checker) (now : Option TextState) : Type 0 where
  pub tree : List Twig
  pub said : IsSaid first s tree now
  pub within : IsWithin s tree
  pub seen : HasSeen s claims tree checker

-- what reading a piece and feeding it answers
abbrev pub FeedsPiece : Snapshot → Stated → (first : Option TextState) → (most : ℕ) → Result Bool TextFault → Reader → Checker → (now : Option TextState)
    → Type 0
FeedsPiece s claims first most (Ok true) reader checker now = HasSeenTree s claims first checker now
FeedsPiece s claims first most (Ok false) reader checker now = StandsAt s claims first reader checker now (most + 256)
FeedsPiece s claims first most (Err fault) reader checker now = IsRefused s first fault

abbrev pub FeedsPieceFor : Snapshot → Reader → Checker → Option TextState → Result Bool TextFault → Reader → Checker → Option TextState → Type 0
FeedsPieceFor s reader checker before answer reader' checker' now =
    (claims : Stated) (first : Option TextState) (most : ℕ) → most + 256 < 2 ^ 32 → StandsAt s claims first reader checker before most
    → FeedsPiece s claims first most answer reader' checker' now

-- what feeding a whole tree answers
abbrev pub FeedsTree : Snapshot → Stated → (first : Option TextState) → Result Unit TextFault → Checker → (now : Option TextState) → Type 0
FeedsTree s claims first (Ok done) checker now = HasSeenTree s claims first checker now
FeedsTree s claims first (Err fault) checker now = IsRefused s first fault

-- ---- a certificate, and nothing behind it

abbrev pub TreeAlone : Reading → Snapshot → List Twig → Type 0
TreeAlone read s tree = (lines : ℕ) × TreeInFront read s tree (finished lines)

-- a fault in the certificate, or behind it
abbrev pub IsTreeOrLateFault : Snapshot → Reading → TextFault → Type 0
IsTreeOrLateFault s read fault =
    IsRefusedWith (outcome after_tree_line read (no_tree s)) fault
    ⊎ ((tree : List Twig) × (behind : Reading) × TreeInFront read s tree behind × IsFaultBehind behind fault)

-- a whole tree was read, and this is the verdict
pub record IsVerdict (before : Option TextState) (s : Snapshot) (claims : Stated) (verdict : Verdict) : Type 0 where
  pub tree : List Twig
  pub whole : IsTrue (is_whole s tree)
  pub verdict_is : verdict ≡ verdict_of s claims.plan claims.cost claims.bound tree
  pub read : IfSome before (λ text. TreeAlone (reading text) s tree)

abbrev pub IsRefusedTree : Option TextState → Snapshot → TextFault → Type 0
IsRefusedTree before s fault = IfSome before (λ text. Tells fault (IsTreeOrLateFault s (reading text) fault))

abbrev pub IsVerdictOn : Snapshot → Stated → List Twig → Result Verdict TextFault → Type 0
IsVerdictOn s claims tree (Ok verdict) = verdict ≡ verdict_of s claims.plan claims.cost claims.bound tree
IsVerdictOn s claims tree (Err fault) = Tells fault ⊥

abbrev pub TakesTrees : Option TextState → Snapshot → Stated → Result Verdict TextFault → Type 0
TakesTrees before s claims answer = (tree : List Twig) → IfSome before (λ text. TreeAlone (reading text) s tree → IsVerdictOn s claims tree answer)

-- ---- an answer and a certificate, and nothing behind them

abbrev pub CertifiedAlone : Reading → Snapshot → Stated → List Twig → Type 0
CertifiedAlone read s stated tree = (between : Reading) × AnswerInFront read s stated between × TreeAlone between s tree

-- a fault in the answer, in the certificate, or behind them
abbrev pub IsCertifiedFault : Snapshot → Reading → TextFault → Type 0
IsCertifiedFault s read fault =
    IsRefusedWith (outcome after_answer_line read (no_answer s)) fault
    ⊎ ((stated : Stated) × (between : Reading) × AnswerInFront read s stated between × IsTreeOrLateFault s between fault)

-- an answer and a whole tree were read, and this is what is found
pub record IsJudged (before : Option TextState) (s : Snapshot) (judged : Judged) : Type 0 where
  pub stated : Stated
  pub tree : List Twig
  pub cars : length stated.plan ≡ car_count s
  pub cost : judged.cost ≡ stated.cost
  pub bound : judged.bound ≡ stated.bound
  pub whole : IsTrue (is_whole s tree)
  pub verdict_is : judged.verdict ≡ verdict_of s stated.plan stated.cost stated.bound tree
  pub read : IfSome before (λ text. CertifiedAlone (reading text) s stated tree)

abbrev pub IsRefusedCertified : Option TextState → Snapshot → TextFault → Type 0
IsRefusedCertified before s fault = IfSome before (λ text. Tells fault (IsCertifiedFault s (reading text) fault))

pub record IsJudgedAs (s : Snapshot) (stated : Stated) (tree : List Twig) (judged : Judged) : Type 0 where
  pub cost : judged.cost ≡ stated.cost
  pub bound : judged.bound ≡ stated.bound
  pub verdict_is : judged.verdict ≡ verdict_of s stated.plan stated.cost stated.bound tree

abbrev pub IsJudgedOn : Snapshot → Stated → List Twig → Result Judged TextFault → Type 0
IsJudgedOn s stated tree (Ok judged) = IsJudgedAs s stated tree judged
IsJudgedOn s stated tree (Err fault) = Tells fault ⊥

abbrev pub TakesCertified : Option TextState → Snapshot → Result Judged TextFault → Type 0
TakesCertified before s answer = (stated : Stated) (tree : List Twig)
    → IfSome before (λ text. CertifiedAlone (reading text) s stated tree → IsJudgedOn s stated tree answer)
