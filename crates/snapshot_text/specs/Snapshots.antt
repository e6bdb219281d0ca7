-- The lines that stand for a snapshot of a building.
use Rattle.std.specs.Prelude.{◌≡◌, ℕ, ◌==◌, ◌<◌, Bool, true, List, [], ◌∷◌, ◌++◌, map, count_by, Option, None, Some, IfSome, IsSomeAnd, Result, Ok, Err, codes}
use Rattle.elevator_model.specs.declared.CarState.{CarState}
use Rattle.elevator_model.specs.declared.Aboard.{Aboard}
use Rattle.elevator_model.specs.declared.Call.{Call}
use Rattle.elevator_model.specs.Building.{Building}
use Rattle.elevator_model.specs.Snapshot.{Snapshot, IsAccepted, car_count, state_of}
use Rattle.lift_text.specs.Reading.{TextState, Reading, reading}
use Rattle.lift_text.specs.declared.faults.TextFault.{TextFault}
use Rattle.lift_text.specs.declared.faults.TextFault.TheVariants.{Read, TooLong, Bad, NoMemory}
use Rattle.text_sections.specs.Judging.{Judged, ◌>>=◌}
use Rattle.text_sections.specs.Words.{named, says_end}
use Rattle.text_sections.specs.Sections.{Line, ReadAs}
use Rattle.text_sections.specs.Canonical.{BeginsWith}
use Rattle.text_sections.specs.Between.{AreBetween}
use Rattle.text_sections.specs.Unfinished.{LacksEnd}
use Rattle.snapshot_text.specs.Words.{version_said, moment_said, form_of, car_said, group_said, call_said}
use Rattle.snapshot_text.specs.Drafts.{Draft, blank, snapshot_read, after}

-- ---- what a line of each kind says

abbrev pub says_version : Line → Judged ℕ
says_version words = named (codes "snapshot") words >>= λ _. version_said words

abbrev pub says_moment : Line → Judged ℕ
says_moment words = named (codes "now") words >>= λ _. moment_said words

-- the index of a car, and where the car is
abbrev pub says_car : Building → ℕ → Line → Judged (ℕ × CarState)
says_car b version words = named (codes "car") words >>= λ _. (form_of version words >>= λ form. car_said b form words)

abbrev pub says_group : Building → Line → Judged Aboard
says_group b words = named (codes "aboard") words >>= λ _. group_said b words

abbrev pub says_call : Building → Line → Judged Call
says_call b words = named (codes "call") words >>= λ _. call_said b words

-- ---- a whole section

-- These lines stand for this snapshot of the building: the version, the moment, a line for each car once
-- and in any order, a line for each group and for each call in their order, and the end. The snapshot is
-- accepted, and the opening snapshot of a day has no groups and no calls.
pub record StandsFor (b : Building) (is_opening : Bool) (lines : List Line) (s : Snapshot) : Type 0 where
  pub head : Line
  pub moment : Line
  pub cars : List Line
  pub groups : List Line
  pub calls : List Line
  pub end : Line
  pub lines_are : lines ≡ head ∷ moment ∷ (cars ++ groups ++ calls) ++ end ∷ []
  pub building : s.building ≡ b
  pub version_is_said : says_version head ≡ Ok s.version
  pub moment_is_said : says_moment moment ≡ Ok s.moment
  -- the cars of the `car` lines
  pub places : List ℕ
  pub states_are_said : map (says_car b s.version) cars ≡ map (λ c. Ok (c, state_of s c)) places
  pub once : (c : ℕ) → c < car_count s → count_by (λ place. place == c) places ≡ 1
  pub groups_are_said : map (says_group b) groups ≡ map Ok s.aboard
  pub calls_are_said : map (says_call b) calls ≡ map Ok s.calls
  pub end_is_said : says_end end ≡ Ok tt
  pub opening : is_opening ≡ true → (s.aboard ≡ []) × (s.calls ≡ [])
  pub accepted : IsAccepted s

-- ---- what is read

-- this snapshot is what was read, and this is left
abbrev pub IsReadSnapshot : Option TextState → Building → Bool → Snapshot → Option TextState → Type 0
IsReadSnapshot before b is_opening s now = (end : Draft) × (snapshot_read end ≡ s) × ReadAs after before (blank b is_opening) (Ok tt) end now

-- this fault is what was read
abbrev pub IsRefusedSnapshot : Option TextState → Building → Bool → TextFault → Option TextState → Type 0
IsRefusedSnapshot before b is_opening fault now = (end : Draft) × ReadAs after before (blank b is_opening) (Err fault) end now

-- the text began with lines that stand for this snapshot, and the rest of it is left; where the source does
-- not tell what it has left, there are such lines
abbrev pub IsSaid : Option TextState → Building → Bool → Snapshot → Option TextState → Type 0
IsSaid (Some text) b is_opening s (Some behind) = (lines : List Line) × BeginsWith lines (reading text) (reading behind) × StandsFor b is_opening lines s
IsSaid (Some text) b is_opening s None = ⊥
IsSaid None b is_opening s now = (lines : List Line) × StandsFor b is_opening lines s

-- this snapshot is what was read, and this is left: only a failed read and want of memory come in its place
abbrev pub IsAnswered : Snapshot → Reading → Result Snapshot TextFault → Option TextState → Type 0
IsAnswered s rest (Ok snapshot) now = (snapshot ≡ s) × IsSomeAnd now (λ behind. reading behind ≡ rest)
IsAnswered s rest (Err Read) now = Unit {0}
IsAnswered s rest (Err TooLong) now = ⊥
IsAnswered s rest (Err (Bad line code)) now = ⊥
IsAnswered s rest (Err NoMemory) now = Unit {0}

-- where the text begins with lines that stand for a snapshot, that one is read, whatever follows
abbrev pub ReadsLines : Option TextState → Building → Bool → Result Snapshot TextFault → Option TextState → Type 0
ReadsLines before b is_opening answer now = (lines : List Line) (s : Snapshot) (rest : Reading) → StandsFor b is_opening lines s
    → IfSome before (λ text. BeginsWith lines (reading text) rest → IsAnswered s rest answer now)

-- wherever a snapshot in front ends, its last line is not whole among the bytes that were taken
abbrev pub SnapshotEndsBehind : Option TextState → Building → Bool → Option (List ℕ) → Type 0
SnapshotEndsBehind None b is_opening left = Unit {0}
SnapshotEndsBehind (Some text) b is_opening left =
    (lines : List Line) (s : Snapshot) (behind : TextState) → AreBetween text lines behind → StandsFor b is_opening lines s
    → LacksEnd (Some text) behind.line left

-- it fails with this fault, or for want of memory
abbrev pub FailsAs : {A : Type 0} → Result A TextFault → TextFault → Type 0
FailsAs (Ok x) fault = ⊥
FailsAs (Err NoMemory) fault = Unit {0}
FailsAs (Err Read) fault = fault ≡ Read
FailsAs (Err TooLong) fault = fault ≡ TooLong
FailsAs (Err (Bad line code)) fault = fault ≡ Bad line code
