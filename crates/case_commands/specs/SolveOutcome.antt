-- What the command `solve` leaves: what was read and written, and why it ended.
use Rattle.std.specs.Prelude.{◌≡◌, ℕ, ◌<◌, ◌≤◌, ◌==◌, IsTrue, Bool, true, false, List, [], ◌∷◌, ◌++◌, length, codes, if◌then◌else◌}
use Rattle.std.specs.Io.BufRead.{ends_with_byte}
use Rattle.elevator_model.specs.Snapshot.{Snapshot, car_count, spec_of}
use Rattle.elevator_model.specs.Plans.{IsBound, IsOptimal}
use Rattle.lift_text.specs.Text.{line}
use Rattle.case_text.specs.CaseTexts.{IsCaseText}
use Rattle.cert_text.specs.Texts.{cert_text}
use Rattle.check_text.specs.CheckTexts.{IsCheckText}
use Rattle.search_model.specs.declared.Stated.{Stated}
use Rattle.answer_text.specs.Texts.{answer_text, solved_line}
use Rattle.search_model.specs.declared.Verdict.TheVariants.{Yes}
use Rattle.search_model.specs.declared.Twig.{Twig}
use Rattle.search_model.specs.declared.Turn.{Turn}
use Rattle.search_model.specs.declared.StopReason.{StopReason}
use Rattle.search_model.specs.declared.StopReason.TheVariants.{Solved, Rounds, Moves, Told}
use Rattle.case_commands.specs.declared.endings.Ending.{Ending}
use Rattle.case_commands.specs.declared.endings.Ending.TheVariants.{IsSolved, OfRounds, OfMoves, OfTime, OfClaims}
use Rattle.search_model.specs.Solving.{IsSolveAnswer}
use Rattle.node_search.specs.declared.found.Found.{Found}
use Rattle.snapshot_solver.specs.Reasons.{HasReasonOf}
use Rattle.search_model.specs.Verdicts.{rounds_enough, tours_enough, verdict_of}
use Rattle.certified_search.specs.Certified.{AreClaimsEnough, IsCertified}
use Rattle.lift_words.specs.declared.request.SolveOptions.{SolveOptions}
use Rattle.command_ends.specs.declared.status.Status.{Status}
use Rattle.command_ends.specs.declared.status.Status.TheVariants.{Done, Stopped}
use Rattle.command_ends.specs.Ends.{Streams}
use Rattle.command_ends.specs.Runs.{Runs}
use Rattle.command_ends.specs.WholeTexts.{case_form}

-- Why an answer ends as it does: its cost is its bound; or else by the reason of the search, and where that was
-- solved, by the limit of claims.
abbrev pub ending_of : StopReason → (limit : ℕ) → (solved : Bool) → Ending
ending_of why limit true = IsSolved
ending_of Solved limit false = OfClaims limit
ending_of (Rounds done) limit false = OfRounds done
ending_of (Moves car count) limit false = OfMoves car count
ending_of Told limit false = OfTime

-- the comment line that says so
abbrev pub closing_line : Snapshot → Ending → List ℕ
closing_line s IsSolved = solved_line
closing_line s (OfRounds done) = line (codes "# stopped rounds") (done ∷ [])
closing_line s (OfMoves car count) = line (codes "# stopped moves") ((spec_of s car).id ∷ count ∷ [])
closing_line s OfTime = codes "# stopped time\n"
closing_line s (OfClaims limit) = line (codes "# stopped claims") (limit ∷ [])

-- the car that it names is one of the snapshot's
abbrev pub IsCarOf : Snapshot → Ending → Type 0
IsCarOf s IsSolved = Unit {0}
IsCarOf s (OfRounds done) = Unit {0}
IsCarOf s (OfMoves car count) = car < car_count s
IsCarOf s OfTime = Unit {0}
IsCarOf s (OfClaims limit) = Unit {0}

abbrev pub status_of_ending : Ending → Status
status_of_ending IsSolved = Done
status_of_ending (OfRounds done) = Stopped
status_of_ending (OfMoves car count) = Stopped
status_of_ending OfTime = Stopped
status_of_ending (OfClaims limit) = Stopped

-- the certificate, where one is wanted
abbrev pub certificate_part : SolveOptions → Snapshot → List Twig → List ℕ
certificate_part options s tree = if options.brief then [] else cert_text s tree

-- The bound and the certificate that are printed after a search; without a certificate, the bound of the search.
pub record IsPrinted (options : SolveOptions) (s : Snapshot) (stated : Stated) (tree : List Twig) (bound : ℕ) (certificate : List Twig) : Type 0 where
  pub brief : options.brief ≡ true → bound ≡ stated.bound
  pub certified : options.brief ≡ false → IsCertified s options.claims stated tree bound certificate

-- these bytes are an input of `check`, of which its verdict is yes
pub record IsSaidYes (bytes : List ℕ) (s : Snapshot) : Type 0 where
  pub stated : Stated
  pub tree : List Twig
  pub read : IsCheckText bytes s stated tree
  pub yes : verdict_of s stated.plan stated.cost stated.bound tree ≡ Yes

-- An answer with its certificate can be checked where the input ends with a line end and is not too long, and the limits
-- are no greater than the defaults.
pub record CanBeChecked (options : SolveOptions) (input : List ℕ) : Type 0 where
  pub certificate : options.brief ≡ false
  pub rounds : options.limits.rounds ≤ 2000
  pub moves : options.limits.most_tours ≤ 75000
  pub claims : options.claims ≤ 1000000000
  pub ended : IsTrue (ends_with_byte 10 input)
  pub short : length input ≤ 1000000

-- the limits are enough for the snapshot: those of the search, and for a certificate also the limit of claims
pub record AreEnough (options : SolveOptions) (s : Snapshot) : Type 0 where
  pub rounds : rounds_enough s ≤ options.limits.rounds
  pub moves : tours_enough s ≤ options.limits.most_tours
  pub claims : options.brief ≡ false → AreClaimsEnough options.limits.rounds options.limits.most_tours options.claims s

-- A search that ended with these gives the reason that follows from the state after its last round.
pub record NamesReason (s : Snapshot) (rounds most_tours : ℕ) (stated : Stated) (tree : List Twig) (turns : List Turn) (why : StopReason) : Type 0 where
  pub found : Found
  pub stated_is : found.stated ≡ stated
  pub tree_is : found.tree.twigs ≡ tree
  pub turns_are : found.turns ≡ turns
  pub why_is : found.why ≡ why
  pub reason : HasReasonOf s rounds most_tours found

-- A plan, its cost and a bound as a search of the snapshot answers them within these limits, with the certificate of what
-- is printed and why it ends so; where the cost is the bound, the plan is optimal.
pub record IsSolution (options : SolveOptions) (s : Snapshot) (status : Status) (text : List ℕ) : Type 0 where
  pub stated : Stated
  pub tree : List Twig
  pub turns : List Turn
  pub why : StopReason
  pub answer : IsSolveAnswer s options.limits.rounds options.limits.most_tours stated.plan stated.cost stated.bound tree turns why
  -- where rounds and moves are enough for the snapshot, only claims can stop it
  pub enough : rounds_enough s ≤ options.limits.rounds → tours_enough s ≤ options.limits.most_tours → why ≡ Solved
  -- of two limits that are reached, the one that the state after the last round gives is named
  pub named : NamesReason s options.limits.rounds options.limits.most_tours stated tree turns why
  pub bound : ℕ
  pub certificate : List Twig
  pub printed : IsPrinted options s stated tree bound certificate
  pub ending : Ending
  pub ending_is : ending ≡ ending_of why options.claims (stated.cost == bound)
  pub status_is : status ≡ status_of_ending ending
  pub optimal : status ≡ Done → IsOptimal s stated.plan
  -- no feasible plan costs less than the bound that is printed
  pub least : IsBound s bound
  pub is_text : text ≡ answer_text s (record { plan = stated.plan; cost = stated.cost; bound = bound }) ++ certificate_part options s certificate
      ++ closing_line s ending
  -- where the limits are enough for the snapshot, no limit is reached
  pub unstopped : AreEnough options s → status ≡ Done
  -- `check` takes each text of the snapshot that can be checked, followed by this one, and says yes
  pub checks : (input : List ℕ) → IsCaseText input s → CanBeChecked options input → IsSaidYes (input ++ text) s

-- A plan is told of a case, and any other input is refused.
abbrev pub RunsSolve : SolveOptions → (old new : Streams) → Status → Type 0
RunsSolve options old new status = Runs case_form (IsSolution options) old new status
