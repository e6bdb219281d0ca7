-- What workers have done.
use Rattle.std.specs.Prelude.{◌≡◌, ℕ, ◌<◌, ◌≤◌, List, [], length, map}
use Rattle.std.specs.List.{All, Any}
use Rattle.work_fan.specs.declared.workers.Done.{Done}
use Rattle.work_fan.specs.declared.workers.Worker.{Worker}
use Rattle.work_fan.specs.Line.{LineView, times}

-- 1 to 16 desks, each of which serves the jobs
abbrev pub Serving : {D : Type 0} → (D → Type 0) → List D → Type 0
Serving serves desks = (1 ≤ length desks) × (length desks ≤ 16) × All serves desks

module _ {A : Type 0} where
  abbrev pub jobs_of : List (Done A) → List ℕ
  jobs_of done = map (λ (d : Done A). d.job) done

  -- the worker draws from this line, stands for this many workers, and has drawn and done nothing
  abbrev pub Starts : LineView → ℕ → Worker A → Type 0
  Starts line allowance worker =
      (worker.seat.line ≡ line.name)
      × (worker.seat.allowance ≡ allowance)
      × (worker.seat.drawn ≡ [])
      × (worker.done.items ≡ [])

  -- the worker draws from the same line, and stands for as many workers
  abbrev pub SameSeat : Worker A → Worker A → Type 0
  SameSeat old new = (new.seat.line ≡ old.seat.line) × (new.seat.allowance ≡ old.seat.allowance)

  -- Of the numbers drawn, those below the count are the jobs done, each as often as it was drawn and with a right answer.
  -- Some number drawn is at or past the count, so no job was left.
  pub record Works (is_right : ℕ → A → Type 0) (count : ℕ) (drawn : List ℕ) (done : List (Done A)) : Type 0 where
    pub each : (k : ℕ) → k < count → times k (jobs_of done) ≡ times k drawn
    pub right : All (λ (d : Done A). (d.job < count) × is_right d.job d.answer) done
    pub all : Any (λ n. count ≤ n) drawn

  -- a right answer of job k, of a job that was not told to stop where the work goes on
  abbrev pub IsAnswer : (goes_on : Type 0) → (is_right : ℕ → A → Type 0) → (is_done : A → Type 0) → ℕ → A → Type 0
  IsAnswer goes_on is_right is_done k a = is_right k a × (goes_on → is_done a)

  -- all that the worker drew was done, until no job was left
  abbrev pub Finished : (ℕ → A → Type 0) → ℕ → Worker A → Type 0
  Finished is_right count worker = Works is_right count worker.seat.drawn worker.done.items
