-- How the program ends, by its words.
use Rattle.std.proofs.Common.{◌≡◌, ℕ, List, refl, subst, inl, inr}
use Rattle.command_ends.specs.declared.status.Status.{Status}
use Rattle.command_ends.specs.declared.status.Status.TheVariants.{Words, Memory}
use Rattle.command_ends.specs.Ends.{Puts, Streams}
use Rattle.command_ends.proofs.EndLemmas.{ends_put, put_whole}
use Rattle.command_ends.proofs.RunLemmas.{runs_out}
use Rattle.draw_command.specs.declared.words.Request.{Request}
use Rattle.draw_command.specs.Outcome.{DrawsByWords, IsDrawn, RefusesWords, RunsDraw, UsageIsDue, scene_form, usage_text}
use Rattle.draw_command.specs.Words.{AreTaken}

-- the words ask for this and nothing else
pub draws_one : (words : List (List ℕ)) (old new : Streams) (result : Status) (request : Request)
    → ((other : Request) → AreTaken words other → request ≡ other) → RunsDraw request old new result → DrawsByWords words old new result
draws_one words old new result request one runs = λ other taken. subst (λ (r : Request). RunsDraw r old new result) (one other taken) runs

-- memory ran out before the words were read
pub draws_nothing : (words : List (List ℕ)) (old new : Streams) → new.taken ≡ old.taken → DrawsByWords words old new Memory
draws_nothing words old new same = λ request taken. runs_out (scene_form request.subject) (IsDrawn request.size) old new same

pub refuses_nothing : (old new : Streams) → new.taken ≡ old.taken → RefusesWords old new Memory
refuses_nothing old new same = record { ends = same; refuses = λ sure. inr refl }

-- the usage line was put
pub refuses_words : (old new : Streams) (result : Status) → Puts usage_text Words result old.taken new.taken old.write_faults new.write_faults
    → RefusesWords old new result
refuses_words old new result put = record {
  ends = ends_put UsageIsDue old new usage_text Words result refl (λ wrote. wrote) put;
  refuses = λ sure. inl (put_whole usage_text Words result old.taken new.taken old.write_faults new.write_faults put sure);
}
