-- What `whatif` tells.
use Rattle.std.proofs.Common.{◌≡◌, ℕ, List, refl}
use Rattle.elevator_model.specs.Snapshot.{Snapshot}
use Rattle.what_if.specs.declared.extras.Extra.{Extra}
use Rattle.what_if.specs.declared.regrets.Regret.{Regret}
use Rattle.what_if.specs.WhatIf.{AreEnough, AreExtras, AreSettled, IsRegret}
use Rattle.command_ends.specs.declared.status.Status.{Status}
use Rattle.command_ends.specs.declared.status.Status.TheVariants.{Done, Words, Stopped, Refused, Input, Read, Write, Memory}
use Rattle.case_commands.specs.WhatIfOutcome.{IsStatusOf, IsTold, what_if_text}

-- of settled extras only Done is the status
done_where_settled : (extras : List Extra) (status : Status) → IsStatusOf extras status → AreSettled extras → status ≡ Done
done_where_settled extras Done is settled = refl
done_where_settled extras Stopped is settled = absurd (is settled)
done_where_settled extras Words is settled = absurd is
done_where_settled extras Refused is settled = absurd is
done_where_settled extras Input is settled = absurd is
done_where_settled extras Read is settled = absurd is
done_where_settled extras Write is settled = absurd is
done_where_settled extras Memory is settled = absurd is

pub is_told : (s : Snapshot) (rounds most_tours : ℕ) (extras : List Extra) (regret : Regret) (status : Status) (text : List ℕ)
    → AreExtras s rounds most_tours extras
    → IsRegret s extras regret → (AreEnough s rounds most_tours → AreSettled extras) → IsStatusOf extras status → text ≡ what_if_text s extras regret
    → IsTold s rounds most_tours status text
is_told s rounds most_tours extras regret status text are is settled status_is is_text = record {
  extras = extras;
  regret = regret;
  are_extras = are;
  is_regret = is;
  status_is = status_is;
  enough = λ enough. done_where_settled extras status status_is (settled enough);
  is_text = is_text;
}
