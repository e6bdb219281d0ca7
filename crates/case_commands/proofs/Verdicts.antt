-- What is read for the check of a certificate, and the verdict on it.
use Rattle.std.proofs.Common.{◌≡◌, [], ◌∷◌, Option, Some, None, Ok, Err, refl, sym, ◌∙◌, subst}
use Rattle.std.specs.Prelude.{IsTrue, length}
use Rattle.elevator_model.specs.Snapshot.{IsAccepted, car_count}
use Rattle.search_model.specs.Certificates.{is_whole, root_place}
use Rattle.cert_text.proofs.TreeLemmas.{filled}
use Rattle.lift_text.specs.Reading.{TextState}
use Rattle.lift_text.specs.declared.faults.TextFault.{TextFault}
use Rattle.cert_checker.proofs.VerdictLaws.{verdict_holds, sufficient_holds, yes_holds}
use Rattle.check_text.specs.declared.checked.Checked.{Checked}
use Rattle.check_text.specs.CheckTexts.{IsCheckOf, IsChecked, IsRefusedCheck, TakesChecks}
use Rattle.command_ends.specs.declared.input_faults.InputFault.TheVariants.{Text}
use Rattle.command_ends.specs.WholeTexts.{IsReadAs, IsRefusedAs, Takes}
use Rattle.case_commands.specs.CheckOutcome.{CheckInput, IsCheckedAs, check_form}

-- what was checked has the verdict that it is due
checked_as : (said : CheckInput) (checked : Checked) → IsAccepted said.snapshot → length said.stated.plan ≡ car_count said.snapshot
    → IsTrue (is_whole said.snapshot said.tree) → IsCheckOf said.snapshot said.stated said.tree checked → IsCheckedAs checked said
checked_as said checked accepted cars whole is =
    let s = said.snapshot in
    let stated = said.stated in
    let means = verdict_holds s stated.plan stated.cost stated.bound said.tree accepted cars whole in
    record {
      snapshot = is.snapshot;
      cost = is.cost;
      bound = is.bound;
      verdict = record {
        is = is.verdict;
        yes = (
          λ yes. record { proves = means.proof (sym is.verdict ∙ yes); claims = means.claims (sym is.verdict ∙ yes) },
          λ proved. is.verdict ∙ means.yes proved.proves proved.claims,
        );
        bound = λ yes. (yes_holds s stated.plan stated.cost stated.bound said.tree accepted cars whole (sym is.verdict ∙ yes)).least;
        enough = λ proves claims.
            is.verdict ∙ (sufficient_holds s stated.plan stated.cost stated.bound said.tree accepted cars whole claims).1 proves;
      };
    }

-- the input that was checked
abbrev input_of : (before : Option TextState) (checked : Checked) → IsChecked before checked → CheckInput
input_of before checked is = record { snapshot = checked.snapshot; stated = is.stated; tree = is.tree }

pub read_as : (before : Option TextState) (checked : Checked) → IsChecked before checked → IsReadAs check_form before checked
read_as before checked is =
    let said = input_of before checked is in (
      said,
      checked_as said checked is.accepted is.cars is.whole (record { snapshot = refl; cost = is.cost; bound = is.bound; verdict = is.verdict }),
      is.read,
    )

pub refused_as : (before : Option TextState) (fault : TextFault) → IsRefusedCheck before fault → IsRefusedAs check_form before (Text fault)
refused_as None fault refused = tt
refused_as (Some text) fault refused = refused

-- where the text says something, that is what was checked
pub takes_checked : (before : Option TextState) (checked : Checked) → IsChecked before checked → TakesChecks before (Ok checked)
    → Takes check_form before (Ok checked)
takes_checked None checked is takes said = tt
takes_checked (Some text) checked is takes said = λ says.
    (let of_input = takes said.snapshot said.stated said.tree says in
    checked_as said checked (subst IsAccepted of_input.snapshot is.accepted) says.1.answer.2.each_car
    (filled (root_place said.snapshot ∷ []) said.tree says.1.certificate.2.whole) of_input)

pub takes_fault : (before : Option TextState) (fault : TextFault) → TakesChecks before (Err fault) → Takes check_form before (Err (Text fault))
takes_fault None fault takes said = tt
takes_fault (Some text) fault takes said = λ says. takes said.snapshot said.stated said.tree says
