-- What is printed after a search.
use Rattle.std.proofs.Common.{◌≡◌, ℕ, true, false, List, refl, sym, ◌∙◌}
use Rattle.elevator_model.specs.Snapshot.{Snapshot}
use Rattle.search_model.specs.declared.Stated.{Stated}
use Rattle.search_model.specs.declared.Twig.{Twig}
use Rattle.certified_search.specs.Certified.{IsCertified}
use Rattle.lift_words.specs.declared.request.SolveOptions.{SolveOptions}
use Rattle.case_commands.specs.SolveOutcome.{IsPrinted}

-- with a certificate
pub printed_so : (options : SolveOptions) (s : Snapshot) (stated : Stated) (tree : List Twig) (bound : ℕ) (certificate : List Twig) → options.brief ≡ false
    → IsCertified s options.claims stated tree bound certificate → IsPrinted options s stated tree bound certificate
printed_so options s stated tree bound certificate e is = record { brief = λ t. absurd (let clash : false ≡ true = sym e ∙ t in cc); certified = λ f. is }

-- without one
pub printed_brief : (options : SolveOptions) (s : Snapshot) (stated : Stated) (tree : List Twig) (certificate : List Twig) → options.brief ≡ true
    → IsPrinted options s stated tree stated.bound certificate
printed_brief options s stated tree certificate e = record { brief = λ t. refl; certified = λ f. absurd (let clash : true ≡ false = sym e ∙ f in cc) }
