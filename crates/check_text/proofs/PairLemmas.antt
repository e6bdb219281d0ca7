-- An answer, and behind it a certificate, whatever follows.
use Rattle.std.proofs.Common.{List, Option, None, Some, IfSome, inl, inr}
use Rattle.std.specs.Prelude.{IsSomeAnd}
use Rattle.elevator_model.specs.Snapshot.{Snapshot}
use Rattle.search_model.specs.declared.Stated.{Stated}
use Rattle.search_model.specs.declared.Twig.{Twig}
use Rattle.lift_text.specs.Reading.{TextState, reading}
use Rattle.lift_text.specs.declared.faults.TextFault.{TextFault}
use Rattle.lift_text.specs.declared.faults.TextFault.TheVariants.{Read, TooLong, Bad, NoMemory}
use Rattle.answer_text.specs.Answers.{IsSaid as IsSaidAnswer, IsRefusedAnswer}
use Rattle.cert_text.specs.Certs.{IsSaid}
use Rattle.cert_text.specs.Readers.{IsRefused}
use Rattle.check_text.specs.Pairs.{IsRefusedPair, PairInFront}

module _ (s : Snapshot) where
  pub pair_in_front : (before mid now : Option TextState) (stated : Stated) (tree : List Twig) → IsSaidAnswer before s stated mid → IsSaid mid s tree now
      → IfSome before (λ text. IsSomeAnd now (λ behind. PairInFront (reading text) s stated tree (reading behind)))
  pair_in_front None mid now stated tree answer certificate = tt
  pair_in_front (Some text) None now stated tree answer certificate = absurd answer
  pair_in_front (Some text) (Some between) None stated tree answer certificate = absurd certificate
  pair_in_front (Some text) (Some between) (Some behind) stated tree answer certificate =
      (reading between, (answer.0, answer.1, answer.2), (certificate.0, certificate.1, certificate.2))

  pub answer_in_pair : (before now : Option TextState) (fault : TextFault) → IsRefusedAnswer before s fault now → IsRefusedPair before s fault
  answer_in_pair None now fault refused = tt
  answer_in_pair (Some text) now Read refused = tt
  answer_in_pair (Some text) now TooLong refused = inl refused.1
  answer_in_pair (Some text) now (Bad line code) refused = inl refused.1
  answer_in_pair (Some text) now NoMemory refused = tt

  pub tree_in_pair : (before mid : Option TextState) (stated : Stated) (fault : TextFault) → IsSaidAnswer before s stated mid → IsRefused s mid fault
      → IsRefusedPair before s fault
  tree_in_pair None mid stated fault answer refused = tt
  tree_in_pair (Some text) None stated fault answer refused = absurd answer
  tree_in_pair (Some text) (Some between) stated Read answer refused = tt
  tree_in_pair (Some text) (Some between) stated TooLong answer refused = inr (stated, reading between, (answer.0, answer.1, answer.2), refused)
  tree_in_pair (Some text) (Some between) stated (Bad line code) answer refused = inr (stated, reading between, (answer.0, answer.1, answer.2), refused)
  tree_in_pair (Some text) (Some between) stated NoMemory answer refused = tt
