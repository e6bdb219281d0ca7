-- The twigs so far are at the places that they fill.
use Rattle.cert_checker.proofs.PieceLemmas.{PlacesFirst}
use Rattle.cert_checker.proofs.tasks.Piece.of_twigs.Given as goal

abbrev pub invariant-loop-twig : goal.invariant-loop-twig
invariant-loop-twig l = PlacesFirst l.initial.places l.seen l.twigs l.twig-index l.number l.piece l.places
