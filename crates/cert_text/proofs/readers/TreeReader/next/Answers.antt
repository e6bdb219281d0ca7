use Rattle.std.proofs.Common.{◌∙◌, sym}
use Rattle.lift_text.specs.LineReader.{text, failure}
use Rattle.lift_text.proofs.ShowLemmas.{went_nowhere}
use Rattle.cert_text.proofs.LoopLemmas.{no_fault, next_split, next_end}
use Rattle.cert_text.proofs.readers.TreeReader.next.Goals as goal

pub returns-in-Split-clause-twig : goal.returns-in-Split-clause-twig
returns-in-Split-clause-twig g c = λ none.
    (let inside = c.self.inside in
    next_split c.args.snapshot.now inside.places inside.claims inside.begun c.args.self.now c.self.view_is
    (text g.S.Source.left c.args.lines.now) c.in-Split.call c.in-Split.part
    (sym c.replace.ensures.value ∙ c.in-Split.is))

pub returns-in-Split-clause-fault : goal.returns-in-Split-clause-fault
returns-in-Split-clause-fault g c = λ none. no_fault (failure c.args.lines.now) _ none

pub returns-in-End-clause-twig : goal.returns-in-End-clause-twig
returns-in-End-clause-twig g c = λ none.
    (let inside = c.self.inside in
    next_end c.args.snapshot.now inside.places inside.claims inside.begun c.args.self.now c.self.view_is
    (text g.S.Source.left c.args.lines.now) c.replace.new.dest
    (sym c.replace.ensures.value ∙ c.in-End.is) c.replace.ensures.after)

pub returns-in-End-clause-fault : goal.returns-in-End-clause-fault
returns-in-End-clause-fault g c = λ none. no_fault (failure c.args.lines.now) _ none

pub returns-in-Split-clause-went : goal.returns-in-Split-clause-went
returns-in-Split-clause-went g c = λ none. went_nowhere (text g.S.Source.left c.args.lines.now)

pub returns-in-End-clause-went : goal.returns-in-End-clause-went
returns-in-End-clause-went g c = λ none. went_nowhere (text g.S.Source.left c.args.lines.now)
