use Rattle.std.proofs.Common.{sym, subst, List}
use Rattle.std.specs.Prelude.{OnOk, Result, Ok, Err}
use Rattle.search_model.specs.declared.Twig.{Twig}
use Rattle.search_model.specs.declared.Twig.TheVariants.{Leaf as Tip}
use Rattle.search_model.specs.Nodes.{Node}
use Rattle.cert_checker.specs.Judging.{PlacesTwig}
use Rattle.cert_checker.proofs.tasks.Piece.place.Goals as goal

ok_then : {A E : Type 0} (r : Result A E) (P Q : Type 0) → (P → Q) → OnOk r P → OnOk r Q
ok_then (Ok x) P Q on h = on h
ok_then (Err x) P Q on h = tt

pub returns-in-Leaf : goal.returns-in-Leaf
returns-in-Leaf c =
    let places = c.args.places.now in
    ok_then c.add.result ((left : List Node) → PlacesTwig c.args.number c.args.node (Tip c.in-Leaf.leaf) left c.args.self.now left c.add.new.self)
    (PlacesTwig c.args.number c.args.node c.args.twig.now places c.args.self.now places c.add.new.self)
    (λ h. subst (λ (twig : Twig). PlacesTwig c.args.number c.args.node twig places c.args.self.now places c.add.new.self) (sym c.in-Leaf.is) (h places))
    c.add.ensures
