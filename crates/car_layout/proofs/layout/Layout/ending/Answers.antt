use Rattle.std.proofs.Common.{◌≡◌, subst, arith}
use Rattle.call_sets.specs.Counting.{has}
use Rattle.car_layout.specs.Layouts.{LaidOut, ends_at}
use Rattle.car_layout.proofs.TableLemmas.{table_at}
use Rattle.car_layout.proofs.layout.Layout.ending.Goals as goal

pub returns : goal.returns
returns c = λ j.
    let f = c.self.inside in
    subst (λ (l : LaidOut). has c.index.result.now j ≡ ends_at l.snapshot c.args.floor j) c.self.view_is
    (table_at 64 (ends_at f.snapshot.now) f.ending.items c.args.floor j c.index.result.now c.self.invariant.2 (omega (arith, c.requires)) c.index.ensures)
