use Rattle.std.proofs.Common.{◌≡◌, ◌<◌, length, sym, subst}
use Rattle.call_sets.specs.Counting.{has}
use Rattle.car_layout.specs.Layouts.{LaidOut, is_earlier}
use Rattle.car_layout.proofs.TableLemmas.{table_at}
use Rattle.car_layout.proofs.layout.Layout.earlier.Goals as goal

pub returns : goal.returns
returns c = λ j.
    let f = c.self.inside in
    subst (λ (l : LaidOut). has c.index.result.now j ≡ is_earlier l.snapshot c.args.call j) c.self.view_is
    (table_at (length f.snapshot.now.calls) (is_earlier f.snapshot.now) f.earlier.items c.args.call j c.index.result.now c.self.invariant.3
    (subst (λ (l : LaidOut). c.args.call < length l.snapshot.calls) (sym c.self.view_is) c.requires) c.index.ensures)
