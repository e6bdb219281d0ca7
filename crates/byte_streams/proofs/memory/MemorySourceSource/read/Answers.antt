use Rattle.std.proofs.Common.{ap, sym, ◌∙◌, Some}
use Rattle.byte_streams.proofs.KnownBytes.{drop-copied}
use Rattle.byte_streams.proofs.memory.MemorySourceSource.read.Goals as goal

pub returns-clause-given : goal.returns-clause-given
returns-clause-given c =
    let copied = rw c.deref-2.ensures.value at c.copy_front-count.ensures.front in
    ap (λ (s : _). Some s.left) (sym c.self.view_is) ∙ ap Some (drop-copied _ _ _ _ copied)
