use Rattle.std.proofs.Common.{◌≡◌, ◌++◌, take}
use Rattle.std.specs.List.{flat_map}
use Rattle.case_commands.specs.RootTexts.{share_text}
use Rattle.case_commands.proofs.root_writing.put_shares.Given as goal

abbrev pub invariant-loop-share : goal.invariant-loop-share
invariant-loop-share l = l.out.items ≡ l.fn.out.items ++ flat_map (share_text l.snapshot) (take l.share-index l.shares)
