-- The parts of the banks so far.
use Rattle.std.proofs.Common.{◌≡◌, ◌++◌, take}
use Rattle.day_commands.specs.BanksOutcome.{bank_parts, ids_of, texts_of}
use Rattle.day_commands.proofs.bank_writing.put_banks.Given as goal

abbrev pub invariant-loop-place : goal.invariant-loop-place
invariant-loop-place l = l.out.items ≡ l.initial.out.items ++ bank_parts (ids_of (take l.place l.banks)) (texts_of (take l.place l.logs))
