use Rattle.std.proofs.Common.{◌≡◌, true, rules}
use Rattle.what_if.specs.WhatIf.{takes_asked}
use Rattle.what_if.proofs.ExtraLaws.{extra-told}
use Rattle.what_if.proofs.asking.extra_of.Goals as goal

pub returns-clause-told : goal.returns-clause-told
returns-clause-told g c =
    let s = c.args.snapshot.now in
    let takes : takes_asked s c.args.car ≡ true = search rules in
    extra-told s c.args.limits.rounds c.args.limits.most_tours c.args.before c.in_ok-after.after c.args.car c.extra_between.result takes c.requires.before
    c.in_ok-after.ensures c.extra_between.ensures.told
