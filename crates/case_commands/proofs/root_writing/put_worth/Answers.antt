use Rattle.std.proofs.Common.{◌≡◌, ◌++◌, ◌∷◌, [], ◌∙◌, ℕ, rules, to_z, of_z, ap}
use Rattle.std.specs.Prelude.{ℤ, codes}
use Rattle.std.specs.Int.{w128}
use Rattle.case_commands.specs.RootTexts.{signed_line, worth_line}
use Rattle.case_commands.proofs.root_writing.put_worth.Goals as goal

pub returns : goal.returns
returns c =
    let stored : to_z w128 (of_z w128 c.args.worth) ≡ c.args.worth = search rules in
    let old = c.args.out.now.items in
    c.in_ok-put_signed.ensures ∙ ap (λ (n : ℕ). old ++ signed_line (codes "worth") (n ∷ []) (to_z w128 (of_z w128 c.args.worth))) c.id_of_car-id.ensures
    ∙ ap (λ (z : ℤ). old ++ worth_line c.args.snapshot.now c.args.car z) stored
