use Rattle.std.proofs.Common.{◌≡◌, ◌++◌, ◌∷◌, [], ◌∙◌, ℕ, rules, to_z, of_z, ap}
use Rattle.std.specs.Prelude.{ℤ, codes}
use Rattle.std.specs.Int.{w128}
use Rattle.case_commands.specs.RootTexts.{price_line, signed_line}
use Rattle.case_commands.proofs.root_writing.put_price.Goals as goal

pub returns : goal.returns
returns c =
    let stored : to_z w128 (of_z w128 c.value.result) ≡ c.value.result = search rules in
    let old = c.args.out.now.items in
    c.in_ok-put_signed.ensures ∙ ap (λ (n : ℕ). old ++ signed_line (codes "price") (n ∷ []) (to_z w128 (of_z w128 c.value.result))) c.id_of_call-id.ensures
    ∙ ap (λ (z : ℤ). old ++ price_line c.args.snapshot.now c.args.call z) (stored ∙ c.value.ensures.value)
