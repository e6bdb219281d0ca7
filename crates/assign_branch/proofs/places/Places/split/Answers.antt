use Rattle.std.proofs.Common.{◌≡◌, ◌∙◌, ◌∷◌, true, false, Bool, refl, sym, subst, arith, reverse}
use Rattle.std.specs.Prelude.{All, IsOk, OnOk, is_err, Result, Ok, Err}
use Rattle.std.proofs.lemmas.Bool.{true≢false}
use Rattle.std.proofs.lemmas.Grind.{common_steps}
use Rattle.std.proofs.lemmas.List.Elements.{All-cons}
use Rattle.search_model.specs.Nodes.{IsNodeOf}
use Rattle.assign_branch.specs.Splits.{AreNodes}
use Rattle.assign_branch.proofs.places.Places.split.Goals as goal

is_false : (b : Bool) → (b ≡ true → ⊥) → b ≡ false
is_false true h = absurd (h refl)
is_false false h = refl

not_ok : {A E : Type 0} (r : Result A E) → is_err r ≡ true → IsOk r → ⊥
not_ok (Ok x) e h = cc
not_ok (Err x) e h = true≢false (sym h)

on_ok : {A E : Type 0} (r : Result A E) (P : Type 0) → is_err r ≡ false → OnOk r P → P
on_ok (Ok x) P e h = h
on_ok (Err x) P e h = absurd cc

pub returns-then-is_err-clause-tested : goal.returns-then-is_err-clause-tested
returns-then-is_err-clause-tested c =
    sym (is_false _ (λ e. not_ok c.split.result (sym c.is_err.ensures.value ∙ c.if-is_err.true) (c.split.ensures.accepted.0 e)))

pub returns-clause-nodes : goal.returns-clause-nodes
returns-clause-nodes c s ok at all =
    let both = on_ok c.split.result (AreNodes c.args.node.now c.split.new.first c.split.new.second)
    (sym c.is_err.ensures.value ∙ c.if-is_err.false) c.split.ensures.nodes s ok at in
    let whole : reverse c.push-2.new.self.items ≡ c.split.new.first ∷ c.split.new.second ∷ c.args.self.now = grind (arith, common_steps) in
    subst (All (IsNodeOf s)) (sym whole)
    (All-cons (IsNodeOf s) c.split.new.first (c.split.new.second ∷ c.args.self.now) both.0
    (All-cons (IsNodeOf s) c.split.new.second c.args.self.now both.1 all))
