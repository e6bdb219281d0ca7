use Rattle.std.specs.Prelude.{IfOk, Result, Ok, Err}
use Rattle.case_commands.proofs.Printed.{printed_brief, printed_so}
use Rattle.case_commands.proofs.solving.printed.Goals as goal

on_ok : {A E : Type 0} (r : Result A E) (P Q : A → Type 0) → ((x : A) → P x → Q x) → IfOk r P → IfOk r Q
on_ok (Ok x) P Q on h = on x h
on_ok (Err e) P Q on h = tt

pub returns-then-options-clause-printed : goal.returns-then-options-clause-printed
returns-then-options-clause-printed g c =
    printed_brief c.args.options c.args.snapshot.now c.args.stated.now c.args.tree.twigs c.args.tree.twigs c.if-options.true

pub returns-clause-printed : goal.returns-clause-printed
returns-clause-printed g c =
    on_ok c.certify.result _ _
    (λ claimed is. printed_so c.args.options c.args.snapshot.now c.args.stated.now c.args.tree.twigs claimed.bound claimed.tree.twigs c.if-options.false
    is) c.certify.ensures.certified
