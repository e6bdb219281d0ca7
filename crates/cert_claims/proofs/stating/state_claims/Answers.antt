use Rattle.std.proofs.Common.{refl}
use Rattle.std.specs.Prelude.{IfOk, Result, Ok, Err}
use Rattle.cert_claims.proofs.StatingLemmas.{cut_claimed, whole_claimed}
use Rattle.cert_claims.proofs.stating.state_claims.Goals as goal

pub claims_of-requires-clause-proved : goal.claims_of-requires-clause-proved
claims_of-requires-clause-proved g c =
    let proves = c.requires.proves in
    record { bound = c.args.stated.now.bound; whole = proves.whole; sound = proves.sound; cars = c.requires.cars }

pub returns-in_ok-write_claims-in-Some : goal.returns-in_ok-write_claims-in-Some
returns-in_ok-write_claims-in-Some g c =
    let within = rw c.in-Some.is at c.in_ok-all.ensures in
    let is = rw c.as_slice.ensures.value at c.in_ok-write_claims-in-Some.ensures in
    whole_claimed c.args.snapshot.now c.args.stated.now c.args.tree.twigs c.args.resort c.args.limit c.requires.proves c.in-Some.all.items _ within.0 within.1
    is refl refl

on_ok : {A E : Type 0} (r : Result A E) (P Q : A → Type 0) → ((x : A) → P x → Q x) → IfOk r P → IfOk r Q
on_ok (Ok x) P Q on h = on x h
on_ok (Err e) P Q on h = tt

pub cut-requires-clause-tree : goal.cut-requires-clause-tree
cut-requires-clause-tree g c =
    let proves = c.requires.proves in
    record { whole = proves.whole; sound = proves.sound; cars = c.requires.cars; sizes = c.requires.sizes }

pub returns-in-None : goal.returns-in-None
returns-in-None g c =
    let over = rw c.in-None.is at c.in_ok-all.ensures in
    on_ok c.cut.result _ _
    (λ new is. cut_claimed c.args.snapshot.now c.args.stated.now c.args.tree.twigs c.args.resort c.args.limit c.requires.proves new over is) c.cut.ensures
