-- What several reads give, and what several writes add, one after another.
use Rattle.std.proofs.Common.{◌≡◌, ℕ, ◌+◌, ◌-◌, ◌≤◌, List, [], ◌++◌, Option, None, Some, length, take, drop, refl, sym, ap, subst, ◌∙◌, append_assoc}
use Rattle.std.proofs.Common.{append-nil}
use Rattle.std.proofs.Math.Seq.{take-add, take-append-add}
use Rattle.std.proofs.lemmas.List.{take-append-drop, take-append-le, length-take-le, take_rest, drop-drop}
use Rattle.std.specs.Io.KnownBytes.{prepend_known, append_known}

pub prepend_known-append : (xs ys : List ℕ) (known : Option (List ℕ)) → prepend_known xs (prepend_known ys known) ≡ prepend_known (xs ++ ys) known
prepend_known-append xs ys None = refl
prepend_known-append xs ys (Some zs) = ap Some (sym (append_assoc xs ys zs))

pub prepend_known-nil : (known : Option (List ℕ)) → known ≡ prepend_known [] known
prepend_known-nil None = refl
prepend_known-nil (Some xs) = refl

pub append_known-nil : (known : Option (List ℕ)) → known ≡ append_known known []
append_known-nil None = refl
append_known-nil (Some xs) = ap Some (sym (append-nil xs))

pub append_known-append : (known : Option (List ℕ)) (xs ys : List ℕ) → append_known (append_known known xs) ys ≡ append_known known (xs ++ ys)
append_known-append None xs ys = refl
append_known-append (Some zs) xs ys = ap Some (append_assoc zs xs ys)

-- what was left gave a front, and then a part
pub given_more : (old mid new : Option (List ℕ)) (front part : List ℕ)
    → old ≡ prepend_known front mid → mid ≡ prepend_known part new → old ≡ prepend_known (front ++ part) new
given_more old mid new front part before now = before ∙ ap (prepend_known front) now ∙ prepend_known-append front part new

-- a sink took the first n of these bytes, and then the next m
pub gained_more : (old mid new : Option (List ℕ)) (xs : List ℕ) (n m : ℕ)
    → mid ≡ append_known old (take n xs) → new ≡ append_known mid (take m (take (length xs - n) (drop n xs))) → new ≡ append_known old (take (n + m) xs)
gained_more old mid new xs n m before now =
    now ∙ ap (λ rest. append_known mid (take m rest)) (take_rest xs n)
    ∙ ap (λ known. append_known known (take m (drop n xs))) before ∙ append_known-append old (take n xs) (take m (drop n xs))
    ∙ ap (append_known old) (sym (take-add n m xs))

-- the front of a list whose rest was written over
pub take-overwritten : (n m : ℕ) (xs ys zs : List ℕ) → n ≤ length xs → m ≤ length ys → take (n + m) (take n xs ++ (ys ++ zs)) ≡ take n xs ++ take m ys
take-overwritten n m xs ys zs inside part =
    let whole : length (take n xs) ≡ n = length-take-le n xs inside in
    subst (λ k. take (k + m) (take n xs ++ (ys ++ zs)) ≡ take n xs ++ take m ys) whole
    (take-append-add (take n xs) (ys ++ zs) m ∙ ap (λ l. take n xs ++ l) (take-append-le m ys zs part))

-- what was left at a place, where the front of it was copied
pub drop-copied : (bytes into : List ℕ) (at count : ℕ)
    → take count into ≡ take count (take (length bytes - at) (drop at bytes)) → drop at bytes ≡ take count into ++ drop (at + count) bytes
drop-copied bytes into at count copied =
    sym (take-append-drop count (drop at bytes))
    ∙ ap (λ l. l ++ drop count (drop at bytes)) (ap (take count) (sym (take_rest bytes at)) ∙ sym copied)
    ∙ ap (λ l. take count into ++ l) (drop-drop count at bytes)
