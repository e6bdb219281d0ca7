-- What a loop over the calls of `next` has read.
use Rattle.std.proofs.Common.{◌≡◌, ℕ, true, false, List, [], ◌∷◌, ◌++◌, Option, None, Some, Result, Ok, Err, refl, sym, ap, ◌∙◌, subst, IfSome, IfOk, IfErr}
use Rattle.elevator_model.specs.Snapshot.{Snapshot}
use Rattle.search_model.specs.declared.Twig.{Twig}
use Rattle.lift_text.specs.Reading.{TextState}
use Rattle.lift_text.specs.declared.faults.TextFault.{TextFault}
use Rattle.lift_text.specs.declared.faults.TextFault.TheVariants.{NoMemory}
use Rattle.search_model.specs.declared.Twig.TheVariants.{Split}
use Rattle.cert_text.specs.declared.kinds.Begun.{Begun}
use Rattle.cert_text.specs.declared.kinds.Begun.TheVariants.{Nothing, Split as SplitBegun, End as Ended}
use Rattle.cert_text.specs.Pieces.{Reader}
use Rattle.cert_text.specs.Certs.{IsReadCert, IsRefusedCert, IsSaid, ReadsLines}
use Rattle.cert_text.specs.Readers.{HasRead, IsRefused, HandsOutFor, AddsFor, TellsFor}
use Rattle.cert_text.proofs.AgainLemmas.{answer_ok, answer_err}
use Rattle.cert_text.proofs.ReaderLemmas.{hands_split, hands_end, said_read, refused_cert}

-- ---- lines that have not failed

pub no_fault : {X : Type 0} (failed : Option TextFault) (answer : Result X TextFault) → failed ≡ None → IfSome failed (λ fault. answer ≡ Err fault)
no_fault failed answer e = subst (λ (o : Option TextFault). IfSome o (λ fault. answer ≡ Err fault)) (sym e) tt

pub was_whole : {X : Type 0} (failed : Option TextFault) (found : X) → IfSome failed (λ fault. Ok found ≡ Err fault) → failed ≡ None
was_whole None found again = refl
was_whole (Some fault) found again = absurd cc

-- ---- a call of `next` that does not read

abbrev pub reader_with : ℕ → ℕ → Begun → Reader
reader_with places claims begun = record { places = places; claims = claims; begun = begun }

module _ (s : Snapshot) (places claims : ℕ) (begun : Begun) (reader : Reader) (same : reader_with places claims begun ≡ reader)
    (before : Option TextState) where
  pub next_split : (j part : ℕ) → begun ≡ SplitBegun j part → HandsOutFor s reader before (Ok (Some (Split j part))) (reader_with places claims Nothing) before
  next_split j part is =
      subst (λ (r : Reader). HandsOutFor s r before (Ok (Some (Split j part))) (reader_with places claims Nothing) before)
      (ap (reader_with places claims) (sym is) ∙ same) (hands_split s places claims j part before)

  pub next_end : (left : Begun) → begun ≡ Ended → left ≡ Ended → HandsOutFor s reader before (Ok None) (reader_with places claims left) before
  next_end left is end =
      subst (λ (b : Begun). HandsOutFor s reader before (Ok None) (reader_with places claims b) before) (sym end)
      (subst (λ (r : Reader). HandsOutFor s r before (Ok None) (reader_with places claims Ended) before) (ap (reader_with places claims) (sym is) ∙ same)
      (hands_end s places claims before))

-- ---- a step of the loop

module _ (s : Snapshot) where
  pub refused_memory : (first : Option TextState) (fault : TextFault) → fault ≡ NoMemory → IsRefused s first fault
  refused_memory first fault e = subst (λ (f : TextFault). IsRefused s first f) (sym e) tt

  -- the twig that was handed out is added
  pub adds_twig : (reader reader' : Reader) (tree tree' : List Twig) (twig : Twig) (before now : Option TextState)
      → HandsOutFor s reader before (Ok (Some twig)) reader' now → tree' ≡ tree ++ twig ∷ [] → AddsFor s reader tree before (Ok false) reader' tree' now
  adds_twig reader reader' tree tree' twig before now told is = λ first h.
      subst (λ (ts : List Twig). HasRead s first reader' ts now) (sym is) (told first tree h).0

  -- none is left
  pub adds_none : (reader reader' : Reader) (tree : List Twig) (before now : Option TextState) → HandsOutFor s reader before (Ok None) reader' now
      → AddsFor s reader tree before (Ok true) reader' tree now
  adds_none reader reader' tree before now told = λ first h. (let one = told first tree h in (one.1, one.2))

  pub adds_fault : (reader reader' : Reader) (tree tree' : List Twig) (fault : TextFault) (before now : Option TextState)
      → HandsOutFor s reader before (Err fault) reader' now → AddsFor s reader tree before (Err fault) reader' tree' now
  adds_fault reader reader' tree tree' fault before now told = λ first h. told first tree h

  pub adds_memory : (reader reader' : Reader) (tree tree' : List Twig) (fault : TextFault) (before now : Option TextState) → fault ≡ NoMemory
      → AddsFor s reader tree before (Err fault) reader' tree' now
  adds_memory reader reader' tree tree' fault before now e = λ first h. refused_memory first fault e

  -- ---- the loop

  -- so far this was read: whatever had been read and handed out before, now it is this
  abbrev pub HasGone : (reader : Reader) → (tree : List Twig) → (before : Option TextState) → (reader' : Reader) → (tree' : List Twig)
      → (now : Option TextState) → Type 0
  HasGone reader tree before reader' tree' now = (first : Option TextState) → HasRead s first reader tree before → HasRead s first reader' tree' now

  pub gone_on : (reader reader' reader'' : Reader) (tree tree' tree'' : List Twig) (before now later : Option TextState)
      → HasGone reader tree before reader' tree' now → AddsFor s reader' tree' now (Ok false) reader'' tree'' later
      → HasGone reader tree before reader'' tree'' later
  gone_on reader reader' reader'' tree tree' tree'' before now later gone adds = λ first h. adds first (gone first h)

  pub tells_whole : (reader reader' reader'' : Reader) (tree tree' tree'' : List Twig) (before now later : Option TextState)
      → HasGone reader tree before reader' tree' now → AddsFor s reader' tree' now (Ok true) reader'' tree'' later
      → TellsFor s reader tree before (Ok tt) tree'' later
  tells_whole reader reader' reader'' tree tree' tree'' before now later gone adds = λ first h. adds first (gone first h)

  pub tells_fault : (reader reader' reader'' : Reader) (tree tree' tree'' : List Twig) (fault : TextFault) (before now later : Option TextState)
      → HasGone reader tree before reader' tree' now → AddsFor s reader' tree' now (Err fault) reader'' tree'' later
      → TellsFor s reader tree before (Err fault) tree'' later
  tells_fault reader reader' reader'' tree tree' tree'' fault before now later gone adds = λ first h. adds first (gone first h)

  -- ---- a whole certificate

  module _ (before now : Option TextState) where
    pub answer_of : (answer : Result (List Twig) TextFault) → IfOk answer (λ tree. IsSaid before s tree now)
        → IfOk answer (λ tree. IsReadCert before s tree now)
    answer_of (Ok tree) said = said_read s before now tree said
    answer_of (Err fault) said = tt

    pub refused_of : (answer : Result (List Twig) TextFault) → IfErr answer (λ fault. IsRefused s before fault)
        → IfErr answer (λ fault. IsRefusedCert before s fault now)
    refused_of (Ok tree) refused = tt
    refused_of (Err fault) refused = refused_cert s before now fault refused

    pub lines_of : (answer : Result (List Twig) TextFault) → IfOk answer (λ tree. IsSaid before s tree now) → IfErr answer (λ fault. IsRefused s before fault)
        → ReadsLines before s answer now
    lines_of (Ok found) said refused = λ lines tree rest says. answer_ok s lines tree rest says before now found (said_read s before now found said)
    lines_of (Err fault) said refused = λ lines tree rest says. answer_err s lines tree rest says before now fault refused
