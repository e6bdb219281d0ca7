-- Lines that stand for a tree make a section.
use Rattle.std.proofs.Common.{◌≡◌, ℕ, ◌+◌, ◌-◌, ◌≤◌, List, [], ◌∷◌, ◌++◌, Option, None, Some, Ok, Err, refl, sym, ap, ◌∙◌, subst, arith, inl, inr, append_assoc}
use Rattle.std.proofs.Common.{append-nil, IfSome}
use Rattle.elevator_model.specs.Snapshot.{Snapshot}
use Rattle.search_model.specs.declared.PriceOf.{PriceOf}
use Rattle.search_model.specs.declared.WorthOf.{WorthOf}
use Rattle.search_model.specs.declared.Leaf.{Leaf}
use Rattle.search_model.specs.declared.Twig.{Twig}
use Rattle.search_model.specs.declared.Twig.TheVariants.{Split, Leaf as Tip}
use Rattle.lift_text.specs.Reading.{TextState, Reading, reading}
use Rattle.lift_text.specs.declared.faults.TextFault.{TextFault}
use Rattle.lift_text.specs.declared.faults.TextFault.TheVariants.{Read, TooLong, Bad, NoMemory}
use Rattle.text_sections.specs.Sections.{Line, goes_on, step_of, accepted, refused, too_long, outcome}
use Rattle.text_sections.specs.Canonical.{BeginsWith, Goes, Makes}
use Rattle.text_sections.proofs.CanonicalLemmas.{goes-append, made}
use Rattle.text_sections.proofs.StepLemmas.{then-ok}
use Rattle.cert_text.specs.declared.kinds.Entry.{Entry}
use Rattle.cert_text.specs.declared.kinds.Entry.TheVariants.{Split as SplitEntry, Leaf as LeafEntry, Price as PriceEntry, Worth as WorthEntry, End as EndEntry}
use Rattle.cert_text.specs.Entries.{entry_in}
use Rattle.cert_text.specs.Trees.{places_left, sum_of_claims}
use Rattle.cert_text.specs.Drafts.{Draft, blank, rooted, empty_leaf, leaf_with_price, leaf_with_worth, standing, taken, judged_head, after}
use Rattle.cert_text.specs.Certs.{says_head, SayItems, SayTwigs, StandsFor, IsReadCert, IsAnswered}
use Rattle.cert_text.specs.Readers.{IsRefused}
use Rattle.cert_text.proofs.EntryLemmas.{Says, says_entry}
use Rattle.cert_text.proofs.TreeLemmas.{leaf_at_end, changed_at_end, place_of_next, places_behind_split, places_behind_leaf, claims_in, claims_first, sum_first}
use Rattle.cert_text.proofs.SoundLemmas.{draft}

module _ (s : Snapshot) where
  abbrev at : ℕ → ℕ → List Twig → Draft
  at places claims twigs = draft s places claims twigs

  abbrev leaf_of : List PriceOf → List WorthOf → Leaf
  leaf_of prices worths = record { prices = prices; worths = worths }

  -- ---- one line

  head_goes : (words : Line) → says_head words ≡ Ok 1 → after (blank s) words ≡ goes_on (rooted s)
  head_goes words says = ap step_of (then-ok (judged_head words) (λ _. Ok (goes_on (rooted s))) 1 (goes_on (rooted s)) says refl)

  line_is : (places claims : ℕ) (twigs : List Twig) (words : Line) (e : Entry) → Says (standing (at places claims twigs)) words e
      → after (at places claims twigs) words ≡ taken (at places claims twigs) e
  line_is places claims twigs words e says =
      let d = at places claims twigs in
      ap step_of (then-ok (entry_in (standing d) words) (λ x. Ok (taken d x)) e (taken d e) (says_entry (standing d) words e says) refl)

  -- ---- the lines of a leaf

  module _ (front : List Twig) (places : ℕ) where
    abbrev with_leaf : ℕ → List PriceOf → List WorthOf → Draft
    with_leaf claims prices worths = at places claims (front ++ Tip (leaf_of prices worths) ∷ [])

    price_goes : (claims : ℕ) (ps : List PriceOf) (ws : List WorthOf) (words : Line) (price : PriceOf)
        → Says (standing (with_leaf claims ps ws)) words (PriceEntry price)
        → after (with_leaf claims ps ws) words ≡ goes_on (with_leaf claims (ps ++ price ∷ []) ws)
    price_goes claims ps ws words price says =
        line_is places claims (front ++ Tip (leaf_of ps ws) ∷ []) words (PriceEntry price) says
        ∙ ap (λ (ts : List Twig). goes_on (at places claims ts)) (changed_at_end (λ leaf. leaf_with_price leaf price) front (Tip (leaf_of ps ws)))

    worth_goes : (claims : ℕ) (ps : List PriceOf) (ws : List WorthOf) (words : Line) (worth : WorthOf)
        → Says (standing (with_leaf claims ps ws)) words (WorthEntry worth)
        → after (with_leaf claims ps ws) words ≡ goes_on (with_leaf (claims + worth.claim) ps (ws ++ worth ∷ []))
    worth_goes claims ps ws words worth says =
        line_is places claims (front ++ Tip (leaf_of ps ws) ∷ []) words (WorthEntry worth) says
        ∙ ap (λ (ts : List Twig). goes_on (at places (claims + worth.claim) ts))
        (changed_at_end (λ leaf. leaf_with_worth leaf worth) front (Tip (leaf_of ps ws)))

    same_leaf : (claims claims' : ℕ) (ps ps' : List PriceOf) (ws ws' : List WorthOf) → claims ≡ claims' → ps ≡ ps' → ws ≡ ws'
        → with_leaf claims ps ws ≡ with_leaf claims' ps' ws'
    same_leaf claims claims' ps ps' ws ws' c p w = ap (λ (n : ℕ). with_leaf n ps ws) c ∙ ap (λ (xs : List PriceOf). with_leaf claims' xs ws) p
        ∙ ap (λ (xs : List WorthOf). with_leaf claims' ps' xs) w

    items_go : (lines : List Line) (claims : ℕ) (ps : List PriceOf) (ws : List WorthOf) (prices : List PriceOf) (worths : List WorthOf)
        → SayItems s lines prices worths → claims + claims_in worths ≤ 10000000000
        → Goes after lines (with_leaf claims ps ws) (with_leaf (claims + claims_in worths) (ps ++ prices) (ws ++ worths))
    items_go [] claims ps ws prices worths said few =
        let none : claims_in worths ≡ 0 = ap claims_in said.1 in
        same_leaf claims (claims + claims_in worths) ps (ps ++ prices) ws (ws ++ worths) (omega (arith, none))
        (sym (ap (λ (xs : List PriceOf). ps ++ xs) said.0 ∙ append-nil ps)) (sym (ap (λ (xs : List WorthOf). ws ++ xs) said.1 ∙ append-nil ws))
    items_go (line ∷ lines) claims ps ws prices worths said few =
        let ends = leaf_at_end front (Tip (leaf_of ps ws)) in
        let end = with_leaf (claims + claims_in worths) (ps ++ prices) (ws ++ worths) in
        elim said [
          | inl h ↦ (let price = h.1.0 in
              let rest = items_go lines claims (ps ++ price ∷ []) ws h.0 worths h.2 few in
              let same =
              same_leaf (claims + claims_in worths) (claims + claims_in worths) ((ps ++ price ∷ []) ++ h.0) (ps ++ prices) (ws ++ worths)
              (ws ++ worths) refl (append_assoc ps (price ∷ []) h.0 ∙ ap (λ (xs : List PriceOf). ps ++ xs) (sym h.1.2)) refl in (
                with_leaf claims (ps ++ price ∷ []) ws,
                price_goes claims ps ws line price (h.1.1, ends),
                subst (λ (d : Draft). Goes after lines (with_leaf claims (ps ++ price ∷ []) ws) d) same rest,
              ))
          | inr h ↦ (let worth = h.1.0 in
              let sum : claims_in worths ≡ claims_in (worth ∷ h.0) = ap claims_in h.1.2 in
              let apart : claims_in (worth ∷ h.0) ≡ worth.claim + claims_in h.0 = claims_first worth h.0 in
              let rest = items_go lines (claims + worth.claim) ps (ws ++ worth ∷ []) prices h.0 h.2 (omega (arith, few, sum, apart)) in
              let same =
              same_leaf ((claims + worth.claim) + claims_in h.0) (claims + claims_in worths) (ps ++ prices) (ps ++ prices) ((ws ++ worth ∷ []) ++ h.0)
              (ws ++ worths) (omega (arith, sum, apart)) refl (append_assoc ws (worth ∷ []) h.0 ∙ ap (λ (xs : List WorthOf). ws ++ xs) (sym h.1.2)) in (
                with_leaf (claims + worth.claim) ps (ws ++ worth ∷ []),
                worth_goes claims ps ws line worth (h.1.1, ends, omega (arith, few, sum, apart)),
                subst (λ (d : Draft). Goes after lines (with_leaf (claims + worth.claim) ps (ws ++ worth ∷ [])) d) same rest,
              ))
        ]

  -- ---- the lines of the twigs

  same_draft : (places places' claims claims' : ℕ) (twigs twigs' : List Twig) → places ≡ places' → claims ≡ claims' → twigs ≡ twigs'
      → at places claims twigs ≡ at places' claims' twigs'
  same_draft places places' claims claims' twigs twigs' p c t = ap (λ (n : ℕ). at n claims twigs) p ∙ ap (λ (n : ℕ). at places' n twigs) c
      ∙ ap (λ (ts : List Twig). at places' claims' ts) t

  twigs_go : (twigs front : List Twig) (lines : List Line) (places claims left : ℕ) → SayTwigs s lines twigs → places_left places twigs ≡ Some left
      → claims + sum_of_claims twigs ≤ 10000000000
      → Goes after lines (at places claims front) (at left (claims + sum_of_claims twigs) (front ++ twigs))
  twigs_go [] front lines places claims left said fills few =
      let same : places ≡ left = cc in
      subst (λ (ls : List Line). Goes after ls (at places claims front) (at left (claims + 0) (front ++ []))) (sym said)
      (same_draft places left claims (claims + 0) front (front ++ []) same (omega arith) (sym (append-nil front)))
  twigs_go (Split j part ∷ twigs) front lines places claims left said fills few =
      let own = said.3 in
      let next = at (places + 1) claims (front ++ Split j part ∷ []) in
      let some = place_of_next places (Split j part) twigs left fills in
      let one : after (at places claims front) own.line ≡ goes_on next = line_is places claims front own.line (SplitEntry j part) (own.split_is_said, some) in
      let rest = twigs_go twigs (front ++ Split j part ∷ []) said.1 (places + 1) claims left said.4 (places_behind_split places j part twigs left fills)
      (omega (arith, few)) in
      let end = at left (claims + sum_of_claims (Split j part ∷ twigs)) (front ++ Split j part ∷ twigs) in
      let same : at left (claims + sum_of_claims twigs) ((front ++ Split j part ∷ []) ++ twigs) ≡ end =
      same_draft left left (claims + sum_of_claims twigs) (claims + sum_of_claims (Split j part ∷ twigs)) ((front ++ Split j part ∷ []) ++ twigs)
      (front ++ Split j part ∷ twigs) refl (omega arith) (append_assoc front (Split j part ∷ []) twigs) in
      subst (λ (ls : List Line). Goes after ls (at places claims front) end) (sym (said.2 ∙ ap (λ (ls : List Line). ls ++ said.1) own.lines_are))
      (next, one, subst (λ (d : Draft). Goes after said.1 next d) same rest)
  twigs_go (Tip leaf ∷ twigs) front lines places claims left said fills few =
      let own = said.3 in
      let some = place_of_next places (Tip leaf) twigs left fills in
      let begun = at (places - 1) claims (front ++ Tip empty_leaf ∷ []) in
      let one : after (at places claims front) own.first ≡ goes_on begun = line_is places claims front own.first LeafEntry (own.leaf_is_said, some) in
      let sum : sum_of_claims (Tip leaf ∷ twigs) ≡ claims_in leaf.worths + sum_of_claims twigs = sum_first (Tip leaf) twigs in
      let items = items_go front (places - 1) own.items claims [] [] leaf.prices leaf.worths own.items_are_said (omega (arith, few, sum)) in
      let next = at (places - 1) (claims + claims_in leaf.worths) (front ++ Tip leaf ∷ []) in
      let rest = twigs_go twigs (front ++ Tip leaf ∷ []) said.1 (places - 1) (claims + claims_in leaf.worths) left said.4
      (places_behind_leaf places leaf twigs left fills) (omega (arith, few, sum)) in
      let end = at left (claims + sum_of_claims (Tip leaf ∷ twigs)) (front ++ Tip leaf ∷ twigs) in
      let same : at left ((claims + claims_in leaf.worths) + sum_of_claims twigs) ((front ++ Tip leaf ∷ []) ++ twigs) ≡ end =
      same_draft left left ((claims + claims_in leaf.worths) + sum_of_claims twigs) (claims + sum_of_claims (Tip leaf ∷ twigs))
      ((front ++ Tip leaf ∷ []) ++ twigs) (front ++ Tip leaf ∷ twigs) refl (omega (arith, sum)) (append_assoc front (Tip leaf ∷ []) twigs) in
      let whole : Goes after (own.first ∷ own.items) (at places claims front) next = (begun, one, items) in
      subst (λ (ls : List Line). Goes after ls (at places claims front) end) (sym (said.2 ∙ ap (λ (ls : List Line). ls ++ said.1) own.lines_are))
      (goes-append after (own.first ∷ own.items) said.1 (at places claims front) next end whole (subst (λ (d : Draft). Goes after said.1 next d) same rest))

  -- ---- the whole

  abbrev pub final : List Twig → Draft
  final tree = at 0 (0 + sum_of_claims tree) tree

  -- the lines that stand for a tree make a section
  pub stands_made : (lines : List Line) (tree : List Twig) → StandsFor s lines tree → Makes after lines (blank s) (final tree)
  stands_made lines tree says = record {
    front = says.head ∷ says.twigs;
    last = says.end;
    before = final tree;
    lines_are = says.lines_are;
    goes = (rooted s, head_goes says.head says.head_is_said, twigs_go tree [] says.twigs 1 0 0 says.twigs_are_said says.whole (omega (arith, says.claims)));
    whole = line_is 0 (0 + sum_of_claims tree) tree says.end EndEntry (says.end_is_said, refl);
  }

  -- ---- what is answered

  module _ (lines : List Line) (tree : List Twig) (rest : Reading) (says : StandsFor s lines tree) where
    -- what was read of a text that begins with the lines
    pub outcome_is : (read : Reading) → BeginsWith lines read rest → outcome after read (blank s) ≡ accepted (final tree) rest
    outcome_is read begins = made after lines (blank s) (final tree) read rest begins (stands_made lines tree says)

    pub answer_ok : (before now : Option TextState) (found : List Twig) → IsReadCert before s found now
        → IfSome before (λ text. BeginsWith lines (reading text) rest → IsAnswered tree rest (Ok found) now)
    answer_ok None now found read = tt
    answer_ok (Some text) None found read = λ begins. absurd read.2
    answer_ok (Some text) (Some behind) found read = λ begins.
        (let same : accepted read.0 (reading behind) ≡ accepted (final tree) rest = sym read.2 ∙ outcome_is (reading text) begins in
        let ends : read.0 ≡ final tree = cc in
        let left : reading behind ≡ rest = cc in
        (sym read.1 ∙ ap (λ (d : Draft). d.twigs) ends, left))

    pub answer_err : (before now : Option TextState) (fault : TextFault) → IsRefused s before fault
        → IfSome before (λ text. BeginsWith lines (reading text) rest → IsAnswered tree rest (Err fault) now)
    answer_err None now fault read = tt
    answer_err (Some text) now Read read = λ begins. tt
    answer_err (Some text) now NoMemory read = λ begins. tt
    answer_err (Some text) now TooLong read = λ begins. let clash : too_long ≡ accepted (final tree) rest = sym read ∙ outcome_is (reading text) begins in cc
    answer_err (Some text) now (Bad line code) read = λ begins. let clash : refused line code ≡ accepted (final tree) rest = sym read
        ∙ outcome_is (reading text) begins in cc
