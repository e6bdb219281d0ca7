-- What lines say that make a section.
use Rattle.std.proofs.Common.{◌≡◌, ℕ, ◌+◌, ◌-◌, ◌<◌, ◌≤◌, true, List, [], ◌∷◌, ◌++◌, Some, Ok, Err, refl, sym, ap, ◌∙◌, subst, arith, inl, inr, append_assoc}
use Rattle.std.proofs.Common.{append-nil}
use Rattle.std.specs.Prelude.{codes}
use Rattle.elevator_model.specs.Snapshot.{Snapshot}
use Rattle.search_model.specs.declared.PriceOf.{PriceOf}
use Rattle.search_model.specs.declared.WorthOf.{WorthOf}
use Rattle.search_model.specs.declared.Leaf.{Leaf}
use Rattle.search_model.specs.declared.Twig.{Twig}
use Rattle.search_model.specs.declared.Twig.TheVariants.{Split, Leaf as Tip}
use Rattle.text_sections.specs.Judging.{Judged, ◌>>=◌}
use Rattle.text_sections.specs.Words.{exactly, number, named, says_end}
use Rattle.text_sections.specs.Sections.{Line, goes_on, is_whole, step_of}
use Rattle.text_sections.specs.Canonical.{Goes, Makes}
use Rattle.text_sections.proofs.StepLemmas.{then-inv}
use Rattle.text_sections.proofs.NumberLemmas.{number_one}
use Rattle.cert_text.specs.declared.kinds.Entry.{Entry}
use Rattle.cert_text.specs.declared.kinds.Entry.TheVariants.{Split as SplitEntry, Leaf as LeafEntry, Price as PriceEntry, Worth as WorthEntry, End as EndEntry}
use Rattle.cert_text.specs.Words.{head_said}
use Rattle.cert_text.specs.Entries.{entry_in}
use Rattle.cert_text.specs.Trees.{places_left, sum_of_claims}
use Rattle.cert_text.specs.Drafts.{Draft, blank, rooted, empty_leaf, ends_with_leaf, last_changed, leaf_with_price, leaf_with_worth, standing, taken}
use Rattle.cert_text.specs.Drafts.{judged_head, after}
use Rattle.cert_text.specs.Certs.{says_head, says_split, says_leaf, says_price, says_worth, SayItems, SaysLeaf, SaysTwig, SayTwigs, StandsFor}
use Rattle.cert_text.proofs.EntryLemmas.{step_goes, step_whole, Says, entry_says}
use Rattle.cert_text.proofs.TreeLemmas.{changed_at_end, last_leaf, places-append, split_fills, leaf_fills, places_kept, claims_more, sum_more}

module _ (s : Snapshot) where
  -- ---- one more line of the twigs

  say_more : (lines own : List Line) (twigs : List Twig) (twig : Twig) → SayTwigs s lines twigs → SaysTwig s own twig
      → SayTwigs s (lines ++ own) (twigs ++ twig ∷ [])
  say_more lines own [] twig said says = (own, [], ap (λ (ls : List Line). ls ++ own) said ∙ sym (append-nil own), says, refl)
  say_more lines own (first ∷ twigs) twig said says =
      let later = say_more said.1 own twigs twig said.4 says in
      (said.0, said.1 ++ own, ap (λ (ls : List Line). ls ++ own) said.2 ∙ append_assoc said.0 said.1 own, said.3, later)

  say_last : (lines : List Line) (front : List Twig) (twig : Twig) → SayTwigs s lines (front ++ twig ∷ []) → (before own : List Line) × (lines ≡ before ++ own)
      × SayTwigs s before front × SaysTwig s own twig
  say_last lines [] twig said = ([], said.0, said.2 ∙ ap (λ (ls : List Line). said.0 ++ ls) said.4 ∙ append-nil said.0, refl, said.3)
  say_last lines (first ∷ front) twig said =
      let rest = say_last said.1 front twig said.4 in (
        said.0 ++ rest.0,
        rest.1,
        said.2 ∙ ap (λ (ls : List Line). said.0 ++ ls) rest.2 ∙ sym (append_assoc said.0 rest.0 rest.1),
        (said.0, rest.0, refl, said.3, rest.3),
        rest.4,
      )

  price_more : (lines : List Line) (prices : List PriceOf) (worths : List WorthOf) (words : Line) (price : PriceOf) → SayItems s lines prices worths
      → says_price s words ≡ Ok price → SayItems s (lines ++ words ∷ []) (prices ++ price ∷ []) worths
  price_more [] prices worths words price said says = inl ([], (price, says, ap (λ (ps : List PriceOf). ps ++ price ∷ []) said.0), (refl, said.1))
  price_more (line ∷ lines) prices worths words price said says =
      elim said [
        | inl h ↦ inl (h.0 ++ price ∷ [], (h.1.0, h.1.1, ap (λ (ps : List PriceOf). ps ++ price ∷ []) h.1.2), price_more lines h.0 worths words price h.2 says)
        | inr h ↦ inr (h.0, h.1, price_more lines prices h.0 words price h.2 says)
      ]

  worth_more : (lines : List Line) (prices : List PriceOf) (worths : List WorthOf) (words : Line) (worth : WorthOf) → SayItems s lines prices worths
      → says_worth s words ≡ Ok worth → SayItems s (lines ++ words ∷ []) prices (worths ++ worth ∷ [])
  worth_more [] prices worths words worth said says = inr ([], (worth, says, ap (λ (ws : List WorthOf). ws ++ worth ∷ []) said.1), (said.0, refl))
  worth_more (line ∷ lines) prices worths words worth said says =
      elim said [
        | inl h ↦ inl (h.0, h.1, worth_more lines h.0 worths words worth h.2 says)
        | inr h ↦ inr (h.0 ++ worth ∷ [], (h.1.0, h.1.1, ap (λ (ws : List WorthOf). ws ++ worth ∷ []) h.1.2), worth_more lines prices h.0 words worth h.2 says)
      ]

  -- ---- what the lines behind the first one told

  abbrev pub draft : ℕ → ℕ → List Twig → Draft
  draft places claims twigs = record { snapshot = s; begun = true; places = places; claims = claims; twigs = twigs }

  pub record Told (lines : List Line) (places claims : ℕ) (twigs : List Twig) : Type 0 where
    pub says : SayTwigs s lines twigs
    pub left : places_left 1 twigs ≡ Some places
    pub sums : claims ≡ sum_of_claims twigs
    pub few : claims ≤ 10000000000

  told_split : (lines : List Line) (places claims : ℕ) (twigs : List Twig) (words : Line) (j part : ℕ) → Told lines places claims twigs
      → says_split s words ≡ Ok (SplitEntry j part) → 0 < places
      → Told (lines ++ words ∷ []) (places + 1) claims (twigs ++ Split j part ∷ [])
  told_split lines places claims twigs words j part told says some =
      let sum = sum_more twigs (Split j part) in
      record {
        says = say_more lines (words ∷ []) twigs (Split j part) told.says (record { line = words; lines_are = refl; split_is_said = says });
        left = places-append 1 twigs (Split j part ∷ []) places told.left ∙ split_fills places j part some;
        sums = told.sums ∙ sym (sum ∙ omega arith);
        few = told.few;
      }

  told_leaf : (lines : List Line) (places claims : ℕ) (twigs : List Twig) (words : Line) → Told lines places claims twigs → says_leaf words ≡ Ok tt → 0 < places
      → Told (lines ++ words ∷ []) (places - 1) claims (twigs ++ Tip empty_leaf ∷ [])
  told_leaf lines places claims twigs words told says some =
      let sum = sum_more twigs (Tip empty_leaf) in
      record {
        says = say_more lines (words ∷ []) twigs (Tip empty_leaf) told.says
            (record { first = words; items = []; lines_are = refl; leaf_is_said = says; items_are_said = (refl, refl) });
        left = places-append 1 twigs (Tip empty_leaf ∷ []) places told.left ∙ leaf_fills places empty_leaf some;
        sums = told.sums ∙ sym (sum ∙ omega arith);
        few = told.few;
      }

  priced : (lines : List Line) (places claims : ℕ) (front : List Twig) (leaf : Leaf) (words : Line) (price : PriceOf)
      → Told lines places claims (front ++ Tip leaf ∷ []) → says_price s words ≡ Ok price
      → Told (lines ++ words ∷ []) places claims (front ++ Tip (leaf_with_price leaf price) ∷ [])
  priced lines places claims front leaf words price told says =
      let last = say_last lines front (Tip leaf) told.says in
      let own = last.4 in
      let grown : SaysLeaf s (last.1 ++ words ∷ []) (leaf_with_price leaf price) = record {
        first = own.first;
        items = own.items ++ words ∷ [];
        lines_are = ap (λ (ls : List Line). ls ++ words ∷ []) own.lines_are;
        leaf_is_said = own.leaf_is_said;
        items_are_said = price_more own.items leaf.prices leaf.worths words price own.items_are_said says;
      } in
      let lines_are : lines ++ words ∷ [] ≡ last.0 ++ (last.1 ++ words ∷ []) = ap (λ (ls : List Line). ls ++ words ∷ []) last.2
      ∙ append_assoc last.0 last.1 (words ∷ []) in
      let one = sum_more front (Tip leaf) in
      let two = sum_more front (Tip (leaf_with_price leaf price)) in
      record {
        says = subst (λ (ls : List Line). SayTwigs s ls (front ++ Tip (leaf_with_price leaf price) ∷ [])) (sym lines_are)
            (say_more last.0 (last.1 ++ words ∷ []) front (Tip (leaf_with_price leaf price)) last.3 grown);
        left = places_kept 1 front (leaf_with_price leaf price) leaf ∙ told.left;
        sums = told.sums ∙ one ∙ sym two;
        few = told.few;
      }

  worthy : (lines : List Line) (places claims : ℕ) (front : List Twig) (leaf : Leaf) (words : Line) (worth : WorthOf)
      → Told lines places claims (front ++ Tip leaf ∷ []) → says_worth s words ≡ Ok worth → claims + worth.claim ≤ 10000000000
      → Told (lines ++ words ∷ []) places (claims + worth.claim) (front ++ Tip (leaf_with_worth leaf worth) ∷ [])
  worthy lines places claims front leaf words worth told says few =
      let last = say_last lines front (Tip leaf) told.says in
      let own = last.4 in
      let grown : SaysLeaf s (last.1 ++ words ∷ []) (leaf_with_worth leaf worth) = record {
        first = own.first;
        items = own.items ++ words ∷ [];
        lines_are = ap (λ (ls : List Line). ls ++ words ∷ []) own.lines_are;
        leaf_is_said = own.leaf_is_said;
        items_are_said = worth_more own.items leaf.prices leaf.worths words worth own.items_are_said says;
      } in
      let lines_are : lines ++ words ∷ [] ≡ last.0 ++ (last.1 ++ words ∷ []) = ap (λ (ls : List Line). ls ++ words ∷ []) last.2
      ∙ append_assoc last.0 last.1 (words ∷ []) in
      let one = sum_more front (Tip leaf) in
      let two = sum_more front (Tip (leaf_with_worth leaf worth)) in
      let more = claims_more leaf.worths worth in
      record {
        says = subst (λ (ls : List Line). SayTwigs s ls (front ++ Tip (leaf_with_worth leaf worth) ∷ [])) (sym lines_are)
            (say_more last.0 (last.1 ++ words ∷ []) front (Tip (leaf_with_worth leaf worth)) last.3 grown);
        left = places_kept 1 front (leaf_with_worth leaf worth) leaf ∙ told.left;
        sums = omega (arith, told.sums, one, two, more);
        few = few;
      }

  told_price : (lines : List Line) (places claims : ℕ) (twigs : List Twig) (words : Line) (price : PriceOf) → Told lines places claims twigs
      → says_price s words ≡ Ok price → ends_with_leaf twigs ≡ true
      → Told (lines ++ words ∷ []) places claims (last_changed (λ leaf. leaf_with_price leaf price) twigs)
  told_price lines places claims twigs words price told says ends =
      let last = last_leaf twigs ends in
      let f : Leaf → Leaf = λ leaf. leaf_with_price leaf price in
      let here = subst (λ (ts : List Twig). Told lines places claims ts) last.2 told in
      let is : last_changed f twigs ≡ last.0 ++ Tip (f last.1) ∷ [] = ap (λ (ts : List Twig). last_changed f ts) last.2
      ∙ changed_at_end f last.0 (Tip last.1) in
      subst (λ (ts : List Twig). Told (lines ++ words ∷ []) places claims ts) (sym is) (priced lines places claims last.0 last.1 words price here says)

  told_worth : (lines : List Line) (places claims : ℕ) (twigs : List Twig) (words : Line) (worth : WorthOf) → Told lines places claims twigs
      → says_worth s words ≡ Ok worth → ends_with_leaf twigs ≡ true → claims + worth.claim ≤ 10000000000
      → Told (lines ++ words ∷ []) places (claims + worth.claim) (last_changed (λ leaf. leaf_with_worth leaf worth) twigs)
  told_worth lines places claims twigs words worth told says ends few =
      let last = last_leaf twigs ends in
      let f : Leaf → Leaf = λ leaf. leaf_with_worth leaf worth in
      let here = subst (λ (ts : List Twig). Told lines places claims ts) last.2 told in
      let is : last_changed f twigs ≡ last.0 ++ Tip (f last.1) ∷ [] = ap (λ (ts : List Twig). last_changed f ts) last.2
      ∙ changed_at_end f last.0 (Tip last.1) in
      subst (λ (ts : List Twig). Told (lines ++ words ∷ []) places (claims + worth.claim) ts) (sym is)
      (worthy lines places claims last.0 last.1 words worth here says few)

  -- more lines were read, and they told this draft
  abbrev pub Tells : List Line → Draft → Type 0
  Tells lines d = (places claims : ℕ) × (twigs : List Twig) × (draft places claims twigs ≡ d) × Told lines places claims twigs

  told_by : (lines : List Line) (places claims : ℕ) (twigs : List Twig) (words : Line) (e : Entry) (next : Draft) → Told lines places claims twigs
      → Says (standing (draft places claims twigs)) words e → taken (draft places claims twigs) e ≡ goes_on next
      → Tells (lines ++ words ∷ []) next
  told_by lines places claims twigs words (SplitEntry j part) next told says is =
      (places + 1, claims, twigs ++ Split j part ∷ [], cc, told_split lines places claims twigs words j part told says.0 says.1)
  told_by lines places claims twigs words LeafEntry next told says is =
      (places - 1, claims, twigs ++ Tip empty_leaf ∷ [], cc, told_leaf lines places claims twigs words told says.0 says.1)
  told_by lines places claims twigs words (PriceEntry price) next told says is =
      (places, claims, last_changed (λ leaf. leaf_with_price leaf price) twigs, cc, told_price lines places claims twigs words price told says.0 says.1)
  told_by lines places claims twigs words (WorthEntry worth) next told says is = (
    places,
    claims + worth.claim,
    last_changed (λ leaf. leaf_with_worth leaf worth) twigs,
    cc,
    told_worth lines places claims twigs words worth told says.0 says.1 says.2,
  )
  told_by lines places claims twigs words EndEntry next told says is = absurd cc

  told_line : (lines : List Line) (places claims : ℕ) (twigs : List Twig) (words : Line) (next : Draft) → Told lines places claims twigs
      → after (draft places claims twigs) words ≡ goes_on next → Tells (lines ++ words ∷ []) next
  told_line lines places claims twigs words next told is =
      let d = draft places claims twigs in
      let one = step_goes (entry_in (standing d) words) (taken d) next is in
      told_by lines places claims twigs words one.0 next told (entry_says (standing d) words one.0 one.1) one.2

  told_lines : (more lines : List Line) (places claims : ℕ) (twigs : List Twig) (end : Draft) → Told lines places claims twigs
      → Goes after more (draft places claims twigs) end → Tells (lines ++ more) end
  told_lines [] lines places claims twigs end told goes =
      (places, claims, twigs, goes, subst (λ (ls : List Line). Told ls places claims twigs) (sym (append-nil lines)) told)
  told_lines (words ∷ more) lines places claims twigs end told goes =
      let one = told_line lines places claims twigs words goes.0 told goes.1 in
      let rest = told_lines more (lines ++ words ∷ []) one.0 one.1 one.2 end one.4 (subst (λ (d : Draft). Goes after more d end) (sym one.3) goes.2) in
      (rest.0, rest.1, rest.2, rest.3, subst (λ (ls : List Line). Told ls rest.0 rest.1 rest.2) (append_assoc lines (words ∷ []) more) rest.4)

  -- ---- the first line and the last

  head_is : (judged : Judged ℕ) (next : Draft) → step_of (judged >>= λ _. Ok (goes_on (rooted s))) ≡ goes_on next → (n : ℕ) × (judged ≡ Ok n)
      × (rooted s ≡ next)
  head_is (Ok n) next e = (n, refl, cc)
  head_is (Err code) next e = absurd cc

  head_not_whole : (judged : Judged ℕ) (end : Draft) → step_of (judged >>= λ _. Ok (goes_on (rooted s))) ≡ is_whole end → ⊥
  head_not_whole (Ok n) end e = cc
  head_not_whole (Err code) end e = cc

  pub one_said : (words : Line) (n : ℕ) → judged_head words ≡ Ok n → says_head words ≡ Ok 1
  one_said words n e =
      let name = then-inv (named (codes "certificate") words) (λ _. head_said words) n e in
      let two = then-inv (exactly words 2) (λ _. number words 1 1 1) n name.2 in
      e ∙ ap (λ (k : ℕ). Ok k) (sym (number_one words n two.2))

  head_line : (words : Line) (next : Draft) → after (blank s) words ≡ goes_on next → (rooted s ≡ next) × (says_head words ≡ Ok 1)
  head_line words next e = let one = head_is (judged_head words) next e in (one.2, one_said words one.0 one.1)

  at_root : Told [] 1 0 []
  at_root = record { says = refl; left = refl; sums = refl; few = omega arith }

  end_by : (places claims : ℕ) (twigs : List Twig) (words : Line) (e : Entry) (end : Draft) → Says (standing (draft places claims twigs)) words e
      → taken (draft places claims twigs) e ≡ is_whole end
      → (draft places claims twigs ≡ end) × (says_end words ≡ Ok tt) × (places ≡ 0)
  end_by places claims twigs words (SplitEntry j part) end says is = absurd cc
  end_by places claims twigs words LeafEntry end says is = absurd cc
  end_by places claims twigs words (PriceEntry price) end says is = absurd cc
  end_by places claims twigs words (WorthEntry worth) end says is = absurd cc
  end_by places claims twigs words EndEntry end says is = (cc, says.0, says.1)

  end_line : (places claims : ℕ) (twigs : List Twig) (words : Line) (end : Draft) → after (draft places claims twigs) words ≡ is_whole end
      → (draft places claims twigs ≡ end) × (says_end words ≡ Ok tt) × (places ≡ 0)
  end_line places claims twigs words end is =
      let d = draft places claims twigs in
      let one = step_whole (entry_in (standing d) words) (taken d) end is in
      end_by places claims twigs words one.0 end (entry_says (standing d) words one.0 one.1) one.2

  -- ---- the laws

  -- a draft that has begun was told by the lines behind the first one
  pub front_told : (lines : List Line) (d : Draft) → d.begun ≡ true → Goes after lines (blank s) d → (head : Line) × (more : List Line) × (lines ≡ head ∷ more)
      × (says_head head ≡ Ok 1) × Tells more d
  front_told [] d begun goes = (let same = ap (λ (x : Draft). x.begun) goes in absurd cc)
  front_told (head ∷ more) d begun goes =
      let first = head_line head goes.0 goes.1 in
      (head, more, refl, first.1, told_lines more [] 1 0 [] d at_root (subst (λ (x : Draft). Goes after more x d) (sym first.0) goes.2))

  sound_by : (front : List Line) (last : Line) (before end : Draft) → Goes after front (blank s) before → after before last ≡ is_whole end
      → StandsFor s (front ++ last ∷ []) end.twigs × (end.snapshot ≡ s)
  sound_by [] last before end goes whole = absurd (head_not_whole (judged_head last) end (subst (λ (d : Draft). after d last ≡ is_whole end) (sym goes) whole))
  sound_by (head ∷ more) last before end goes whole =
      let first = head_line head goes.0 goes.1 in
      let told = told_lines more [] 1 0 [] before at_root (subst (λ (x : Draft). Goes after more x before) (sym first.0) goes.2) in
      let over = end_line told.0 told.1 told.2 last end (subst (λ (d : Draft). after d last ≡ is_whole end) (sym told.3) whole) in
      let stands : StandsFor s (head ∷ more ++ last ∷ []) told.2 = record {
        head = head;
        twigs = more;
        end = last;
        lines_are = refl;
        head_is_said = first.1;
        twigs_are_said = told.4.says;
        end_is_said = over.1;
        whole = told.4.left ∙ ap (λ (n : ℕ). Some n) over.2;
        claims = omega (arith, told.4.sums, told.4.few);
      } in
      (subst (λ (d : Draft). StandsFor s (head ∷ more ++ last ∷ []) d.twigs) over.0 stands, sym (ap (λ (d : Draft). d.snapshot) over.0))

  pub sound : (lines : List Line) (end : Draft) → Makes after lines (blank s) end → StandsFor s lines end.twigs
  sound lines end made =
      subst (λ (ls : List Line). StandsFor s ls end.twigs) (sym made.lines_are) (sound_by made.front made.last made.before end made.goes made.whole).0
