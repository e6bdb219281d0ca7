-- Which picture the words ask for.
use Rattle.std.proofs.Common.{◌≡◌, ◌∙◌, Bool, true, false, cond, List, codes, Option, Some, None, slice_get, IfSome, subst, sym, ap, refl}
use Rattle.std.specs.Str.{bytes_eq}
use Rattle.std.proofs.lemmas.Slice.Eq.{bytes_eq-Decides}
use Rattle.clap.specs.Walk.{Row, Text}
use Rattle.clap.proofs.OnLiterals.{clap_on_literals}
use Rattle.option_words.specs.Given.{AreGiven}
use Rattle.option_words.specs.Options.{IsPlain}
use Rattle.lift_picture.specs.declared.frames.Size.{Size}
use Rattle.draw_command.specs.Words.{AreTaken, IsSecond, app, size_asked, subject_named, word_of}
use Rattle.draw_command.specs.declared.words.Request.{Request}
use Rattle.draw_command.specs.declared.words.Subject.{Subject}
use Rattle.draw_command.specs.declared.words.Subject.TheVariants.{Day, Plan}

pub plain : (subject : Subject) → IsPlain (app subject)
unfolding clap_on_literals
plain Day = record { simple = refl; simple_and_free = refl; no_subcommand = refl; defaults_pass = refl; free = refl }
plain Plan = record { simple = refl; simple_and_free = refl; no_subcommand = refl; defaults_pass = refl; free = refl }

-- ---- the subject

only : {X : Type 0} {a b : X} → Some a ≡ Some b → a ≡ b
only e = cc

named_word : (word : Text) (named : Subject) → subject_named word ≡ Some named → word ≡ word_of named
named_word word named is = by_day (bytes_eq word (codes "day")) refl is
  where
    names : (subject : Subject) → bytes_eq word (word_of subject) ≡ true → Some subject ≡ Some named → word ≡ word_of named
    names subject e same = (bytes_eq-Decides word (word_of subject)).0 e ∙ ap word_of (only same)

    by_plan : (b : Bool) → bytes_eq word (codes "plan") ≡ b → cond b (Some Plan) None ≡ Some named → word ≡ word_of named
    by_plan true e same = names Plan e same
    by_plan false e same = absurd cc

    by_day : (b : Bool) → bytes_eq word (codes "day") ≡ b → cond b (Some Day) (cond (bytes_eq word (codes "plan")) (Some Plan) None) ≡ Some named
        → word ≡ word_of named
    by_day true e same = names Day e same
    by_day false e same = by_plan (bytes_eq word (codes "plan")) refl same

pub known : (words : List Text) (word : Text) (found : Option Subject) → slice_get words 1 ≡ Some word → found ≡ subject_named word
    → IfSome found (IsSecond words)
known words word None second is = tt
known words word (Some named) second is = second ∙ ap Some (named_word word named (sym is))

word_names : (named : Subject) → subject_named (word_of named) ≡ Some named
word_names Day = refl
word_names Plan = refl

-- ---- what is asked for

module _ (words : List Text) (named : Subject) (second : IsSecond words named) where
  taken_subject : (request : Request) → AreTaken words request → request.subject ≡ named
  taken_subject request t =
      let same : word_of request.subject ≡ word_of named = only (sym t.subject ∙ second) in
      only (sym (word_names request.subject) ∙ ap subject_named same ∙ word_names named)

  taken_given : (request : Request) (t : AreTaken words request) → AreGiven (app named) words t.rows
  taken_given request t = subst (λ k. AreGiven (app k) words t.rows) (taken_subject request t) t.given

  pub taken : (rows : List Row) (size : Size) → AreGiven (app named) words rows → size_asked rows ≡ Some size
      → AreTaken words (record { subject = named; size = size })
  taken rows size given asks = record { subject = second; rows = rows; given = given; size = asks }

  taken_size : (rows : List Row) → AreGiven (app named) words rows → (request : Request) → AreTaken words request → size_asked rows ≡ Some request.size
  taken_size rows given request t = ap size_asked (given.found ∙ sym (taken_given request t).found) ∙ t.size

  pub taken_one : (rows : List Row) (size : Size) → AreGiven (app named) words rows → size_asked rows ≡ Some size → (other : Request) → AreTaken words other
      → other ≡ record { subject = named; size = size }
  taken_one rows size given asks other t =
      let subject = taken_subject other t in
      let same = only (sym (taken_size rows given other t) ∙ asks) in
      λ i. record { subject = subject i; size = same i }

  -- where options are not given so, no picture is asked for
  pub refused_by_options : ((rows : List Row) → AreGiven (app named) words rows → ⊥) → (request : Request) → AreTaken words request → ⊥
  refused_by_options none request t = none t.rows (taken_given request t)

  -- nor where they ask for no size
  pub refused_by_rows : (rows : List Row) → AreGiven (app named) words rows → size_asked rows ≡ None → (request : Request) → AreTaken words request → ⊥
  refused_by_rows rows given none request t =
      let clash : None ≡ Some request.size = sym none ∙ taken_size rows given request t in absurd cc
