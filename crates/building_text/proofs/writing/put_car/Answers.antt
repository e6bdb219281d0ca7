use Rattle.std.specs.Prelude.{codes}
use Rattle.std.proofs.Common.{ℕ, [], ◌∷◌, ◌++◌, ap, ◌∙◌}
use Rattle.lift_text.specs.Text.{words}
use Rattle.building_text.specs.Written.{served_words}
use Rattle.building_text.proofs.WrittenLemmas.{car_text}
use Rattle.building_text.proofs.writing.put_car.Goals as goal

pub returns : goal.returns
returns c =
    let car = c.args.car.now in
    let old = c.args.out.now.items in
    let times = car.opening ∷ car.closing ∷ car.boarding ∷ car.alighting ∷ [] in
    let numbers = c.in_ok-put_words.ensures.ok ∙ ap (λ (n : ℕ). old ++ words (codes "car") (n ∷ c.from-2.result ∷ times)) c.from.ensures
    ∙ ap (λ (n : ℕ). old ++ words (codes "car") (car.id ∷ n ∷ times)) c.from-2.ensures in
    car_text old (codes "car") (car.id ∷ car.capacity ∷ times)
    (served_words c.args.floors car.serves) c.put_words.new.out.items c.put_served.new.out.items c.push.new.self.items numbers c.in_ok-put_served.ensures
    c.in_ok-push.ensures.items
