-- What is done to a doubt in turn, and on several ways. Each law is tried at all values.
use Rattle.std.proofs.Common.{◌≡◌, ℕ, zero, suc, Bool, true, ◌&&◌, ◌==◌, refl, sym, ap, ◌∙◌, eqb-true}
use Rattle.std.proofs.lemmas.Bool.{and_parts}
use Rattle.anti_place.specs.declared.flow.Flow.{Flow}
use Rattle.anti_place.specs.declared.flow.Flow.TheVariants.{Stops, Clears, Keeps, Sets}
use Rattle.anti_place.specs.inner.Joined.{then_flow, either}

-- ---- all values

abbrev number : Flow → ℕ
number Stops = 0
number Clears = 1
number Keeps = 2
number Sets = 3

abbrev numbered : ℕ → Flow
numbered zero = Stops
numbered (suc zero) = Clears
numbered (suc (suc zero)) = Keeps
numbered (suc (suc (suc n))) = Sets

number_again : (flow : Flow) → numbered (number flow) ≡ flow
number_again Stops = refl
number_again Clears = refl
number_again Keeps = refl
number_again Sets = refl

abbrev same : Flow → Flow → Bool
same f g = number f == number g

same_flows : (f g : Flow) → same f g ≡ true → f ≡ g
same_flows f g e = sym (number_again f) ∙ ap numbered (eqb-true (number f) (number g) e) ∙ number_again g

abbrev each : (Flow → Bool) → Bool
each test = test Stops && (test Clears && (test Keeps && test Sets))

at_each : (test : Flow → Bool) → each test ≡ true → (flow : Flow) → test flow ≡ true
at_each test all flow =
    let one = and_parts (test Stops) (test Clears && (test Keeps && test Sets)) all in
    let two = and_parts (test Clears) (test Keeps && test Sets) one.1 in
    let three = and_parts (test Keeps) (test Sets) two.1 in
    pick one.0 two.0 three.0 three.1 flow
  where
    pick : test Stops ≡ true → test Clears ≡ true → test Keeps ≡ true → test Sets ≡ true → (flow : Flow) → test flow ≡ true
    pick a b c d Stops = a
    pick a b c d Clears = b
    pick a b c d Keeps = c
    pick a b c d Sets = d

by_one : (these those : Flow → Flow) → each (λ f. same (these f) (those f)) ≡ true → (f : Flow) → these f ≡ those f
by_one these those all f = same_flows (these f) (those f) (at_each (λ f. same (these f) (those f)) all f)

by_three : (these those : Flow → Flow → Flow → Flow) → each (λ f. each (λ g. each (λ h. same (these f g h) (those f g h)))) ≡ true
    → (f g h : Flow) → these f g h ≡ those f g h
by_three these those all f g h =
    same_flows (these f g h) (those f g h)
    (at_each (λ h. same (these f g h) (those f g h))
    (at_each (λ g. each (λ h. same (these f g h) (those f g h)))
    (at_each (λ f. each (λ g. each (λ h. same (these f g h) (those f g h)))) all f) g) h)

-- ---- in turn

pub then_assoc : (f g h : Flow) → then_flow (then_flow f g) h ≡ then_flow f (then_flow g h)
then_assoc = by_three (λ f g h. then_flow (then_flow f g) h) (λ f g h. then_flow f (then_flow g h)) refl

pub then_itself : (f : Flow) → then_flow f f ≡ f
then_itself = by_one (λ f. then_flow f f) (λ f. f) refl

pub then_keeps : (f : Flow) → then_flow f Keeps ≡ f
then_keeps = by_one (λ f. then_flow f Keeps) (λ f. f) refl

pub then_stops : (f : Flow) → then_flow f Stops ≡ Stops
then_stops = by_one (λ f. then_flow f Stops) (λ f. Stops) refl

-- ---- on several ways

pub either_assoc : (f g h : Flow) → either (either f g) h ≡ either f (either g h)
either_assoc = by_three (λ f g h. either (either f g) h) (λ f g h. either f (either g h)) refl

pub either_itself : (f : Flow) → either f f ≡ f
either_itself = by_one (λ f. either f f) (λ f. f) refl

pub either_none : (f : Flow) → either f Stops ≡ f
either_none = by_one (λ f. either f Stops) (λ f. f) refl

pub then_either : (f g h : Flow) → then_flow f (either g h) ≡ either (then_flow f g) (then_flow f h)
then_either = by_three (λ f g h. then_flow f (either g h)) (λ f g h. either (then_flow f g) (then_flow f h)) refl

pub either_then : (f g h : Flow) → then_flow (either f g) h ≡ either (then_flow f h) (then_flow g h)
either_then = by_three (λ f g h. then_flow (either f g) h) (λ f g h. either (then_flow f h) (then_flow g h)) refl
