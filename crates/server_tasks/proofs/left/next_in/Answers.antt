use Rattle.std.proofs.Common.{◌≡◌, ◌++◌, ◌∷◌, [], Some, None, List, ap, ◌∙◌, append-nil}
use Rattle.std.proofs.lemmas.List.Elements.{filter_map-append}
use Rattle.server_tasks.specs.HandOff.{arrivals_in}
use Rattle.server_tasks.specs.declared.places.Place.{Place}
use Rattle.server_tasks.proofs.left.next_in.Goals as goal

given_last : {T : Type 0} (places : List (Place T)) (last : Place T) (given : T) → last.arrival ≡ Some given →
    arrivals_in (places ++ last ∷ []) ≡ arrivals_in places ++ given ∷ []
given_last places last given e = rw (filter_map-append (λ place. place.arrival) places (last ∷ []), e)

nothing_last : {T : Type 0} (places : List (Place T)) (last : Place T) → last.arrival ≡ None → arrivals_in (places ++ last ∷ []) ≡ arrivals_in places
nothing_last places last e = rw (filter_map-append (λ place. place.arrival) places (last ∷ []), e, append-nil)

pub returns-in-Some-arrival-clause-given : goal.returns-in-Some-arrival-clause-given
returns-in-Some-arrival-clause-given g c =
    c.loop-arrival.invariant ∙ (ap arrivals_in c.in-Some.ensures.items ∙ given_last c.pop.new.self.items c.in-Some.field-0 _ c.in-Some-arrival.is)

pub loop-arrival-preserved : goal.loop-arrival-preserved
loop-arrival-preserved g c =
    c.loop-arrival.invariant ∙ (ap arrivals_in c.in-Some.ensures.items ∙ nothing_last c.pop.new.self.items c.in-Some.field-0 c.in-None.is)
