-- What is seen of what an enforcer judges by.
use Rattle.std.specs.Arc.{arc_value}
use Rattle.enforce_core.specs.Places.{Place, at_desk, shows}
use Rattle.enforce_core.specs.declared.place.Place as held
use Rattle.enforce_core.specs.declared.place.Place.TheVariants.{Owned, Shared}

abbrev pub place_of : held.Place → Place
place_of (Owned desk) = at_desk desk
place_of (Shared state) = shows (arc_value state)
