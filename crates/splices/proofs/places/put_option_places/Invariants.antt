use Rattle.splices.specs.Places.{OptionPlacesPut}
use Rattle.splices.proofs.places.put_option_places.Given as goal

abbrev pub invariant-loop-i : goal.invariant-loop-i
invariant-loop-i l = OptionPlacesPut l.i l.at l.initial.work l.work l.to
