-- Every row of the table is what the definitions compute: one test, computed. Assumes nothing.
use mathlib.Core.Path.{◌≡◌, refl}
use mathlib.Core.Bool.{true}
use mathlib.Core.List.{◌++◌}
use Rattle.lists.specs.Lists.{all}
use Rattle.model.specs.Room.{container_nodes, containers_needed, nodes_needed, fits}
use Rattle.model.specs.Reading.{walk, has, count, empty}
use Rattle.model.specs.Change.{insert, remove}
use Rattle.model.specs.Commands.{run}
use Rattle.model.specs.Combine.{chosen, combine}
use Rattle.promises.specs.Worked.{marked, ours, computes}

pub worked : all computes (marked ++ ours) ≡ true
unfolding marked ours run combine walk empty fits containers_needed nodes_needed container_nodes has count insert remove chosen
worked = refl
