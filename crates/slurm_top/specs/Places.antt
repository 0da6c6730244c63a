-- What is told of a place.
use Rattle.slurm_top.specs.Scripts.{Place, Nowhere, File, Input}
use Rattle.slurm_top.specs.declared.place.Place as place
use Rattle.slurm_top.specs.declared.place.Place.TheVariants as place_as

abbrev pub told_place : place.Place → Place
told_place place_as.Nowhere = Nowhere
told_place (place_as.File name) = File name.now
told_place place_as.Input = Input
