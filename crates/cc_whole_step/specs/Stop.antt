-- Why an evaluation gave nothing, as why a step is not done.
use Rattle.cc_whole_eval.specs.declared.types.Stop.{Stop as Given}
use Rattle.cc_whole_eval.specs.declared.types.Stop.TheVariants as given
use Rattle.cc_whole_step.specs.declared.stop.Stop.{Stop}
use Rattle.cc_whole_step.specs.declared.stop.Stop.TheVariants as stop

abbrev pub stop_of : Given → Stop
stop_of (given.Act a) = stop.Act a
stop_of given.Memory = stop.Memory
