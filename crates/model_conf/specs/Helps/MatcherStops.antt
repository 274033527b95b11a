-- Why a matcher is not read, as a model's fault.
use Rattle.matcher_read.specs.declared.fault.MatcherFault.{MatcherFault}
use Rattle.matcher_read.specs.declared.fault.MatcherFault.TheVariants as m
use Rattle.model_conf.specs.declared.fault.ModelFault.{ModelFault}
use Rattle.model_conf.specs.declared.fault.ModelFault.TheVariants.{NoMemory, Matcher}

-- want of memory is the model's own
abbrev pub fault_of_matcher : MatcherFault → ModelFault
fault_of_matcher m.NoMemory = NoMemory
fault_of_matcher stop = Matcher stop
