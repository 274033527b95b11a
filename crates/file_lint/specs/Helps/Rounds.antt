-- Which faults end the rounds of errors at once; only private functions cite this.
use Rattle.std.specs.Prelude.{◌≡◌, ◌⊎◌}
use Rattle.model_conf.specs.declared.fault.ModelFault.{ModelFault}
use Rattle.model_conf.specs.declared.fault.ModelFault.TheVariants.{TooLong, NotUtf8}

-- the fault is one of the bytes, which no line of theirs has
abbrev pub IsOfBytes : ModelFault → Type 0
IsOfBytes why = (why ≡ TooLong) ⊎ (why ≡ NotUtf8)
