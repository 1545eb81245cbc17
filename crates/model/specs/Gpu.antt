-- A GPU of the table.
use Rattle.std.specs.Prelude.{false, replicate}
use Rattle.model.specs.Number.{zero·0}
use Rattle.model.specs.Sizes.{slices}
use Rattle.model.specs.declared.gpu.Gpu.{Gpu}

-- No GPU: nobody's, uncut, all zeros.
abbrev pub no_gpu : Gpu
no_gpu = record { node = 0; kind = 0; memory = zero·0; group = 0; mig = false; owner = 0; profile = 0; slices = 0; owners = replicate slices 0 }
