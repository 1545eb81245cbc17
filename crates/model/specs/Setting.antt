-- What the trace says of the house.
use Rattle.std.specs.Prelude.{true, false, replicate, Float}
use Rattle.std.specs.Float.{binary64}
use Rattle.std.specs.Float.Ieee.{of_bits}
use Rattle.model.specs.Sizes as Sizes
use Rattle.model.specs.Number.{zero·0, one·0}
use Rattle.model.specs.declared.setting.Options.{Options}
use Rattle.model.specs.declared.setting.Setting.{Setting}

-- 30.0
abbrev pub thirty : Float
thirty = of_bits binary64 0x403e000000000000

-- The options of a trace without an options record: 30.0, 0.0, 1.0, first fit, quota-aware.
abbrev pub default_options : Options
default_options = record { seconds = thirty; penalty = zero·0; multiplier = one·0; best = false; aware = true }

-- No node, no GPU, no job, no quota, no profile.
abbrev pub empty_setting : Setting
empty_setting = record {
  sites = replicate Sizes.nodes 0;
  nodes = 0;
  gpus = 0;
  jobs = 0;
  quotas = replicate Sizes.tenants 0;
  mosts = replicate Sizes.profiles 0;
  options = default_options;
}
