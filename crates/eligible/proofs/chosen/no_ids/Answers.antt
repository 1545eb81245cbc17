-- What is left to show of `no_ids`.
use mathlib.Core.Path.{sym}
use Rattle.laws.specs.Lists.{pad_none}
use Rattle.eligible.proofs.chosen.no_ids.Goals as goal

pub returns : goal.returns
returns c = sym (pad_none 128 0)
