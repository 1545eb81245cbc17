-- What is left to show of `group_keys`.
use Rattle.std.proofs.Common.{rules}
use Rattle.model.specs.Gpu.{no_gpu}
use Rattle.eligible.specs.Keys.{group_of, group_keys}
use Rattle.eligible.specs.More.{map_is}
use Rattle.eligible.proofs.keys.group_keys.Goals as goal

pub returns : goal.returns
unfolding group_keys
returns c = map_is _ group_of (λ x y r k. search rules) no_gpu 0 _ _ _ (search rules) c.map.ensures.items
