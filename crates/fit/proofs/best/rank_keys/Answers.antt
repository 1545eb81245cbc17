-- What is left to show of `rank_keys`.
use Rattle.std.proofs.Common.{rules}
use Rattle.eligible.specs.More.{map_is}
use Rattle.fit.specs.Best.{rank, rank_keys}
use Rattle.fit.proofs.best.rank_keys.Goals as goal

pub returns : goal.returns
unfolding rank_keys
returns c = map_is _ (rank c.args.counts.now) (λ x y r k. search rules) 0 0 _ _ _ (search rules) c.map.ensures.items
