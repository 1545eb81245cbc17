-- What is left to show of `within_reach`.
use Rattle.std.proofs.Common.{◌≡◌, ◌&&◌, ◌∙◌, rules}
use Rattle.pass.specs.Rank.{low_at}
use Rattle.pass.specs.Stay.{reachable_at, reachables}
use Rattle.pass.specs.RankLaws.{low_first}
use Rattle.pass.proofs.stay.within_reach.Goals as goal

pub returns : goal.returns
unfolding reachables
returns c =
    let start = c.args in
    c.those.ensures (reachable_at start.aware start.sites start.jobs.now start.ask start.gpus.now)
    (λ i b h k. let e : b ≡ (low_at start.ranks.now start.ask.priority i && reachable_at start.aware start.sites start.jobs.now start.ask start.gpus.now i) = search rules in
    e ∙ low_first start.aware start.gpus.now start.n start.sites start.jobs.now start.ask start.ranks.now c.requires i h)
