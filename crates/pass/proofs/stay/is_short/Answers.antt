-- What is left to show of `is_short`.
use Rattle.std.proofs.Common.{◌∙◌}
use Rattle.eligible.specs.Chosen.{list_of}
use Rattle.eligible.specs.Turns.{held}
use Rattle.pass.specs.Stay.{short_looked}
use Rattle.pass.specs.RankLaws.{low_short}
use Rattle.pass.proofs.stay.is_short.Goals as goal

pub returns-then-low_ranks-ask : goal.returns-then-low_ranks-ask
returns-then-low_ranks-ask c =
    let start = c.args in
    low_short start.setting start.gpus.now start.jobs.now start.ask start.ranks.now c.low_ranks.result c.requires
    c.low_ranks.ensures c.if-low_ranks-ask.true

pub returns-else-low_ranks-ask : goal.returns-else-low_ranks-ask
returns-else-low_ranks-ask c =
    let found = c.within_reach-found in
    let start = c.args in
    c.is_some.ensures ∙ short_looked start.setting start.gpus.now start.jobs.now start.ask
    c.why_not.result c.keys_for.result (list_of found.result) c.why_not.ensures (c.keys_for.ensures (list_of found.result))
    (held _ _ found.ensures).0
