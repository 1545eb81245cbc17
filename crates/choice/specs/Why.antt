-- Why a whole-GPU job cannot be placed, if it cannot.
use Rattle.std.specs.Prelude.{Bool, ◌&&◌, List, ℕ, ◌/◌, ◌%◌, leb, ltb, eqb, length, Option, Some, None, is_none}
use Rattle.laws.specs.Choice.{pick}
use Rattle.laws.specs.Search.{those}
use Rattle.model.specs.Sizes as Sizes
use Rattle.model.specs.declared.job.Ask.{Ask}
use Rattle.choice.specs.Gang.{enough_on}
use Rattle.choice.specs.declared.why.Why.{Why}
use Rattle.choice.specs.declared.why.Why.TheVariants.{NoCount, NotMultiple, TooFew}

-- Nothing stands against the job.
abbrev pub is_enough : Option Why → Bool
is_enough w = is_none w

-- The gang flag with gang nodes.
abbrev pub is_gang : Ask → Bool
is_gang ask = ask.gang && ltb 0 ask.nodes

-- The nodes that have at least per of the eligible GPUs l.
unfoldable pub candidates : List ℕ → List ℕ → ℕ → List ℕ
candidates nodes l per = those (enough_on nodes l per) Sizes.nodes 0

-- A gang of count GPUs on g nodes: count a multiple of g, and g nodes each with count / g eligible GPUs.
unfoldable pub why_not_gang : List ℕ → List ℕ → ℕ → ℕ → Option Why
why_not_gang nodes l count g = pick (eqb (count % g) 0) (pick (leb g (length (candidates nodes l (count / g)))) None (Some TooFew)) (Some NotMultiple)

-- The cause for a job with the eligible GPUs l: a count of 0 is never placed; a gang by its rule; any other needs count eligible GPUs.
unfoldable pub why_not : List ℕ → List ℕ → Ask → Option Why
why_not nodes l ask =
    pick (eqb ask.count 0) (Some NoCount)
    (pick (is_gang ask) (why_not_gang nodes l ask.count ask.nodes)
    (pick (leb ask.count (length l)) None (Some TooFew)))
