-- The GPUs that a whole-GPU job gets.
use Rattle.std.specs.Prelude.{Bool, false, ◌||◌, List, [], ℕ, ◌/◌, Option, Some, None}
use Rattle.laws.specs.Choice.{pick}
use Rattle.model.specs.declared.gpu.Gpu.{Gpu}
use Rattle.model.specs.declared.job.Ask.{Ask}
use Rattle.eligible.specs.Chosen.{list_of}
use Rattle.eligible.specs.Keys.{node_keys, group_keys}
use Rattle.eligible.specs.Eligible.{eligibles}
use Rattle.fit.specs.declared.first.Choice.{Choice}
use Rattle.fit.specs.First.{took, first_fit}
use Rattle.fit.specs.Group.{group_choice}
use Rattle.fit.specs.Best.{best_fit}
use Rattle.choice.specs.Gang.{gang_choice}
use Rattle.choice.specs.Why.{is_enough, is_gang, why_not}
use Rattle.choice.specs.declared.why.Why.{Why}

-- The choice among the eligible GPUs l for a job that has room: a gang by the gang choice; the gang flag without nodes, or network
-- demand, by one group over all nodes; any other by best fit or first fit.
unfoldable pub choice_of : List ℕ → List ℕ → List ℕ → Ask → Bool → Choice
choice_of nodes groups l ask best =
    pick (is_gang ask) (gang_choice nodes groups l (ask.count / ask.nodes) ask.nodes)
    (pick (ask.gang || ask.network) (group_choice groups l ask.count)
    (took (pick best (best_fit nodes l ask.count) (first_fit l ask.count)) false))

-- Why the job cannot be placed on the first n GPUs as they are, if it cannot.
unfoldable pub why_not_here : List Gpu → ℕ → List ℕ → Ask → Option Why
why_not_here gpus n sites ask = why_not (node_keys gpus) (eligibles gpus n sites ask) ask

-- Which of the first n GPUs the job gets; none where it cannot be placed.
unfoldable pub choose : List Gpu → ℕ → List ℕ → Ask → Bool → Option Choice
choose gpus n sites ask best =
    pick (is_enough (why_not_here gpus n sites ask))
    (Some (choice_of (node_keys gpus) (group_keys gpus) (eligibles gpus n sites ask) ask best))
    None

-- The GPUs of a choice, and whether it is penalised; none and not where there is no choice.
abbrev pub got_of : Option Choice → List ℕ
got_of None = []
got_of (Some c) = list_of c.chosen

abbrev pub penalised_of : Option Choice → Bool
penalised_of None = false
penalised_of (Some c) = c.penalised
