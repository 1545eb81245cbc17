-- The five running totals, tied to the changes of each step.
use Rattle.std.specs.Prelude.{ℕ, ◌+◌, ◌%◌, ◌^◌, Bool, true, nat_lt, Float}
use Rattle.std.specs.Float.{binary64}
use Rattle.std.specs.Float.Ieee.{add, sub, mul}
use Rattle.laws.specs.Choice.{pick}
use Rattle.model.specs.Number.{one·0}
use Rattle.model.specs.declared.totals.Totals.{Totals}

abbrev pub larger : ℕ → ℕ → ℕ
larger a b = pick (nat_lt a b) b a

-- one more, where it is so
abbrev pub more : ℕ → Bool → ℕ
more n so = pick so ((n + 1) % 2 ^ 64) n

-- added runtime: remaining × (multiplier - 1) for a penalised start
abbrev pub grown : Float → Bool → Float → Float → Float
grown added penalised remaining multiplier = pick penalised (add binary64 added (mul binary64 remaining (sub binary64 multiplier one·0))) added

-- The longest queue is looked at when a job joins.
unfoldable pub joined : Totals → ℕ → Totals
joined t queue = record { evictions = t.evictions; cuts = t.cuts; penalised = t.penalised; longest = larger t.longest queue; added = t.added }

-- An eviction counts, and its victim joins the queue.
unfoldable pub evicted : Totals → ℕ → Totals
evicted t queue = record { evictions = more t.evictions true; cuts = t.cuts; penalised = t.penalised; longest = larger t.longest queue; added = t.added }

-- A start counts its cut as a reconfiguration, its penalty, and the runtime that the penalty adds.
unfoldable pub started : Totals → Bool → Bool → Float → Float → Totals
started t cut penalised remaining multiplier =
    record {
      evictions = t.evictions;
      cuts = more t.cuts cut;
      penalised = more t.penalised penalised;
      longest = t.longest;
      added = grown t.added penalised remaining multiplier;
    }
