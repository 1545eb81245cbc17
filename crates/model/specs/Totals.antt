-- The five running totals.
use Rattle.model.specs.Number.{zero·0}
use Rattle.model.specs.declared.totals.Totals.{Totals}

-- Nothing has happened yet.
abbrev pub no_totals : Totals
no_totals = record { evictions = 0; cuts = 0; penalised = 0; longest = 0; added = zero·0 }
