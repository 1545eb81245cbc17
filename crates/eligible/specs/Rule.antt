-- The rule that says which whole GPUs a job may take.
use Rattle.std.specs.Prelude.{Bool, ◌&&◌, ◌||◌, ℕ, ◌+◌, eqb, Float}
use Rattle.std.specs.Float.Ieee.{eq, le}
use Rattle.model.specs.Number.{zero·0}
use Rattle.model.specs.declared.gpu.Gpu.{Gpu}
use Rattle.model.specs.declared.job.Ask.{Ask}

-- Memory at least what is asked; 0.0 asks for none.
abbrev pub enough : Float → Float → Bool
enough want have = eq want zero·0 || le want have

-- A type or a site as asked, both stored plus 1; 0, for none, asks for nothing.
abbrev pub asked : ℕ → ℕ → Bool
asked want have = eqb want 0 || eqb have want

-- It is nobody's.
abbrev pub unowned : Gpu → Bool
unowned g = eqb g.owner 0

-- It has no slices.
abbrev pub uncut : Gpu → Bool
uncut g = eqb g.slices 0

-- A whole GPU that the job may take: nobody's, uncut, with the memory, the type and the site of its node that the job asks for.
unfoldable pub eligible : Ask → ℕ → Gpu → Bool
eligible ask site g = ((((unowned g && uncut g) && enough ask.memory g.memory) && asked ask.kind (g.kind + 1)) && asked ask.site site)
