-- The waiting line during a pass: victims join the queue's end in their order.
use Rattle.std.specs.Prelude.{Bool, ◌&&◌, List, [], ◌∷◌, ℕ, get_or, set, Float}
use Rattle.laws.specs.Lists.{pad}
use Rattle.small.specs.Small.{onward}
use Rattle.model.specs.Sizes as Sizes
use Rattle.model.specs.Job.{no_job}
use Rattle.model.specs.Number.{permitted, bits_of}
use Rattle.model.specs.declared.job.Job.{Job}
use Rattle.model.specs.declared.totals.Totals.{Totals}
use Rattle.decision_log.specs.Log.{told}
use Rattle.decision_log.specs.declared.Kind.TheVariants.{Evicted}
use Rattle.decision_log.specs.declared.Log.{Log}
use Rattle.noted.specs.Noted as Noted
use Rattle.line.specs.declared.join.Line.{Line}

-- the line as a pass begins: no victims yet
unfoldable pub new_line : List ℕ → ℕ → Totals → Log → Bool → Line
new_line queue waiting totals log ok = record { queue = queue; waiting = waiting; victims = pad Sizes.jobs 0 []; evicted = 0; totals = totals; log = log; ok = ok }

-- A victim joins the queue's end: the eviction counts, the longest queue is looked at, the decision names the job that it made way for, and what remains of it has to be permitted.
unfoldable pub joined : Float → ℕ → Line → ℕ → Float → Line
joined clock by line v remaining =
    let waiting = onward line.waiting Sizes.jobs in
    record {
      queue = set line.queue line.waiting v;
      waiting = waiting;
      victims = set line.victims line.evicted v;
      evicted = onward line.evicted Sizes.jobs;
      totals = Noted.evicted line.totals waiting;
      log = told line.log (bits_of clock) Evicted v by;
      ok = line.ok && permitted remaining;
    }

-- Several victims, in their order; jobs is the table after they were evicted.
unfoldable pub joined_all : Float → List Job → ℕ → Line → List ℕ → Line
joined_all clock jobs by line [] = line
joined_all clock jobs by line (v ∷ vs) = joined_all clock jobs by (joined clock by line v (get_or jobs v no_job).remaining) vs
