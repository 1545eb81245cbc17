-- A pass: the queue is stably sorted, then each job that is in it now is looked at once.
use Rattle.std.specs.Prelude.{◌≡◌, List, ℕ, min, get_or, Float}
use Rattle.std.proofs.Common.{◌∙◌}
use Rattle.laws.specs.Loop.{through}
use Rattle.model.specs.Sizes as Sizes
use Rattle.model.specs.declared.setting.Setting.{Setting}
use Rattle.cluster.specs.Queue.{sorted_queue}
use Rattle.pass.specs.Visit.{visited}
use Rattle.line.specs.declared.join.Line.{Line}
use Rattle.pass.specs.declared.visit.Pass.{Pass}

abbrev pub with_queue : Line → List ℕ → Line
with_queue line queue = record {
  queue = queue;
  waiting = line.waiting;
  victims = line.victims;
  evicted = line.evicted;
  totals = line.totals;
  log = line.log;
  ok = line.ok;
}

-- higher priority first, then earlier arrival; equals keep their order
unfoldable pub sorted : Pass → Pass
sorted p = record {
  gpus = p.gpus;
  jobs = p.jobs;
  line = with_queue p.line (sorted_queue p.jobs p.line.queue p.line.waiting);
  placed = p.placed;
  count = p.count;
}

abbrev pub visit_at : Setting → Float → List ℕ → Pass → ℕ → Pass
visit_at s clock queue p i = visited s clock p (get_or queue i 0)

-- The pass over the sorted queue; victims, which join its end, are not looked at.
unfoldable pub walked : Setting → Float → Pass → Pass
walked s clock p =
    let q = sorted p in
    through (visit_at s clock q.line.queue) q (min q.line.waiting Sizes.jobs) 0

-- the queue sorted, then the walk over it
pub walked_is : (s : Setting) (clock : Float) (p q r : Pass) → q ≡ sorted p →
    r ≡ through (visit_at s clock q.line.queue) q (min q.line.waiting 128) 0 → r ≡ walked s clock p
unfolding walked
walked_is s clock p q r e f = f ∙ rw e
