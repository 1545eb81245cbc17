-- What is left to show of `planner_run`.
use Rattle.std.proofs.Common.{arith}
use Rattle.gpu_planner.specs.Ran.{done_short, done_ran}
use Rattle.gpu_planner.proofs.planner_run.Goals as goal

pub returns-then-words-lt-RUN_WORDS : goal.returns-then-words-lt-RUN_WORDS
returns-then-words-lt-RUN_WORDS c =
    let both = done_short c.args.trace.now c.args.words.now (omega arith) in
    record { value = both.0; words_after = both.1 }

pub returns : goal.returns
returns c =
    let load-and-run = c.load_and_run-head in
    let start = c.args in
    let both = done_ran start.trace.now start.words.now (omega arith) load-and-run.result _ _ load-and-run.ensures.value load-and-run.ensures.words_after
    c.put_head.ensures in
    record { value = both.0; words_after = both.1 }
