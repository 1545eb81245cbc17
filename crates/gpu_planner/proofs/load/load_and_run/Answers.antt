-- What is left to show of `load_and_run`.
use Rattle.std.proofs.Common.{◌≡◌, refl, sym, ap, ◌∙◌, true, false}
use Rattle.model.specs.declared.plan.Plan.{Plan}
use Rattle.trace.specs.Answer.{Answer, accepted}
use Rattle.loader.specs.Load.{load}
use Rattle.loader.specs.FillLaws.{load_ok, load_err}
use Rattle.loader.specs.declared.load.Loaded.{Loaded}
use Rattle.gpu_planner.specs.Head.{refused_head}
use Rattle.gpu_planner.specs.Run.{run_to, turns}
use Rattle.gpu_planner.specs.Ran.{ran_loaded, ran_refused}
use Rattle.gpu_planner.specs.TopLaws.{plan_free}
use Rattle.gpu_planner.proofs.load.load_and_run.Goals as goal

pub run-requires-clause-free_from : goal.run-requires-clause-free_from
run-requires-clause-free_from c =
    let t = c.load_tables.new.tables in
    rw (c.from-jobs.ensures, c.fill.ensures.over_empty c.empty_plan-plan.ensures) (plan_free t)

pub returns-in-Ok : goal.returns-in-Ok
returns-in-Ok c =
    let trace = c.args.trace.now in
    let ws = c.args.words.now in
    let e = rw (c.in-Ok.is, c.empty_tables-tables.ensures) at c.load_tables.ensures in
    let l = load_ok trace c.load_tables.new.tables e in
    let a : accepted (load trace).answer ≡ true = ap (λ (x : Loaded). accepted x.answer) l in
    let p = c.fill.ensures.over_empty c.empty_plan-plan.ensures ∙ sym (ap (λ (x : Loaded). x.plan) l) in
    let both = ran_loaded trace ws (load trace) refl a c.run.result c.run.new.words
    (c.run.ensures.value ∙ ap (λ (x : Plan). (run_to turns x 0 0 ws).head) p)
    (c.run.ensures.words_after ∙ ap (λ (x : Plan). (run_to turns x 0 0 ws).words) p) in
    record { value = both.0; words_after = both.1 }

pub returns-in-Err : goal.returns-in-Err
returns-in-Err c =
    let trace = c.args.trace.now in
    let e = rw (c.in-Err.is, c.empty_tables-tables.ensures) at c.load_tables.ensures in
    let l = load_err trace c.in-Err.refusal e in
    let a : accepted (load trace).answer ≡ false = ap (λ (x : Answer). accepted x) l in
    let both = ran_refused trace c.args.words.now (load trace) refl a
    c.refused.result (c.refused.ensures ∙ sym (ap (λ (x : Answer). refused_head x) l)) in
    record { value = both.0; words_after = both.1 }
