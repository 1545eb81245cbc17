-- A running job holds as many GPUs or slices as its started decisions say.
use Rattle.std.specs.Prelude.{◌≡◌, true, false, List, [], ◌∷◌, ◌++◌, ℕ, ◌+◌, ◌≤◌, length, Float}
use Rattle.std.proofs.Common.{sym, ap, ◌∙◌}
use Rattle.laws.specs.Tests.{never_both}
use Rattle.laws.specs.Lists.{All, all_append, all_middle, all_weaken}
use Rattle.model.specs.Number.{bits_of}
use Rattle.model.specs.declared.gpu.Gpu.{Gpu}
use Rattle.model.specs.declared.job.Job.{Job}
use Rattle.model.specs.declared.job.JobState.TheVariants.{Running}
use Rattle.model.specs.declared.setting.Options.{Options}
use Rattle.model.specs.declared.setting.Setting.{Setting}
use Rattle.decision_log.specs.Log.{decisions, most}
use Rattle.decision_log.specs.declared.Decision.{Decision}
use Rattle.decision_log.specs.declared.Kind.TheVariants.{Evicted, Started}
use Rattle.apart.specs.LineLaws.{Sized}
use Rattle.line.specs.declared.join.Line.{Line}
use Rattle.starts.specs.Begin as Begin
use Rattle.starts.specs.Begin.{amount, begun_all}
use Rattle.apart.specs.StartsLaws.{starts_told, begun_ask, all_decisions}
use Rattle.starts.specs.declared.begin.Placing.{Placing}
use Rattle.starts.specs.declared.begin.Begun.{Begun}
use Rattle.pass.specs.Visit.{new_pass}
use Rattle.pass.specs.Walk.{walked}
use Rattle.apart.specs.Told.{Told}
use Rattle.apart.specs.PassLaws.{pass_told}
use Rattle.history.specs.Told.{is_started}
use Rattle.history.specs.Good.{job_at}
use Rattle.history.specs.Owners.{holds, Owners}
use Rattle.history.specs.OwnersChanges.{holds_in}
use Rattle.history.specs.OwnersMeaning.{job_amount}

-- A started decision says how many GPUs or slices the job asks for; jobs are the loaded ones.
abbrev pub SaysAmount : List Job → Decision → Type 0
SaysAmount jobs d = is_started d.kind ≡ true → d.other ≡ amount (job_at jobs d.job).ask

-- one of any other kind says nothing of it
pub says_other : (jobs : List Job) (d : Decision) → is_started d.kind ≡ false → SaysAmount jobs d
says_other jobs d f t = absurd (never_both t f)

-- ---- a pass tells evictions alone

pub says_pass : (s : Setting) (clock : Float) (gpus : List Gpu) (jobs₀ jobs : List Job) (line : Line) → length gpus ≡ 128 → length jobs ≡ 128 →
    Sized line → line.evicted ≡ 0 → line.log.count ≤ 1 → All (SaysAmount jobs₀) (decisions line.log) →
    All (SaysAmount jobs₀) (decisions (walked s clock (new_pass gpus jobs line)).line.log)
says_pass s clock gpus jobs₀ jobs line gs js sized begins own h =
    let t : Told clock (decisions line.log) line.log.count (walked s clock (new_pass gpus jobs line)) = pass_told s clock gpus jobs line gs js sized begins own in
    rw t.all
    (all_append
    (SaysAmount jobs₀)
    (decisions line.log)
    t.evictions
    h
    (all_weaken (λ d. (d.time ≡ bits_of clock) × (d.kind ≡ Evicted)) (SaysAmount jobs₀) t.evictions (λ d q. says_other jobs₀ d (ap is_started q.1)) t.each))

-- ---- the starts

started_say : (options : Options) (clock : Float) (jobs₀ : List Job) (b : Begun) (ps : List Placing) →
    ((k : ℕ) → (job_at b.jobs k).ask ≡ (job_at jobs₀ k).ask) → All (SaysAmount jobs₀) (starts_told options clock b ps)
unfolding starts_told
started_say options clock jobs₀ b [] a = tt
started_say options clock jobs₀ b (p ∷ ps) a =
    (λ t. ap amount (a p.job), started_say options clock jobs₀ (Begin.begun options clock b p) ps (λ k. begun_ask options clock b p k ∙ a k))

pub says_starts : (options : Options) (clock : Float) (jobs₀ : List Job) (b : Begun) (ps : List Placing) → length b.log.table ≡ most →
    b.log.count + length ps ≤ most → ((k : ℕ) → (job_at b.jobs k).ask ≡ (job_at jobs₀ k).ask) → All (SaysAmount jobs₀) (decisions b.log) →
    All (SaysAmount jobs₀) (decisions (begun_all options clock b ps).log)
says_starts options clock jobs₀ b ps l r a h =
    rw (all_decisions options clock b ps l r)
    (all_append (SaysAmount jobs₀) (decisions b.log) (starts_told options clock b ps) h (started_say options clock jobs₀ b ps a))

-- ---- so a running job holds what any of its started decisions says

pub holds_told : (n : ℕ) (gpus : List Gpu) (jobs₀ jobs : List Job) (h : List Decision) → Owners n gpus jobs →
    ((k : ℕ) → (job_at jobs k).ask ≡ (job_at jobs₀ k).ask) → All (SaysAmount jobs₀) h → (before after : List Decision) (d : Decision) →
    h ≡ before ++ (d ∷ after) → d.kind ≡ Started → (job_at jobs d.job).state ≡ Running → (holds (d.job + 1) gpus).gpus + (holds (d.job + 1) gpus).slices ≡ d.other
holds_told n gpus jobs₀ jobs h o asks says before after d e kind run =
    let told : SaysAmount jobs₀ d = all_middle (SaysAmount jobs₀) before d after (rw e at says) in
    job_amount n gpus jobs o d.job (ap holds_in run) ∙ ap amount (asks d.job) ∙ sym (told (ap is_started kind))
