-- The tables as they are loaded: each record is put after those before it.
use Rattle.std.specs.Prelude.{true, false, ℕ, ◌+◌, ◌-◌, set, replicate}
use Rattle.model.specs.Sizes as Sizes
use Rattle.model.specs.Gpu.{no_gpu}
use Rattle.model.specs.Job.{new_job, no_job}
use Rattle.model.specs.Setting.{empty_setting}
use Rattle.model.specs.declared.gpu.Gpu.{Gpu}
use Rattle.model.specs.declared.job.Ask.{Ask}
use Rattle.model.specs.declared.setting.Setting.{Setting}
use Rattle.model.specs.declared.setting.Options.{Options}
use Rattle.trace.specs.declared.record.Card.{Card}
use Rattle.trace.specs.declared.record.Record.{Record}
use Rattle.trace.specs.declared.record.Record.TheVariants as R
use Rattle.loader.specs.declared.loading.Tables.{Tables}

-- nothing is loaded yet
unfoldable pub empty_tables : Tables
empty_tables = record { setting = empty_setting; gpus = replicate Sizes.gpus no_gpu; jobs = replicate Sizes.jobs no_job; told = false }

-- a GPU as loaded, on the latest node: nobody's and uncut
abbrev pub gpu_of : Card → ℕ → Gpu
gpu_of card nodes = record {
  node = nodes - 1;
  kind = card.kind;
  memory = card.memory;
  group = card.group;
  mig = card.mig;
  owner = 0;
  profile = 0;
  slices = 0;
  owners = replicate Sizes.slices 0;
}

-- 1: a node after those before it
unfoldable pub put_node : Setting → ℕ → Setting
put_node s site = record {
  sites = set s.sites s.nodes site;
  nodes = s.nodes + 1;
  gpus = s.gpus;
  jobs = s.jobs;
  quotas = s.quotas;
  mosts = s.mosts;
  options = s.options;
}

-- 3: a tenant's quota, kept plus 1
unfoldable pub put_limit : Setting → ℕ → ℕ → Setting
put_limit s tenant quota = record {
  sites = s.sites;
  nodes = s.nodes;
  gpus = s.gpus;
  jobs = s.jobs;
  quotas = set s.quotas tenant (quota + 1);
  mosts = s.mosts;
  options = s.options;
}

-- 4: a profile's most
unfoldable pub put_profile : Setting → ℕ → ℕ → Setting
put_profile s profile most = record {
  sites = s.sites;
  nodes = s.nodes;
  gpus = s.gpus;
  jobs = s.jobs;
  quotas = s.quotas;
  mosts = set s.mosts profile most;
  options = s.options;
}

-- one more GPU, one more job, the options
unfoldable pub one_gpu : Setting → Setting
one_gpu s = record { sites = s.sites; nodes = s.nodes; gpus = s.gpus + 1; jobs = s.jobs; quotas = s.quotas; mosts = s.mosts; options = s.options }

unfoldable pub one_job : Setting → Setting
one_job s = record { sites = s.sites; nodes = s.nodes; gpus = s.gpus; jobs = s.jobs + 1; quotas = s.quotas; mosts = s.mosts; options = s.options }

unfoldable pub with_options : Setting → Options → Setting
with_options s o = record { sites = s.sites; nodes = s.nodes; gpus = s.gpus; jobs = s.jobs; quotas = s.quotas; mosts = s.mosts; options = o }

unfoldable pub with_setting : Tables → Setting → Tables
with_setting t s = record { setting = s; gpus = t.gpus; jobs = t.jobs; told = t.told }

-- 2: a GPU on the latest node, after those before it
unfoldable pub put_card : Tables → Card → Tables
put_card t card = record { setting = one_gpu t.setting; gpus = set t.gpus t.setting.gpus (gpu_of card t.setting.nodes); jobs = t.jobs; told = t.told }

-- 5: a job after those before it, its whole duration remaining
unfoldable pub put_ask : Tables → Ask → Tables
put_ask t ask = record { setting = one_job t.setting; gpus = t.gpus; jobs = set t.jobs t.setting.jobs (new_job ask); told = t.told }

-- 6: the options
unfoldable pub put_options : Tables → Options → Tables
put_options t o = record { setting = with_options t.setting o; gpus = t.gpus; jobs = t.jobs; told = true }

-- The tables after one more record.
abbrev pub put_record : Tables → Record → Tables
put_record t R.End = t
put_record t (R.Node site) = with_setting t (put_node t.setting site)
put_record t (R.Gpu card) = put_card t card
put_record t (R.Quota tenant quota) = with_setting t (put_limit t.setting tenant quota)
put_record t (R.Profile profile most) = with_setting t (put_profile t.setting profile most)
put_record t (R.Job ask) = put_ask t ask
put_record t (R.Options options) = put_options t options
