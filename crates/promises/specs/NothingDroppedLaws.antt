-- Nothing is dropped: the tables of an accepted trace hold its records, in order and field for field, and nothing else.
use Rattle.std.specs.Prelude.{◌≡◌, refl, Bool, true, false, not, ℕ, zero, suc, ◌+◌, ◌≤◌, ◌<◌, eqb, length, get_or, set, drop, replicate}
use Rattle.std.proofs.Common.{sym, ◌∙◌, arith, length-append, length-set, eqb-true}
use mathlib.Core.List.Memᴰ
use mathlib.Core.List.{List, [], ◌∷◌, ◌++◌, map, map-append, append-nil, Memᴰ}
use Rattle.std.proofs.lemmas.List.{length-map, length-replicate}
use Rattle.std.proofs.lemmas.Bool.{not-false}
use Rattle.laws.specs.Lists.{All, Distinct, all_weaken, all_snoc, distinct_snoc, pad, pad_set, pad_none, set_at}
use Rattle.model.specs.Sizes as Sizes
use Rattle.model.specs.Gpu.{no_gpu}
use Rattle.model.specs.Job.{new_job, no_job}
use Rattle.model.specs.Setting.{default_options}
use Rattle.model.specs.declared.setting.Options.{Options}
use Rattle.model.specs.declared.plan.Plan.{Plan}
use Rattle.promises.specs.RecordFormLaws.{Ranged}
use Rattle.trace.specs.Answer.{Accepted}
use Rattle.trace.specs.declared.record.Record.{Record}
use Rattle.trace.specs.declared.record.Record.TheVariants as R
use Rattle.loader.specs.Fault.{once, fault_of}
use Rattle.loader.specs.FaultLaws.{has_room, has_node}
use Rattle.loader.specs.Tables.{empty_tables, gpu_of, put_node, put_limit, put_profile, one_gpu, one_job, with_options, with_setting, put_card, put_ask, put_options, put_record}
use Rattle.loader.specs.Load.{plan_of, is_end, load}
use Rattle.promises.specs.RunLaws.{Reached, begin, onward, records_of, takes_ranged, load_accepts}
use Rattle.promises.specs.ListedLaws.{gather, gather_snoc, gather_same, gather_member, Entry, site_in, ask_in, quota_in, most_in, options_in, gpu_in, sites_of, asks_of, quotas_of, mosts_of, options_of, gpus_after, gpus_of, gpus_snoc, key_of, Filled, lookup, lookup_absent, lookup_other, lookup_new, lookup_each, all_listed}
use Rattle.loader.specs.declared.loading.Tables.{Tables}

-- ---- one table at a time

-- a table that is this list, in order, and nothing else
pub record Row {A : Type 0} (size : ℕ) (none : A) (listed : List A) (table : List A) (count : ℕ) : Type 0 where
  pub table_is : table ≡ pad size none listed
  pub count_is : count ≡ length listed
  pub room : length listed ≤ size

-- a table that has these numbers under their keys, each key once, and 0 elsewhere
pub record Keyed (size : ℕ) (entries : List Entry) (table : List ℕ) : Type 0 where
  pub size_is : length table ≡ size
  pub each : (k : ℕ) → get_or table k 0 ≡ lookup k entries
  pub distinct : Distinct (map key_of entries)
  pub filled : Filled entries

-- the options given, once, or the default
pub record Chosen (listed : List Options) (options : Options) (told : Bool) : Type 0 where
  pub options_are : options ≡ get_or listed 0 default_options
  pub few : length listed ≤ 1
  pub untold : told ≡ false → listed ≡ []
  pub is_told : told ≡ true → 1 ≤ length listed

row_put : {A : Type 0} (size : ℕ) (none x : A) (listed table : List A) (count : ℕ) → Row size none listed table count → count < size →
    Row size none (listed ++ (x ∷ [])) (set table count x) (count + 1)
row_put size none x listed table count h r =
    let c : count ≡ length listed = h.count_is in
    let t : table ≡ pad size none listed = h.table_is in
    let l : length (listed ++ (x ∷ [])) ≡ length listed + 1 = length-append listed (x ∷ []) in
    let m : length listed < size = omega arith in
    record { table_is = rw (c, t) (pad_set size none listed x m); count_is = omega arith; room = omega arith }

keyed_put : (size : ℕ) (entries : List Entry) (table : List ℕ) (k v : ℕ) → Keyed size entries table → k < size → 1 ≤ v → get_or table k 0 ≡ 0 →
    Keyed size (entries ++ (record { key = k; value = v } ∷ [])) (set table k v)
keyed_put size entries table k v h r p z =
    let x : Entry = record { key = k; value = v } in
    let n : lookup k entries ≡ 0 = sym (h.each k) ∙ z in
    let s : length table ≡ size = h.size_is in
    record {
      size_is = rw (length-set table k v) s;
      each = set_at table k v 0 (λ (i y : ℕ). y ≡ lookup i (entries ++ (x ∷ []))) (omega arith) (sym (lookup_new entries x h.filled n))
          (λ i q. h.each i ∙ sym (lookup_other i entries x q));
      distinct = rw (map-append key_of entries (x ∷ [])) (distinct_snoc (map key_of entries) k h.distinct (lookup_absent k entries h.filled n));
      filled = all_snoc (λ e. 1 ≤ e.value) entries x h.filled p;
    }

chosen_put : (listed : List Options) (options new : Options) (told : Bool) → Chosen listed options told → told ≡ false → Chosen (listed ++ (new ∷ [])) new true
chosen_put listed options new told h e =
    let n : listed ≡ [] = h.untold e in
    record { options_are = rw n; few = rw n (omega arith); untold = λ z. let w : ◌≡◌ {A = ℕ} 0 1 = cc in absurd (omega arith); is_told = λ z. rw n (omega arith) }

-- given once means not given before
not_before : (told : Bool) (at : ℕ) → once told at ≡ Accepted → told ≡ false
not_before true at h = let w : ◌≡◌ {A = ℕ} 0 1 = cc in absurd (omega arith)
not_before false at h = refl

not_given : (n at : ℕ) → once (not (eqb n 0)) at ≡ Accepted → n ≡ 0
not_given n at h = eqb-true n 0 (not-false (eqb n 0) (not_before (not (eqb n 0)) at h))

-- ---- all tables

-- The tables hold these records, which are in range, in order, field for field, and nothing else.
pub record Holds (rs : List Record) (t : Tables) : Type 0 where
  pub ranged : All Ranged rs
  pub unended : All (λ r. is_end r ≡ false) rs
  pub nodes : Row Sizes.nodes 0 (sites_of rs) t.setting.sites t.setting.nodes
  pub gpus : Row Sizes.gpus no_gpu (gpus_of rs) t.gpus t.setting.gpus
  pub placed : All (λ g. g.node < t.setting.nodes) (gpus_of rs)
  pub jobs : Row Sizes.jobs no_job (map new_job (asks_of rs)) t.jobs t.setting.jobs
  pub quotas : Keyed Sizes.tenants (quotas_of rs) t.setting.quotas
  pub mosts : Keyed Sizes.profiles (mosts_of rs) t.setting.mosts
  pub options : Chosen (options_of rs) t.setting.options t.told

-- before the first record
pub holds_none : Holds [] empty_tables
unfolding empty_tables gather gpus_after lookup
holds_none = record {
  ranged = tt;
  unended = tt;
  nodes = record { table_is = sym (pad_none Sizes.nodes 0); count_is = refl; room = omega arith };
  gpus = record { table_is = sym (pad_none Sizes.gpus no_gpu); count_is = refl; room = omega arith };
  placed = tt;
  jobs = record { table_is = sym (pad_none Sizes.jobs no_job); count_is = refl; room = omega arith };
  quotas = record { size_is = length-replicate {A = ℕ} Sizes.tenants 0; each = zeros Sizes.tenants; distinct = tt; filled = tt };
  mosts = record { size_is = length-replicate {A = ℕ} Sizes.profiles 0; each = zeros Sizes.profiles; distinct = tt; filled = tt };
  options = record { options_are = refl; few = omega arith; untold = λ e. refl; is_told = λ e. let w : ◌≡◌ {A = ℕ} 0 1 = cc in absurd (omega arith) };
}
  where
    zeros : (n k : ℕ) → ◌≡◌ {A = ℕ} (get_or (replicate n 0) k 0) 0
    zeros zero k = refl
    zeros (suc n) zero = refl
    zeros (suc n) (suc k) = zeros n k

gpus_same : (rs : List Record) (r : Record) → ((n : ℕ) → gpu_in n r ≡ []) → gpus_of (rs ++ (r ∷ [])) ≡ gpus_of rs
gpus_same rs r e = gpus_snoc 0 rs r ∙ rw (e (0 + length (sites_of rs))) (append-nil (gpus_of rs))

-- one record more, without fault, is put behind those before it, and nothing else changes
pub holds_put : (rs : List Record) (t : Tables) (at : ℕ) (r : Record) → Holds rs t → Ranged r → is_end r ≡ false →
    fault_of t.setting t.told at r ≡ Accepted → Holds (rs ++ (r ∷ [])) (put_record t r)
unfolding put_node put_limit put_profile one_gpu one_job with_options with_setting put_card put_ask put_options
holds_put rs t at R.End h g n f = let w : ◌≡◌ {A = ℕ} 0 1 = cc in absurd (omega arith)
holds_put rs t at (R.Node site) h g n f =
    record {
      ranged = all_snoc Ranged rs (R.Node site) h.ranged g;
      unended = all_snoc (λ x. is_end x ≡ false) rs (R.Node site) h.unended refl;
      nodes = rw (gather_snoc site_in rs (R.Node site))
          (row_put Sizes.nodes 0 site (sites_of rs) t.setting.sites t.setting.nodes h.nodes (has_room t.setting.nodes Sizes.nodes at f));
      gpus = rw (gpus_same rs (R.Node site) (λ i. refl)) h.gpus;
      placed = rw (gpus_same rs (R.Node site) (λ i. refl))
          (all_weaken (λ x. x.node < t.setting.nodes) (λ x. x.node < t.setting.nodes + 1) (gpus_of rs) (λ x l. omega arith) h.placed);
      jobs = rw (gather_same ask_in rs (R.Node site) refl) h.jobs;
      quotas = rw (gather_same quota_in rs (R.Node site) refl) h.quotas;
      mosts = rw (gather_same most_in rs (R.Node site) refl) h.mosts;
      options = rw (gather_same options_in rs (R.Node site) refl) h.options;
    }
holds_put rs t at (R.Gpu card) h g n f =
    let e : 0 + length (sites_of rs) ≡ t.setting.nodes = omega (arith, h.nodes.count_is) in
    record {
      ranged = all_snoc Ranged rs (R.Gpu card) h.ranged g;
      unended = all_snoc (λ x. is_end x ≡ false) rs (R.Gpu card) h.unended refl;
      nodes = rw (gather_same site_in rs (R.Gpu card) refl) h.nodes;
      gpus = rw (gpus_snoc 0 rs (R.Gpu card), e)
          (row_put Sizes.gpus no_gpu (gpu_of card t.setting.nodes) (gpus_of rs) t.gpus t.setting.gpus h.gpus
          (has_node t.setting.nodes t.setting.gpus at f).1);
      placed = rw (gpus_snoc 0 rs (R.Gpu card), e)
          (all_snoc (λ x. x.node < t.setting.nodes) (gpus_of rs) (gpu_of card t.setting.nodes) h.placed
          (omega (arith, (has_node t.setting.nodes t.setting.gpus at f).0)));
      jobs = rw (gather_same ask_in rs (R.Gpu card) refl) h.jobs;
      quotas = rw (gather_same quota_in rs (R.Gpu card) refl) h.quotas;
      mosts = rw (gather_same most_in rs (R.Gpu card) refl) h.mosts;
      options = rw (gather_same options_in rs (R.Gpu card) refl) h.options;
    }
holds_put rs t at (R.Quota tenant quota) h g n f =
    record {
      ranged = all_snoc Ranged rs (R.Quota tenant quota) h.ranged g;
      unended = all_snoc (λ x. is_end x ≡ false) rs (R.Quota tenant quota) h.unended refl;
      nodes = rw (gather_same site_in rs (R.Quota tenant quota) refl) h.nodes;
      gpus = rw (gpus_same rs (R.Quota tenant quota) (λ i. refl)) h.gpus;
      placed = rw (gpus_same rs (R.Quota tenant quota) (λ i. refl)) h.placed;
      jobs = rw (gather_same ask_in rs (R.Quota tenant quota) refl) h.jobs;
      quotas = rw (gather_snoc quota_in rs (R.Quota tenant quota))
          (keyed_put Sizes.tenants (quotas_of rs) t.setting.quotas tenant (quota + 1) h.quotas (omega (arith, g.0)) (omega arith)
          (not_given (get_or t.setting.quotas tenant 0) at f));
      mosts = rw (gather_same most_in rs (R.Quota tenant quota) refl) h.mosts;
      options = rw (gather_same options_in rs (R.Quota tenant quota) refl) h.options;
    }
holds_put rs t at (R.Profile profile most) h g n f =
    record {
      ranged = all_snoc Ranged rs (R.Profile profile most) h.ranged g;
      unended = all_snoc (λ x. is_end x ≡ false) rs (R.Profile profile most) h.unended refl;
      nodes = rw (gather_same site_in rs (R.Profile profile most) refl) h.nodes;
      gpus = rw (gpus_same rs (R.Profile profile most) (λ i. refl)) h.gpus;
      placed = rw (gpus_same rs (R.Profile profile most) (λ i. refl)) h.placed;
      jobs = rw (gather_same ask_in rs (R.Profile profile most) refl) h.jobs;
      quotas = rw (gather_same quota_in rs (R.Profile profile most) refl) h.quotas;
      mosts = rw (gather_snoc most_in rs (R.Profile profile most))
          (keyed_put Sizes.profiles (mosts_of rs) t.setting.mosts profile most h.mosts (omega (arith, g.0)) g.1
          (not_given (get_or t.setting.mosts profile 0) at f));
      options = rw (gather_same options_in rs (R.Profile profile most) refl) h.options;
    }
holds_put rs t at (R.Job ask) h g n f =
    record {
      ranged = all_snoc Ranged rs (R.Job ask) h.ranged g;
      unended = all_snoc (λ x. is_end x ≡ false) rs (R.Job ask) h.unended refl;
      nodes = rw (gather_same site_in rs (R.Job ask) refl) h.nodes;
      gpus = rw (gpus_same rs (R.Job ask) (λ i. refl)) h.gpus;
      placed = rw (gpus_same rs (R.Job ask) (λ i. refl)) h.placed;
      jobs = rw (gather_snoc ask_in rs (R.Job ask), map-append new_job (asks_of rs) (ask ∷ []))
          (row_put Sizes.jobs no_job (new_job ask) (map new_job (asks_of rs)) t.jobs t.setting.jobs h.jobs (has_room t.setting.jobs Sizes.jobs at f));
      quotas = rw (gather_same quota_in rs (R.Job ask) refl) h.quotas;
      mosts = rw (gather_same most_in rs (R.Job ask) refl) h.mosts;
      options = rw (gather_same options_in rs (R.Job ask) refl) h.options;
    }
holds_put rs t at (R.Options new) h g n f =
    record {
      ranged = all_snoc Ranged rs (R.Options new) h.ranged g;
      unended = all_snoc (λ x. is_end x ≡ false) rs (R.Options new) h.unended refl;
      nodes = rw (gather_same site_in rs (R.Options new) refl) h.nodes;
      gpus = rw (gpus_same rs (R.Options new) (λ i. refl)) h.gpus;
      placed = rw (gpus_same rs (R.Options new) (λ i. refl)) h.placed;
      jobs = rw (gather_same ask_in rs (R.Options new) refl) h.jobs;
      quotas = rw (gather_same quota_in rs (R.Options new) refl) h.quotas;
      mosts = rw (gather_same most_in rs (R.Options new) refl) h.mosts;
      options = rw (gather_snoc options_in rs (R.Options new)) (chosen_put (options_of rs) t.setting.options new t.told h.options (not_before t.told at f));
    }

-- all records that a load has read
pub reached_holds : {trace : List ℕ} {rs : List Record} {at : ℕ} {t : Tables} → Reached trace rs at t → Holds rs t
reached_holds begin = holds_none
reached_holds {trace} (onward {rs = rs} {at = at} {t = t} w r k e g f) = holds_put rs t at r (reached_holds w) (takes_ranged (drop at trace) r k e) g f

-- ---- the plan

-- The plan's tables are exactly these records, in order, field for field, and hold nothing else.
pub record Exactly (rs : List Record) (p : Plan) : Type 0 where
  -- the nodes, by their sites
  pub sites : p.setting.sites ≡ pad Sizes.nodes 0 (sites_of rs)
  pub nodes : p.setting.nodes ≡ length (sites_of rs)
  -- the GPUs, each on the latest node before it
  pub gpus : p.gpus ≡ pad Sizes.gpus no_gpu (gpus_of rs)
  pub gpu_count : p.setting.gpus ≡ length (gpus_of rs)
  pub placed : All (λ g. g.node < p.setting.nodes) (gpus_of rs)
  -- the jobs, as loaded
  pub jobs : p.jobs ≡ pad Sizes.jobs no_job (map new_job (asks_of rs))
  pub job_count : p.setting.jobs ≡ length (asks_of rs)
  -- each tenant's quota, plus 1, or 0 for none; no tenant has two
  pub quota_size : length p.setting.quotas ≡ Sizes.tenants
  pub quotas : (tenant : ℕ) → get_or p.setting.quotas tenant 0 ≡ lookup tenant (quotas_of rs)
  pub quota_once : Distinct (map key_of (quotas_of rs))
  -- each profile's most, or 0 for none; no profile has two
  pub most_size : length p.setting.mosts ≡ Sizes.profiles
  pub mosts : (profile : ℕ) → get_or p.setting.mosts profile 0 ≡ lookup profile (mosts_of rs)
  pub most_once : Distinct (map key_of (mosts_of rs))
  -- the options given, at most once, or the default
  pub options : p.setting.options ≡ get_or (options_of rs) 0 default_options
  pub options_once : length (options_of rs) ≤ 1
  -- every record is in one of these lists: their lengths add up
  pub counted : length rs ≡ p.setting.nodes + p.setting.gpus + length (quotas_of rs) + length (mosts_of rs) + p.setting.jobs + length (options_of rs)
  -- no list is longer than its table
  pub node_room : p.setting.nodes ≤ Sizes.nodes
  pub gpu_room : p.setting.gpus ≤ Sizes.gpus
  pub job_room : p.setting.jobs ≤ Sizes.jobs
  -- every field is in its range
  pub ranged : All Ranged rs

holds_exactly : (rs : List Record) (t : Tables) → Holds rs t → Exactly rs (plan_of t)
unfolding plan_of
holds_exactly rs t h =
    let n : t.setting.nodes ≡ length (sites_of rs) = h.nodes.count_is in
    let g : t.setting.gpus ≡ length (gpus_of rs) = h.gpus.count_is in
    let m : length (map new_job (asks_of rs)) ≡ length (asks_of rs) = length-map (asks_of rs) new_job in
    let j : t.setting.jobs ≡ length (asks_of rs) = h.jobs.count_is ∙ m in
    record {
      sites = h.nodes.table_is;
      nodes = n;
      gpus = h.gpus.table_is;
      gpu_count = g;
      placed = h.placed;
      jobs = h.jobs.table_is;
      job_count = j;
      quota_size = h.quotas.size_is;
      quotas = h.quotas.each;
      quota_once = h.quotas.distinct;
      most_size = h.mosts.size_is;
      mosts = h.mosts.each;
      most_once = h.mosts.distinct;
      options = h.options.options_are;
      options_once = h.options.few;
      counted = omega (arith, all_listed 0 rs h.unended);
      node_room = omega (arith, h.nodes.room);
      gpu_room = omega (arith, h.gpus.room);
      job_room = omega (arith, h.jobs.room);
      ranged = h.ranged;
    }

-- an accepted trace's plan is exactly its records
pub load_exactly : (trace : List ℕ) → (load trace).answer ≡ Accepted → Exactly (records_of trace) (load trace).plan
load_exactly trace e =
    let a = load_accepts trace e in
    rw a.plan (holds_exactly (records_of trace) a.tables (reached_holds a.reached))

module _ (rs : List Record) (p : Plan) (exactly : Exactly rs p) where
  -- every quota record stands in the table
  pub each_quota : (tenant quota : ℕ) → Memᴰ (R.Quota tenant quota) rs → get_or p.setting.quotas tenant 0 ≡ quota + 1
  each_quota tenant quota m =
      let x : Entry = record { key = tenant; value = quota + 1 } in
      exactly.quotas tenant ∙ lookup_each (quotas_of rs) x exactly.quota_once (gather_member quota_in rs (R.Quota tenant quota) x m (Memᴰ.head refl))

  -- every profile record stands in the table
  pub each_profile : (profile most : ℕ) → Memᴰ (R.Profile profile most) rs → get_or p.setting.mosts profile 0 ≡ most
  each_profile profile most m =
      let x : Entry = record { key = profile; value = most } in
      exactly.mosts profile ∙ lookup_each (mosts_of rs) x exactly.most_once (gather_member most_in rs (R.Profile profile most) x m (Memᴰ.head refl))

  -- the options record is the plan's
  pub each_options : (o : Options) → Memᴰ (R.Options o) rs → p.setting.options ≡ o
  each_options o m = exactly.options ∙ only (options_of rs) exactly.options_once (gather_member options_in rs (R.Options o) o m (Memᴰ.head refl))
    where
      only : (l : List Options) → length l ≤ 1 → Memᴰ o l → get_or l 0 default_options ≡ o
      only [] h n = absurd (Memᴰ.not-nil n)
      only (x ∷ []) h n = sym (Memᴰ.eq_of_singleton n)
      only (x ∷ y ∷ l) h n = absurd (omega arith)
