-- What a list of records says, table by table: the sites, GPUs, jobs, quotas, profiles and options in the order given, and how one record more changes each.
use Rattle.std.specs.Prelude.{◌≡◌, refl, Bool, true, false, ℕ, ◌+◌, ◌≤◌, eqb, length}
use Rattle.std.proofs.Common.{sym, ◌∙◌, arith, length-append, ne_eqb}
use mathlib.Core.List.Memᴰ
use mathlib.Core.List.{List, [], ◌∷◌, ◌++◌, map, append_assoc, append-nil, Memᴰ}
use Rattle.std.proofs.Math.Logic.{⊎_elim}
use Rattle.std.proofs.lemmas.Bool.{eqb-false}
use Rattle.laws.specs.Choice.{pick}
use Rattle.laws.specs.Lists.{All, Apart, Distinct, all_member}
use Rattle.laws.specs.Tests.{eqb_self}
use Rattle.model.specs.declared.gpu.Gpu.{Gpu}
use Rattle.model.specs.declared.job.Ask.{Ask}
use Rattle.model.specs.declared.setting.Options.{Options}
use Rattle.trace.specs.declared.record.Record.{Record}
use Rattle.trace.specs.declared.record.Record.TheVariants as R
use Rattle.loader.specs.Tables.{gpu_of}
use Rattle.loader.specs.Load.{is_end}

-- ---- what each record says, one behind the other

module _ {A : Type 0} (f : Record → List A) where
  unfoldable pub gather : List Record → List A
  gather [] = []
  gather (r ∷ rs) = f r ++ gather rs

  -- one record more
  pub gather_snoc : (rs : List Record) (r : Record) → gather (rs ++ (r ∷ [])) ≡ gather rs ++ f r
  unfolding gather
  gather_snoc [] r = append-nil (f r)
  gather_snoc (x ∷ rs) r = rw (gather_snoc rs r, append_assoc (f x) (gather rs) (f r))

  -- one that says nothing of it
  pub gather_same : (rs : List Record) (r : Record) → f r ≡ [] → gather (rs ++ (r ∷ [])) ≡ gather rs
  gather_same rs r e = gather_snoc rs r ∙ rw e (append-nil (gather rs))

  -- what a record of the list says is among it
  pub gather_member : (rs : List Record) (r : Record) (x : A) → Memᴰ r rs → Memᴰ x (f r) → Memᴰ x (gather rs)
  unfolding gather
  gather_member [] r x m h = absurd (Memᴰ.not-nil m)
  gather_member (y ∷ rs) r x m h =
      ⊎_elim
      (λ (q : r ≡ y). Memᴰ.append_left (gather rs) (rw q at h))
      (λ (q : Memᴰ r rs). Memᴰ.append_right (f y) (gather_member rs r x q h))
      (Memᴰ.cases_cons m)

-- a number stored under a key
pub record Entry : Type 0 where
  pub key : ℕ
  pub value : ℕ

-- what a record says of the nodes, the jobs, the quotas (kept plus 1), the profiles and the options
abbrev pub site_in : Record → List ℕ
site_in R.End = []
site_in (R.Node site) = site ∷ []
site_in (R.Gpu card) = []
site_in (R.Quota tenant quota) = []
site_in (R.Profile profile most) = []
site_in (R.Job ask) = []
site_in (R.Options options) = []

abbrev pub ask_in : Record → List Ask
ask_in R.End = []
ask_in (R.Node site) = []
ask_in (R.Gpu card) = []
ask_in (R.Quota tenant quota) = []
ask_in (R.Profile profile most) = []
ask_in (R.Job ask) = ask ∷ []
ask_in (R.Options options) = []

abbrev pub quota_in : Record → List Entry
quota_in R.End = []
quota_in (R.Node site) = []
quota_in (R.Gpu card) = []
quota_in (R.Quota tenant quota) = record { key = tenant; value = quota + 1 } ∷ []
quota_in (R.Profile profile most) = []
quota_in (R.Job ask) = []
quota_in (R.Options options) = []

abbrev pub most_in : Record → List Entry
most_in R.End = []
most_in (R.Node site) = []
most_in (R.Gpu card) = []
most_in (R.Quota tenant quota) = []
most_in (R.Profile profile most) = record { key = profile; value = most } ∷ []
most_in (R.Job ask) = []
most_in (R.Options options) = []

abbrev pub options_in : Record → List Options
options_in R.End = []
options_in (R.Node site) = []
options_in (R.Gpu card) = []
options_in (R.Quota tenant quota) = []
options_in (R.Profile profile most) = []
options_in (R.Job ask) = []
options_in (R.Options options) = options ∷ []

-- of the GPUs, with the number of nodes before it: a GPU stands on the latest of them
abbrev pub gpu_in : ℕ → Record → List Gpu
gpu_in nodes R.End = []
gpu_in nodes (R.Node site) = []
gpu_in nodes (R.Gpu card) = gpu_of card nodes ∷ []
gpu_in nodes (R.Quota tenant quota) = []
gpu_in nodes (R.Profile profile most) = []
gpu_in nodes (R.Job ask) = []
gpu_in nodes (R.Options options) = []

-- all that the records say of each
abbrev pub sites_of : List Record → List ℕ
sites_of rs = gather site_in rs

abbrev pub asks_of : List Record → List Ask
asks_of rs = gather ask_in rs

abbrev pub quotas_of : List Record → List Entry
quotas_of rs = gather quota_in rs

abbrev pub mosts_of : List Record → List Entry
mosts_of rs = gather most_in rs

abbrev pub options_of : List Record → List Options
options_of rs = gather options_in rs

unfoldable pub gpus_after : ℕ → List Record → List Gpu
gpus_after nodes [] = []
gpus_after nodes (r ∷ rs) = gpu_in nodes r ++ gpus_after (nodes + length (site_in r)) rs

abbrev pub gpus_of : List Record → List Gpu
gpus_of rs = gpus_after 0 rs

-- one record more, with the nodes before it
pub gpus_snoc : (nodes : ℕ) (rs : List Record) (r : Record) → gpus_after nodes (rs ++ (r ∷ [])) ≡ gpus_after nodes rs ++ gpu_in (nodes + length (sites_of rs)) r
unfolding gpus_after gather
gpus_snoc nodes [] r = let e : nodes + 0 ≡ nodes = omega arith in rw e (append-nil (gpu_in nodes r))
gpus_snoc nodes (x ∷ rs) r =
    let e : nodes + length (site_in x) + length (sites_of rs) ≡ nodes + length (site_in x ++ sites_of rs) = omega (arith, length-append (site_in x) (sites_of rs)) in
    rw (
      gpus_snoc (nodes + length (site_in x)) rs r,
      e,
      append_assoc (gpu_in nodes x) (gpus_after (nodes + length (site_in x)) rs) (gpu_in (nodes + length (site_in x ++ sites_of rs)) r),
    )

-- every record but the end stands in one of the lists, and in one alone: their lengths add up
pub all_listed : (nodes : ℕ) (rs : List Record) → All (λ r. is_end r ≡ false) rs →
    length rs ≡ length (sites_of rs) + length (gpus_after nodes rs) + length (quotas_of rs) + length (mosts_of rs) + length (asks_of rs) + length (options_of rs)
unfolding gpus_after gather
all_listed nodes [] h = refl
all_listed nodes (R.End ∷ rs) h = let z : ◌≡◌ {A = ℕ} 0 1 = cc h.0 in absurd (omega arith)
all_listed nodes (R.Node site ∷ rs) h = omega (arith, all_listed (nodes + 1) rs h.1)
all_listed nodes (R.Gpu card ∷ rs) h = let e : nodes + 0 ≡ nodes = omega arith in rw e (omega (arith, all_listed nodes rs h.1))
all_listed nodes (R.Quota tenant quota ∷ rs) h = let e : nodes + 0 ≡ nodes = omega arith in rw e (omega (arith, all_listed nodes rs h.1))
all_listed nodes (R.Profile profile most ∷ rs) h = let e : nodes + 0 ≡ nodes = omega arith in rw e (omega (arith, all_listed nodes rs h.1))
all_listed nodes (R.Job ask ∷ rs) h = let e : nodes + 0 ≡ nodes = omega arith in rw e (omega (arith, all_listed nodes rs h.1))
all_listed nodes (R.Options options ∷ rs) h = let e : nodes + 0 ≡ nodes = omega arith in rw e (omega (arith, all_listed nodes rs h.1))

-- ---- numbers under keys

-- the keys, and that no number is 0, which stands for none
abbrev pub key_of : Entry → ℕ
key_of e = e.key

abbrev pub Filled : List Entry → Type 0
Filled l = All (λ e. 1 ≤ e.value) l

-- the number under a key, or 0 for none
unfoldable pub lookup : ℕ → List Entry → ℕ
lookup k [] = 0
lookup k (e ∷ l) = pick (eqb e.key k) e.value (lookup k l)

-- none is stored under a key that has no number
pub lookup_absent : (k : ℕ) (l : List Entry) → Filled l → lookup k l ≡ 0 → Apart k (map key_of l)
unfolding lookup
lookup_absent k [] f h = tt
lookup_absent k (e ∷ l) f h = by_key (eqb e.key k) refl h (lookup_absent k l f.1)
  where
    by_key : (b : Bool) → eqb e.key k ≡ b → pick b e.value (lookup k l) ≡ 0 → (lookup k l ≡ 0 → Apart k (map key_of l)) → Apart k (map key_of (e ∷ l))
    by_key true t z i = absurd (omega (arith, f.0))
    by_key false t z i = (λ (q : k ≡ e.key). eqb-false e.key k t (sym q), i z)

-- one entry more changes no other key
pub lookup_other : (k : ℕ) (l : List Entry) (x : Entry) → (k ≡ x.key → ⊥) → lookup k (l ++ (x ∷ [])) ≡ lookup k l
unfolding lookup
lookup_other k [] x h = let n : x.key ≡ k → ⊥ = λ (q : x.key ≡ k). h (sym q) in rw (ne_eqb x.key k n)
lookup_other k (e ∷ l) x h = rw (lookup_other k l x h)

-- and gives the number of its own, where there was none
pub lookup_new : (l : List Entry) (x : Entry) → Filled l → lookup x.key l ≡ 0 → lookup x.key (l ++ (x ∷ [])) ≡ x.value
unfolding lookup
lookup_new [] x f h = rw (eqb_self x.key)
lookup_new (e ∷ l) x f h = by_key (eqb e.key x.key) h (lookup_new l x f.1)
  where
    by_key : (b : Bool) → pick b e.value (lookup x.key l) ≡ 0 → (lookup x.key l ≡ 0 → lookup x.key (l ++ (x ∷ [])) ≡ x.value) →
        pick b e.value (lookup x.key (l ++ (x ∷ []))) ≡ x.value
    by_key true z i = absurd (omega (arith, f.0))
    by_key false z i = i z

map_member : (l : List Entry) (x : Entry) → Memᴰ x l → Memᴰ x.key (map key_of l)
map_member [] x m = absurd (Memᴰ.not-nil m)
map_member (e ∷ l) x m =
    ⊎_elim (λ (q : x ≡ e). Memᴰ.head (rw q)) (λ (q : Memᴰ x l). Memᴰ.tail (map_member l x q)) (Memᴰ.cases_cons m)

-- where no key stands twice, each entry's number is the one under its key
pub lookup_each : (l : List Entry) (x : Entry) → Distinct (map key_of l) → Memᴰ x l → lookup x.key l ≡ x.value
unfolding lookup
lookup_each [] x d m = absurd (Memᴰ.not-nil m)
lookup_each (e ∷ l) x d m =
    ⊎_elim
    (λ (q : x ≡ e). rw (q, eqb_self e.key))
    (λ (q : Memᴰ x l). let n : e.key ≡ x.key → ⊥ = all_member (λ y. e.key ≡ y → ⊥) x.key (map key_of l) d.0 (map_member l x q) in
    rw (ne_eqb e.key x.key n) (lookup_each l x d.1 q))
    (Memᴰ.cases_cons m)
