-- The ranges of the records' fields.
use Rattle.std.specs.Prelude.{ℕ}

abbrev pub last_kind : ℕ
last_kind = 6

abbrev pub sites : ℕ
sites = 64

abbrev pub types : ℕ
types = 255

abbrev pub types_asked : ℕ
types_asked = 256

abbrev pub groups : ℕ
groups = 256

abbrev pub flag : ℕ
flag = 1

abbrev pub tenants : ℕ
tenants = 31

abbrev pub tenants_asked : ℕ
tenants_asked = 32

abbrev pub quotas : ℕ
quotas = 0xffffffff

abbrev pub profiles : ℕ
profiles = 15

abbrev pub profiles_asked : ℕ
profiles_asked = 16

abbrev pub mosts : ℕ
mosts = 7

abbrev pub priorities : ℕ
priorities = 0xffffffff

abbrev pub counts : ℕ
counts = 128

abbrev pub gang_nodes : ℕ
gang_nodes = 32

abbrev pub slices_asked : ℕ
slices_asked = 64

-- the bits of 1.0 and of 1024.0
abbrev pub least_multiplier : ℕ
least_multiplier = 0x3ff0000000000000

abbrev pub multipliers : ℕ
multipliers = 0x4090000000000000
