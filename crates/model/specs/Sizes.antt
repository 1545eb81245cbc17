-- The sizes of document 01, each named once.
use Rattle.std.specs.Prelude.{ℕ}

abbrev pub nodes : ℕ
nodes = 32

abbrev pub gpus : ℕ
gpus = 128

abbrev pub slices : ℕ
slices = 7

abbrev pub jobs : ℕ
jobs = 128

abbrev pub tenants : ℕ
tenants = 32

abbrev pub profiles : ℕ
profiles = 16

abbrev pub events : ℕ
events = 1152

abbrev pub trace_bytes : ℕ
trace_bytes = 65536

-- the bits of 2^40
abbrev pub permitted_bits : ℕ
permitted_bits = 0x4270000000000000
