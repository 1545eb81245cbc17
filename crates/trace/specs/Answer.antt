-- The answers of reading and loading.
use Rattle.std.specs.Prelude.{Bool, ℕ, ◌+◌, Result, Ok, Err, is_ok, ⊤}
use Rattle.trace.specs.declared.answer.Fault.{Fault}
use Rattle.trace.specs.declared.answer.Fault.TheVariants as F
use Rattle.trace.specs.declared.answer.Refusal.{Refusal}

-- accepted, or a refusal
abbrev pub Answer : Type 0
Answer = Result ⊤ Refusal

abbrev pub Accepted : Answer
Accepted = Ok tt

abbrev pub accepted : Answer → Bool
accepted a = is_ok a

-- the refusals, each with its place, of a load or of a part of it
abbrev pub EndsEarly : {A : Type 0} → ℕ → Result A Refusal
EndsEarly at = Err (record { fault = F.EndsEarly; at = at })

abbrev pub BadNumber : {A : Type 0} → ℕ → Result A Refusal
BadNumber at = Err (record { fault = F.BadNumber; at = at })

abbrev pub UnknownKind : {A : Type 0} → ℕ → Result A Refusal
UnknownKind at = Err (record { fault = F.UnknownKind; at = at })

abbrev pub OutOfRange : {A : Type 0} → ℕ → Result A Refusal
OutOfRange at = Err (record { fault = F.OutOfRange; at = at })

abbrev pub GpuBeforeNode : {A : Type 0} → ℕ → Result A Refusal
GpuBeforeNode at = Err (record { fault = F.GpuBeforeNode; at = at })

abbrev pub Repeated : {A : Type 0} → ℕ → Result A Refusal
Repeated at = Err (record { fault = F.Repeated; at = at })

abbrev pub TableFull : {A : Type 0} → ℕ → Result A Refusal
TableFull at = Err (record { fault = F.TableFull; at = at })

abbrev pub AfterEnd : {A : Type 0} → ℕ → Result A Refusal
AfterEnd at = Err (record { fault = F.AfterEnd; at = at })

abbrev pub TooLong : {A : Type 0} → ℕ → Result A Refusal
TooLong at = Err (record { fault = F.TooLong; at = at })

-- document 01's number of each fault
abbrev pub fault_number : Fault → ℕ
fault_number F.EndsEarly = 1
fault_number F.BadNumber = 2
fault_number F.UnknownKind = 3
fault_number F.OutOfRange = 4
fault_number F.GpuBeforeNode = 5
fault_number F.Repeated = 6
fault_number F.TableFull = 7
fault_number F.AfterEnd = 8
fault_number F.TooLong = 9

-- the number of an answer; 0 stands for none
abbrev pub number_of : Answer → ℕ
number_of (Ok done) = 0
number_of (Err e) = fault_number e.fault

-- and its place
abbrev pub place_of : Answer → ℕ
place_of (Ok done) = 0
place_of (Err e) = e.at

-- the same refusal of bytes that stand so much further on
abbrev pub further : ℕ → Refusal → Refusal
further by e = record { fault = e.fault; at = by + e.at }

-- the same of what is read there, or of its refusal
abbrev pub shifted : {A : Type 0} → ℕ → Result A Refusal → Result A Refusal
shifted by (Ok x) = Ok x
shifted by (Err e) = Err (further by e)

-- ---- steps that may be refused

infixl 10 ◌>>=◌
abbrev pub ◌>>=◌ : {A B E : Type 0} → Result A E → (A → Result B E) → Result B E
Ok x >>= f = f x
Err e >>= f = Err e
