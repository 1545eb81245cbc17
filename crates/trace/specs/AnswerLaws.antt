-- Laws of answers: only Accepted is accepted, no number is over 9; what holds behind a step that may be refused.
use Rattle.std.specs.Prelude.{◌≡◌, refl, true, ◌≤◌, Result, Ok, Err, MatchResult}
use Rattle.std.proofs.Common.{arith}
use Rattle.trace.specs.Answer.{Answer, Accepted, accepted, fault_number, number_of, ◌>>=◌}
use Rattle.trace.specs.declared.answer.Fault.{Fault}
use Rattle.trace.specs.declared.answer.Fault.TheVariants as F

-- only Accepted is accepted
pub accepted_is : (a : Answer) → accepted a ≡ true → a ≡ Accepted
accepted_is (Ok done) h = refl
accepted_is (Err e) h = cc

-- nine numbers, and 0
fault_most : (f : Fault) → fault_number f ≤ 9
fault_most F.EndsEarly = omega arith
fault_most F.BadNumber = omega arith
fault_most F.UnknownKind = omega arith
fault_most F.OutOfRange = omega arith
fault_most F.GpuBeforeNode = omega arith
fault_most F.Repeated = omega arith
fault_most F.TableFull = omega arith
fault_most F.AfterEnd = omega arith
fault_most F.TooLong = omega arith

pub number_most : (a : Answer) → number_of a ≤ 9
number_most (Ok done) = omega arith
number_most (Err e) = fault_most e.fault

-- what holds of a step, and then of the steps behind it, holds of all
pub steps : {A B E : Type 0} (P : A → Type 0) (Q : B → Type 0) (W : E → Type 0) (r : Result A E) (f : A → Result B E) → MatchResult r P W →
    ((x : A) → P x → MatchResult (f x) Q W) → MatchResult (r >>= f) Q W
steps P Q W (Ok x) f h k = k x h
steps P Q W (Err e) f h k = h
