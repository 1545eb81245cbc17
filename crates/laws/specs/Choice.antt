-- Choosing by a test.
use Rattle.std.specs.Prelude.{◌≡◌, refl, Bool, true, false}

-- the first if the test holds, else the second
abbrev pub pick : {A : Type 0} → Bool → A → A → A
pick true a b = a
pick false a b = b

-- what holds of both holds of the one chosen
pub pick_either : {A : Type 0} (P : A → Type 0) (b : Bool) (x y : A) → P x → P y → P (pick b x y)
pick_either P true x y p q = p
pick_either P false x y p q = q

-- the same, where each may use what the test said
pub pick_cases : {A : Type 0} (P : A → Type 0) (b : Bool) (x y : A) → (b ≡ true → P x) → (b ≡ false → P y) → P (pick b x y)
pick_cases P true x y p q = p refl
pick_cases P false x y p q = q refl
