-- The grounds on which a call refuses, and answers that a ground may take the place of.
use Rattle.std.specs.Prelude.{ℕ, Bool, true, false, Result, Ok, Err}
use Rattle.model.specs.declared.Ground.{Ground}

-- "Grounds, in checking order"; those of later requests have the next numbers, and are asked where the request says.
abbrev pub ground_number : Ground → ℕ
ground_number Ground.Short = 1
ground_number Ground.Boot = 2
ground_number Ground.Window = 3
ground_number Ground.Logarea = 4
ground_number Ground.Root = 5
ground_number Ground.Record = 6
ground_number Ground.Unclean = 7
ground_number Ground.Name = 8
ground_number Ground.Absent = 9
ground_number Ground.Directory = 10
ground_number Ground.Exists = 11
ground_number Ground.Rootfull = 12
ground_number Ground.Chain = 13
ground_number Ground.Length = 14
ground_number Ground.Nospace = 15
ground_number Ground.Locked = 16
ground_number Ground.Longname = 17
ground_number Ground.Clock = 18
ground_number Ground.Size = 19

-- An answer, or the ground on which there is none.
pub data Answer (A : Type 0) : Type 0 where
  refused : Ground → Answer A
  granted : A → Answer A

-- The answer that a result of the code tells.
abbrev pub answer_of : {A : Type 0} → Result A Ground → Answer A
answer_of (Ok a) = granted a
answer_of (Err g) = refused g

infix 15 ◌when◌
infixl 10 ◌>>=◌
infixl 10 ◌>>◌
unfoldable pub ◌>>=◌ : {A B : Type 0} → Answer A → (A → Answer B) → Answer B
refused g >>= k = refused g
granted a >>= k = k a

-- A ground that is asked before the rest, which is read only where it does not hold.
pub data Asked : Type 0 where
  holds : Ground → Asked
  passes : Asked

unfoldable pub ◌when◌ : Ground → Bool → Asked
g when true = holds g
g when false = passes

unfoldable pub ◌>>◌ : {B : Type 0} → Asked → Answer B → Answer B
holds g >> k = refused g
passes >> k = k
