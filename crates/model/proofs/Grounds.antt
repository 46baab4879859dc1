-- Laws of answers that are refused or granted: how a `do` block of grounds is opened into its facts, and closed.
use Prim.Native.Nat.{ℕ}
use native.Mathlib.Omega.{arith}
use mathlib.Core.Path.{◌≡◌, refl}
use mathlib.Core.Bool.{Bool, true, false}
use Rattle.model.specs.Ground.{Answer, refused, granted, ◌when◌, ◌>>=◌, ◌>>◌}
use Rattle.model.specs.declared.Ground.{Ground}

-- A ground that does not hold.
pub passed : {A : Type 0} (g : Ground) (b : Bool) (k : Answer A) → b ≡ false → ((g when b) >> k) ≡ k
unfolding ◌when◌ ◌>>◌
passed g b k e = rw e

-- One that holds.
pub barred : {A : Type 0} (g : Ground) (b : Bool) (k : Answer A) → b ≡ true → ((g when b) >> k) ≡ refused g
unfolding ◌when◌ ◌>>◌
barred g b k e = rw e

-- A granted answer has passed each of its grounds.
pub asked : {A : Type 0} (g : Ground) (b : Bool) (k : Answer A) (a : A) → ((g when b) >> k) ≡ granted a → (b ≡ false) × (k ≡ granted a)
unfolding ◌when◌ ◌>>◌
asked g true k a h = let z : ◌≡◌ {A = ℕ} 0 1 = cc in absurd (omega arith)
asked g false k a h = (refl, h)

pub bound : {A B : Type 0} (m : Answer A) (k : A → Answer B) (b : B) → (m >>= k) ≡ granted b → (a : A) × (m ≡ granted a) × (k a ≡ granted b)
unfolding ◌>>=◌
bound (refused g) k b h = let z : ◌≡◌ {A = ℕ} 0 1 = cc in absurd (omega arith)
bound (granted a) k b h = (a, refl, h)

-- What follows a granted answer, and a refused one.
pub then : {A B : Type 0} (m : Answer A) (k : A → Answer B) (a : A) → m ≡ granted a → (m >>= k) ≡ k a
unfolding ◌>>=◌
then m k a e = rw e

pub ends : {A B : Type 0} (m : Answer A) (k : A → Answer B) (g : Ground) → m ≡ refused g → (m >>= k) ≡ refused g
unfolding ◌>>=◌
ends m k g e = rw e
