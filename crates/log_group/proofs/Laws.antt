-- The characters of a sector, after the records that tell its operation.
use Prim.Native.Nat.{ℕ, ◌+◌, ◌-◌, ◌*◌, ◌/◌, ◌%◌, ◌≤◌, ◌<◌}
use native.Mathlib.Omega.{arith}
use mathlib.Core.Path.{◌≡◌, sym, ap, ◌∙◌, fun_ext}
use mathlib.Core.Logic.{⊎_elim}
use mathlib.Core.List.{List}
use mathlib.Core.Bool.{true, false, not}
use lib.Dec.{eqb}
use lib.ListN.{length, take, drop, length-take, length-drop, get_or-eq_default}
use lib.Seq.{get_or-take, get_or-drop}
use borrow.Author.Tests.{lt-ltb, le-ltb}
use Rattle.model.specs.Bytes.{Bytes, bytes_of, zeros}
use Rattle.model.specs.Scan.{all}
use Rattle.model.specs.Sector.{clip}
use Rattle.model.specs.LongName.{character, forbidden, all_allowed}
use Rattle.model.specs.Record.{operation_records, operation_of, record_at, text_start, text_room, text_length, leads, text_in, group_size}
use Rattle.model.proofs.Tests.{told, less?, every_at}
use Rattle.model.proofs.Scan.{first_le0, all_of0}
use Rattle.model.proofs.Records.{zeros_length}
use Rattle.model.proofs.Texts.{told_records}
use Rattle.model.specs.declared.Record.{Record}

-- A sector that is not led has none.
pub text_none : (b : Bytes) → leads b ≡ false → text_in b ≡ zeros
unfolding text_in
text_none b h = fun_ext (λ i. rw h)

pub none_there : (b : Bytes) → leads b ≡ false → text_length (text_in b) ≡ 0
none_there b h = ap text_length (text_none b h) ∙ zeros_length

-- The characters of a sector that is led stand after the records that tell its operation; no more than a sector has tell any.
led_size : (b : Bytes) → leads b ≡ true → 32 * group_size (record_at b) ≡ text_start
unfolding leads group_size operation_of operation_records
led_size b h = rw (every_at _ h 1)

size_few : (rs : ℕ → Record) → group_size rs ≤ 16
unfolding group_size
size_few rs = (told_records (operation_of rs)).1

pub text_few : (b : Bytes) → text_length (text_in b) ≤ text_room / 2
unfolding text_length
text_few b = first_le0 (λ q. eqb (character (text_in b) q) 0) (text_room / 2)

-- There is room for both.
pub text_fits : (b : Bytes) → 32 * group_size (record_at b) + 2 * text_length (text_in b) ≤ 512
text_fits b = ⊎_elim (λ h. omega (arith, led_size b h, text_few b)) (λ h. omega (arith, none_there b h, size_few (record_at b))) (told (leads b))

-- They are what follows the two records of 32 bytes in it.
pub follow : (b : Bytes) (ys : List ℕ) → length ys ≡ 512 → clip (bytes_of ys) ≡ b → leads b ≡ true
    → bytes_of (take (length ys - text_start) (drop text_start ys)) ≡ text_in b
unfolding text_in
follow b ys long is led = fun_ext (λ i. rw led (⊎_elim
    (λ less. let at : text_start + i ≡ (text_start + i) % 512 = omega arith in
    let inside : i < length ys - text_start = omega arith in
    rw (lt-ltb i text_room less) (get_or-take (length ys - text_start) (drop text_start ys) i 0 inside ∙ get_or-drop text_start ys i 0
    ∙ ap (bytes_of ys) at ∙ ap (λ (f : Bytes). f (text_start + i)) is))
    (λ more. rw (le-ltb i text_room more)
    (get_or-eq_default (take (length ys - text_start) (drop text_start ys)) 0 {n = i} (simp (length-take, length-drop) (omega arith))))
    (less? i text_room)))

-- They are judged by what follows, whether it is led or not.
pub judged : (b t : Bytes) (n : ℕ) → (leads b ≡ true → t ≡ text_in b) → n ≡ text_length (text_in b) → all_allowed t n ≡ all_allowed (text_in b) n
unfolding all_allowed
judged b t n is e = ⊎_elim
    (λ h. ap (λ (t : Bytes). all (λ q. not (forbidden (character t q))) n) (is h))
    (λ h. let none : n ≡ 0 = e ∙ none_there b h in
    all_of0 _ n (λ q less. absurd (omega arith)) ∙ sym (all_of0 _ n (λ q less. absurd (omega arith)))) (told (leads b))
