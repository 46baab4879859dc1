-- The file that a name means, and the grounds on which there is none: what a granted answer tells, and when it is given.
use Prim.Native.Nat.{ℕ, ◌≤◌, ◌<◌}
use native.Mathlib.Omega.{arith}
use mathlib.Core.Path.{◌≡◌, refl, sym, ap, ◌∙◌}
use mathlib.Core.Logic.{◌⊎◌, inl, inr}
use mathlib.Core.Bool.{Bool, true, false}
use Rattle.model.specs.Bytes.{Span}
use Rattle.model.specs.Sector.{Card}
use Rattle.model.specs.Root.{slot_at, file_at, is_directory, is_locked, slot_holds, lookup}
use Rattle.model.specs.Ground.{refused, granted}
use Rattle.model.specs.declared.File.{File}
use Rattle.model.specs.declared.Layout.{Layout}
use Rattle.model.specs.declared.Volume.{Volume}
use Rattle.model.specs.declared.Access.{Access}
use Rattle.model.specs.declared.Lookup.{Lookup}
use Rattle.model.specs.declared.Ground.TheVariants as Ground
use Rattle.model.proofs.Tests.{told, less?}
use Rattle.model.proofs.Grounds.{asked, passed}
use Rattle.model.proofs.Lookups.{holds_none, holds_directory, holds_file}
use Rattle.operations.specs.Calls.{admit, file_named, slot_of}

-- What an admitted file is like: no directory, and the file in slot s.
pub record Admitted (l : Layout) (c : Card) (s : ℕ) (f : File) : Type 0 where
  pub in_root : s < l.entries
  pub plain : is_directory (slot_at l c s) ≡ false
  pub is : file_at l c s ≡ f

module _ (l : Layout) (c : Card) (s : ℕ) where
  pub admit_none : (a : Access) → l.entries ≤ s → admit a (slot_holds l c s) ≡ refused Ground.Absent
  unfolding admit
  admit_none a h = ap (admit a) (holds_none l c s h)

  pub admit_read : s < l.entries → is_directory (slot_at l c s) ≡ false → admit Access.Read (slot_holds l c s) ≡ granted (file_at l c s)
  unfolding admit
  admit_read less plain = ap (admit Access.Read) (holds_file l c s less plain)

  pub admit_write : s < l.entries → is_directory (slot_at l c s) ≡ false → is_locked (slot_at l c s) ≡ false
      → admit Access.Write (slot_holds l c s) ≡ granted (file_at l c s)
  unfolding admit
  admit_write less plain bare = ap (admit Access.Write) (holds_file l c s less plain) ∙ passed Ground.Locked _ _ bare

  pub admitted : (a : Access) (f : File) → admit a (slot_holds l c s) ≡ granted f → Admitted l c s f
  unfolding admit
  admitted a f h = go (less? s l.entries) (told (is_directory (slot_at l c s)))
    where
      here : (a : Access) (locked : Bool) → admit a (Lookup.File (file_at l c s) locked) ≡ granted f → file_at l c s ≡ f
      here Access.Read locked e = cc
      here Access.Write locked e = let q = asked Ground.Locked locked _ f e in let r : granted (file_at l c s) ≡ granted f = q.1 in cc

      go : (s < l.entries) ⊎ (l.entries ≤ s) → (is_directory (slot_at l c s) ≡ true) ⊎ (is_directory (slot_at l c s) ≡ false) → Admitted l c s f
      go (inl less) (inl d) =
          let r : refused Ground.Directory ≡ granted f = sym (ap (admit a) (holds_directory l c s less d)) ∙ h in
          let z : ◌≡◌ {A = ℕ} 0 1 = cc in
          absurd (omega arith)
      go (inl less) (inr d) = record
          { in_root = less; plain = d; is = here a (is_locked (slot_at l c s)) (sym (ap (admit a) (holds_file l c s less d)) ∙ h) }
      go (inr past) d =
          let r : refused Ground.Absent ≡ granted f = sym (admit_none a past) ∙ h in
          let z : ◌≡◌ {A = ℕ} 0 1 = cc in
          absurd (omega arith)

  -- A file that is to be changed has no mark.
  pub unmarked : (f : File) → admit Access.Write (slot_holds l c s) ≡ granted f → is_locked (slot_at l c s) ≡ false
  unfolding admit
  unmarked f h =
      let a = admitted Access.Write f h in
      (asked Ground.Locked (is_locked (slot_at l c s)) _ f (sym (ap (admit Access.Write) (holds_file l c s a.in_root a.plain)) ∙ h)).0

-- The slot in which a name is sought is the one that it means.
pub named_is : (a : Access) (v : Volume) (c : Card) (n : Span) → file_named a v c n ≡ admit a (slot_holds v.layout c (slot_of v c n))
unfolding file_named lookup slot_of
named_is a v c n = refl
