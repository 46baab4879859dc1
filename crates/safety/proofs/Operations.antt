-- The facts of a live slot, and of the chain of the file in it, that operations supply.
use Prim.Native.Nat.{ℕ, ◌+◌, ◌*◌, ◌/◌, ◌%◌, ◌^◌, ◌≤◌, ◌<◌}
use native.Mathlib.Omega.{arith}
use mathlib.Core.Path.{◌≡◌, ap, ◌∙◌}
use mathlib.Core.List.{List}
use mathlib.Core.Bool.{true}
use Rattle.model.specs.Bytes.{le, Bytes, byte_of}
use Rattle.model.specs.Sector.{Card}
use Rattle.model.specs.Fat.{Fat, entry}
use Rattle.model.specs.Chain.{keeps_chain, chain, needed}
use Rattle.model.specs.Root.{Directory, slot_at, root_place, entry_at, first_cluster, file_size}
use Rattle.model.specs.Promises.{Shape}
use Rattle.model.specs.declared.Entry.{Entry}
use Rattle.model.specs.declared.Layout.{Layout}
use Rattle.model.specs.declared.Pending.{Pending}
use Rattle.model.specs.declared.Volume.{Volume}
use Rattle.model.proofs.All.{All, all_map}
use Rattle.model.proofs.Numbers.{le_below}
use Rattle.model.proofs.Chains.{Used, chain_used}
use Rattle.model.proofs.Records.{EntryFits}
use Rattle.model.specs.Record.{starts}
use Rattle.model.proofs.Recorded.{Seat}
use Rattle.model.proofs.Pendings.{starts_not_zero}
use Rattle.model.proofs.Names.{Live, live_low, first_byte}
use Rattle.model.proofs.Volumes.{layout_of, first_fat, volume_of}
use Rattle.safety.proofs.Start.{Start, shape_of, entries_few}
use Rattle.safety.proofs.After.{last_slot}
use Rattle.safety.proofs.Clusters.{Plain, used_plain}

-- The file in slot s keeps the chain rule.
abbrev pub KeepsChain : Card → ℕ → Type 0
KeepsChain c s = keeps_chain (layout_of c) (entry (first_fat c)) (first_cluster (slot_at (layout_of c) c s)) (file_size (slot_at (layout_of c) c s)) ≡ true

module _ {size : ℕ} {c : Card} (st : Start size c) where
  abbrev l : Layout
  l = layout_of c

  abbrev fat : Fat
  fat = first_fat c

  abbrev slots : Directory
  slots = slot_at l c

  abbrev v : Volume
  v = volume_of c Pending.Nothing

  sh : Shape l
  sh = shape_of st

  slot_number : (n s at : ℕ) → le n (slots s) at < 256 ^ n
  unfolding slot_at
  slot_number n s at = le_below n (slots s) at (λ i lo hi. st.small (root_place l (s / 16)) (32 * (s % 16) + i))

  slot_small : (s j : ℕ) → slots s j < 256
  unfolding slot_at
  slot_small s j = st.small (root_place l (s / 16)) (32 * (s % 16) + j)

  -- ---- operations on the file in a slot

  module _ (s : ℕ) (live : Live l c s) where
    abbrev b : Bytes
    b = slots s

    abbrev e : Entry
    e = entry_at s b

    pub entry_fits : EntryFits e
    unfolding entry_at
    entry_fits = record {
      slot = omega (arith, entries_few st, live.in_root);
      name = record { stem = slot_number 8 s 0; extension = slot_number 3 s 8 };
      attributes = slot_small s 11;
    }

    pub slot_seat : Seat l.entries (last_slot c) s
    slot_seat = (live.in_root, live_low l c st.clean.root s live)

    pub slot_seated : (z : ℕ) → last_slot c ≤ z → Seat l.entries z s
    slot_seated z up = (live.in_root, omega (arith, live_low l c st.clean.root s live))

    pub slot_named : starts (byte_of e.name.stem 0) ≡ true
    unfolding entry_at
    slot_named = ap (λ v. starts v) (first_byte b (slot_small s 0)) ∙ live.begins

    pub slot_lives : slots s 0 ≡ 0 → ⊥
    slot_lives = starts_not_zero (slots s 0) live.begins

    pub first_fits : first_cluster b < 256 ^ 2
    first_fits = slot_number 2 s 26

    pub size_fits : file_size b < 256 ^ 4
    size_fits = slot_number 4 s 28

    module _ (whole : KeepsChain c s) where
      abbrev pub the_chain : List ℕ
      the_chain = chain (entry fat) (needed l (file_size b)) (first_cluster b)

      pub old_used : All (Used l (entry fat)) the_chain
      old_used = chain_used l sh.few (entry fat) sh.factor_low (first_cluster b) (file_size b) whole

      pub old_plain : All (Plain l fat) the_chain
      old_plain = used_plain l fat the_chain old_used

      pub old_busy : All (λ k. entry fat k ≡ 0 → ⊥) the_chain
      old_busy = all_map (Used l (entry fat)) (λ k. entry fat k ≡ 0 → ⊥) (λ k u. u.busy) the_chain old_used
