-- Before a group's store is on the card: recovery undoes what was stored.
use Prim.Native.Nat.{ℕ, ◌+◌, ◌<◌}
use native.Mathlib.Omega.{arith}
use mathlib.Core.Path.{◌≡◌, refl, sym, ap, ◌∙◌, subst}
use mathlib.Core.List.{List, []}
use mathlib.Core.Bool.{true}
use Rattle.model.specs.Bytes.{Bytes}
use Rattle.model.specs.Sector.{Card, Store, clip, store, after}
use Rattle.model.specs.Fat.{fat1_of, write_fat, fat2_of}
use Rattle.model.specs.Root.{root_ok, first_bytes, root_place}
use Rattle.model.specs.Log.{log_of}
use Rattle.model.specs.Pending.{pending}
use Rattle.model.specs.Ground.{granted}
use Rattle.model.specs.Promises.{Shape}
use Rattle.model.specs.declared.Area.{Area}
use Rattle.model.specs.declared.Layout.{Layout}
use Rattle.model.specs.declared.Pending.{Pending}
use Rattle.operations.specs.Program.{ending}
use Rattle.operations.specs.Plan.{recover_stores}
use Rattle.safety.specs.Cuts.{recovery}
use Rattle.model.proofs.All.{All}
use Rattle.model.proofs.Cards.{put_out, put_case}
use Rattle.model.proofs.Changes.{Clipped, Keeps, put_clipped, after_keeps}
use Rattle.model.proofs.Fats.{write_all, write_done, write_none, write_length}
use Rattle.model.proofs.Pendings.{Quiet, quiet_calm}
use Rattle.model.proofs.Volumes.{layout_of, area_of, Alike}
use Rattle.safety.proofs.Journal.{Back, idle}
use Rattle.safety.proofs.Start.{Clear, Table, Fixed, Start, shape_of, log_quiet, fat2_free, log_low, marks_same, root_kept, recovery_is, fats_same}
use Rattle.safety.proofs.Start.{fatsize_few}

-- Byte j of sector n is a data byte outside the log, and the data stores ds leave it as it is in c.
pub record Spared (c : Card) (ds : List Store) (n j : ℕ) : Type 0 where
  pub clear : Clear c n
  pub kept : All (λ s. n ≡ s.sector → clip s.bytes j ≡ c n j) ds

-- The bytes that an undone operation leaves as they were: those of the boot sector, the FATs and the root directory, and the data bytes
-- that it spares.
pub data Wanted (c : Card) (ds : List Store) (n j : ℕ) : Type 0 where
  boot : n ≡ 0 → Wanted c ds n j
  table : Table (layout_of c) n → Wanted c ds n j
  file : Spared c ds n j → Wanted c ds n j

-- The boot sector, FAT1, the root directory and the spared bytes are as in c, and no record is pending. FAT2 may be anything.
pub record Before (c : Card) (ds : List Store) (x : Card) : Type 0 where
  pub clipped : Clipped x
  pub fixed : (n : ℕ) → Fixed (layout_of c) n → x n ≡ c n
  pub quiet : (i : ℕ) → i < (area_of c).sectors → Quiet (x ((area_of c).sector + i))
  pub spared : (n j : ℕ) → Spared c ds n j → x n j ≡ c n j

-- A store to no such sector, that brings no pending record into the log.
pub record Harmless (c : Card) (ds : List Store) (s : Store) : Type 0 where
  pub elsewhere : Fixed (layout_of c) s.sector → ⊥
  pub quiet : (i : ℕ) → i < (area_of c).sectors → (area_of c).sector + i ≡ s.sector → Quiet (clip s.bytes)
  pub spares : (n j : ℕ) → Spared c ds n j → n ≡ s.sector → clip s.bytes j ≡ c n j

pub harmless_keeps : (c : Card) (ds : List Store) (s : Store) → Harmless c ds s → Keeps (Before c ds) s
harmless_keeps c ds s h x b = record {
  clipped = put_clipped x s b.clipped;
  fixed = λ n f. put_out x s n (λ e. h.elsewhere (subst (Fixed (layout_of c)) e f)) ∙ b.fixed n f;
  quiet = λ i less. put_case Quiet x s ((area_of c).sector + i) (h.quiet i less) (λ _. b.quiet i less);
  spared = λ n j k. put_case (λ y. y j ≡ c n j) x s n (h.spares n j k) (λ _. b.spared n j k);
}

module _ {size : ℕ} {c : Card} (st : Start size c) (ds : List Store) where
  abbrev l : Layout
  l = layout_of c

  abbrev log : Area
  log = area_of c

  sh : Shape l
  sh = shape_of st

  pub before_start : Before c ds c
  before_start = record { clipped = st.clipped; fixed = λ n f. refl; quiet = log_quiet st; spared = λ n j k. refl }

  pub fat2_harmless : (b : Bytes) (s : ℕ) → s < l.fatsize → Harmless c ds (store (l.fat2 + s) b)
  fat2_harmless b s less = record {
    elsewhere = fat2_free l sh s (l.fat2 + s) less refl;
    quiet = λ i small e. absurd (omega (arith, sh, log_low st));
    spares = λ n j k e. absurd (omega (arith, sh, k.clear.in_data));
  }

  module _ (x : Card) (b : Before c ds x) where
    fat1_kept : (s : ℕ) → s < l.fatsize → x (l.fat1 + s) ≡ c (l.fat1 + s)
    fat1_kept s less = b.fixed (l.fat1 + s) (Fixed.fat1 s less refl)

    before_alike : Alike c x
    before_alike = record { boot = b.fixed 0 (Fixed.boot refl); marks = marks_same l sh (fat1_of l x) (fat1_of l c) fat1_kept }

    before_root : root_ok l.entries (first_bytes l x) ≡ true
    before_root = root_kept st x (λ r k. b.fixed (root_place l r) (Fixed.root r k refl))

    abbrev pub undo : List Store
    undo = write_fat l l.fat2 (fat1_of l x) (fat2_of l x)

    pub before_says : recovery size x ≡ granted (ending undo)
    unfolding recover_stores pending
    before_says = recovery_is st x before_alike Pending.Nothing before_root (quiet_calm l.entries _ log (log_of log x) b.quiet) refl

    undo_keeps : All (Keeps (Before c ds)) undo
    undo_keeps = write_all l l.fat2 (fat1_of l x) (fat2_of l x) (Keeps (Before c ds))
        (λ s less. harmless_keeps c ds (store (l.fat2 + s) (x (l.fat1 + s))) (fat2_harmless (x (l.fat1 + s)) s less))

    undone : Before c ds (after undo x)
    undone = after_keeps (Before c ds) undo undo_keeps x b

    undo_fat2 : (s : ℕ) → s < l.fatsize → after undo x (l.fat2 + s) ≡ c (l.fat2 + s)
    undo_fat2 s less =
        write_done l l.fat2 (fat1_of l x) (fat2_of l x) x s less (b.clipped (l.fat2 + s))
        ∙ b.clipped (l.fat1 + s) ∙ fat1_kept s less ∙ fats_same st s less

    undo_whole : (n j : ℕ) → Wanted c ds n j → after undo x n j ≡ c n j
    undo_whole n j (Wanted.boot e) = λ t. undone.fixed n (Fixed.boot e) t j
    undo_whole n j (Wanted.file k) = undone.spared n j k
    undo_whole n j (Wanted.table (Table.fat1 s less e)) = λ t. undone.fixed n (Fixed.fat1 s less e) t j
    undo_whole n j (Wanted.table (Table.root r less e)) = λ t. undone.fixed n (Fixed.root r less e) t j
    undo_whole n j (Wanted.table (Table.fat2 s less e)) = rw e (λ t. undo_fat2 s less t j)

  pub goes_back : (x : Card) → Before c ds x → Back size (Wanted c ds) (Before c ds) c x
  goes_back x b = record {
    ys = undo x b;
    says = before_says x b;
    keeps = undo_keeps x b;
    short = omega (arith, write_length l l.fat2 (fat1_of l x) (fat2_of l x), fatsize_few st);
    whole = undo_whole x b;
    rests =
        before_says (after (undo x b) x) (undone x b)
        ∙ ap (λ ss. granted (ending ss)) (write_none l l.fat2 _ _
        (λ s less. fat1_kept (after (undo x b) x) (undone x b) s less ∙ fats_same st s less ∙ sym (undo_fat2 x b s less)));
  }

-- Recovery of the card at the start stores nothing.
pub start_rests : {size : ℕ} {c : Card} → Start size c → recovery size c ≡ idle
start_rests {size} {c} st = before_says st [] c (before_start st [])
    ∙ ap (λ ss. granted (ending ss)) (write_none (layout_of c) (layout_of c).fat2 (fat1_of (layout_of c) c) (fat2_of (layout_of c) c) (fats_same st))
