-- Laws of the log table: what is pending in a log is told by its own sectors alone.
use Prim.Native.Nat.{ℕ, ◌+◌, ◌*◌, ◌/◌, ◌%◌, ◌<◌}
use native.Mathlib.Omega.{arith}
use mathlib.Core.Path.{◌≡◌, ap}
use mathlib.Core.Logic.{◌⊎◌, inl, inr}
use mathlib.Core.Bool.{Bool, true, false, ◌&&◌, ◌||◌, not}
use lib.Dec.{leb, ltb, eqb}
use borrow.Author.Tests.{ltb-true}
use Rattle.model.specs.Bytes.{Bytes, pick}
use Rattle.model.specs.Log.{Log, unused}
use Rattle.model.specs.Record.{pends, group_size, record_at}
use Rattle.model.specs.Pending.{pending_at, first_pending, alone, accepted, pending_in}
use Rattle.model.specs.declared.Area.{Area}
use Rattle.model.specs.declared.Pending.{Pending}
use Rattle.model.proofs.Tests.{told}
use Rattle.model.proofs.Scan.{all_same, first_same}

-- Two log tables of n sectors with the same bytes.
module _ (n : ℕ) (g h : Log) (same : (s : ℕ) → s < n → g s ≡ h s) where
  at_same : (k : ℕ) → k < 16 * n → pending_at g k ≡ pending_at h k
  at_same k less = ap (λ (b : Bytes). pends b (k % 16)) (same (k / 16) (omega arith))

  pub first_pending_same : first_pending n g ≡ first_pending n h
  unfolding first_pending
  first_pending_same = first_same (pending_at g) (pending_at h) 0 (16 * n) (λ k lo hi. at_same k (omega arith))

  pub alone_same : (i m : ℕ) → alone n g i m ≡ alone n h i m
  unfolding alone
  alone_same i m =
      all_same (λ k. (leb i k && ltb k (i + m)) || not (pending_at g k)) (λ k. (leb i k && ltb k (i + m)) || not (pending_at h k)) 0 (16 * n)
      (λ k lo hi. ap (λ (b : Bool). (leb i k && ltb k (i + m)) || not b) (at_same k (omega arith)))

  pub unused_same : unused n g ≡ unused n h
  unfolding unused
  unused_same = first_same (λ s. eqb (g s 0) 0) (λ s. eqb (h s 0) 0) 0 n (λ s lo hi. ap (λ (b : Bytes). eqb (b 0) 0) (same s (omega arith)))

  pub accepted_same : (entries z i : ℕ) → i < 16 * n → accepted entries z n g i ≡ accepted entries z n h i
  unfolding accepted
  accepted_same entries z i less = rw (same (i / 16) (omega arith), alone_same i (group_size (record_at (h (i / 16)))))

-- The scan depends on the log table alone: what a part of the window that holds the log's sectors shows is what the card does.
pub pending_same : (entries : ℕ) (z : Bytes → ℕ) (a : Area) (g h : Log) → ((s : ℕ) → s < a.sectors → g s ≡ h s)
    → pending_in entries z a g ≡ pending_in entries z a h
unfolding pending_in
pending_same entries z a g h same = rw (first_pending_same a.sectors g h same) (go (told (ltb i (16 * a.sectors))))
  where
    i : ℕ
    i = first_pending a.sectors h

    held : Log → Pending
    held x = pick (accepted entries (z (x (i / 16))) a.sectors x i) (Pending.Held (a.sector + i / 16)) Pending.Broken

    go : (ltb i (16 * a.sectors) ≡ true) ⊎ (ltb i (16 * a.sectors) ≡ false)
        → pick (ltb i (16 * a.sectors)) (held g) Pending.Nothing ≡ pick (ltb i (16 * a.sectors)) (held h) Pending.Nothing
    go (inl e) =
        let less : i < 16 * a.sectors = ltb-true i (16 * a.sectors) e in
        rw (e, same (i / 16) (omega arith), accepted_same a.sectors g h same entries (z (h (i / 16))) i less)
    go (inr e) = rw e
