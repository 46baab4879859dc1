-- The FAT of a fresh card: its entries, and where LOGAREA finds the log.
use Prim.Native.Nat.{ℕ, ◌+◌, ◌-◌, ◌*◌, ◌/◌, ◌%◌, ◌<◌, ◌≤◌}
use native.Mathlib.Omega.{arith}
use mathlib.Core.Path.{◌≡◌}
use mathlib.Core.Logic.{⊎_elim}
use mathlib.Core.Bool.{true}
use borrow.Author.Tests.{lt-ltb, le-ltb, ne_eqb, eq-eqb, le-leb}
use Rattle.model.specs.Bytes.{le, byte_of}
use Rattle.model.specs.Fat.{Fat, wide_entry, entry}
use Rattle.model.specs.Log.{marked, run, run_ok, most_sectors}
use Rattle.model.specs.declared.Layout.{Layout}
use Rattle.model.proofs.Tests.{less?, same?, each_every}
use Rattle.model.proofs.Scan.{first_is, all_of}
use Rattle.model.proofs.Searches.{count_add, count_all, count_zero}
use Rattle.formatting.specs.Fresh.{wide_fat, log_mark, fresh_entry, fresh_fat}

-- An entry of 16 bits is read as it was given.
pub entry_read : (e : ℕ → ℕ) (k : ℕ) → e k < 65536 → entry (wide_fat 2 e) k ≡ e k
unfolding wide_entry wide_fat le byte_of
entry_read e k small =
    let low : 256 * (k / 256) + 2 * (k % 256) / 2 ≡ k = omega arith in
    let high : 256 * (k / 256) + (2 * (k % 256) + 1) / 2 ≡ k = omega arith in
    let even : 2 * (k % 256) % 2 ≡ 0 = omega arith in
    let odd : (2 * (k % 256) + 1) % 2 ≡ 1 = omega arith in
    rw (low, high, even, odd) (omega arith)

-- An entry by its place.
module _ (n k : ℕ) where
  pub entry_zero : k ≡ 0 → fresh_entry n k ≡ 0xFFF8
  unfolding fresh_entry
  entry_zero e = rw (eq-eqb k 0 e)

  pub entry_one : k ≡ 1 → fresh_entry n k ≡ 0xFFFF
  unfolding fresh_entry
  entry_one e = rw (ne_eqb k 0 (λ z. omega arith), eq-eqb k 1 e)

  pub entry_log : 2 ≤ k → k < 2 + n → fresh_entry n k ≡ 0xFFF6
  unfolding fresh_entry log_mark
  entry_log lo hi = rw (ne_eqb k 0 (λ z. omega arith), ne_eqb k 1 (λ z. omega arith), le-leb 2 k lo, lt-ltb k (2 + n) hi)

  pub entry_free : 2 + n ≤ k → fresh_entry n k ≡ 0
  unfolding fresh_entry log_mark
  entry_free lo = rw (ne_eqb k 0 (λ z. omega arith), ne_eqb k 1 (λ z. omega arith), le-leb 2 k (omega arith), le-ltb k (2 + n) lo)

  pub entry_small : fresh_entry n k < 65536
  entry_small = ⊎_elim (λ z. rw (entry_zero z) (omega arith)) (λ (nz : k ≡ 0 → ⊥). ⊎_elim (λ o. rw (entry_one o) (omega arith)) (λ (no_one : k ≡ 1 → ⊥). ⊎_elim
      (λ l. rw (entry_log (low nz no_one) l) (omega arith)) (λ g. rw (entry_free g) (omega arith)) (less? k (2 + n))) (same? k 1)) (same? k 0)
    where
      low : (k ≡ 0 → ⊥) → (k ≡ 1 → ⊥) → 2 ≤ k
      low nz no_one = omega arith

  pub fresh_read : entry (fresh_fat n) k ≡ fresh_entry n k
  fresh_read = entry_read (fresh_entry n) k entry_small

-- Its bytes are bytes.
pub fat_small : (e : ℕ → ℕ) (s j : ℕ) → wide_fat 2 e s j < 256
unfolding wide_fat byte_of
fat_small e s j = omega arith

-- FATs with these entries: the run that is marked, and that LOGAREA takes it.
module _ (l : Layout) (n : ℕ) (g : Fat) (same : (k : ℕ) → 2 ≤ k → k < 2 + l.clusters → entry g k ≡ fresh_entry n k) where
  marked_log : (k : ℕ) → 2 ≤ k → k < 2 + n → k < 2 + l.clusters → marked g k ≡ true
  marked_log k lo hi less = rw (same k lo less, entry_log n k lo hi)

  -- Where there are not so many clusters, all are marked.
  pub all_counted : l.clusters ≤ n → (run l g).size ≡ l.clusters
  unfolding run
  all_counted many = count_all (marked g) 2 l.clusters (λ k lo hi. marked_log k lo (omega arith) hi)

  module _ (few : n ≤ l.clusters) where
    pub counted : (run l g).size ≡ n
    unfolding run
    counted =
        let whole : n + (l.clusters - n) ≡ l.clusters = omega arith in
        rw (
          ← whole,
          count_add (marked g) 2 n (l.clusters - n),
          count_all (marked g) 2 n (λ k lo hi. marked_log k lo hi (omega arith)),
          count_zero (marked g) (2 + n) (l.clusters - n) (λ k lo hi. rw (same k (omega arith) (omega arith), entry_free n k lo)),
        ) (omega arith)

    module _ (some : 1 ≤ n) where
      starts_at : (run l g).start ≡ 2
      unfolding run
      starts_at = first_is (marked g) 2 l.clusters 2 (omega arith) (omega arith) (λ k lo hi. absurd (omega arith))
          (marked_log 2 (omega arith) (omega arith) (omega arith))

      pub run_is : run l g ≡ record { start = 2; size = n }
      run_is = λ t. record { start = starts_at t; size = counted t }

      pub run_fine : n * l.factor ≤ most_sectors → run_ok l g (run l g) ≡ true
      unfolding run_ok
      run_fine short = rw run_is (each_every _
          (le-leb 1 n some, (le-leb (n * l.factor) most_sectors short, (all_of (marked g) 2 n (λ k lo hi. marked_log k lo hi (omega arith)), tt))))
