-- Laws of a pass over the FAT: a sector being built, and the sectors one after the other.
use Prim.Native.Nat.{ℕ, ◌+◌, ◌-◌, ◌*◌, ◌/◌, ◌%◌, ◌<◌, ◌≤◌}
use native.Mathlib.Omega.{arith}
use mathlib.Core.Path.{◌≡◌, refl, sym, ap, ◌∙◌}
use mathlib.Core.List.{List}
use lib.ListN.{length, get_or}
use Rattle.model.specs.Bytes.{Bytes, bytes_of, patch}
use Rattle.model.specs.Fat.{Fat, set_entry, link}
use Rattle.model.specs.declared.Layout.{Layout}
use Rattle.model.proofs.Entries.{set_here, set_away, link_local, link_away}
use Rattle.fat_copy.specs.Change.{lead}
use Rattle.fat_copy.proofs.Laws.{lead_away}
use Rattle.fat_write.specs.Allocate.{news, following, NextNew, Above, Moved}
use Rattle.fat_write.proofs.News.{news_away, new_after, next_later, link_news, link_sector}

-- ---- a sector being built

-- The buffer holds sector s of `base` with the new clusters linked, but for those from k on, n in number.
pub record Linking (l : Layout) (t base : Fat) (s at left : ℕ) (buf : List ℕ) (k n : ℕ) : Type 0 where
  pub width : length buf ≡ 512
  pub bytes : (j : ℕ) → j < 512 → link (news l t k n) (λ _. bytes_of buf) s j ≡ link (news l t at left) base s j
  pub moved : Moved l t (s + 1) at left k n
  pub above : Above s k n

module _ (l : Layout) (t base : Fat) (s at left : ℕ) where
  pub linking_none : (buf : List ℕ) → length buf ≡ 512 → ((j : ℕ) → j < 512 → get_or buf j 0 ≡ base s j) → NextNew l t at left → Above s at left
      → Linking l t base s at left buf at left
  linking_none buf w h cur up = record {
    width = w;
    bytes = λ j less. link_local (news l t at left) (λ _. bytes_of buf) base s j (h j less);
    moved = record { next = cur; later = λ f r le. refl };
    above = up;
  }

  module _ (buf : List ℕ) (k n : ℕ) (so : Linking l t base s at left buf k n) where
    pub linking_more : 0 < n → k < 256 * (s + 1) → (next : ℕ) → next ≡ following l t k n → (out : List ℕ) → length out ≡ length buf
        → ((j : ℕ) → get_or out j 0 ≡ patch 2 next (2 * (k % 256)) (bytes_of buf) j) → Linking l t base s at left out next (n - 1)
    linking_more pos less next e out w put =
        let lo : 256 * s ≤ k = so.above pos in
        let cur = so.moved.next in
        let here : s ≡ k / 256 = omega arith in
        let step : (f : Fat) → link (news l t k n) f ≡ link (news l t next (n - 1)) (set_entry k next f) = rw e (link_news l t k n pos cur) in
        record {
          width = w ∙ so.width;
          bytes = λ j b.
              link_local (news l t next (n - 1)) (λ _. bytes_of out) (set_entry k next (λ _. bytes_of buf)) s j
              (put j ∙ ap (λ (b : Bytes). b j) (sym (set_here k next (λ _. bytes_of buf) s here)))
              ∙ ap (λ (g : Fat). g s j) (sym (step (λ _. bytes_of buf))) ∙ so.bytes j b;
          moved = record {
            next = rw e (new_after l t k n pos cur);
            later = λ f r le.
                link_sector (news l t next (n - 1)) f (set_entry k next f) r (sym (set_away k next f r (λ q. omega arith)))
                ∙ ap (λ (g : Fat). g r) (sym (step f)) ∙ so.moved.later f r le;
          };
          above = λ p. let up : k < next = rw e (next_later l t k n p cur) in omega arith;
        }

    pub linking_done : Above (s + 1) k n → (j : ℕ) → j < 512 → get_or buf j 0 ≡ link (news l t at left) base s j
    linking_done up j less = ap (λ (b : Bytes). b j) (sym (link_away (news l t k n) (λ _. bytes_of buf) s (news_away l t s k n up))) ∙ so.bytes j less

-- ---- a pass over the sectors

-- The FAT in which `last` leads to `first`, and the `left` new clusters from `at` on are linked.
abbrev pub linked : Layout → Fat → ℕ → ℕ → ℕ → ℕ → Fat
linked l t last first at left = link (news l t at left) (lead last first t)

-- A sector with neither `last` nor a new cluster stays as it is.
pub unchanged : (l : Layout) (t : Fat) (s last first at left : ℕ) → (s ≡ last / 256 → ⊥) → Above (s + 1) at left → linked l t last first at left s ≡ t s
unchanged l t s last first at left ne up = link_away (news l t at left) (lead last first t) s (news_away l t s at left up) ∙ lead_away last first t s ne

pub moved_then : (l : Layout) (t : Fat) (s first n at left k m : ℕ) → Moved l t s first n at left → Moved l t (s + 1) at left k m
    → Moved l t (s + 1) first n k m
moved_then l t s first n at left k m a b = record { next = b.next; later = λ f r le. b.later f r le ∙ a.later f r (omega arith) }
