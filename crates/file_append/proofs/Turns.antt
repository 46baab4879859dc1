-- Laws of the loop that stores the data sectors: what a turn finds is what the card had, and where the cursor is.
use Prim.Native.Nat.{ℕ, suc, ◌+◌, ◌-◌, ◌*◌, ◌/◌, ◌%◌, ◌<◌, ◌≤◌}
use native.Mathlib.Nat.{div-add-mod', mod-lt, div-lt_iff_lt-mul, div-div-eq-div-mul, add-div_right}
use native.Mathlib.Omega.{arith}
use mathlib.Core.Path.{◌≡◌, refl, sym, ap, ◌∙◌, subst}
use mathlib.Core.List.{List, [], ◌∷◌}
use lib.ListN.{length, get_or}
use Rattle.model.specs.Bytes.{Bytes, Span, view}
use Rattle.model.specs.Sector.{Card, card_of, clip, Store, store}
use Rattle.model.specs.Chain.{cluster_sector, file_sector, needed, cluster_bytes}
use Rattle.std.proofs.Common.{Result, Ok, Err}
use Rattle.model.specs.Promises.{Shape, Spent, up_to}
use Rattle.model.specs.declared.Stopped.{Stopped}
use Rattle.model.specs.Fat.{fat1_of}
use Rattle.model.specs.declared.Layout.{Layout}
use Rattle.model.specs.declared.File.{File}
use Rattle.model.proofs.All.{All, all_map}
use Rattle.model.proofs.Indices.{Distinct, all_get_or}
use Rattle.model.proofs.Cards.{Away}
use Rattle.model.proofs.Runs.{upto_away, spent_away, spends_none, spends_more, spends_cut}
use Rattle.model.proofs.Chains.{one_place, in_cluster}
use Rattle.model.proofs.Needed.{div_mono}
use Rattle.operations.specs.Plan.{clusters_of, last_cluster, appended, append_sector, data_stores}
use Rattle.operations.proofs.DataStores.{turns_of}
use Rattle.file_append.specs.declared.Cursor.{Cursor}
use Rattle.file_append.specs.Extents.{extended, append_data, Room, moved}
use Rattle.file_append.proofs.Clusters.{extended_length, extended_in, extended_distinct, Stands, stands_first, There, arrives, moved_same}

-- The store of turn i, from sector a of the file on.
abbrev pub turn : Layout → Card → List ℕ → ℕ → Span → ℕ → ℕ → List Store
turn l c ks old d a i = append_sector c (file_sector l ks (a + i)) old d (a + i) ∷ []

-- A buffer with the right bytes is stored.
pub spent_append : (c : Card) (s old : ℕ) (d : Span) (q : ℕ) (b : Bytes) → clip b ≡ clip (appended (c s) old d q)
    → {limit left : ℕ} {e x : List ℕ} {r : Result Unit Stopped} → Spent limit left (store s b ∷ []) e x r
    → Spent limit left (append_sector c s old d q ∷ []) e x r
unfolding append_sector
spent_append c s old d q b h {limit} {left} {e} {x} {r} so =
    subst (λ (f : Bytes). Spent limit left (record { sector = s; bytes = f } ∷ []) e x r) h so

pub turns_all : (l : Layout) (c : Card) (ks : List ℕ) (old : ℕ) (d : Span) (n : ℕ) → n ≡ (old + d.size + 511) / 512 - old / 512
    → up_to (turn l c ks old d (old / 512)) n ≡ data_stores l c ks old d
unfolding data_stores
turns_all l c ks old d n e = rw e (sym (turns_of (λ q. append_sector c (file_sector l ks q) old d q) (old / 512) ((old + d.size + 511) / 512 - old / 512)))

-- Earlier turns store other sectors.
turns_apart : (l : Layout) (c : Card) (ks : List ℕ) (old : ℕ) (d : Span) (a k : ℕ) → 1 ≤ l.factor → All (λ j. 2 ≤ j) ks → Distinct ks
    → (q : ℕ) → a + k ≡ q → q / l.factor < length ks → Away (up_to (turn l c ks old d a) k) (file_sector l ks q)
unfolding append_sector
turns_apart l c ks old d a k one low dis q at less = upto_away (turn l c ks old d a) k (file_sector l ks q)
    (λ i h. (
      (λ e. let le : (a + i) / l.factor ≤ q / l.factor = div_mono l.factor (a + i) q one (omega arith) in
          let z : q ≡ a + i = one_place l one ks q (a + i) low dis less (omega arith) e in omega arith),
      tt,
    ))

store_from : (b c : Bytes) (s old : ℕ) (d : Span) (q : ℕ) → b ≡ c → store s (appended b old d q) ≡ store s (appended c old d q)
store_from b c s old d q e = ap (λ (z : Bytes). store s (appended z old d q)) e

module _ (l : Layout) (ks : List ℕ) (old : ℕ) (d : Span) (a limit left k : ℕ) (e x : List ℕ)
    (so : Spent limit left (up_to (turn l (card_of e) ks old d a) k) e x (Ok tt)) where
  -- Sectors before the data are as they were.
  pub front_same : (s : ℕ) → s < l.start → card_of x s ≡ card_of e s
  unfolding append_sector file_sector cluster_sector
  front_same s less = spent_away so s
      (upto_away (turn l (card_of e) ks old d a) k s (λ i h. ((λ q. omega arith), tt)))

  -- So is the sector of turn k: no earlier turn stored it.
  pub turn_same : 1 ≤ l.factor → All (λ j. 2 ≤ j) ks → Distinct ks → (q s : ℕ) → a + k ≡ q → q / l.factor < length ks → s ≡ file_sector l ks q
      → append_sector (card_of x) s old d q ≡ append_sector (card_of e) (file_sector l ks (a + k)) old d (a + k)
  unfolding append_sector
  turn_same one low dis q s at less is =
      rw (at, is) (store_from (card_of x (file_sector l ks q)) (card_of e (file_sector l ks q)) (file_sector l ks q) old d q
      (spent_away so (file_sector l ks q)
      (turns_apart l (card_of e) ks old d a k one low dis q at less)))

-- The next sector is in the same cluster or the next.
pub next_cluster : (q f : ℕ) → 1 ≤ f → (q + 1) / f ≤ q / f + 1
next_cluster q f one =
    let d : q / f * f + q % f ≡ q = div-add-mod' q f in
    let m : q % f < f = mod-lt q (omega arith) in
    let s : suc (q / f + 1) * f ≡ q / f * f + f + f = omega arith in
    let r : (q + 1) / f < suc (q / f + 1) = (div-lt_iff_lt-mul {k = f} {x = q + 1} {y = suc (q / f + 1)} (omega arith)).1 (omega arith) in
    omega arith

-- The first sector to be stored is in the last cluster of the file, or the first after it.
pub first_cluster : (l : Layout) → 1 ≤ l.factor → (size : ℕ) → (size / 512 / l.factor ≤ needed l size) × (needed l size ≤ size / 512 / l.factor + 1)
unfolding needed cluster_bytes
first_cluster l one size =
    let b : ℕ = 512 * l.factor in
    let e : size / 512 / l.factor ≡ size / b = div-div-eq-div-mul size 512 l.factor in
    let low : size / b ≤ (size + (b - 1)) / b = div_mono b size (size + (b - 1)) (omega arith) (omega arith) in
    let high : (size + (b - 1)) / b ≤ (size + b) / b = div_mono b (size + (b - 1)) (size + b) (omega arith) (omega arith) in
    let s : (size + b) / b ≡ size / b + 1 = add-div_right size {k = b} (omega arith) in
    (rw e low, rw e (omega arith))

placed : (l : Layout) (ks : List ℕ) (q s k : ℕ) → s ≡ cluster_sector l k + q % l.factor → k ≡ get_or ks (q / l.factor) 0 → s ≡ file_sector l ks q
unfolding file_sector
placed l ks q s k at is = at ∙ ap (λ j. cluster_sector l j + q % l.factor) is

-- ---- the loop

-- The clusters written along, and the turns, from the window e and the new bytes d.
abbrev pub clusters : Layout → File → List ℕ → List ℕ → List ℕ
clusters l f e d = extended l (fat1_of l (card_of e)) f (length d)

abbrev pub turns : Layout → File → List ℕ → List ℕ → ℕ → List Store
turns l f e d = turn l (card_of e) (clusters l f e d) f.size (view d) (f.size / 512)

-- The window has become x by the turns before sector q, and the cursor p is at the cluster of q or just before it.
pub record Reached (l : Layout) (f : File) (e d : List ℕ) (limit left : ℕ) (x : List ℕ) (p : Cursor) (q : ℕ) : Type 0 where
  pub low : f.size / 512 ≤ q
  pub ran : Spent limit left (up_to (turns l f e d) (q - f.size / 512)) e x (Ok tt)
  pub stands : Stands l (fat1_of l (card_of e)) f (length d) p
  pub near : q / l.factor ≤ p.passed
  pub next : p.passed ≤ q / l.factor + 1

spent_same : {limit left : ℕ} {e x : List ℕ} {r : Result Unit Stopped} {ss ts : List Store} → ss ≡ ts → Spent limit left ss e x r
    → Spent limit left ts e x r
spent_same {limit} {left} {e} {x} {r} h so = subst (λ (zs : List Store). Spent limit left zs e x r) h so

module _ (l : Layout) (f : File) (e d : List ℕ) (limit : ℕ) (sh : Shape l) (room : Room l (card_of e) f (length d)) where
  pub reached_first : (last k : ℕ) → last ≡ last_cluster (clusters_of l (fat1_of l (card_of e)) f) → k ≡ needed l f.size
      → Reached l f e d limit limit e (record { cluster = last; passed = k; from = 2 }) (f.size / 512)
  reached_first last k is n =
      let z : f.size / 512 - f.size / 512 ≡ 0 = omega arith in
      let b = first_cluster l sh.factor_low f.size in
      record {
        low = omega arith;
        ran = rw z (spends_none (turns l f e d) limit e);
        stands = stands_first l (fat1_of l (card_of e)) f (length d) last k is n;
        near = rw n b.0;
        next = rw n b.1;
      }

  module _ (left : ℕ) (x : List ℕ) (p : Cursor) (q : ℕ) (so : Reached l f e d limit left x p q) where
    -- All turns are made.
    pub reached_all : q ≡ (f.size + length d + 511) / 512 → Spent limit left (append_data l (card_of e) f (view d)) e x (Ok tt)
    reached_all end = spent_same (turns_all l (card_of e) (clusters l f e d) f.size (view d) (q - f.size / 512) (omega arith)) so.ran

    module _ (less : q < (f.size + length d + 511) / 512) where
      within : q / l.factor < needed l (f.size + length d)
      within = in_cluster l sh.factor_low q (f.size + length d) (omega arith)

      among : q / l.factor < length (clusters l f e d)
      among = rw (extended_length l (fat1_of l (card_of e)) f (length d) sh.factor_low room.enough) within

      module _ (r : Cursor) (is : r ≡ moved l (fat1_of l (card_of x)) p (q / l.factor)) where
        -- The cursor, once it is moved, is at the cluster of q,
        pub there : There l (fat1_of l (card_of e)) f (length d) (q / l.factor) r
        there = subst (λ (z : Cursor). There l (fat1_of l (card_of e)) f (length d) (q / l.factor) z)
            (sym (is ∙ moved_same l (card_of x) (card_of e) sh
            (front_same l (clusters l f e d) f.size (view d) (f.size / 512) limit left (q - f.size / 512) e x so.ran) p (q / l.factor)
            so.stands.high))
            (arrives l (fat1_of l (card_of e)) f (length d) sh.factor_low room.enough p so.stands (q / l.factor) within so.near so.next)

        -- which is one of the card's.
        pub there_in : (2 ≤ r.cluster) × (r.cluster < 2 + l.clusters)
        there_in =
            let a = all_get_or (λ k. (2 ≤ k) × (k < 2 + l.clusters)) (clusters l f e d)
            (extended_in l (fat1_of l (card_of e)) f (length d) sh room.chain) (q / l.factor) among in
            (rw there.is a.0, rw there.is a.1)

        module _ (s : ℕ) (at : s ≡ cluster_sector l r.cluster + q % l.factor) (y : List ℕ) (n : ℕ) (t : Result Unit Stopped)
            (turn : Spent left n (append_sector (card_of x) s f.size (view d) q ∷ []) x y t) where
          found : append_sector (card_of x) s f.size (view d) q ∷ [] ≡ turns l f e d (q - f.size / 512)
          found =
              let low : f.size / 512 ≤ q = so.low in
              let two : All (λ j. 2 ≤ j) (clusters l f e d) =
              all_map (λ k. (2 ≤ k) × (k < 2 + l.clusters)) (λ k. 2 ≤ k) (λ k h. h.0) (clusters l f e d)
              (extended_in l (fat1_of l (card_of e)) f (length d) sh room.chain) in
              ap (λ (z : Store). z ∷ [])
              (turn_same l (clusters l f e d) f.size (view d) (f.size / 512) limit left (q - f.size / 512) e x so.ran sh.factor_low two
              (extended_distinct l (fat1_of l (card_of e)) f (length d) sh room.chain) q s (omega arith) among
              (placed l (clusters l f e d) q s r.cluster at there.is))

          -- A turn that ran whole,
          pub reached_more : {u : Unit} → t ≡ Ok u → Reached l f e d limit n y r (q + 1)
          reached_more g =
              let low : f.size / 512 ≤ q = so.low in
              let z : q + 1 - f.size / 512 ≡ q - f.size / 512 + 1 = omega arith in
              let count : r.passed ≡ q / l.factor + 1 = there.count in
              record {
                low = omega arith;
                ran = rw z (spends_more (turns l f e d) so.ran (spent_same found turn) g);
                stands = there.stands;
                near = omega (arith, next_cluster q l.factor sh.factor_low);
                next = omega (arith, div_mono l.factor q (q + 1) sh.factor_low (omega arith));
              }

          -- and one that the limit cut short.
          pub reached_cut : {z : Stopped} → t ≡ Err z → Spent limit n (append_data l (card_of e) f (view d)) e y (Err z)
          reached_cut g =
              let m : ℕ = (f.size + length d + 511) / 512 - f.size / 512 in
              let low : f.size / 512 ≤ q = so.low in
              spent_same (turns_all l (card_of e) (clusters l f e d) f.size (view d) m refl)
              (spends_cut (turns l f e d) so.ran (spent_same found turn) g m (omega arith))
