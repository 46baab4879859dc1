-- Laws of files along their chains: links, the last cluster, and the bytes read so far.
use Prim.Native.Nat.{ℕ, zero, suc, ◌+◌, ◌-◌, ◌*◌, ◌/◌, ◌%◌, ◌≤◌, ◌<◌, min}
use native.Mathlib.Nat.{mul-le-mul, mul-le-mul_right, add-mul, mod-lt, div-add-mod', div-lt_iff_lt-mul, mul-add-div_right, mul-add-mod_self_right}
use native.Mathlib.Omega.{arith}
use mathlib.Core.Path.{◌≡◌, refl, sym, ap, ◌∙◌}
use mathlib.Core.List.{List}
use mathlib.Core.Bool.{true}
use lib.ListN.{get_or}
use Rattle.model.specs.Bytes.{Bytes, bytes_of, overlay, part}
use Rattle.model.specs.Sector.{Card, card_of}
use Rattle.model.specs.Fat.{Fat, entry, fat1_of}
use Rattle.model.specs.Chain.{chain, needed, keeps_chain, cluster_sector, file_sector}
use Rattle.model.specs.Promises.{Fits, Shape}
use Rattle.model.specs.declared.Layout.{Layout}
use Rattle.model.specs.declared.File.{File}
use Rattle.model.proofs.Indices.{all_get_or}
use Rattle.model.proofs.Overlays.{overlay_none}
use Rattle.model.proofs.Laying.{overlay_same, overlay_next}
use Rattle.model.proofs.Sectors.{byte_in}
use Rattle.model.proofs.Chains.{Used, chain_used, in_cluster}
use Rattle.model.proofs.Walks.{chain_length}
use Rattle.model.proofs.Needed.{needed_none, needed_some, div_mono}
use Rattle.operations.specs.Plan.{clusters_of, last_cluster}
use Rattle.operations.specs.Reading.{file_byte, reading}
use Rattle.fat_chain.specs.Links.{links, Adjacent}
use Rattle.fat_chain.proofs.Links.{links_none, links_shift, links_add}
use Rattle.file_read.specs.Files.{Adjoining, Reaches, bytes_from, Read}
use Rattle.operations.specs.Promises.{Fills}

-- ---- links

module _ (e : ℕ → ℕ) where
  -- From a cluster reached on to a later one.
  pub links_on : (first k i x r : ℕ) → k ≡ links e i first → i ≤ x → r ≡ links e (x - i) k → r ≡ links e x first
  links_on first k i x r at le is = let z : i + (x - i) ≡ x = omega arith in is ∙ ap (links e (x - i)) at ∙ links_add e i (x - i) first
      ∙ ap (λ m. links e m first) z

  -- The clusters of a chain are its links.
  pub chain_at : (n k i : ℕ) → i < n → get_or (chain e n k) i 0 ≡ links e i k
  unfolding chain links
  chain_at zero k i h = absurd (omega arith)
  chain_at (suc n) k zero h = refl
  chain_at (suc n) k (suc i) h = chain_at n (e k) i (omega arith) ∙ links_shift e i k

-- The links of a file that keeps the chain rule are clusters of the card.
pub link_inside : (l : Layout) → Fits l → (e : ℕ → ℕ) (k size : ℕ) → keeps_chain l e k size ≡ true → (i : ℕ) → i < needed l size
    → (2 ≤ links e i k) × (links e i k < 2 + l.clusters)
link_inside l fits e k size h i less =
    let u : Used l e (get_or (chain e (needed l size) k) i 0) =
    all_get_or (Used l e) (chain e (needed l size) k) (chain_used l fits.shape.few e fits.shape.factor_low k size h) i
    (rw (chain_length e (needed l size) k) less) in
    let z = chain_at e (needed l size) k i less in
    (rw z at u.low, rw z at u.high)

-- So are those after one that was reached.
pub reaches : (l : Layout) → Fits l → (e : ℕ → ℕ) (first size : ℕ) → keeps_chain l e first size ≡ true → (k x n : ℕ) → k ≡ links e x first
    → x + n < needed l size → Reaches l e k n
reaches l fits e first size h k x n is less i le =
    let z : links e i k ≡ links e (x + i) first = ap (links e i) is ∙ links_add e x i first in
    let r = link_inside l fits e first size h (x + i) (omega arith) in
    rw z r

-- The last cluster.
module _ (l : Layout) (one : 1 ≤ l.factor) (t : Fat) (f : File) where
  pub last_none : f.size ≡ 0 → 0 ≡ last_cluster (clusters_of l t f)
  unfolding clusters_of chain
  last_none h = rw (ap (needed l) h ∙ needed_none l one)

  pub last_is : (r : ℕ) → 0 < f.size → r ≡ links (entry t) (needed l f.size - 1) f.first → r ≡ last_cluster (clusters_of l t f)
  unfolding clusters_of
  last_is r h is =
      let n : needed l f.size ≡ (f.size - 1) / (512 * l.factor) + 1 = needed_some l one f.size h in
      is ∙ sym (chain_at (entry t) (needed l f.size) f.first (needed l f.size - 1) (omega arith))
      ∙ ap (λ m. get_or (chain (entry t) (needed l f.size) f.first) (m - 1) 0) (sym (chain_length (entry t) (needed l f.size) f.first))

-- ---- bytes of sectors

-- Bytes of the sectors from s on, by their place in the window.
pub sector_bytes : (xs : List ℕ) (s from m : ℕ) → get_or xs (512 * s + from + m) 0 ≡ bytes_from (card_of xs) s (from + m)
sector_bytes xs s from m =
    let z : 512 * s + from + m ≡ 512 * (s + (from + m) / 512) + (from + m) % 512 = omega arith in
    ap (λ (i : ℕ). get_or xs i 0) z ∙ sym (byte_in xs (s + (from + m) / 512) ((from + m) % 512) (omega arith))

pub read_sectors_is : (w : List ℕ) (s size from done count : ℕ) (e x : List ℕ) (n : ℕ) → n ≡ min (size - from) (count - done)
    → ((i : ℕ) → get_or x i 0 ≡ overlay n (part (bytes_of w) (512 * s + from)) done (bytes_of e) i)
    → Read (bytes_from (card_of w) s) size from done count e x (done + n)
read_sectors_is w s size from done count e x n is h =
    let z : n ≡ done + n - done = omega arith in
    let b : Bytes = part (bytes_from (card_of w) s) from in
    record {
      reached = ap (λ n. done + n) is;
      bytes = λ i. h i ∙ overlay_same n (part (bytes_of w) (512 * s + from)) b done (bytes_of e) (λ j less. sector_bytes w s from j) i
          ∙ ap (λ n. overlay n b done (bytes_of e) i) z;
    }

-- ---- the bytes of a file

-- Byte i along the links from a cluster on.
unfoldable pub along : Layout → Card → ℕ → Bytes
along l c first i = c (cluster_sector l (links (entry (fat1_of l c)) (i / 512 / l.factor) first) + i / 512 % l.factor) (i % 512)

-- A byte below the size is in one of the clusters.
pub in_needed : (l : Layout) → 1 ≤ l.factor → (size at : ℕ) → at < size → at / 512 / l.factor < needed l size
in_needed l one size at h = in_cluster l one (at / 512) size (omega arith)

pub file_along : (l : Layout) → 1 ≤ l.factor → (c : Card) (f : File) (i : ℕ) → i < f.size → along l c f.first i ≡ file_byte l c f i
unfolding along file_byte file_sector clusters_of
file_along l one c f i h =
    ap (λ k. c (cluster_sector l k + i / 512 % l.factor) (i % 512))
    (sym (chain_at (entry (fat1_of l c)) (needed l f.size) f.first (i / 512 / l.factor) (in_needed l one f.size i h)))

-- Each turn reads something.
pub read_on : (size from done count r : ℕ) → r ≡ done + min (size - from) (count - done) → from < size → done < count → count - r < count - done
read_on size from done count r is low more = omega arith

-- A number y further on.
beyond : (q y f : ℕ) → 1 ≤ f → ((q + y) / f ≡ q / f + (q % f + y) / f) × ((q + y) % f ≡ (q % f + y) % f)
beyond q y f one =
    let d : q / f * f + q % f ≡ q = div-add-mod' q f in
    let z : q + y ≡ q / f * f + (q % f + y) = omega (arith, d) in (
      ap (λ (n : ℕ). n / f) z ∙ mul-add-div_right (omega arith) (q / f) (q % f + y),
      ap (λ (n : ℕ). n % f) z ∙ mul-add-mod_self_right (q / f) f (q % f + y),
    )

-- Sector z of clusters one after another.
run_sector : (l : Layout) (k z : ℕ) → 2 ≤ k → cluster_sector l (k + z / l.factor) + z % l.factor ≡ cluster_sector l k + z
unfolding cluster_sector
run_sector l k z low =
    let d : z / l.factor * l.factor + z % l.factor ≡ z = div-add-mod' z l.factor in
    let n : k + z / l.factor - 2 ≡ k - 2 + z / l.factor = omega arith in
    let s : (k - 2 + z / l.factor) * l.factor ≡ (k - 2) * l.factor + z / l.factor * l.factor = add-mul (k - 2) (z / l.factor) l.factor in
    rw (n, s) (omega (arith, d))

-- The sectors of clusters one after another, from number q of the file on, which is in the first of them.
module _ (l : Layout) (sh : Shape l) (e : ℕ → ℕ) (k q n run : ℕ) (inside : Reaches l e k n) (some : 1 ≤ run) (few : run ≤ n + 1) (row : Adjacent e k run) where
  low : 2 ≤ k
  low = rw (links_none e k) at (inside 0 (omega arith)).0

  end : k + run ≤ 2 + l.clusters
  end = let z = (inside (run - 1) (omega arith)).1 in let s = row (run - 1) (omega arith) in omega (arith, z, s)

  bytes_few : run * l.factor ≤ 65524 * 64
  bytes_few =
      let many : run ≤ 65524 = omega (arith, low, end, sh.few) in
      mul-le-mul many sh.factor_high

  run_more : q % l.factor < run * l.factor
  run_more =
      let m : 1 * l.factor ≤ run * l.factor = mul-le-mul_right l.factor some in
      omega (arith, mod-lt q {m = l.factor} sh.factor_low, m)

  run_few : run * l.factor < 8388608
  run_few = omega (arith, bytes_few)

  run_end : cluster_sector l k + q % l.factor + (run * l.factor - q % l.factor) ≤ l.total
  unfolding cluster_sector
  run_end =
      let m : (k - 2 + run) * l.factor ≤ l.clusters * l.factor = mul-le-mul_right l.factor (omega (arith, low, end)) in
      let s : (k - 2 + run) * l.factor ≡ (k - 2) * l.factor + run * l.factor = add-mul (k - 2) run l.factor in
      omega (arith, sh.data_end, m, s, run_more)

  run_adjoins : Adjoining l e k q (run * l.factor - q % l.factor)
  run_adjoins y less =
      let z : ℕ = q % l.factor + y in
      let in-run : z / l.factor < run = (div-lt_iff_lt-mul {k = l.factor} {x = z} {y = run} sh.factor_low).1 (omega (arith, less)) in
      let sum : cluster_sector l k + (q % l.factor + y) ≡ cluster_sector l k + q % l.factor + y = omega arith in
      rw (row (z / l.factor) in-run) (run_sector l k z low ∙ sum)

  pub run_ahead : (q % l.factor < run * l.factor) × (run * l.factor < 8388608)
      × (cluster_sector l k + q % l.factor + (run * l.factor - q % l.factor) ≤ l.total) × Adjoining l e k q (run * l.factor - q % l.factor)
  run_ahead = (run_more, run_few, run_end, run_adjoins)

-- The bytes of sectors one after another, from byte `at` of the file on.
along_row : (l : Layout) → 1 ≤ l.factor → (c : Card) (first k s at m n : ℕ) → k ≡ links (entry (fat1_of l c)) (at / 512 / l.factor) first
    → s ≡ cluster_sector l k + at / 512 % l.factor → Adjoining l (entry (fat1_of l c)) k (at / 512) m → at % 512 + n ≤ 512 * m
    → (i : ℕ) → i < n → bytes_from c s (at % 512 + i) ≡ along l c first (at + i)
unfolding along
along_row l one c first k s at m n e f row h i less =
    let g = entry (fat1_of l c) in
    let y : ℕ = (at % 512 + i) / 512 in
    let z : ℕ = at / 512 % l.factor + y in
    let u : (at + i) / 512 ≡ at / 512 + (at % 512 + i) / 512 = omega arith in
    let v : (at + i) % 512 ≡ (at % 512 + i) % 512 = omega arith in
    let b = beyond (at / 512) y l.factor one in
    let there : links g (at / 512 / l.factor + z / l.factor) first ≡ links g (z / l.factor) k =
    sym (links_add g (at / 512 / l.factor) (z / l.factor) first) ∙ ap (links g (z / l.factor)) (sym e) in
    rw (u, v, b.0, b.1, there, row y (omega (arith, h, less)), f)

-- What is read so far, and the bytes of the sectors that lie one after another from there on.
pub read_more : (l : Layout) → 1 ≤ l.factor → (c : Card) (first k s m offset i count r : ℕ) (e x y : List ℕ)
    → k ≡ links (entry (fat1_of l c)) ((offset + i) / 512 / l.factor) first → s ≡ cluster_sector l k + (offset + i) / 512 % l.factor
    → 1 ≤ m → Adjoining l (entry (fat1_of l c)) k ((offset + i) / 512) m → Read (bytes_from c s) (512 * m) ((offset + i) % 512) i count x y r
    → ((j : ℕ) → get_or x j 0 ≡ overlay i (part (along l c first) offset) 0 (bytes_of e) j)
    → (j : ℕ) → get_or y j 0 ≡ overlay r (part (along l c first) offset) 0 (bytes_of e) j
read_more l one c first k s m offset i count r e x y at is some row got so j =
    let z : i + (r - i) ≡ r = omega (arith, got.reached) in
    let p : Bytes = part (along l c first) offset in
    let b : Bytes = part (bytes_from c s) ((offset + i) % 512) in
    let fits : (offset + i) % 512 + (r - i) ≤ 512 * m = omega (arith, got.reached, some) in
    let here : (n : ℕ) → n < r - i → bytes_from c s ((offset + i) % 512 + n) ≡ part p i n =
    λ n less. along_row l one c first k s (offset + i) m (r - i) at is row fits n less ∙ ap (along l c first) (omega arith) in
    overlay_next p e x y i (r - i) so (λ j. got.bytes j ∙ overlay_same (r - i) b (part p i) i (bytes_of x) here j) j
    ∙ ap (λ n. overlay n p 0 (bytes_of e) j) z

-- All is read, or nothing is to be.
module _ (l : Layout) (c : Card) (f : File) (offset room : ℕ) (e : List ℕ) where
  pub read_all : 1 ≤ l.factor → (x : List ℕ) (count done : ℕ) → count ≡ min room (f.size - offset) → done ≡ count
      → ((j : ℕ) → get_or x j 0 ≡ overlay done (part (along l c f.first) offset) 0 (bytes_of e) j) → Fills (reading l c f offset room) e x count
  unfolding reading
  read_all one x count done is end so = record {
    counted = is;
    bytes = λ j. so j
        ∙ overlay_same done (part (along l c f.first) offset) (part (file_byte l c f) offset) 0 (bytes_of e)
        (λ m less. file_along l one c f (offset + m) (omega arith)) j
        ∙ ap (λ n. overlay n (part (file_byte l c f) offset) 0 (bytes_of e) j) (end ∙ is);
  }

  pub read_none : f.size ≤ offset → Fills (reading l c f offset room) e e 0
  unfolding reading
  read_none h =
      let z : 0 ≡ min room (f.size - offset) = omega arith in
      record {
        counted = z;
        bytes = λ j. sym (overlay_none (part (file_byte l c f) offset) 0 (bytes_of e) j)
            ∙ ap (λ n. overlay n (part (file_byte l c f) offset) 0 (bytes_of e) j) z;
      }

-- What attributes of the code name.
pub ruleset last_laws = (last_none, last_is, link_inside, links_none, needed_some)

pub ruleset within_laws = (links_on, link_inside, links_none, in_needed, div_mono)
