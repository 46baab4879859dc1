-- Replace by its parts: grounds, the stores of the chain, and the steps through the log.
use Prim.Native.Nat.{ℕ, ◌+◌, ◌<◌, ◌≤◌}
use mathlib.Core.Path.{◌≡◌, refl, sym, ap, subst}
use Rattle.std.proofs.Common.{Result, Ok, Err}
use Rattle.model.specs.declared.Stopped.{Stopped}
use mathlib.Core.List.{List, []}
use lib.ListN.{length}
use borrow.Author.Tests.{lt-ltb, le-ltb}
use Rattle.model.specs.Bytes.{Span}
use Rattle.model.specs.Sector.{Card, card_of, Store}
use Rattle.model.specs.Fat.{Fat, entry, fat1_of, fat2_of, free_clusters, write_fat}
use Rattle.model.specs.Chain.{needed, chain, keeps_chain}
use Rattle.model.specs.Ground.{refused, granted, ◌when◌, ◌>>◌}
use Rattle.model.specs.Promises.{Shape, Spent}
use Rattle.model.specs.declared.Area.{Area}
use Rattle.model.specs.declared.Layout.{Layout}
use Rattle.model.specs.declared.File.{File}
use Rattle.model.specs.declared.Volume.{Volume}
use Rattle.model.specs.declared.Ground.{Ground}
use Rattle.model.specs.Record.{plain}
use Rattle.model.specs.Record.{Change}
use Rattle.model.specs.declared.Operation.TheVariants.{Replace}
use Rattle.model.proofs.Cards.{Away}
use Rattle.model.proofs.Needed.{needed_none}
use Rattle.operations.specs.Program.{stores}
use Rattle.operations.specs.Plan.{clusters_of, last_cluster, added, fresh_clusters, operate, replace_along, replace_stores}
use Rattle.operations.specs.Calls.{replace_file}
use Rattle.operations.proofs.Added.{added_empty}
use Rattle.volume.specs.Opened.{Ready}
use Rattle.volume.proofs.Ready.{ready_run, ready_log}
use Rattle.file_read.specs.Files.{Proper}
use Rattle.fat_release.specs.Release.{Inside}
use Rattle.fat_write.specs.Renew.{exchanged}
use Rattle.fat_write.proofs.Kept.{free_kept, chain_kept, exchange_kept}
use Rattle.file_append.specs.Extents.{append_data, Room, first_new}
use Rattle.file_append.proofs.Apart.{append_off_log}
use Rattle.file_append.proofs.Front.{front_kept, data_then}
use Rattle.log_steps.specs.Steps.{log_steps}
use Rattle.log_steps.proofs.Parts.{operate_cut, operate_ran}
use Rattle.call_replace.specs.Replace.{emptied, exchange_stores}

-- ---- the file without its bytes

module _ (l : Layout) (one : 1 ≤ l.factor) (f : File) where
  emptied_clusters : (t : Fat) → clusters_of l t (emptied f) ≡ []
  unfolding clusters_of chain
  emptied_clusters t = ap (λ m. chain (entry t) m 0) (needed_none l one)

  pub emptied_last : (t : Fat) → 0 ≡ last_cluster (clusters_of l t (emptied f))
  emptied_last t = sym (ap (λ (ks : List ℕ). last_cluster ks) (emptied_clusters t))

  pub emptied_added : (n : ℕ) → added l (emptied f) n ≡ needed l n
  emptied_added n = added_empty l one (emptied f) n refl

clusters_chain : (l : Layout) (t : Fat) (f : File) → clusters_of l t f ≡ chain (entry t) (needed l f.size) f.first
unfolding clusters_of
clusters_chain l t f = refl

pub emptied_proper : (l : Layout) (c : Card) (f : File) → Proper l c (emptied f)
unfolding keeps_chain
emptied_proper l c f = refl

-- ---- grounds

module _ (c : Card) (v : Volume) (f : File) (d : Span) (st : ℕ) where
  abbrev free_count : ℕ
  free_count = length (free_clusters v.layout (fat1_of v.layout c))

  pub replace_full : free_count < needed v.layout d.size → replace_file v c f d st ≡ refused Ground.Nospace
  unfolding replace_file ◌when◌ ◌>>◌
  replace_full h = rw (lt-ltb free_count (needed v.layout d.size) h)

  pub replace_granted : needed v.layout d.size ≤ free_count → replace_file v c f d st ≡ granted (replace_stores v c f d st)
  unfolding replace_file ◌when◌ ◌>>◌
  replace_granted h = rw (le-ltb free_count (needed v.layout d.size) h)

-- ---- data and FAT2 under one limit

module _ (l : Layout) (g : File) (d : Span) (old m : ℕ) {limit left : ℕ} {e x : List ℕ} {r : Result Unit Stopped} (sh : Shape l)
    (h : Proper l (card_of e) g) (inside : Inside l (chain (entry (fat1_of l (card_of e))) m old))
    (so : Spent limit left (append_data l (card_of e) g d) e x r) where
  -- What the FAT's part asks of the card that it finds.
  pub still : {n : ℕ} → n ≤ length (free_clusters l (fat1_of l (card_of e)))
      → (n ≤ length (free_clusters l (fat1_of l (card_of x)))) × Inside l (chain (entry (fat1_of l (card_of x))) m old)
  still enough =
      let front = front_kept l g d so sh h in
      (rw (free_kept l sh (card_of e) (card_of x) front) enough, rw (chain_kept l sh (card_of e) (card_of x) front old m inside) inside)

  pub both_ran : {u : Unit} → r ≡ Ok u → (n : ℕ) → {k : ℕ} {y : List ℕ} {q : Result Unit Stopped}
      → Spent left k (write_fat l l.fat2 (exchanged l (fat1_of l (card_of x)) n old m) (fat2_of l (card_of x))) x y q
      → Spent limit k (exchange_stores l (card_of e) g d n old m) e y q
  both_ran f n next =
      data_then l g d so f (λ c. write_fat l l.fat2 (exchanged l (fat1_of l c) n old m) (fat2_of l c))
      (exchange_kept l sh (card_of e) (card_of x) (front_kept l g d so sh h) old m inside n) next

-- ---- the steps through the log

module _ (v : Volume) (xs : List ℕ) (f : File) (d : Span) (st : ℕ) (ready : Ready v xs) (room : Room v.layout (card_of xs) (emptied f) d.size) where
  abbrev c : Card
  c = card_of xs

  abbrev n : ℕ
  n = added v.layout (emptied f) d.size

  abbrev ds : List Store
  ds = append_data v.layout c (emptied f) d

  abbrev new_fat : Fat
  new_fat = exchanged v.layout (fat1_of v.layout c) n f.first (needed v.layout f.size)

  abbrev change : Change
  change = plain (Replace f.entry f.first (first_new v.layout c n) d.size st)

  sh : Shape v.layout
  sh = ready.held.fits.shape

  off_log : (s : ℕ) → s < v.log.sectors → Away ds (v.log.sector + s)
  off_log s = subst (λ (a : Area). s < a.sectors → Away ds (a.sector + s)) (sym (ready_log v xs ready))
      (append_off_log v.layout c (emptied f) d sh room.chain room.enough (ready_run v xs ready) s)

  -- Its data goes along the new clusters alone, as many as its bytes need.
  replace_is : replace_stores v c f d st ≡ operate v c ds new_fat change
  unfolding replace_stores replace_along fresh_clusters
  replace_is =
      rw (emptied_clusters v.layout sh.factor_low f (fat1_of v.layout c), emptied_added v.layout sh.factor_low f d.size)
      (ap (λ (ks : List ℕ). replace_along v c f d st ks (fresh_clusters v c d.size)) whole_chain)
    where
      whole_chain : clusters_of v.layout (fat1_of v.layout c) f ≡ chain (entry (fat1_of v.layout c)) (needed v.layout f.size) f.first
      whole_chain = clusters_chain v.layout (fat1_of v.layout c) f

  module _ {limit left : ℕ} {x : List ℕ} {r : Result Unit Stopped} (count : ℕ) (many : count ≡ n)
      (so : Spent limit left (exchange_stores v.layout c (emptied f) d count f.first (needed v.layout f.size)) xs x r) where
    pub replace_cut : {z : Stopped} → r ≡ Err z → Spent limit left (stores (replace_stores v c f d st)) xs x (Err z)
    replace_cut g = rw replace_is (operate_cut v ds new_fat change sh ready.lies.above off_log g (rw many at so))

    pub replace_ran : {u : Unit} → r ≡ Ok u → (from size : ℕ) → from ≡ first_new v.layout c count → size ≡ d.size
        → {k : ℕ} {y : List ℕ} {q : Result Unit Stopped}
        → Spent left k (log_steps v (plain (Replace f.entry f.first from size st)) (card_of x)) x y q
        → Spent limit k (stores (replace_stores v c f d st)) xs y q
    replace_ran g from size first total next =
        rw replace_is (operate_ran v ds new_fat change sh ready.lies.above off_log g (rw many at so) (rw (first, many, total) at next))
